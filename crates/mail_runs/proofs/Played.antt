-- Deed by deed from the start to the end.
use Rattle.std.proofs.Common.{◌≡◌, ℕ, suc, ◌+◌, ◌≤◌, ◌==◌, List, [], ◌∷◌, length, true, false, refl, ap, ◌∙◌, arith, length-append}
use Rattle.std.specs.Prelude.{flat_map, count_by}
use Rattle.std.proofs.lemmas.List.Sums.{length-filter, count_by-le-length}
use Rattle.mail_runs.specs.Deeds.{Deed, Gave, Took, Told, Heard, given_in, given_to}
use Rattle.mail_runs.specs.Courses.{Server}
use Rattle.mail_runs.specs.Histories.{Threads}
use Rattle.mail_runs.specs.RunOf.{AHistoryGivesARun}
use Rattle.mail_runs.specs.Ordered.{FindsRoom, AnOrderlyHistoryGivesAnOrderlyRun}
use Rattle.mail_runs.proofs.Manners.{Manner}
use Rattle.mail_runs.proofs.Next.{Next}
use Rattle.mail_runs.proofs.Offers.{gives}
use Rattle.mail_runs.proofs.Takes.{takes}
use Rattle.mail_runs.proofs.Tells.{tells}
use Rattle.mail_runs.proofs.Hears.{hears}
use Rattle.mail_runs.proofs.Starts.{IsPlayed, begins}
use Rattle.mail_runs.proofs.Closes.{AllHaveEnded, ends}

play : {m : Manner} (s : Server) (t : Threads) (d : Deed) (rest : List Deed) → Next m s t (d ∷ rest) → Next m s t rest
play s t (Gave note) rest next = gives s t note rest next.house next.stands next.story
play s t (Took note) rest next = takes s t note rest next.house next.stands next.story
play s t (Told slip) rest next = tells s t slip rest next.house next.stands next.story
play s t (Heard slip) rest next = hears s t slip rest next.house next.stands next.story

played : {m : Manner} (s : Server) (t : Threads) (deeds : List Deed) → Next m s t deeds → Next m s t []
played s t [] next = next
played s t (d ∷ rest) next = played s t rest (play s t d rest next)

all_played : (m : Manner) (s : Server) (t : Threads) (deeds : List Deed) → IsPlayed m s t deeds → AllHaveEnded m s t
all_played m s t deeds p = ends s t (played s t deeds (begins m s t deeds p))

-- a channel with a place for each deed has room
given_few : (deeds : List Deed) → length (flat_map given_in deeds) ≤ length deeds
given_few [] = omega arith
given_few (Gave note ∷ deeds) = let few = given_few deeds in omega arith
given_few (Took note ∷ deeds) = let few = given_few deeds in omega arith
given_few (Told slip ∷ deeds) = let few = given_few deeds in omega arith
given_few (Heard slip ∷ deeds) = let few = given_few deeds in omega arith

room_for_all : (b : ℕ) (deeds : List Deed) → FindsRoom (suc (length deeds)) b 0 deeds
room_for_all b deeds before after note whole to =
    let few : length (flat_map given_in before) ≤ length before = given_few before in
    let to_it : length (given_to b before) ≡ count_by (λ note. note.mailbox == b) (flat_map given_in before) = length-filter _ (flat_map given_in before) in
    let among : count_by (λ note. note.mailbox == b) (flat_map given_in before) ≤ length (flat_map given_in before) =
    count_by-le-length _ (flat_map given_in before) in
    let all : length deeds ≡ length before + length (Gave note ∷ after) = ap length whole ∙ length-append before (Gave note ∷ after) in
    omega arith

-- nothing is owed where no order is known, and the channels are as large as need be
pub a_history_plays : AHistoryGivesARun
a_history_plays s t deeds h =
    let m : Manner = record { in_order = false; room = 0; capacity = suc (length deeds) } in
    (all_played m s t deeds (record { history = h; finds_room = λ b low. room_for_all b deeds; exchanges = λ o. cc })).is

pub an_orderly_history_plays : AnOrderlyHistoryGivesAnOrderlyRun
an_orderly_history_plays room capacity s t deeds h =
    let m : Manner = record { in_order = true; room = room; capacity = capacity } in
    let ended = all_played m s t deeds (record { history = h.history; finds_room = h.finds_room; exchanges = λ o. h.exchanges }) in
    record { is = ended.is; capacity_is = ended.capacity_is; orderly = ended.orderly refl }
