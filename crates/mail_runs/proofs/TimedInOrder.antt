-- Deeds with times of threads that go on in order, merged by time, are an orderly history.
use Rattle.std.proofs.Common.{◌≡◌, ℕ, zero, suc, ◌+◌, ◌<◌, ◌≤◌, ◌==◌, List, [], ◌∷◌, ◌++◌, length, map, ap, sym, ◌∙◌, subst, append_assoc, arith, refl}
use Rattle.std.proofs.Common.{length-append}
use Rattle.std.specs.List.{AllByRecursion}
use Rattle.std.proofs.lemmas.List.{map-append, length-map}
use Rattle.mail_world.specs.declared.Note.{Note}
use Rattle.mail_runs.specs.Deeds.{Deed, Gave, Took, given_to, taken_by}
use Rattle.mail_runs.specs.Courses.{Server}
use Rattle.mail_runs.specs.Histories.{Threads}
use Rattle.mail_runs.specs.Timed.{TimedDeed, Passed, Timed, whats, those, is_of_lane, gives_to, takes_from, accepted_by, taken_of}
use Rattle.mail_runs.specs.Ordered.{AreExchanges, FindsRoom, IsOrderlyHistory, MakesRoom, AreTimedInOrder}
use Rattle.mail_runs.proofs.Parts.{passes, same_number}
use Rattle.mail_runs.proofs.Frames.{given_to-append, taken_by-append}
use Rattle.mail_runs.proofs.ByTime.{ats}
use Rattle.mail_runs.proofs.Parted.{at, TimedCut, cut_at, Parted}
use Rattle.mail_runs.proofs.Timed.{whats_those, gifts, takings, all, of_lane, copies_parted, history}

-- what was accepted by a time is no more than the capacity and what was taken by then
no_fuller : (capacity time : ℕ) (gb ga kb ka : List ℕ) → MakesRoom capacity (gb ++ ga) (kb ++ ka)
    → AllByRecursion (λ a. a ≤ time) gb → AllByRecursion (λ t. time ≤ t) ka → length gb ≤ capacity + length kb
no_fuller capacity time [] ga kb ka room by from = omega arith
no_fuller (suc capacity) time (g ∷ gb) ga kb ka room by from =
    let h : length gb ≤ capacity + length kb = no_fuller capacity time gb ga kb ka room by.1 from in omega arith
no_fuller zero time (g ∷ gb) ga (k ∷ kb) ka room by from =
    let h : length gb ≤ 0 + length kb = no_fuller zero time gb ga kb ka room.1 by.1 from in omega arith
no_fuller zero time (g ∷ gb) ga [] [] room by from = absurd room
no_fuller zero time (g ∷ gb) ga [] (k ∷ ka) room by from =
    let a : k < g = room.0 in
    let b : g ≤ time = by.0 in
    let c : time ≤ k = from.0 in
    absurd (omega arith)

-- the times of what passed a channel, and of deeds on which there is a bound
pub times_accepted : {A : Type 0} (give : A → Deed) (ps : List (Passed A)) → ats at (accepted_by give ps) ≡ map (λ p. p.accepted) ps
times_accepted give [] = refl
times_accepted give (p ∷ ps) = ap (λ l. p.accepted ∷ l) (times_accepted give ps)

pub times_taken : {A : Type 0} (take : A → Deed) (ps : List (Passed A)) → ats at (taken_of take ps) ≡ map (λ p. p.taken) ps
times_taken take [] = refl
times_taken take (p ∷ ps) = ap (λ l. p.taken ∷ l) (times_taken take ps)

all_times : (P : ℕ → Type 0) (ds : List TimedDeed) → AllByRecursion (λ (d : TimedDeed). P d.at) ds → AllByRecursion P (ats at ds)
all_times P [] h = tt
all_times P (d ∷ ds) h = (h.0, all_times P ds h.1)

-- a channel that makes room for what it accepts has no more than its capacity, wherever the deeds are cut
never_fuller : (capacity b : ℕ) (ps : List (Passed Note)) (first last : List TimedDeed) → Parted Gave Took (gives_to b) (takes_from b) ps first last
    → MakesRoom capacity (map (λ p. p.accepted) ps) (map (λ p. p.taken) ps)
    → length (those (gives_to b) first) ≤ capacity + length (those (takes_from b) first)
never_fuller capacity b ps first last p room =
    let gb : List TimedDeed = those (gives_to b) first in
    let ga : List TimedDeed = those (gives_to b) last in
    let kb : List TimedDeed = those (takes_from b) first in
    let ka : List TimedDeed = those (takes_from b) last in
    let given : map (λ p. p.accepted) ps ≡ ats at gb ++ ats at ga = sym (times_accepted Gave ps) ∙ ap (ats at) p.given ∙ map-append at gb ga in
    let taken : map (λ p. p.taken) ps ≡ ats at kb ++ ats at ka = sym (times_taken Took ps) ∙ ap (ats at) p.taken ∙ map-append at kb ka in
    let makes : MakesRoom capacity (ats at gb ++ ats at ga) (ats at kb ++ ats at ka) =
    subst (λ l. MakesRoom capacity (ats at gb ++ ats at ga) l) taken (subst (λ l. MakesRoom capacity l (map (λ p. p.taken) ps)) given room) in
    let few : length (ats at gb) ≤ capacity + length (ats at kb) = no_fuller capacity p.time (ats at gb) (ats at ga) (ats at kb) (ats at ka) makes
    (all_times (λ a. a ≤ p.time) gb (p.by_then (gives_to b))) (all_times (λ t. p.time ≤ t) ka (p.from_then (takes_from b))) in
    let m : length (ats at gb) ≡ length gb = length-map gb at in
    let n : length (ats at kb) ≡ length kb = length-map kb at in
    omega arith

module _ (room capacity : ℕ) (s : Server) (t : Threads) (x : Timed) (h : AreTimedInOrder room capacity s t x) where
  has_room : (b : ℕ) → b < s.boxes → FindsRoom capacity b 0 (whats (all s t x h.timed))
  has_room b low before after note whole to =
      let ds : List TimedDeed = all s t x h.timed in
      let more : List Deed = before ++ Gave note ∷ [] in
      let c : TimedCut ds more after = cut_at ds more after (whole ∙ sym (append_assoc before (Gave note ∷ []) after)) in
      let few : length (those (gives_to b) c.first) ≤ capacity + length (those (takes_from b) c.first) =
      never_fuller capacity b (x.copies b) c.first c.last (copies_parted s t x h.timed b low c.first c.last c.both) (h.makes_room b low) in
      let took : length (taken_by b more) ≡ length (those (takes_from b) c.first) = sym (ap (λ l. length (taken_by b l)) c.first_are)
      ∙ (takings b).many_are c.first in
      let gave : length (given_to b more) ≡ length (those (gives_to b) c.first) = sym (ap (λ l. length (given_to b l)) c.first_are)
      ∙ (gifts b).many_are c.first in
      let none : length (taken_by b more) ≡ length (taken_by b before) + 0 = ap length (taken_by-append b before (Gave note ∷ []))
      ∙ length-append (taken_by b before) [] in
      let this : given_to b (Gave note ∷ []) ≡ note ∷ [] = passes (λ (n : Note). n.mailbox == b) note [] (same_number note.mailbox b to) in
      let one : length (given_to b more) ≡ length (given_to b before) + 1 = ap length (given_to-append b before (Gave note ∷ []))
      ∙ ap (λ l. length (given_to b before ++ l)) this ∙ length-append (given_to b before) (note ∷ []) in
      omega arith

  pub by_times_in_order : (deeds : List Deed) × IsOrderlyHistory room capacity s t deeds
  by_times_in_order = (
    whats (all s t x h.timed),
    record {
      history = history s t x h.timed;
      exchanges = λ k low. subst (AreExchanges room k (t.transactions k))
          (sym (whats_those (is_of_lane k) (all s t x h.timed) ∙ ap whats (of_lane s t x h.timed k low))) (h.exchanges k low);
      finds_room = has_room;
    },
  )
