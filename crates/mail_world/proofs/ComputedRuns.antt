-- Two runs: a turn breaks and isn't cut back, and the next one mends it; of five copies one fits within the quota.
use Rattle.std.proofs.Common.{ℕ, ◌+◌, List, [], ◌∷◌, ◌++◌, length, take, Some, None, refl}
use Rattle.std.specs.Prelude.{codes, replicate}
use Rattle.mail_world.specs.declared.Note.{Note}
use Rattle.mail_world.specs.declared.Outcome.TheVariants.{Stored, Failed, OverQuota}
use Rattle.mail_world.specs.Records.{record_of, mailbox}
use Rattle.mail_world.specs.Endings.{mended}
use Rattle.mail_world.specs.Turns.{addition}
use Rattle.mail_world.specs.House.{House}
use Rattle.mail_world.specs.Runs.{Happened, Run, last_house, HasSpoolAndPlaces, HasDrained}
use Rattle.mail_world.specs.Rows.{calendar, site}
use Rattle.mail_world.proofs.OneHouse.{start}
use Rattle.mail_world.proofs.Moves.{Move, moved, note_of, begins, puts, seals, splits, offers, hands_back, collects}
use Rattle.mail_world.proofs.Moves.{takes, locks, misses, writes, syncs, cuts}
use Rattle.mail_world.proofs.Moves.{computed, unlocks, releases, gives_slip, reclaims, closes}

abbrev pub bytes : List ℕ
bytes = codes "a\r\n"

-- the message's copy for the place, and its record
abbrev pub note : ℕ → Note
note place =
    note_of (record { number = 1; key = record { slot = 0; generation = 0 }; message = bytes; offered = place })

abbrev pub text : ℕ → List ℕ
text place = record_of calendar site (note place)

abbrev pub part : List ℕ
part = take 5 (text 0)

-- the lane seals a message for one copy and more; the worker ends with one
abbrev pub with_message : ℕ → List Move
with_message more = begins ∷ puts bytes ∷ seals (more + 1) ∷ replicate more splits

abbrev pub ends : List Move
ends = unlocks ∷ releases ∷ gives_slip ∷ []

abbrev heals : List Move
heals = with_message 1 ++ offers ∷ offers ∷ takes ∷ locks [] ∷ writes 5 ∷ ends
    ++ takes ∷ locks part ∷ writes (length (addition calendar site (note 1) part)) ∷ syncs ∷ ends
    ++ reclaims ∷ collects ∷ collects ∷ closes ∷ []

abbrev refuses : List Move
refuses = with_message 4 ++ offers ∷ offers ∷ offers ∷ offers ∷ closes ∷ hands_back ∷ takes ∷ locks [] ∷ writes 5 ∷ cuts
    ∷ ends ++ takes ∷ locks [] ∷ writes (length (text 1)) ∷ syncs ∷ ends ++ takes ∷ locks (text 1) ∷ ends
    ++ takes ∷ misses ∷ releases ∷ gives_slip ∷ reclaims ∷ collects ∷ collects ∷ collects ∷ collects ∷ []

abbrev pub healing_start : House
healing_start = start 2 None

unfoldable pub healing : (run : List Happened) × Run healing_start run
unfolding computed
healing = moved healing_start heals

pub it_heals : let h = last_house healing_start healing.0 in
    HasSpoolAndPlaces h (part ++ mended part ++ text 1) (Some Failed ∷ Some Stored ∷ []) × HasDrained h
unfolding computed healing
it_heals = (
  record { box = _; box_is = refl; spool_is = refl; lane = _; lane_is = refl; places_are = refl },
  record { box = _; box_is = refl; closed = refl; all = refl; free_hand = refl },
)

abbrev pub refusing_start : House
refusing_start = start 4 (Some (length (text 1)))

unfoldable pub refusing : (run : List Happened) × Run refusing_start run
unfolding computed
refusing = moved refusing_start refuses

pub it_refuses : let h = last_house refusing_start refusing.0 in
    HasSpoolAndPlaces h (mailbox calendar site [] (note 1 ∷ []))
    (Some Failed ∷ Some Stored ∷ Some OverQuota ∷ Some Failed ∷ Some Failed ∷ []) × HasDrained h
unfolding computed refusing
it_refuses = (
  record { box = _; box_is = refl; spool_is = refl; lane = _; lane_is = refl; places_are = refl },
  record { box = _; box_is = refl; closed = refl; all = refl; free_hand = refl },
)
