-- A mailbox that nobody else changes, with no turn missed and none broken, has the records of the kept.
use Rattle.std.proofs.Common.{◌≡◌, ◌≢◌, ◌⊎◌, ℕ, zero, suc, ◌+◌, ◌≤◌, List, [], ◌∷◌, ◌++◌, length, take, Bool, true, false, Option}
use Rattle.std.proofs.Common.{inl, inr, refl, ap, sym, ◌∙◌, subst, append_assoc, append-nil, arith, length-append}
use Rattle.std.specs.Prelude.{flat_map, if◌then◌else◌}
use Rattle.std.proofs.Math.Seq.{take-length}
use Rattle.mail_world.specs.declared.Note.{Note}
use Rattle.mail_world.specs.declared.Outcome.{Outcome}
use Rattle.mail_world.specs.declared.Outcome.TheVariants.{Stored, Failed, NoRoom, TooLarge, Malformed, OverQuota}
use Rattle.mail_world.specs.Records.{Calendar, record_of, mailbox}
use Rattle.mail_world.specs.Endings.{mended}
use Rattle.mail_world.specs.Site.{Site}
use Rattle.mail_world.specs.Quotas.{are_kept_after, are_kept, marked, kept}
use Rattle.mail_world.specs.Turns.{Told, Turn, NotHad, Had, addition, has_room, IsTurn, HaveTurns, left_after, left_by, BeginsAt, AreAlone, NoneFailed}
use Rattle.mail_world.specs.House.{Post, House, notes_of, IsStart}
use Rattle.mail_world.specs.Runs.{Happened, Run, last_house, StandsIn, HaveTheirTurns, HasRecords, HasAllRecords, open_in_hand}
use Rattle.mail_world.proofs.MendedRecords.{mended_record}
use Rattle.mail_world.proofs.Spools.{every_run_has_turns}

mailbox_whole : (calendar : Calendar) (site : Site) (b : List ℕ) (notes : List Note) → mended b ≡ []
    → mailbox calendar site b notes ≡ b ++ flat_map (record_of calendar site) notes
mailbox_whole calendar site b [] e = sym (append-nil b)
mailbox_whole calendar site b (note ∷ notes) e =
    ap (λ l. (b ++ l) ++ flat_map (record_of calendar site) (note ∷ notes)) e
    ∙ ap (λ l. l ++ flat_map (record_of calendar site) (note ∷ notes)) (append-nil b)

abbrev kept_from : Calendar → Site → Option ℕ → List ℕ → List Note → List Note
kept_from calendar site quota bytes notes = marked (are_kept_after calendar site quota (length (bytes ++ mended bytes)) notes) notes

-- what a turn that wasn't missed and didn't break does
abbrev DoesOne : Calendar → Site → Option ℕ → Note → List ℕ → Turn → Type 0
DoesOne calendar site quota note bytes turn =
    ((has_room calendar site quota note bytes ≡ false) × (left_after bytes turn ≡ bytes))
    ⊎ ((has_room calendar site quota note bytes ≡ true) × (left_after bytes turn ≡ bytes ++ addition calendar site note bytes))

does_one : (calendar : Calendar) (site : Site) (quota : Option ℕ) (note : Note) (bytes : List ℕ) (outcome : Outcome) (turn : Turn)
    → IsTurn calendar site quota note outcome turn → BeginsAt bytes turn → outcome ≢ Failed → DoesOne calendar site quota note bytes turn
does_one calendar site quota note bytes Stored NotHad is at ok = absurd is
does_one calendar site quota note bytes OverQuota NotHad is at ok = absurd is
does_one calendar site quota note bytes NoRoom NotHad is at ok = absurd is
does_one calendar site quota note bytes TooLarge NotHad is at ok = absurd is
does_one calendar site quota note bytes Malformed NotHad is at ok = absurd is
does_one calendar site quota note bytes Failed NotHad is at ok = absurd (ok refl)
does_one calendar site quota note bytes NoRoom (Had lock unlock) is at ok = absurd is
does_one calendar site quota note bytes TooLarge (Had lock unlock) is at ok = absurd is
does_one calendar site quota note bytes Malformed (Had lock unlock) is at ok = absurd is
does_one calendar site quota note bytes Failed (Had lock unlock) is at ok = absurd (ok refl)
does_one calendar site quota note bytes Stored (Had lock unlock) is at ok = inr (
  ap (has_room calendar site quota note) (sym at) ∙ is.room,
  is.whole ∙ ap (λ b. b ++ addition calendar site note b) at,
)
does_one calendar site quota note bytes OverQuota (Had lock unlock) is at ok = inl (
  ap (has_room calendar site quota note) (sym at) ∙ is.room,
  is.same ∙ at,
)

-- what is kept of a note and of those after it
abbrev with_mark : Calendar → Site → Option ℕ → List ℕ → Note → List Note → Bool → List ℕ
with_mark calendar site quota bytes note notes t =
    let len : ℕ = length (bytes ++ mended bytes) in
    let size : ℕ = length (record_of calendar site note) in
    mailbox calendar site bytes (marked (t ∷ are_kept_after calendar site quota (if t then len + size else len) notes) (note ∷ notes))

stored_one : (calendar : Calendar) (site : Site) (quota : Option ℕ) (bytes : List ℕ) (note : Note) (notes : List Note)
    → let after : List ℕ = bytes ++ addition calendar site note bytes in
    mailbox calendar site after (kept_from calendar site quota after notes) ≡ with_mark calendar site quota bytes note notes true
stored_one calendar site quota bytes note notes =
    let text : List ℕ = record_of calendar site note in
    let closed : List ℕ = bytes ++ mended bytes in
    let after : List ℕ = bytes ++ addition calendar site note bytes in
    let is : after ≡ closed ++ text = sym (append_assoc bytes (mended bytes) text) in
    let whole : mended after ≡ [] = ap mended is ∙ mended_record calendar site note closed in
    let len : length (after ++ mended after) ≡ length closed + length text =
    ap (λ l. length (after ++ l)) whole ∙ ap length (append-nil after) ∙ ap length is ∙ length-append closed text in
    let rest : List Note = marked (are_kept_after calendar site quota (length closed + length text) notes) notes in
    ap (λ n. mailbox calendar site after (marked (are_kept_after calendar site quota n notes) notes)) len
    ∙ mailbox_whole calendar site after rest whole
    ∙ ap (λ l. l ++ flat_map (record_of calendar site) rest) is
    ∙ append_assoc closed text (flat_map (record_of calendar site) rest)

pub alone : (calendar : Calendar) (site : Site) (quota : Option ℕ) (bytes : List ℕ) (notes : List Note) (turns : List Told)
    → HaveTurns calendar site quota notes turns → AreAlone bytes turns → NoneFailed turns
    → left_by bytes turns ≡ mailbox calendar site bytes (kept_from calendar site quota bytes notes)
alone calendar site quota bytes [] [] have by ok = refl
alone calendar site quota bytes [] (told ∷ turns) have by ok = absurd have
alone calendar site quota bytes (note ∷ notes) [] have by ok = absurd have
alone calendar site quota bytes (note ∷ notes) (told ∷ turns) have by ok =
    let more = alone calendar site quota (left_after bytes told.turn) notes turns have.1 by.1 ok.1 in
    let then' : List ℕ → List ℕ = λ b. mailbox calendar site b (kept_from calendar site quota b notes) in
    elim (does_one calendar site quota note bytes told.outcome told.turn have.0 by.0 ok.0) [
      | inl full ↦ more ∙ ap then' full.1 ∙ ap (with_mark calendar site quota bytes note notes) (sym full.0)
      | inr stored ↦ more ∙ ap then' stored.1 ∙ stored_one calendar site quota bytes note notes
          ∙ ap (with_mark calendar site quota bytes note notes) (sym stored.0)
    ]

-- the first turns alone
first_turns : (calendar : Calendar) (site : Site) (quota : Option ℕ) (notes : List Note) (first later : List Told)
    → HaveTurns calendar site quota notes (first ++ later) → HaveTurns calendar site quota (take (length first) notes) first
first_turns calendar site quota notes [] later have = tt
first_turns calendar site quota [] (told ∷ first) later have = absurd have
first_turns calendar site quota (note ∷ notes) (told ∷ first) later have = (have.0, first_turns calendar site quota notes first later have.1)

-- what the first turns left is the records of the kept among their copies
pub first_turns_leave : (calendar : Calendar) (site : Site) (quota : Option ℕ) (old : List ℕ) (notes : List Note) (first later : List Told)
    → HaveTurns calendar site quota notes (first ++ later) → AreAlone old first → NoneFailed first
    → left_by old first ≡ mailbox calendar site old (kept calendar site quota old (take (length first) notes))
unfolding are_kept
first_turns_leave calendar site quota old notes first later have by ok =
    alone calendar site quota old (take (length first) notes) first (first_turns calendar site quota notes first later have) by ok

records : (h : House) → HaveTheirTurns h → HasRecords h
records h all b box first later is e by ok =
    let s = all b box is in
    let posts : List Post = take (length box.turns) box.accepted in
    let have : HaveTurns h.calendar h.site box.quota (notes_of posts) (first ++ later) =
    subst (λ ts. HaveTurns h.calendar h.site box.quota (notes_of posts) ts) e s.turns in
    let few : length first ≤ length box.turns = (let n = ap length e in omega (arith, length-append first later)) in
    let notes : take (length first) (notes_of posts) ≡ notes_of (take (length first) box.accepted) =
    take-notes (length first) posts ∙ ap notes_of (take_less (length first) (length box.turns) box.accepted few) in
    first_turns_leave h.calendar h.site box.quota box.old (notes_of posts) first later have by ok
    ∙ ap (λ ns. mailbox h.calendar h.site box.old (kept h.calendar h.site box.quota box.old ns)) notes
  where
    take-notes : (n : ℕ) (posts : List Post) → take n (notes_of posts) ≡ notes_of (take n posts)
    take-notes zero posts = refl
    take-notes (suc n) [] = refl
    take-notes (suc n) (p ∷ posts) = ap (λ l. p.note ∷ l) (take-notes n posts)

    take_less : (n m : ℕ) (posts : List Post) → n ≤ m → take n (take m posts) ≡ take n posts
    take_less zero m posts h = refl
    take_less (suc n) zero posts h = absurd (omega arith)
    take_less (suc n) (suc m) [] h = refl
    take_less (suc n) (suc m) (p ∷ posts) h = ap (λ l. p ∷ l) (take_less n m posts (omega arith))

pub every_run_stores : (blocks : ℕ) (start : House) (run : List Happened) → IsStart blocks start → Run start run → HasRecords (last_house start run)
every_run_stores blocks start run is r = records (last_house start run) (every_run_has_turns blocks start run is r)

pub every_run_drains : (blocks : ℕ) (start : House) (run : List Happened) → IsStart blocks start → Run start run → HasAllRecords (last_house start run)
every_run_drains blocks start run is r b box at by ok closed all none =
    let h = last_house start run in
    let s = every_run_has_turns blocks start run is r b box at in
    let len : length box.turns ≡ length box.accepted =
    (let t : length box.turns + 0 ≡ box.taken = ap (λ n. length box.turns + n) (sym (ap open_in_hand none)) ∙ s.taken in omega arith) in
    subst (StandsIn h.calendar h.site box.quota box) none s.stands
    ∙ every_run_stores blocks start run is r b box box.turns [] at (sym (append-nil box.turns)) by ok
    ∙ ap (λ n. mailbox h.calendar h.site box.old (kept h.calendar h.site box.quota box.old (notes_of (take n box.accepted)))) len
    ∙ ap (λ l. mailbox h.calendar h.site box.old (kept h.calendar h.site box.quota box.old (notes_of l))) (take-length box.accepted)
