-- What a lane's clients were told of copies: each slip that the lane heard is the answer of its place.
use Rattle.std.proofs.Common.{◌≡◌, ℕ, ◌+◌, ◌≤◌, Bool, true, false, cond, ◌==◌, List, [], ◌∷◌, ◌++◌, length, map, Option}
use Rattle.std.proofs.Common.{Some, refl, sym, ap, ◌∙◌, arith, eq-eqb}
use Rattle.std.specs.Prelude.{filter, flat_map, find, option_map}
use Rattle.std.specs.List.{AllByRecursion, range_with_len}
use Rattle.std.proofs.lemmas.List.{map-append}
use Rattle.std.proofs.lemmas.List.Elements.{filter-append}
use Rattle.mail_world.specs.declared.Txn.{Txn}
use Rattle.mail_world.specs.declared.Note.{Note}
use Rattle.mail_world.specs.declared.Slip.{Slip}
use Rattle.mail_world.specs.declared.Outcome.{Outcome}
use Rattle.mail_world.specs.declared.Verdict.{Verdict}
use Rattle.mail_world.specs.declared.Verdict.TheVariants as verdicts
use Rattle.mail_world.specs.Deliveries.{outcomes_for, told_if, told_of, told_all}
use Rattle.mail_world.specs.Lists.{Transaction, copies, copies_if, copies_from, copies_owed, OutcomesIn}
use Rattle.mail_world.specs.Slips.{names, answer, times_named, txn_of}
use Rattle.mail_world.proofs.Deliveries.{copy_at}
use Rattle.mail_world.proofs.GivenAway.{count-cons}
use Rattle.mail_world.proofs.Heard.{weaken}
use Rattle.lmtp_house.proofs.AnsweredAll.{found_counts}

abbrev pub IsAnswer : List Slip → Slip → Type 0
IsAnswer heard slip = answer slip.txn heard slip.place ≡ Some slip.outcome

first_answers : (slip : Slip) (heard : List Slip) → IsAnswer (slip ∷ heard) slip
first_answers slip heard =
    let lane : (slip.txn.lane == slip.txn.lane) ≡ true = eq-eqb slip.txn.lane slip.txn.lane refl in
    let number : (slip.txn.number == slip.txn.number) ≡ true = eq-eqb slip.txn.number slip.txn.number refl in
    let place : (slip.place == slip.place) ≡ true = eq-eqb slip.place slip.place refl in
    rw (lane, number, place) refl

still_by : (first slip : Slip) (heard : List Slip) (t : Bool) → cond t 1 0 + times_named slip.txn slip.place heard ≤ 1
    → IsAnswer heard slip
    → option_map (λ s. s.outcome) (cond t (Some first) (find (names slip.txn slip.place) heard)) ≡ Some slip.outcome
still_by first slip heard true once is =
    absurd (omega (arith, once, found_counts (names slip.txn slip.place) heard slip.outcome is))
still_by first slip heard false once is = is

pub each_answers : (heard : List Slip) → ((txn : Txn) (place : ℕ) → times_named txn place heard ≤ 1)
    → AllByRecursion (IsAnswer heard) heard
each_answers [] once = tt
each_answers (first ∷ heard) once = (
  first_answers first heard,
  weaken (IsAnswer heard) (IsAnswer (first ∷ heard))
      (λ slip is. still_by first slip heard (names slip.txn slip.place first)
      (omega (arith, once slip.txn slip.place, count-cons (names slip.txn slip.place) first heard)) is) heard
      (each_answers heard (λ txn place. omega (arith, once txn place, count-cons (names txn place) first heard))),
)

module _ (heard : List Slip) where
  -- what was heard of a copy
  abbrev pub answer_of : Note → Option Outcome
  answer_of note = answer note.txn heard note.place

  abbrev pub AreAnswers : List Outcome → List Note → Type 0
  AreAnswers outcomes notes = map (λ o. Some o) outcomes ≡ map answer_of notes

  place_by : (t : Bool) (note : Note) (outcome : Outcome) (notes : List Note) (outcomes : List Outcome)
      → Some outcome ≡ answer_of note → AreAnswers outcomes notes
      → AreAnswers (cond t (outcome ∷ outcomes) outcomes) (cond t (note ∷ notes) notes)
  place_by true note outcome notes outcomes e h =
      ap (λ (o : Option Outcome). o ∷ map (λ o. Some o) outcomes) e
      ∙ ap (λ (l : List (Option Outcome)). answer_of note ∷ l) h
  place_by false note outcome notes outcomes e h = h

  by_places : (k b : ℕ) (t : Transaction) (boxes : List ℕ) (place : ℕ) (outcomes : List Outcome)
      → map (λ o. Some o) outcomes ≡ map (answer (txn_of k t.number) heard) (range_with_len place (length boxes))
      → AreAnswers (outcomes_for b boxes outcomes) (filter (λ note. note.mailbox == b) (copies_from k t place boxes))
  by_places k b t [] place [] e = refl
  by_places k b t [] place (o ∷ outcomes) e = cc
  by_places k b t (box ∷ boxes) place [] e = cc
  by_places k b t (box ∷ boxes) place (o ∷ outcomes) e =
      let first : Some o ≡ answer (txn_of k t.number) heard place = cc in
      let rest : map (λ (x : Outcome). Some x) outcomes
      ≡ map (answer (txn_of k t.number) heard) (range_with_len (place + 1) (length boxes)) = cc in
      let more : List Note = filter (λ note. note.mailbox == b) (copies_from k t (place + 1) boxes) in
      place_by (box == b) (copy_at k t place box) o more (outcomes_for b boxes outcomes) first
      (by_places k b t boxes (place + 1) outcomes rest)

  by_verdict : (k b : ℕ) (t : Transaction) (v : Verdict) → OutcomesIn k heard t v
      → AreAnswers (told_if b t v) (filter (λ note. note.mailbox == b) (copies_if k t v))
  by_verdict k b t verdicts.Whole e = by_places k b t t.session.recipients 0 t.disposition.outcomes e
  by_verdict k b t verdicts.TooLarge e = refl
  by_verdict k b t verdicts.Malformed e = refl
  by_verdict k b t verdicts.NoRoom e = refl

  pub by_transactions : (k b : ℕ) (ts : List Transaction)
      → AllByRecursion (λ t. OutcomesIn k heard t t.disposition.verdict) ts
      → AreAnswers (told_all b ts) (copies_owed k b ts)
  by_transactions k b [] h = refl
  by_transactions k b (t ∷ ts) h =
      let owed : List Note = filter (λ note. note.mailbox == b) (copies k t) in
      map-append (λ (o : Outcome). Some o) (told_of b t) (told_all b ts)
      ∙ ap (λ (l : List (Option Outcome)). l ++ map (λ o. Some o) (told_all b ts))
      (by_verdict k b t t.disposition.verdict h.0)
      ∙ ap (λ (l : List (Option Outcome)). map answer_of owed ++ l) (by_transactions k b ts h.1)
      ∙ sym (map-append answer_of owed (copies_owed k b ts))
      ∙ ap (map answer_of) (sym (filter-append (λ (n : Note). n.mailbox == b) (copies k t) (flat_map (copies k) ts)))
