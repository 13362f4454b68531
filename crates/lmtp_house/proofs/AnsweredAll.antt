-- The outcomes of a lane's transactions are those of all the slips that it heard.
use Rattle.std.proofs.Common.{◌≡◌, ℕ, zero, suc, ◌+◌, ◌≤◌, List, [], ◌∷◌, ◌++◌, length, map, Bool, true, false, cond, Option, Some, None, sym, ◌∙◌, ap, subst}
use Rattle.std.proofs.Common.{arith}
use Rattle.std.specs.Prelude.{find, option_map, count_by}
use Rattle.std.specs.List.{AllByRecursion, range_with_len}
use Rattle.mail_world.specs.declared.Txn.{Txn}
use Rattle.mail_world.specs.declared.Slip.{Slip}
use Rattle.mail_world.specs.declared.Outcome.{Outcome}
use Rattle.mail_world.specs.declared.Verdict.{Verdict}
use Rattle.mail_world.specs.declared.Verdict.TheVariants.{Whole, TooLarge, Malformed, NoRoom}
use Rattle.mail_world.specs.Conversation.{Conversation}
use Rattle.mail_world.specs.Lists.{Transaction, OutcomesIn, transactions, OutcomesAreAnswers}
use Rattle.mail_world.specs.Site.{Site}
use Rattle.mail_world.specs.Slips.{names, answer, times_named}
use Rattle.mail_world.proofs.GivenAway.{count-cons}
use Rattle.lmtp_lane.specs.LaneAccount.{IsAnswered}

-- the outcome of the slip that was found
abbrev outcome_found : (Slip → Bool) → List Slip → Option Outcome
outcome_found p xs = option_map (λ s. s.outcome) (find p xs)

-- a slip that was found is counted
counted_by : (p : Slip → Bool) (x : Slip) (xs : List Slip) (o : Outcome) (t : Bool) → (outcome_found p xs ≡ Some o → 1 ≤ count_by p xs)
    → option_map (λ s. s.outcome) (cond t (Some x) (find p xs)) ≡ Some o → 1 ≤ cond t 1 0 + count_by p xs
counted_by p x xs o true later e = omega arith
counted_by p x xs o false later e = omega (arith, later e)

pub found_counts : (p : Slip → Bool) (xs : List Slip) (o : Outcome) → outcome_found p xs ≡ Some o → 1 ≤ count_by p xs
found_counts p [] o e = let bad : ◌≡◌ {A = Option Outcome} None (Some o) = e in cc
found_counts p (x ∷ xs) o e = omega (arith, counted_by p x xs o (p x) (found_counts p xs o) e, count-cons p x xs)

-- where it is the only one, nothing stands before it
alone_by : (p : Slip → Bool) (x : Slip) (xs more : List Slip) (o : Outcome) (t : Bool) → cond t 1 0 + count_by p (xs ++ more) ≤ 1
    → outcome_found p (xs ++ more) ≡ Some o
    → option_map (λ s. s.outcome) (cond t (Some x) (find p (xs ++ more))) ≡ Some o
alone_by p x xs more o true once e = absurd (omega (arith, once, found_counts p (xs ++ more) o e))
alone_by p x xs more o false once e = e

found_after_part : (p : Slip → Bool) (xs more : List Slip) (o : Outcome) → count_by p (xs ++ more) ≤ 1 → outcome_found p more ≡ Some o
    → outcome_found p (xs ++ more) ≡ Some o
found_after_part p [] more o once e = e
found_after_part p (x ∷ xs) more o once e =
    let all : cond (p x) 1 0 + count_by p (xs ++ more) ≤ 1 = omega (arith, once, count-cons p x (xs ++ more)) in
    let rest : count_by p (xs ++ more) ≤ 1 = omega (arith, all) in
    alone_by p x xs more o (p x) all (found_after_part p xs more o rest e)

-- the answers of the last slips are those of all
answers_after : (txn : Txn) (before since : List Slip) (a n : ℕ) (os : List Outcome) → ((place : ℕ) → times_named txn place (before ++ since) ≤ 1)
    → map (λ o. Some o) os ≡ map (answer txn since) (range_with_len a n) → map (λ o. Some o) os ≡ map (answer txn (before ++ since)) (range_with_len a n)
answers_after txn before since a zero os once e = e
answers_after txn before since a (suc n) [] once e = cc
answers_after txn before since a (suc n) (o ∷ os) once e =
    let first : Some o ≡ answer txn since a = cc in
    let rest : map (λ o. Some o) os ≡ map (answer txn since) (range_with_len (a + 1) n) = cc in
    ap (λ x. x ∷ map (λ o. Some o) os) (sym (found_after_part (names txn a) before since o (once a) (sym first)))
    ∙ ap (λ l. answer txn (before ++ since) a ∷ l) (answers_after txn before since (a + 1) n os once rest)

outcomes_by : (lane : ℕ) (before since : List Slip) (t : Transaction) (v : Verdict) → ((txn : Txn) (place : ℕ) → times_named txn place (before ++ since) ≤ 1)
    → OutcomesIn lane since t v → OutcomesIn lane (before ++ since) t v
outcomes_by lane before since t Whole once h =
    let txn : Txn = record { lane = lane; number = t.number } in
    answers_after txn before since 0 (length t.session.recipients) t.disposition.outcomes (once txn) h
outcomes_by lane before since t TooLarge once h = tt
outcomes_by lane before since t Malformed once h = tt
outcomes_by lane before since t NoRoom once h = tt

-- Where all that was heard names each transaction and place once at most, the outcomes are those of all that was heard.
pub answered_all : (lane : ℕ) (heard : List Slip) (ts : List Transaction) → ((txn : Txn) (place : ℕ) → times_named txn place heard ≤ 1)
    → AllByRecursion (IsAnswered lane heard) ts → AllByRecursion (λ t. OutcomesIn lane heard t t.disposition.verdict) ts
answered_all lane heard [] once h = tt
answered_all lane heard (t ∷ ts) once h =
    let P : List Slip → Type 0 = λ l. (txn : Txn) (place : ℕ) → times_named txn place l ≤ 1 in
    let Q : List Slip → Type 0 = λ l. OutcomesIn lane l t t.disposition.verdict in (
      subst Q (sym h.0.whole) (outcomes_by lane h.0.before h.0.since t t.disposition.verdict (subst P h.0.whole once) h.0.outcomes),
      answered_all lane heard ts once h.1,
    )

pub outcomes_are_answers : (site : Site) (lane : ℕ) (heard : List Slip) (cs : List Conversation) → ((txn : Txn) (place : ℕ) → times_named txn place heard ≤ 1)
    → AllByRecursion (IsAnswered lane heard) (transactions site 0 cs) → OutcomesAreAnswers site lane heard cs
outcomes_are_answers site lane heard cs once h = answered_all lane heard (transactions site 0 cs) once h
