-- What recipients were told, where each outcome is that of a slip that was heard.
use Rattle.std.proofs.Common.{◌≡◌, ℕ, zero, suc, ◌+◌, ◌<◌, List, [], ◌∷◌, ◌++◌, length, map, Bool, true, false, cond, Option, Some, refl, ap, sym, ◌∙◌, subst}
use Rattle.std.proofs.Common.{arith}
use Rattle.std.specs.Prelude.{find, flat_map, option_map, ◌==◌}
use Rattle.std.specs.List.{AllByRecursion, range_with_len}
use Rattle.std.proofs.lemmas.Bool.{eq-eqb}
use Rattle.std.proofs.lemmas.List.{map-append}
use Rattle.std.proofs.lemmas.List.Elements.{filter-append}
use Rattle.mail_world.specs.declared.Note.{Note}
use Rattle.mail_world.specs.declared.Outcome.{Outcome}
use Rattle.mail_world.specs.declared.Slip.{Slip}
use Rattle.mail_world.specs.declared.Txn.{Txn}
use Rattle.mail_world.specs.declared.Verdict.{Verdict}
use Rattle.mail_world.specs.declared.Verdict.TheVariants as verdicts
use Rattle.mail_world.specs.Deliveries.{outcomes_for, told_if, told_all}
use Rattle.mail_world.specs.Prefixes.{IsPrefix}
use Rattle.mail_world.specs.Quotas.{quota_at}
use Rattle.mail_world.specs.Lists.{Transaction, OutcomesIn, copies, copies_if, copies_from, copies_owed}
use Rattle.mail_world.specs.Slips.{names, answer, of_worker, slip_of, slips_from}
use Rattle.mail_world.proofs.Deliveries.{copy_at}
use Rattle.box_worker.specs.Told.{owed_to}
use Rattle.lmtpd_rehearse.specs.Account.{AreSettled, IsSettledOutcome, IsSettledIf, IsAllSettled}
use Rattle.mail_runs.proofs.Rising.{NumbersRise, copies_rise}
use Rattle.lmtpd_rehearse.proofs.Naming.{SayTheSame, all_agree, all_after, all_filter, all_prefix, all_turned, left_after, next_of, slips_all, slips_all-append}
use Rattle.lmtpd_rehearse.proofs.Naming.{slips_of_box}

-- the first of a list that may lack it
first_of : (P : Slip → Type 0) (t : Bool) (slip : Slip) (rest : List Slip) → t ≡ true → AllByRecursion P (cond t (slip ∷ rest) rest) → P slip
first_of P true slip rest e h = h.0
first_of P false slip rest e h = cc

rest_of : (P : Slip → Type 0) (t : Bool) (slip : Slip) (rest : List Slip) → AllByRecursion P (cond t (slip ∷ rest) rest) → AllByRecursion P rest
rest_of P true slip rest h = h.1
rest_of P false slip rest h = h

-- what holds of each worker's slips holds of all
all_heard : (P : Slip → Type 0) (n : ℕ) (heard : List Slip) → AllByRecursion (λ slip. slip.worker < n) heard
    → ((b : ℕ) → b < n → AllByRecursion P (of_worker b heard)) → AllByRecursion P heard
all_heard P n [] known each = tt
all_heard P n (slip ∷ heard) known each = (
  first_of P (slip.worker == slip.worker) slip (of_worker slip.worker heard) (eq-eqb slip.worker slip.worker refl) (each slip.worker known.0),
  all_heard P n heard known.1 (λ b low. rest_of P (slip.worker == b) slip (of_worker b heard) (each b low)),
)

-- a slip that all that were heard agree with
abbrev IsHeardAs : List Slip → Slip → Type 0
IsHeardAs heard slip = AllByRecursion (λ other. SayTheSame slip other) heard

answer_by : (t : Bool) (slip other : Slip) (found : Option Slip) (o : Outcome) → names slip.txn slip.place other ≡ t → SayTheSame slip other
    → (option_map (λ s. s.outcome) found ≡ Some o → o ≡ slip.outcome) → option_map (λ s. s.outcome) (cond t (Some other) found) ≡ Some o → o ≡ slip.outcome
answer_by true slip other found o e agrees more is = let same : other.outcome ≡ o = cc in sym same ∙ (agrees e).0
answer_by false slip other found o e agrees more is = more is

answer_is : (heard : List Slip) (slip : Slip) (o : Outcome) → IsHeardAs heard slip → answer slip.txn heard slip.place ≡ Some o → o ≡ slip.outcome
answer_is [] slip o h e = cc
answer_is (other ∷ heard) slip o h e =
    answer_by (names slip.txn slip.place other) slip other (find (names slip.txn slip.place) heard) o refl h.0 (λ is. answer_is heard slip o h.1 is) e

-- a slip whose worker may say its outcome
abbrev MaySay : (ℕ → Outcome → Type 0) → Slip → Type 0
MaySay P slip = P slip.worker slip.outcome

module _ (P : ℕ → Outcome → Type 0) where
  said_by : (t : Bool) (slip other : Slip) (found : Option Slip) (o : Outcome) → names slip.txn slip.place other ≡ t → SayTheSame slip other → MaySay P other
      → (option_map (λ s. s.outcome) found ≡ Some o → P slip.worker o) → option_map (λ s. s.outcome) (cond t (Some other) found) ≡ Some o → P slip.worker o
  said_by true slip other found o e agrees says more is =
      let same : other.outcome ≡ o = cc in
      subst (λ w. P w o) (agrees e).1 (subst (λ x. P other.worker x) same says)
  said_by false slip other found o e agrees says more is = more is

  -- what is answered for a slip that all agree with is what its worker may say
  answer_said : (heard : List Slip) (slip : Slip) (o : Outcome) → IsHeardAs heard slip → AllByRecursion (MaySay P) heard
      → answer slip.txn heard slip.place ≡ Some o → P slip.worker o
  answer_said [] slip o h says e = cc
  answer_said (other ∷ heard) slip o h says e =
      said_by (names slip.txn slip.place other) slip other (find (names slip.txn slip.place) heard) o refl h.0 says.0
      (λ is. answer_said heard slip o h.1 says.1 is) e

  slips_say : (w : ℕ) (outcomes : List Outcome) (notes : List Note) → AllByRecursion (P w) outcomes → AllByRecursion (MaySay P) (slips_from w outcomes notes)
  slips_say w [] notes h = tt
  slips_say w (o ∷ outcomes) [] h = tt
  slips_say w (o ∷ outcomes) (x ∷ notes) h = (h.0, slips_say w outcomes notes h.1)

one_outcome : (t : Bool) (o : Outcome) (slip : Slip) (outcomes : List Outcome) (slips : List Slip) → o ≡ slip.outcome → outcomes ≡ map (λ s. s.outcome) slips
    → cond t (o ∷ outcomes) outcomes ≡ map (λ s. s.outcome) (cond t (slip ∷ slips) slips)
one_outcome true o slip outcomes slips e f = ap (λ x. x ∷ outcomes) e ∙ ap (λ l. slip.outcome ∷ l) f
one_outcome false o slip outcomes slips e f = f

-- the outcomes of slips are those that they were made of
outcomes_of : (w : ℕ) (outcomes : List Outcome) (notes : List Note) → length outcomes ≡ length notes
    → map (λ s. s.outcome) (slips_from w outcomes notes) ≡ outcomes
outcomes_of w [] notes e = refl
outcomes_of w (o ∷ outcomes) [] e = cc
outcomes_of w (o ∷ outcomes) (x ∷ notes) e = ap (λ l. o ∷ l) (outcomes_of w outcomes notes (omega (arith, e)))

-- the slips that one worker gave begin those that it owes for these outcomes
abbrev pub IsPrefixOfOwed : (ℕ → List Outcome) → List Slip → List Transaction → ℕ → Type 0
IsPrefixOfOwed told heard ts b = IsPrefix (of_worker b heard) (owed_to b (told b) 0 (copies_owed 0 b ts))

-- each worker told an outcome of each of its copies
abbrev pub AreSized : (ℕ → List Outcome) → List Transaction → ℕ → Type 0
AreSized told ts n = (b : ℕ) → b < n → length (told b) ≡ length (copies_owed 0 b ts)

module _ (heard : List Slip) where
  told_copies : (b : ℕ) (t : Transaction) (boxes : List ℕ) (place : ℕ) (outcomes : List Outcome) (left : ℕ → List Outcome)
      → map (λ o. Some o) outcomes ≡ map (answer (record { lane = 0; number = t.number }) heard) (range_with_len place (length boxes))
      → AllByRecursion (IsHeardAs heard) (slips_all left (copies_from 0 t place boxes))
      → outcomes_for b boxes outcomes ≡ map (λ s. s.outcome) (of_worker b (slips_all left (copies_from 0 t place boxes)))
  told_copies b t [] place [] left e h = refl
  told_copies b t [] place (o ∷ outcomes) left e h = cc
  told_copies b t (r ∷ boxes) place [] left e h = cc
  told_copies b t (r ∷ boxes) place (o ∷ outcomes) left e h =
      let txn : Txn = record { lane = 0; number = t.number } in
      let slip : Slip = slip_of r (copy_at 0 t place r) (next_of (left r)) in
      let first : answer txn heard place ≡ Some o = cc in
      let rest : map (λ (x : Outcome). Some x) outcomes ≡ map (answer txn heard) (range_with_len (place + 1) (length boxes)) = cc in
      one_outcome (r == b) o slip (outcomes_for b boxes outcomes) _ (answer_is heard slip o h.0 first)
      (told_copies b t boxes (place + 1) outcomes _ rest h.1)

  told_verdict : (b : ℕ) (v : Verdict) (t : Transaction) (left : ℕ → List Outcome) → OutcomesIn 0 heard t v
      → AllByRecursion (IsHeardAs heard) (slips_all left (copies_if 0 t v))
      → told_if b t v ≡ map (λ s. s.outcome) (of_worker b (slips_all left (copies_if 0 t v)))
  told_verdict b verdicts.Whole t left e h = told_copies b t t.session.recipients 0 t.disposition.outcomes left e h
  told_verdict b verdicts.TooLarge t left e h = refl
  told_verdict b verdicts.Malformed t left e h = refl
  told_verdict b verdicts.NoRoom t left e h = refl

  told_each : (b : ℕ) (ts : List Transaction) (left : ℕ → List Outcome) → AllByRecursion (λ t. OutcomesIn 0 heard t t.disposition.verdict) ts
      → AllByRecursion (IsHeardAs heard) (slips_all left (flat_map (copies 0) ts))
      → told_all b ts ≡ map (λ s. s.outcome) (of_worker b (slips_all left (flat_map (copies 0) ts)))
  told_each b [] left e h = refl
  told_each b (t ∷ ts) left e h =
      let prefix : List Slip = slips_all left (copies 0 t) in
      let next : ℕ → List Outcome = λ k. left_after left (copies 0 t) k in
      let rest : List Slip = slips_all next (flat_map (copies 0) ts) in
      let split : slips_all left (copies 0 t ++ flat_map (copies 0) ts) ≡ prefix ++ rest = slips_all-append (copies 0 t) (flat_map (copies 0) ts) left in
      let both : AllByRecursion (IsHeardAs heard) (prefix ++ rest) = let P : List Slip → Type 0 = λ l. AllByRecursion (IsHeardAs heard) l in subst P split h in
      let now = told_verdict b t.disposition.verdict t left e.0 (all_prefix (IsHeardAs heard) prefix rest both) in
      let more = told_each b ts next e.1 (all_after (IsHeardAs heard) prefix rest both) in
      ap (λ l. l ++ told_all b ts) now ∙ ap (λ l. map (λ (s : Slip). s.outcome) (of_worker b prefix) ++ l) more
      ∙ sym (map-append (λ (s : Slip). s.outcome) (of_worker b prefix) (of_worker b rest))
      ∙ ap (map (λ (s : Slip). s.outcome)) (sym (filter-append (λ (s : Slip). s.worker == b) prefix rest))
      ∙ ap (λ l. map (λ (s : Slip). s.outcome) (of_worker b l)) (sym split)

  -- each slip that was heard is one that its worker owes
  heard_owed : (P : Slip → Type 0) (told : ℕ → List Outcome) (n : ℕ) (ts : List Transaction) → AllByRecursion (λ slip. slip.worker < n) heard
      → ((b : ℕ) → b < n → IsPrefixOfOwed told heard ts b) → ((b : ℕ) → b < n → AllByRecursion P (slips_from b (told b) (copies_owed 0 b ts)))
      → AllByRecursion P heard
  heard_owed P told n ts known begun each = all_heard P n heard known (λ b low.
      let begins = begun b low in
      let Q : List Slip → Type 0 = λ l. AllByRecursion P l in
      let slips : List Slip = slips_from b (told b) (copies_owed 0 b ts) in
      all_prefix P (of_worker b heard) begins.rest (subst Q begins.whole (all_filter P (λ slip. slip.txn.lane == 0) slips (each b low))))

  -- all that were heard agree with each slip that is owed
  owed_heard : (told : ℕ → List Outcome) (n m : ℕ) (ts : List Transaction) → 0 < m → NumbersRise m ts
      → AllByRecursion (λ slip. slip.worker < n) heard → ((b : ℕ) → b < n → IsPrefixOfOwed told heard ts b) → AreSized told ts n
      → AllByRecursion (IsHeardAs heard) (slips_all told (flat_map (copies 0) ts))
  owed_heard told n m ts some rise known begun sized =
      let notes : List Note = flat_map (copies 0) ts in
      let all : List Slip = slips_all told notes in
      let AgreesWithAll : Slip → Type 0 = λ slip. AllByRecursion (λ other. SayTheSame other slip) all in
      let Q : List Slip → Type 0 = λ l. AllByRecursion AgreesWithAll l in
      let agree : AllByRecursion AgreesWithAll all = all_agree notes told 0 0 (copies_rise ts m 0 0 rise some) in
      let heard_agree : AllByRecursion AgreesWithAll heard = heard_owed AgreesWithAll told n ts known begun
      (λ k below. subst Q (slips_of_box k notes told (sized k below)) (all_filter AgreesWithAll (λ slip. slip.worker == k) all agree)) in
      all_turned (λ slip other. SayTheSame slip other) heard all heard_agree

  -- what was told of a mailbox's copies is what its worker said
  pub told_as_said : (told : ℕ → List Outcome) (n m : ℕ) (ts : List Transaction) → 0 < m → NumbersRise m ts
      → AllByRecursion (λ t. OutcomesIn 0 heard t t.disposition.verdict) ts
      → AllByRecursion (λ slip. slip.worker < n) heard → ((b : ℕ) → b < n → IsPrefixOfOwed told heard ts b) → AreSized told ts n
      → (b : ℕ) → b < n → told_all b ts ≡ told b
  told_as_said told n m ts some rise answered known begun sized b low =
      let notes : List Note = flat_map (copies 0) ts in
      told_each b ts told answered (owed_heard told n m ts some rise known begun sized)
      ∙ ap (map (λ (s : Slip). s.outcome)) (slips_of_box b notes told (sized b low))
      ∙ outcomes_of b (told b) (copies_owed 0 b ts) (sized b low)

  module _ (quotas : List (Option ℕ)) where
    -- what the worker of that mailbox says where its copy is settled
    abbrev Settles : ℕ → Outcome → Type 0
    Settles b outcome = IsSettledOutcome (quota_at quotas b) outcome

    copies_settled : (t : Transaction) (boxes : List ℕ) (place : ℕ) (outcomes : List Outcome) (left : ℕ → List Outcome)
        → map (λ o. Some o) outcomes ≡ map (answer (record { lane = 0; number = t.number }) heard) (range_with_len place (length boxes))
        → AllByRecursion (IsHeardAs heard) (slips_all left (copies_from 0 t place boxes)) → AllByRecursion (MaySay Settles) heard → AreSettled quotas boxes outcomes
    copies_settled t [] place [] left e h says = tt
    copies_settled t [] place (o ∷ outcomes) left e h says = cc
    copies_settled t (r ∷ boxes) place [] left e h says = cc
    copies_settled t (r ∷ boxes) place (o ∷ outcomes) left e h says =
        let txn : Txn = record { lane = 0; number = t.number } in
        let slip : Slip = slip_of r (copy_at 0 t place r) (next_of (left r)) in
        let first : answer txn heard place ≡ Some o = cc in
        let rest : map (λ (x : Outcome). Some x) outcomes ≡ map (answer txn heard) (range_with_len (place + 1) (length boxes)) = cc in
        (answer_said Settles heard slip o h.0 says first, copies_settled t boxes (place + 1) outcomes _ rest h.1 says)

    verdict_settled : (v : Verdict) (t : Transaction) (left : ℕ → List Outcome) → OutcomesIn 0 heard t v
        → AllByRecursion (IsHeardAs heard) (slips_all left (copies_if 0 t v)) → AllByRecursion (MaySay Settles) heard → IsSettledIf quotas t v
    verdict_settled verdicts.Whole t left e h says = copies_settled t t.session.recipients 0 t.disposition.outcomes left e h says
    verdict_settled verdicts.TooLarge t left e h says = tt
    verdict_settled verdicts.Malformed t left e h says = tt
    verdict_settled verdicts.NoRoom t left e h says = tt

    each_settled : (ts : List Transaction) (left : ℕ → List Outcome) → AllByRecursion (λ t. OutcomesIn 0 heard t t.disposition.verdict) ts
        → AllByRecursion (IsHeardAs heard) (slips_all left (flat_map (copies 0) ts)) → AllByRecursion (MaySay Settles) heard
        → AllByRecursion (IsAllSettled quotas) ts
    each_settled [] left e h says = tt
    each_settled (t ∷ ts) left e h says =
        let prefix : List Slip = slips_all left (copies 0 t) in
        let next : ℕ → List Outcome = λ k. left_after left (copies 0 t) k in
        let rest : List Slip = slips_all next (flat_map (copies 0) ts) in
        let split : slips_all left (copies 0 t ++ flat_map (copies 0) ts) ≡ prefix ++ rest = slips_all-append (copies 0 t) (flat_map (copies 0) ts) left in
        let both : AllByRecursion (IsHeardAs heard) (prefix ++ rest) = let Q : List Slip → Type 0 = λ l. AllByRecursion (IsHeardAs heard) l in subst Q split h in (
          verdict_settled t.disposition.verdict t left e.0 (all_prefix (IsHeardAs heard) prefix rest both) says,
          each_settled ts next e.1 (all_after (IsHeardAs heard) prefix rest both) says,
        )

    -- where all copies are settled, each outcome says so
    pub all_told_settled : (told : ℕ → List Outcome) (n m : ℕ) (ts : List Transaction) → 0 < m → NumbersRise m ts
        → AllByRecursion (λ t. OutcomesIn 0 heard t t.disposition.verdict) ts
        → AllByRecursion (λ slip. slip.worker < n) heard → ((b : ℕ) → b < n → IsPrefixOfOwed told heard ts b) → AreSized told ts n
        → ((b : ℕ) → b < n → AllByRecursion (Settles b) (told b)) → AllByRecursion (IsAllSettled quotas) ts
    all_told_settled told n m ts some rise answered known begun sized settled =
        each_settled ts told answered (owed_heard told n m ts some rise known begun sized)
        (heard_owed (MaySay Settles) told n ts known begun (λ b low. slips_say Settles b (told b) (copies_owed 0 b ts) (settled b low)))
