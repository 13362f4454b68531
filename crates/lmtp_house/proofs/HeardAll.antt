-- A lane heard every slip that a worker gave for its copies: nothing is left in its channel.
use Rattle.std.proofs.Common.{◌≡◌, ℕ, ◌+◌, ◌<◌, ◌≤◌, Bool, true, false, cond, ◌&&◌, ◌==◌, List, [], ◌∷◌, ◌++◌, length, map, refl, sym, ap, ◌∙◌, subst, arith}
use Rattle.std.proofs.Common.{Some, inl, inr, append_assoc, append-nil}
use Rattle.std.proofs.lemmas.Bool.{cases_lt}
use Rattle.std.proofs.lemmas.Bool.Decides.{nat_tests}
use Rattle.std.proofs.lemmas.List.Elements.{filter-append}
use Rattle.std.specs.Prelude.{flat_map, count_by}
use Rattle.std.specs.List.{AllByRecursion, range_with_len}
use Rattle.mail_world.specs.declared.Note.{Note}
use Rattle.mail_world.specs.declared.Outcome.{Outcome}
use Rattle.mail_world.specs.declared.Slip.{Slip}
use Rattle.mail_world.specs.declared.Txn.{Txn}
use Rattle.mail_world.specs.declared.Verdict.{Verdict}
use Rattle.mail_world.specs.declared.Verdict.TheVariants.{Whole, TooLarge, Malformed, NoRoom}
use Rattle.mail_world.specs.Conversation.{Conversation}
use Rattle.mail_world.specs.Prefixes.{IsPrefix}
use Rattle.mail_world.specs.Lists.{Transaction, transactions, copies_from, copies_if, copies, of_lane, due, OutcomesIn, OutcomesAreAnswers}
use Rattle.mail_world.specs.Site.{Site}
use Rattle.mail_world.specs.Slips.{of_worker, names, times_named, answer, txn_of, slip_of}
use Rattle.mail_world.proofs.GivenAway.{count-append, count-cons}
use Rattle.box_worker.specs.Told.{owed_to}
use Rattle.mail_runs.specs.Courses.{outcomes_in}
use Rattle.lmtp_threads.specs.Works.{BoxWork}
use Rattle.mail_world.proofs.Merged.{own_named}
use Rattle.lmtp_house.proofs.AnsweredAll.{found_counts}
use Rattle.lmtp_house.proofs.NamedOnce.{is_copy, slips_copy, fewer, due_counts, named_once}

-- what counts is counted here or after
here_or_after : (X : Type 0) (t : Bool) (m : ℕ) → (t ≡ true → X) → (1 ≤ m → X) → 1 ≤ cond t 1 0 + m → X
here_or_after X true m here after some = here refl
here_or_after X false m here after some = after (omega (arith, some))

one_of_two : (X : Type 0) (n m : ℕ) → (1 ≤ n → X) → (1 ≤ m → X) → 1 ≤ n + m → X
one_of_two X n m here after some = elim (cases_lt 0 n) [
  | inl low ↦ here (omega (arith, low))
  | inr high ↦ after (omega (arith, high, some))
]

three_same : (a b c : Bool) → a && b && c ≡ true → (a ≡ true) × (b ≡ true) × (c ≡ true)
three_same true true true e = (refl, refl, refl)
three_same true true false e = cc
three_same true false c e = cc
three_same false b c e = cc

same_number : (a b : ℕ) → (a == b) ≡ true → a ≡ b
same_number a b e = grind (arith, nat_tests, e)

module _ (txn : Txn) (place k : ℕ) (heard : List Slip) where
  -- a copy whose place has an answer is named by what was heard
  named_by : (t : Transaction) (p : ℕ) (o : Outcome) → (k == txn.lane) && (t.number == txn.number) && (p == place) ≡ true
      → answer (txn_of k t.number) heard p ≡ Some o → 1 ≤ times_named txn place heard
  named_by t p o is found =
      let s = three_same (k == txn.lane) (t.number == txn.number) (p == place) is in
      let lane : k ≡ txn.lane = same_number k txn.lane s.0 in
      let number : t.number ≡ txn.number = same_number t.number txn.number s.1 in
      let at : p ≡ place = same_number p place s.2 in
      let counts : 1 ≤ count_by (names (txn_of k t.number) p) heard = found_counts (names (txn_of k t.number) p) heard o found in
      subst (λ i. 1 ≤ times_named txn i heard) at
      (subst (λ n. 1 ≤ times_named (txn_of txn.lane n) p heard) number (subst (λ l. 1 ≤ times_named (txn_of l t.number) p heard) lane counts))

  answered_from : (t : Transaction) (p : ℕ) (boxes : List ℕ) (os : List Outcome)
      → map (λ o. Some o) os ≡ map (answer (txn_of k t.number) heard) (range_with_len p (length boxes))
      → 1 ≤ count_by (is_copy txn place) (copies_from k t p boxes) → 1 ≤ times_named txn place heard
  answered_from t p [] os e some = absurd (omega (arith, some))
  answered_from t p (box ∷ boxes) [] e some = absurd (cc)
  answered_from t p (box ∷ boxes) (o ∷ os) e some =
      let note : Note =
      record {
        txn = txn_of k t.number;
        place = p;
        mailbox = box;
        sender = t.session.sender;
        client = t.session.client;
        utf8 = t.session.utf8;
        moment = t.disposition.moment;
        message = t.message;
      } in
      let found : answer (txn_of k t.number) heard p ≡ Some o = cc in
      let rest : map (λ o. Some o) os ≡ map (answer (txn_of k t.number) heard) (range_with_len (p + 1) (length boxes)) = cc in
      here_or_after (1 ≤ times_named txn place heard) (is_copy txn place note) (count_by (is_copy txn place) (copies_from k t (p + 1) boxes))
      (λ is. named_by t p o is found) (λ more. answered_from t (p + 1) boxes os rest more)
      (omega (arith, some, count-cons (is_copy txn place) note (copies_from k t (p + 1) boxes)))

  answered_if : (t : Transaction) (v : Verdict) → OutcomesIn k heard t v → 1 ≤ count_by (is_copy txn place) (copies_if k t v) → 1 ≤ times_named txn place heard
  answered_if t Whole h some = answered_from t 0 t.session.recipients t.disposition.outcomes h some
  answered_if t TooLarge h some = absurd (omega (arith, some))
  answered_if t Malformed h some = absurd (omega (arith, some))
  answered_if t NoRoom h some = absurd (omega (arith, some))

  answered_copy : (ts : List Transaction) → AllByRecursion (λ t. OutcomesIn k heard t t.disposition.verdict) ts
      → 1 ≤ count_by (is_copy txn place) (flat_map (copies k) ts) → 1 ≤ times_named txn place heard
  answered_copy [] h some = absurd (omega (arith, some))
  answered_copy (t ∷ ts) h some =
      one_of_two (1 ≤ times_named txn place heard) (count_by (is_copy txn place) (copies k t)) (count_by (is_copy txn place) (flat_map (copies k) ts))
      (answered_if t t.disposition.verdict h.0) (answered_copy ts h.1)
      (omega (arith, some, count-append (is_copy txn place) (copies k t) (flat_map (copies k) ts)))

-- what a worker owes is of that worker
of_if : (b : ℕ) (t : Bool) (slip : Slip) (slips : List Slip) → slip.worker ≡ b → AllByRecursion (λ s. s.worker ≡ b) slips
    → AllByRecursion (λ s. s.worker ≡ b) (cond t (slip ∷ slips) slips)
of_if b true slip slips is h = (is, h)
of_if b false slip slips is h = h

owed_of : (b k : ℕ) (outcomes : List Outcome) (notes : List Note) → AllByRecursion (λ s. s.worker ≡ b) (owed_to b outcomes k notes)
owed_of b k [] notes = tt
owed_of b k (outcome ∷ outcomes) [] = tt
owed_of b k (outcome ∷ outcomes) (note ∷ notes) =
    of_if b (note.txn.lane == k) (slip_of b note outcome) (owed_to b outcomes k notes) refl (owed_of b k outcomes notes)

after_prefix : {A : Type 0} (P : A → Type 0) (xs : List A) (y : A) (ys : List A) → AllByRecursion P (xs ++ y ∷ ys) → P y
after_prefix P [] y ys h = h.0
after_prefix P (x ∷ xs) y ys h = after_prefix P xs y ys h.1

all_more : {A : Type 0} (P : A → Type 0) (xs : List A) (y : A) → AllByRecursion P xs → P y → AllByRecursion P (xs ++ y ∷ [])
all_more P [] y h p = (p, tt)
all_more P (x ∷ xs) y h p = (h.0, all_more P xs y h.1 p)

-- a slip names its own transaction and place
counts_itself : (slip : Slip) → ◌≡◌ {A = ℕ} (cond (names slip.txn slip.place slip) 1 0) 1
counts_itself slip = ap {B = ℕ} (λ t. cond t 1 0) (own_named slip)

module _ (site : Site) (k boxes : ℕ) (cs : List Conversation) (heard : List Slip) (works : ℕ → BoxWork)
    (only : AllByRecursion (λ slip. slip.worker < boxes) heard)
    (each : (b : ℕ) → b < boxes → IsPrefix (of_worker b heard) (owed_to b (outcomes_in (works b).turns) k (works b).taken))
    (owed : (b : ℕ) → b < boxes → of_lane k (works b).taken ≡ due site k b cs)
    (answered : OutcomesAreAnswers site k heard cs) where
  abbrev owed_by : ℕ → List Slip
  owed_by b = owed_to b (outcomes_in (works b).turns) k (works b).taken

  module _ (b : ℕ) (low : b < boxes) (slip : Slip) (rest : List Slip) (whole : owed_by b ≡ of_worker b heard ++ slip ∷ rest) where
    is_of : slip.worker ≡ b
    is_of = after_prefix (λ s. s.worker ≡ b) (of_worker b heard) slip rest
        (subst (λ l. AllByRecursion (λ s. s.worker ≡ b) l) whole (owed_of b k (outcomes_in (works b).turns) (works b).taken))

    -- had it been heard too, the lane would still have heard a prefix of what each worker owes it
    prefix_by : (c : ℕ) (t : Bool) → (slip.worker == c) ≡ t → c < boxes → IsPrefix (of_worker c heard ++ cond t (slip ∷ []) []) (owed_by c)
    prefix_by c true is below =
        let same : c ≡ b = sym (same_number slip.worker c is) ∙ is_of in
        subst (λ d. IsPrefix (of_worker d heard ++ slip ∷ []) (owed_by d)) (sym same)
        (record { rest = rest; whole = whole ∙ sym (append_assoc (of_worker b heard) (slip ∷ []) rest) })
    prefix_by c false is below =
        let f = each c below in record { rest = f.rest; whole = f.whole ∙ ap (λ l. l ++ f.rest) (sym (append-nil (of_worker c heard))) }

    prefixes : (c : ℕ) → c < boxes → IsPrefix (of_worker c (heard ++ slip ∷ [])) (owed_by c)
    prefixes c below =
        subst (λ l. IsPrefix l (owed_by c)) (sym (filter-append (λ s. s.worker == c) heard (slip ∷ []))) (prefix_by c (slip.worker == c) refl below)

    never : ⊥
    never =
        let P = names slip.txn slip.place in
        let Q = is_copy slip.txn slip.place in
        let notes = flat_map (copies k) (transactions site 0 cs) in
        let alone : count_by P (slip ∷ []) ≡ 1 = omega (arith, count-cons P slip [], counts_itself slip) in
        let more : times_named slip.txn slip.place (heard ++ slip ∷ []) ≤ 1 =
        named_once site k boxes cs (heard ++ slip ∷ []) works (all_more (λ s. s.worker < boxes) heard slip only (omega (arith, is_of, low))) prefixes owed
        slip.txn slip.place in
        let some : 1 ≤ count_by P (owed_by b) =
        omega (
          arith,
          ap (count_by P) whole,
          count-append P (of_worker b heard) (slip ∷ rest),
          count-cons P slip rest,
          counts_itself slip,
        ) in
        let copy : 1 ≤ count_by Q notes =
        omega (
          arith,
          some,
          slips_copy slip.txn slip.place b k (outcomes_in (works b).turns) (works b).taken,
          ap (count_by Q) (owed b low),
          due_counts site k b cs Q,
          fewer Q (λ note. note.mailbox == b) notes,
        ) in
        let named = answered_copy slip.txn slip.place k heard (transactions site 0 cs) answered copy in
        absurd (omega (arith, named, more, alone, count-append P heard (slip ∷ [])))

  none_left : (b : ℕ) → b < boxes → (rest : List Slip) → owed_by b ≡ of_worker b heard ++ rest → of_worker b heard ≡ owed_by b
  none_left b low [] whole = sym (append-nil (of_worker b heard)) ∙ sym whole
  none_left b low (slip ∷ rest) whole = absurd (never b low slip rest whole)

  pub heard_all : (b : ℕ) → b < boxes → of_worker b heard ≡ owed_by b
  heard_all b low = let f = each b low in none_left b low f.rest f.whole
