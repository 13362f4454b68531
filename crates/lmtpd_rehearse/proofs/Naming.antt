-- The slips that are owed for all copies of a conversation: each names its copy, and no other names the same.
use Rattle.std.proofs.Common.{◌≡◌, ℕ, suc, ◌+◌, List, [], ◌∷◌, ◌++◌, length, Bool, true, false, cond, inl, inr, refl, ap, sym, ◌∙◌, arith}
use Rattle.std.specs.Prelude.{filter, ◌==◌, ◌&&◌, if◌then◌else◌}
use Rattle.std.specs.List.{AllByRecursion}
use Rattle.std.proofs.lemmas.Bool.Decides.{nat_tests}
use Rattle.mail_world.specs.declared.Note.{Note}
use Rattle.mail_world.specs.declared.Outcome.{Outcome}
use Rattle.mail_world.specs.declared.Outcome.TheVariants.{Failed}
use Rattle.mail_world.specs.declared.Slip.{Slip}
use Rattle.mail_world.specs.declared.Txn.{Txn}
use Rattle.mail_world.specs.Slips.{names, of_worker, slip_of, slips_from}
use Rattle.mail_runs.proofs.Rising.{IsFrom, from_then, CopiesRise}

-- lists of which all elements are such
pub all_prefix : {A : Type 0} (P : A → Type 0) (xs ys : List A) → AllByRecursion P (xs ++ ys) → AllByRecursion P xs
all_prefix P [] ys h = tt
all_prefix P (x ∷ xs) ys h = (h.0, all_prefix P xs ys h.1)

pub all_after : {A : Type 0} (P : A → Type 0) (xs ys : List A) → AllByRecursion P (xs ++ ys) → AllByRecursion P ys
all_after P [] ys h = h
all_after P (x ∷ xs) ys h = all_after P xs ys h.1

all_if : {A : Type 0} (P : A → Type 0) (b : Bool) (x : A) (xs : List A) → P x → AllByRecursion P xs → AllByRecursion P (cond b (x ∷ xs) xs)
all_if P true x xs p h = (p, h)
all_if P false x xs p h = h

pub all_filter : {A : Type 0} (P : A → Type 0) (f : A → Bool) (xs : List A) → AllByRecursion P xs → AllByRecursion P (filter f xs)
all_filter P f [] h = tt
all_filter P f (x ∷ xs) h = all_if P (f x) x (filter f xs) h.0 (all_filter P f xs h.1)

pub all_map : {A : Type 0} (P Q : A → Type 0) (xs : List A) → ((x : A) → P x → Q x) → AllByRecursion P xs → AllByRecursion Q xs
all_map P Q [] f h = tt
all_map P Q (x ∷ xs) f h = (f x h.0, all_map P Q xs f h.1)

all_both : {A : Type 0} (P Q : A → Type 0) (xs : List A) → AllByRecursion P xs → AllByRecursion Q xs → AllByRecursion (λ x. P x × Q x) xs
all_both P Q [] h g = tt
all_both P Q (x ∷ xs) h g = ((h.0, g.0), all_both P Q xs h.1 g.1)

all_none : {A : Type 0} (P : A → Type 0) (xs : List A) → ((x : A) → P x) → AllByRecursion P xs
all_none P [] f = tt
all_none P (x ∷ xs) f = (f x, all_none P xs f)

-- what holds of each element of one list with each of another holds the other way round
pub all_turned : {A : Type 0} (P : A → A → Type 0) (xs ys : List A) → AllByRecursion (λ x. AllByRecursion (λ y. P y x) ys) xs
    → AllByRecursion (λ y. AllByRecursion (λ x. P y x) xs) ys
all_turned P [] ys h = all_none (λ y. AllByRecursion (λ x. P y x) []) ys (λ y. tt)
all_turned P (x ∷ xs) ys h = all_both (λ y. P y x) (λ y. AllByRecursion (λ x. P y x) xs) ys h.0 (all_turned P xs ys h.1)

-- a slip that names what that one names says the same, and is of the same worker
abbrev pub SayTheSame : Slip → Slip → Type 0
SayTheSame slip other = names slip.txn slip.place other ≡ true → (other.outcome ≡ slip.outcome) × (other.worker ≡ slip.worker)

and_all : (a b c : Bool) → a && b && c ≡ true → (b ≡ true) × (c ≡ true)
and_all true true true e = (refl, refl)
and_all true true false e = cc
and_all true false c e = cc
and_all false b c e = cc

same_number : (a b : ℕ) → (a == b) ≡ true → a ≡ b
same_number a b e = grind (arith, nat_tests, e)

pub names_as : (txn : Txn) (place : ℕ) (slip : Slip) → names txn place slip ≡ true → (slip.txn.number ≡ txn.number) × (slip.place ≡ place)
names_as txn place slip e =
    let both = and_all (slip.txn.lane == txn.lane) (slip.txn.number == txn.number) (slip.place == place) e in
    (same_number slip.txn.number txn.number both.0, same_number slip.place place both.1)

not_from : (n p number place : ℕ) → IsFrom n (p + 1) number place → number ≡ n → place ≡ p → ⊥
not_from n p number place h e f = elim h [ inl a ↦ omega arith | inr a ↦ (let low = a.1 in omega arith) ]

agrees_later : (slip other : Slip) → IsFrom slip.txn.number (slip.place + 1) other.txn.number other.place → SayTheSame slip other
agrees_later slip other from e =
    let is = names_as slip.txn slip.place other e in
    absurd (not_from slip.txn.number slip.place other.txn.number other.place from is.0 is.1)

agrees_earlier : (slip other : Slip) → IsFrom slip.txn.number (slip.place + 1) other.txn.number other.place → SayTheSame other slip
agrees_earlier slip other from e =
    let is = names_as other.txn other.place slip e in
    absurd (not_from slip.txn.number slip.place other.txn.number other.place from (sym is.0) (sym is.1))

-- the outcome that a worker tells next, and those after it
abbrev pub next_of : List Outcome → Outcome
next_of [] = Failed
next_of (outcome ∷ outcomes) = outcome

abbrev pub after_next : List Outcome → List Outcome
after_next [] = []
after_next (outcome ∷ outcomes) = outcomes

-- what each worker has left to tell after a copy for that mailbox
abbrev pub left_after_one : (ℕ → List Outcome) → ℕ → ℕ → List Outcome
left_after_one left mailbox b = if mailbox == b then after_next (left b) else left b

-- and after copies
abbrev pub left_after : (ℕ → List Outcome) → List Note → ℕ → List Outcome
left_after left [] b = left b
left_after left (x ∷ xs) b = left_after (λ k. left_after_one left x.mailbox k) xs b

-- the slips for all these copies, where each worker has these outcomes left to tell
abbrev pub slips_all : (ℕ → List Outcome) → List Note → List Slip
slips_all left [] = []
slips_all left (x ∷ xs) = slip_of x.mailbox x (next_of (left x.mailbox)) ∷ slips_all (λ b. left_after_one left x.mailbox b) xs

pub slips_all-append : (xs ys : List Note) (left : ℕ → List Outcome) → slips_all left (xs ++ ys) ≡ slips_all left xs ++ slips_all (λ b. left_after left xs b) ys
slips_all-append [] ys left = refl
slips_all-append (x ∷ xs) ys left = ap (λ l. slip_of x.mailbox x (next_of (left x.mailbox)) ∷ l) (slips_all-append xs ys (λ b. left_after_one left x.mailbox b))

-- the slips of one mailbox among them
slip_first : (b : ℕ) (x : Note) (xs : List Note) (outcomes : List Outcome) → length outcomes ≡ length (x ∷ xs)
    → slip_of b x (next_of outcomes) ∷ slips_from b (after_next outcomes) xs ≡ slips_from b outcomes (x ∷ xs)
slip_first b x xs [] e = cc
slip_first b x xs (outcome ∷ outcomes) e = refl

one_fewer : (n : ℕ) (outcomes : List Outcome) → length outcomes ≡ suc n → length (after_next outcomes) ≡ n
one_fewer n [] e = absurd (omega (arith, e))
one_fewer n (outcome ∷ outcomes) e = omega (arith, e)

slip_for : (t : Bool) (b : ℕ) (x : Note) (xs : List Note) (left : ℕ → List Outcome) (rest : List Slip) → (x.mailbox == b) ≡ t
    → length (left b) ≡ length (cond t (x ∷ xs) xs)
    → (length (left_after_one left x.mailbox b) ≡ length xs → rest ≡ slips_from b (left_after_one left x.mailbox b) xs)
    → cond t (slip_of x.mailbox x (next_of (left x.mailbox)) ∷ rest) rest ≡ slips_from b (left b) (cond t (x ∷ xs) xs)
slip_for true b x xs left rest e size more =
    let is : x.mailbox ≡ b = same_number x.mailbox b e in
    let next : left_after_one left x.mailbox b ≡ after_next (left b) = ap (λ t. cond t (after_next (left b)) (left b)) e in
    let few : length (left_after_one left x.mailbox b) ≡ length xs = ap length next ∙ one_fewer (length xs) (left b) size in
    ap (λ m. slip_of m x (next_of (left m)) ∷ rest) is
    ∙ ap (λ l. slip_of b x (next_of (left b)) ∷ l) (more few ∙ ap (λ os. slips_from b os xs) next)
    ∙ slip_first b x xs (left b) size
slip_for false b x xs left rest e size more =
    let same : left_after_one left x.mailbox b ≡ left b = ap (λ t. cond t (after_next (left b)) (left b)) e in
    more (ap length same ∙ size) ∙ ap (λ os. slips_from b os xs) same

pub slips_of_box : (b : ℕ) (notes : List Note) (left : ℕ → List Outcome) → length (left b) ≡ length (filter (λ note. note.mailbox == b) notes)
    → of_worker b (slips_all left notes) ≡ slips_from b (left b) (filter (λ note. note.mailbox == b) notes)
slips_of_box b [] left size = none (left b)
  where
    none : (outcomes : List Outcome) → [] ≡ slips_from b outcomes []
    none [] = refl
    none (outcome ∷ outcomes) = refl
slips_of_box b (x ∷ xs) left size =
    slip_for (x.mailbox == b) b x (filter (λ note. note.mailbox == b) xs) left (of_worker b (slips_all (λ k. left_after_one left x.mailbox k) xs)) refl size
    (slips_of_box b xs (λ k. left_after_one left x.mailbox k))

-- they rise with their copies
abbrev IsSlipFrom : ℕ → ℕ → Slip → Type 0
IsSlipFrom n p slip = IsFrom n p slip.txn.number slip.place

slips_rise : (notes : List Note) (left : ℕ → List Outcome) (n p m q : ℕ) → CopiesRise m q notes → IsFrom n p m q
    → AllByRecursion (IsSlipFrom n p) (slips_all left notes)
slips_rise [] left n p m q rise from = tt
slips_rise (x ∷ xs) left n p m q rise from =
    let here = from_then n p m q x.txn.number x.place from rise.0 in (
      here,
      slips_rise xs (λ b. left_after_one left x.mailbox b) n p x.txn.number (x.place + 1) rise.1
          (from_then n p x.txn.number x.place x.txn.number (x.place + 1) here (inr (refl, omega arith))),
    )

-- each of them agrees with all
pub all_agree : (notes : List Note) (left : ℕ → List Outcome) (n p : ℕ) → CopiesRise n p notes
    → AllByRecursion (λ slip. AllByRecursion (λ other. SayTheSame other slip) (slips_all left notes)) (slips_all left notes)
all_agree [] left n p rise = tt
all_agree (x ∷ xs) left n p rise =
    let slip : Slip = slip_of x.mailbox x (next_of (left x.mailbox)) in
    let rest : List Slip = slips_all (λ b. left_after_one left x.mailbox b) xs in
    let later : AllByRecursion (IsSlipFrom x.txn.number (x.place + 1)) rest =
    slips_rise xs (λ b. left_after_one left x.mailbox b) x.txn.number (x.place + 1) x.txn.number (x.place + 1) rise.1 (inr (refl, omega arith)) in (
      ((λ e. (refl, refl)), all_map (IsSlipFrom x.txn.number (x.place + 1)) (λ other. SayTheSame other slip) rest (λ other from. agrees_earlier slip other from) later),
      all_both (λ other. SayTheSame slip other) (λ other. AllByRecursion (λ third. SayTheSame third other) rest) rest
          (all_map (IsSlipFrom x.txn.number (x.place + 1)) (λ other. SayTheSame slip other) rest (λ other from. agrees_later slip other from) later)
          (all_agree xs (λ b. left_after_one left x.mailbox b) x.txn.number (x.place + 1) rise.1),
    )
