-- What the searches for a byte find, as the lengths of prefixes and ends.
use Rattle.std.proofs.Common.{◌≡◌, ℕ, suc, ◌+◌, ◌-◌, Bool, cond, nat_lt, true, false, not, ◌==◌, ◌||◌, List, [], ◌∷◌, length, get_or, sym, ◌∙◌, refl, arith}
use Rattle.std.proofs.Common.{rules}
use Rattle.std.specs.List.{position_or_len, prefix_len, suffix_len}
use Rattle.std.proofs.lemmas.Bool.{false_from_ne_true}
use Rattle.std.proofs.lemmas.Bool.Decides.{nat_tests}
use Rattle.std.proofs.lemmas.List.Sums.{position_or_len_is, prefix_len_is, suffix_len_is}
use borrow.Author.Tests.{tests}
use Rattle.bstr.specs.Find.{Passes, Nowhere, NoneBefore, NoneAfter}
use Rattle.bstr.specs.Bytes.{is_in, not_in}
use Rattle.mail_world.specs.Text.{has_byte, space, tab}

-- the first byte that passes
pub first_at : (p : ℕ → Bool) (text : List ℕ) (k : ℕ) → NoneBefore (Passes p text) 0 (length text) k → Passes p text k → position_or_len p text ≡ k
first_at p text k none here = position_or_len_is p text k 0 (omega arith) (λ j below. false_from_ne_true _ (none.before j (omega arith) below)) (λ _. here)

pub first_nowhere : (p : ℕ → Bool) (text : List ℕ) → Nowhere (Passes p text) 0 (length text) → position_or_len p text ≡ length text
first_nowhere p text none = position_or_len_is p text (length text) 0 (omega arith) (λ j below. false_from_ne_true _ (none j (omega arith) below))
    (λ h. absurd (omega arith))

-- a search for a byte outside a set: the set's bytes stand before the first and after the last
not_true : (b : Bool) → not b ≡ true → b ≡ false
not_true true h = cc
not_true false h = search rules

not_not : (b : Bool) → (not b ≡ true → ⊥) → b ≡ true
not_not true h = search rules
not_not false h = absurd (h (search rules))

spaces : (b : ℕ) → is_in (32 ∷ []) b ≡ (b == 32)
unfolding is_in
spaces b = elim (b == 32) as (λ t. (t || false) ≡ t) [ true ↦ search rules | false ↦ search rules ]

blanks : (b : ℕ) → is_in (32 ∷ 9 ∷ []) b ≡ has_byte (space ∷ tab ∷ []) b
unfolding is_in
blanks b = grind (arith, nat_tests)

pub spaces_before : (text : List ℕ) (k : ℕ) → NoneBefore (Passes (not_in (32 ∷ [])) text) 0 (length text) k → Passes (not_in (32 ∷ [])) text k
    → prefix_len (λ b. b == space) text ≡ k
spaces_before text k none here =
    prefix_len_is (λ b. b == space) text k 0 (omega arith)
    (λ j below. sym (spaces _) ∙ not_not _ (none.before j (omega arith) below))
    (λ _. sym (spaces _) ∙ not_true _ here)

pub all_spaces : (text : List ℕ) → Nowhere (Passes (not_in (32 ∷ [])) text) 0 (length text) → prefix_len (λ b. b == space) text ≡ length text
all_spaces text none =
    prefix_len_is (λ b. b == space) text (length text) 0 (omega arith)
    (λ j below. sym (spaces _) ∙ not_not _ (none j (omega arith) below))
    (λ h. absurd (omega arith))

last_index : (text : List ℕ) (k : ℕ) → get_or text (k + 1 - 1) 0 ≡ get_or text k 0
last_index text k = let e : k + 1 - 1 ≡ k = omega arith in rw e refl

blanks_before : (text : List ℕ) (k : ℕ) → Passes (not_in (32 ∷ 9 ∷ [])) text k → has_byte (space ∷ tab ∷ []) (get_or text (k + 1 - 1) 0) ≡ false
blanks_before text k here = rw last_index (sym (blanks _) ∙ not_true _ here)

pub blanks_after : (text : List ℕ) (k : ℕ) → NoneAfter (Passes (not_in (32 ∷ 9 ∷ [])) text) 0 (length text) k → Passes (not_in (32 ∷ 9 ∷ [])) text k
    → length text - suffix_len (has_byte (space ∷ tab ∷ [])) text ≡ k + 1
blanks_after text k none here =
    let e = suffix_len_is (has_byte (space ∷ tab ∷ [])) text (k + 1) 0 (omega arith)
    (λ j above below. sym (blanks _) ∙ not_not _ (none.after j above below))
    (λ _. blanks_before text k here) in
    omega arith

pub all_blanks : (text : List ℕ) → Nowhere (Passes (not_in (32 ∷ 9 ∷ [])) text) 0 (length text)
    → length text - suffix_len (has_byte (space ∷ tab ∷ [])) text ≡ 0
all_blanks text none =
    let e = suffix_len_is (has_byte (space ∷ tab ∷ [])) text 0 0 (omega arith)
    (λ j above below. sym (blanks _) ∙ not_not _ (none j above below))
    (λ h. absurd (omega arith)) in
    omega arith

-- a byte stands in the text if a search for it ends before the text does
has_step : (t h : Bool) (n m : ℕ) → h ≡ nat_lt n m → (t || h) ≡ nat_lt (cond (not t) (1 + n) 0) (suc m)
has_step true h n m e = search (rules, tests)
has_step false h n m e = grind (arith, nat_tests)

pub has_byte_first : (c : ℕ) (text : List ℕ) → has_byte text c ≡ nat_lt (position_or_len (λ b. b == c) text) (length text)
has_byte_first c [] = refl
has_byte_first c (b ∷ text) = has_step (b == c) (has_byte text c) (position_or_len (λ x. x == c) text) (length text) (has_byte_first c text)
