-- SP and TAB at a text's beginning.
use Rattle.std.proofs.Common.{◌≡◌, ℕ, zero, suc, ◌+◌, ◌<◌, Bool, true, false, not, ◌==◌, List, [], ◌∷◌, ◌++◌, length, take, drop, true≢false, inl, inr, refl, sym, ap, ◌∙◌, arith}
use Rattle.std.specs.List.{prefix_len}
use Rattle.std.proofs.lemmas.Bool.{cases_Bool, eqb-true}
use Rattle.std.proofs.lemmas.Bool.Decides.{nat_tests}
use Rattle.std.proofs.lemmas.List.Sums.{prefix_len_is}
use Rattle.bstr.specs.Find.{Passes, Nowhere, NoneBefore}
use Rattle.bstr.specs.Bytes.{is_in, not_in}
use Rattle.mail_head.specs.MessageIds.{is_blank, after_blanks}
use Rattle.mail_head.proofs.Filled.{cut}

blanks : (b : ℕ) → is_in (32 ∷ 9 ∷ []) b ≡ is_blank b
unfolding is_in
blanks b = grind (arith, nat_tests)

not_true : (b : Bool) → not b ≡ true → b ≡ false
not_true true h = cc
not_true false h = refl

not_not : (b : Bool) → (not b ≡ true → ⊥) → b ≡ true
not_not true h = refl
not_not false h = absurd (h refl)

pub blanks_before : (text : List ℕ) (k : ℕ) → NoneBefore (Passes (not_in (32 ∷ 9 ∷ [])) text) 0 (length text) k → Passes (not_in (32 ∷ 9 ∷ [])) text k
    → prefix_len is_blank text ≡ k
blanks_before text k none here =
    prefix_len_is is_blank text k 0 (omega arith)
    (λ j below. sym (blanks _) ∙ not_not _ (none.before j (omega arith) below))
    (λ _. sym (blanks _) ∙ not_true _ here)

pub blanks_alone : (text : List ℕ) → Nowhere (Passes (not_in (32 ∷ 9 ∷ [])) text) 0 (length text) → prefix_len is_blank text ≡ length text
blanks_alone text none =
    prefix_len_is is_blank text (length text) 0 (omega arith)
    (λ j below. sym (blanks _) ∙ not_not _ (none j (omega arith) below))
    (λ h. absurd (omega arith))

-- ---- a value that goes on

after_blank : (b : ℕ) (text : List ℕ) → is_blank b ≡ true → after_blanks (b ∷ text) ≡ after_blanks text
after_blank b text is =
    let e : 1 + prefix_len is_blank text ≡ suc (prefix_len is_blank text) = omega arith in
    rw is (ap (λ n. drop n (b ∷ text)) e)

at_other : (b : ℕ) (text : List ℕ) → is_blank b ≡ false → after_blanks (b ∷ text) ≡ b ∷ text
at_other b text other = rw other refl

-- so far there were blanks alone
pub after_none : (value more : List ℕ) → after_blanks value ≡ [] → after_blanks (value ++ more) ≡ after_blanks more
after_none [] more e = refl
after_none (b ∷ value) more e = elim (cases_Bool (is_blank b)) [
  | inl is ↦ after_blank b (value ++ more) is ∙ after_none value more (sym (after_blank b value is) ∙ e)
  | inr other ↦ let same = sym (at_other b value other) ∙ e in cc
]

-- or something else
pub after_some : (value more : List ℕ) (c : ℕ) (rest : List ℕ) → after_blanks value ≡ c ∷ rest → after_blanks (value ++ more) ≡ after_blanks value ++ more
after_some [] more c rest e = cc
after_some (b ∷ value) more c rest e = elim (cases_Bool (is_blank b)) [
  | inl is ↦
      after_blank b (value ++ more) is ∙ after_some value more c rest (sym (after_blank b value is) ∙ e)
      ∙ ap (λ t. t ++ more) (sym (after_blank b value is))
  | inr other ↦ at_other b (value ++ more) other ∙ ap (λ t. t ++ more) (sym (at_other b value other))
]

taken_none : (n : ℕ) (text : List ℕ) → [] ≡ take (suc n) text → text ≡ []
taken_none n [] e = refl
taken_none n (b ∷ text) e = cc

pub more_of_none : (n : ℕ) (value more kept : List ℕ) → 0 < n → kept ≡ [] → kept ≡ take n (after_blanks value)
    → take n (kept ++ after_blanks more) ≡ take n (after_blanks (value ++ more))
more_of_none zero value more kept room none is = absurd (omega arith)
more_of_none (suc n) value more kept room none is =
    let e : after_blanks value ≡ [] = taken_none n (after_blanks value) (sym none ∙ is) in
    ap (λ t. take (suc n) (t ++ after_blanks more)) none ∙ ap (λ t. take (suc n) t) (sym (after_none value more e))

take_of_none : (n : ℕ) → ◌≡◌ {A = List ℕ} (take n []) []
take_of_none zero = refl
take_of_none (suc n) = refl

pub more_of_some : (n : ℕ) (value more kept : List ℕ) → (kept ≡ [] → ⊥) → kept ≡ take n (after_blanks value)
    → take n (kept ++ more) ≡ take n (after_blanks (value ++ more))
more_of_some n value more kept some is = by_rest (after_blanks value) refl
  where
    by_rest : (text : List ℕ) → after_blanks value ≡ text → take n (kept ++ more) ≡ take n (after_blanks (value ++ more))
    by_rest [] e = absurd (some (is ∙ ap (λ t. take n t) e ∙ take_of_none n))
    by_rest (c ∷ rest) e =
        ap (λ t. take n (t ++ more)) is ∙ cut n (after_blanks value) more ∙ ap (λ t. take n t) (sym (after_some value more c rest e))

-- whether a text is empty
pub none_by : (text : List ℕ) → (length text == 0) ≡ true → text ≡ []
none_by [] e = refl
none_by (b ∷ text) e = let none : length (b ∷ text) ≡ 0 = eqb-true (length (b ∷ text)) 0 e in absurd (omega (arith, none))

pub some_by : (text : List ℕ) → (length text == 0) ≡ false → text ≡ [] → ⊥
some_by text e none = true≢false (sym (ap (λ (t : List ℕ). length t == 0) none) ∙ e)
