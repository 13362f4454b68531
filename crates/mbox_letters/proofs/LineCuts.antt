-- What a search for LF says of lines.
use Rattle.std.proofs.Common.{◌≡◌, ◌≢◌, ℕ, zero, suc, ◌+◌, ◌-◌, ◌<◌, take, drop, length, arith, Bool, true, false, ◌==◌, List, [], ◌∷◌, ◌++◌, sym, ap, ◌∙◌}
use Rattle.std.proofs.Common.{refl, append_assoc}
use Rattle.std.specs.Prelude.{slice_index}
use Rattle.std.proofs.lemmas.Bool.{false_from_ne_true, eqb-true}
use Rattle.std.proofs.lemmas.List.{take_more, take-append-drop}
use Rattle.std.proofs.lemmas.Grind.{common_steps}
use Rattle.memchr.specs.Find.{Nowhere, NoneBefore, Passes, is_byte}
use Rattle.mail_world.specs.Text.{lf, has_byte}
use Rattle.mbox_letters.specs.Letters.{IsLineCut}

none_before : (text : List ℕ) (k : ℕ) → ((j : ℕ) → j < k → ¬ ((slice_index text j == lf) ≡ true)) → has_byte (take k text) lf ≡ false
none_before text zero p = refl
none_before [] (suc k) p = refl
none_before (b ∷ text) (suc k) p = rw (false_from_ne_true (b == lf) (p 0 (omega arith))) (none_before text k (λ j q. p (suc j) (omega arith)))

none_within : (text : List ℕ) → ((j : ℕ) → j < length text → ¬ ((slice_index text j == lf) ≡ true)) → has_byte text lf ≡ false
none_within [] p = refl
none_within (b ∷ text) p = rw (false_from_ne_true (b == lf) (p 0 (omega arith))) (none_within text (λ j q. p (suc j) (omega arith)))

-- what stands after a place, as a slice gives it
rest_is : (text : List ℕ) (k : ℕ) → take (length text - k) (drop k text) ≡ drop k text
rest_is text k = grind (arith, common_steps)

pub IsLineCut-found : (text : List ℕ) (k : ℕ) → NoneBefore (Passes (is_byte 10) text) 0 (length text) k → Passes (is_byte 10) text k
    → IsLineCut text (take k text) (take (length text - (k + 1)) (drop (k + 1) text))
IsLineCut-found text k none here = record {
  one = record { no_lf = none_before text k (λ j q. none.before j (omega arith) q) };
  whole = sym (take-append-drop (k + 1) text)
      ∙ ap (λ l. l ++ drop (k + 1) text) (take_more text k 0 none.high ∙ ap (λ b. take k text ++ b ∷ []) (eqb-true (slice_index text k) lf here))
      ∙ append_assoc (take k text) (lf ∷ []) (drop (k + 1) text)
      ∙ ap (λ l. take k text ++ lf ∷ l) (sym (rest_is text (k + 1)));
}

pub has_no_lf : (text : List ℕ) → Nowhere (Passes (is_byte 10) text) 0 (length text) → has_byte text lf ≡ false
has_no_lf text none = none_within text (λ j q. none j (omega arith) q)

-- what a test for an empty slice says
pub empty_by : (text : List ℕ) (t : Bool) → t ≡ (length text == 0) → t ≡ true → text ≡ []
empty_by [] t e f = refl
empty_by (b ∷ text) t e f = let none : length (b ∷ text) ≡ 0 = eqb-true (length (b ∷ text)) 0 (sym e ∙ f) in absurd (omega arith)

pub some_by : (text : List ℕ) (t : Bool) → t ≡ (length text == 0) → t ≡ false → text ≢ []
some_by [] t e f = cc
some_by (b ∷ text) t e f = λ g. cc
