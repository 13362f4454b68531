-- Where a field ends within a piece.
use Rattle.std.proofs.Common.{◌≡◌, ℕ, zero, suc, ◌+◌, ◌<◌, ◌≤◌, arith, Bool, true, false, cond, ◌==◌, List, [], ◌∷◌, ◌++◌, length, take, drop, sym, ap, ◌∙◌, refl, append_assoc}
use Rattle.std.proofs.Common.{◌-◌, ◌*◌}
use Rattle.std.specs.Prelude.{slice_index}
use Rattle.std.proofs.lemmas.Bool.{false_from_ne_true}
use Rattle.std.proofs.lemmas.List.{take_more, take-append-drop, length-drop, drop-drop}
use Rattle.std.proofs.Math.Seq.{drop-length, take-length, take-add}
use Rattle.memchr.specs.Find.{Nowhere, NoneBefore, Passes, is_byte2}
use Rattle.mail_world.specs.Text.{lf}
use Rattle.mail_world.specs.Marks.{ends_field}
use Rattle.mbox_marks.specs.declared.marking.Place.TheVariants.{Line, Field, Inside, Body}
use Rattle.mbox_marks.specs.Marking.{Place, renamed_from, marks_owed, is_unended}
use Rattle.mbox_marks.specs.Marked.{GoesOn, place_weight}
use Rattle.mbox_marks.proofs.Renamed.{unended_run, place_rest, field_ends}

unended_before : (s : List ℕ) (k : ℕ) → ((j : ℕ) → j < k → ¬ (ends_field (slice_index s j) ≡ true)) → is_unended (take k s) ≡ true
unended_before s zero p = refl
unended_before [] (suc k) p = refl
unended_before (c ∷ s) (suc k) p =
    rw (false_from_ne_true (ends_field c) (p 0 (omega arith))) (unended_before s k (λ j q. p (suc j) (omega arith)))

unended_within : (s : List ℕ) → ((j : ℕ) → j < length s → ¬ (ends_field (slice_index s j) ≡ true)) → is_unended s ≡ true
unended_within [] p = refl
unended_within (c ∷ s) p = rw (false_from_ne_true (ends_field c) (p 0 (omega arith))) (unended_within s (λ j q. p (suc j) (omega arith)))

-- up to the end
run_ends : (run : List ℕ) (b : ℕ) (rest : List ℕ) → is_unended run ≡ true → ends_field b ≡ true
    → (run ++ b ∷ []) ++ marks_owed (cond (b == lf) Line Field) rest ≡ renamed_from false false (run ++ (b ∷ rest))
run_ends run b rest plain ends =
    ap (λ (t : List ℕ). (run ++ b ∷ []) ++ t) (place_rest (b == lf) rest)
    ∙ append_assoc run (b ∷ []) (renamed_from true (b == lf) rest)
    ∙ ap (λ (t : List ℕ). run ++ t) (sym (field_ends b rest ends))
    ∙ sym (unended_run run (b ∷ rest) plain)

weight_by : (t : Bool) → place_weight (cond t Line Field) ≡ 1
weight_by true = refl
weight_by false = refl

pub inside_found : (s : List ℕ) (k : ℕ) → NoneBefore (Passes (is_byte2 10 13) s) 0 (length s) k → Passes (is_byte2 10 13) s k
    → (next : Place) → next ≡ cond (slice_index s k == lf) Line Field → GoesOn Inside s (k + 1) next
inside_found s k none here next e =
    let b = slice_index s k in
    let high = none.high in
    let prefix : take (k + 1) s ≡ take k s ++ b ∷ [] = take_more s k 0 none.high in
    let whole : s ≡ take k s ++ (b ∷ drop (k + 1) s) =
    sym (take-append-drop (k + 1) s) ∙ ap (λ (l : List ℕ). l ++ drop (k + 1) s) prefix ∙ append_assoc (take k s) (b ∷ []) (drop (k + 1) s) in
    let plain = unended_before s k (λ j q. none.before j (omega arith) q) in
    let weight : place_weight next ≡ 1 = ap place_weight e ∙ weight_by (b == lf) in record {
      within = omega (arith, high);
      smaller = omega (arith, high, weight);
      goes = λ rest.
          ap (λ (l : List ℕ). l ++ marks_owed next (drop (k + 1) s ++ rest)) prefix
          ∙ ap (λ (p : Place). (take k s ++ b ∷ []) ++ marks_owed p (drop (k + 1) s ++ rest)) e
          ∙ run_ends (take k s) b (drop (k + 1) s ++ rest) plain here
          ∙ ap (renamed_from false false) (sym (append_assoc (take k s) (b ∷ drop (k + 1) s) rest))
          ∙ ap (λ (l : List ℕ). renamed_from false false (l ++ rest)) (sym whole);
    }

pub inside_on : (s : List ℕ) → 0 < length s → Nowhere (Passes (is_byte2 10 13) s) 0 (length s) → GoesOn Inside s (length s) Inside
inside_on s some none = record {
  within = omega arith;
  smaller = omega (arith, some);
  goes = λ rest.
      ap (λ (l : List ℕ). l ++ renamed_from false false (drop (length s) s ++ rest)) (take-length s)
      ∙ ap (λ (l : List ℕ). s ++ renamed_from false false (l ++ rest)) (drop-length s)
      ∙ sym (unended_run s rest (unended_within s (λ j q. none j (omega arith) q)));
}

-- ---- several steps

-- the first `at` bytes stay as they are, and more of the others
pub record HasGone (first : Place) (bytes : List ℕ) (at : ℕ) (place : Place) : Type 0 where
  pub within : at ≤ length bytes
  pub smaller : 2 * (length bytes - at) + place_weight place ≤ 2 * length bytes + place_weight first
  pub goes : (rest : List ℕ) → take at bytes ++ marks_owed place (drop at bytes ++ rest) ≡ marks_owed first (bytes ++ rest)

pub HasGone-on : (first : Place) (bytes : List ℕ) (at n : ℕ) (place next : Place) → HasGone first bytes at place
    → GoesOn place (drop at bytes) n next → HasGone first bytes (at + n) next
HasGone-on first bytes at n place next x y =
    let len = length-drop at bytes in record {
      within = omega (arith, x.within, y.within, len);
      smaller = omega (arith, x.within, y.within, x.smaller, y.smaller, len);
      goes = λ rest.
          ap (λ (l : List ℕ). l ++ marks_owed next (drop (at + n) bytes ++ rest)) (take-add at n bytes)
          ∙ append_assoc (take at bytes) (take n (drop at bytes)) (marks_owed next (drop (at + n) bytes ++ rest))
          ∙ ap (λ (l : List ℕ). take at bytes ++ (take n (drop at bytes) ++ marks_owed next (l ++ rest))) (sym (drop-drop n at bytes))
          ∙ ap (λ (l : List ℕ). take at bytes ++ l) (y.goes rest)
          ∙ x.goes rest;
    }

stays : (place : Place) → marks_owed place [] ≡ []
stays Line = refl
stays Field = refl
stays Inside = refl
stays Body = refl
