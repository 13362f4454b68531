-- Blocks of bytes with the byte after each, as bits.
use Rattle.std.proofs.Common.{◌≡◌, ℕ, zero, suc, ◌+◌, ◌%◌, ◌^◌, ◌<◌, ◌≤◌, arith, Bool, true, false, not}
use Rattle.std.proofs.Common.{◌&&◌, ◌||◌, cond, eqb, bit_and, bit_or, List, [], ◌∷◌, map, length, take, drop}
use Rattle.std.proofs.Common.{replicate, refl, sym, ap, ap₂, ◌∙◌, subst}
use Rattle.std.specs.List.{prefix_len}
use Rattle.std.specs.Int.{w64, trailing_zeros}
use Rattle.std.specs.Int.RustNames.{count_ones}
use Rattle.std.specs.Simd.Lanes.{zip2, mask_l, top}
use Rattle.std.proofs.lemmas.Bool.{not-false, eqb-true}
use Rattle.std.proofs.lemmas.List.{map-id}
use Rattle.std.proofs.lemmas.Nat.Bits.{bit_at-trailing_zeros}
use Rattle.std.proofs.lemmas.Simd.{mask_l-mod, ones-mask_l_cons, trailing_mask_l}
use Rattle.mail_world.specs.Text.{lf}
use Rattle.mbox_spool.specs.Lines.{pairs, ends_line, may_quote, IsFirstEnd}

abbrev pub tests : (ℕ → ℕ → Bool) → ℕ → List ℕ → List Bool
tests test zero text = []
tests test (suc n) [] = []
tests test (suc n) (b ∷ []) = []
tests test (suc n) (b ∷ c ∷ text) = test b c ∷ tests test n (c ∷ text)

length-tests : (test : ℕ → ℕ → Bool) (n : ℕ) (text : List ℕ) → length (tests test n text) ≤ n
length-tests test zero text = omega arith
length-tests test (suc n) [] = omega arith
length-tests test (suc n) (b ∷ []) = omega arith
length-tests test (suc n) (b ∷ c ∷ text) = let more = length-tests test n (c ∷ text) in omega (arith, more)

no_ones : count_ones 0 ≡ 0
unfolding count_ones
no_ones = refl

ones-tests : (test : ℕ → ℕ → Bool) (n : ℕ) (text : List ℕ)
    → count_ones (mask_l (tests test n text)) ≡ pairs test n text
ones-tests test zero text = no_ones
ones-tests test (suc n) [] = no_ones
ones-tests test (suc n) (b ∷ []) = no_ones
ones-tests test (suc n) (b ∷ c ∷ text) =
    ones-mask_l_cons (test b c) (tests test n (c ∷ text))
    ∙ ap (λ (k : ℕ). cond (test b c) 1 0 + k) (ones-tests test n (c ∷ text))

-- no bit is set
pub no_pairs : (test : ℕ → ℕ → Bool) (n : ℕ) (text : List ℕ) (bits : List Bool) → n ≤ 64
    → bits ≡ tests test n text → mask_l bits % 2 ^ 64 ≡ 0 → pairs test n text ≡ 0
no_pairs test n text bits few e h =
    let len = length-tests test n text in
    let same : mask_l (tests test n text) ≡ 0 =
    sym (ap (λ (l : List Bool). mask_l l % 2 ^ 64) e
    ∙ mask_l-mod (tests test n text) 64 (omega (arith, len, few))) ∙ h in
    sym (ones-tests test n text) ∙ ap count_ones same ∙ no_ones

pub not_any : (n : ℕ) → not (eqb n 0) ≡ false → n ≡ 0
not_any n h = eqb-true n 0 (not-false _ h)

-- ---- the lanes of two tests

abbrev hit : ℕ → ℕ → ℕ
hit a b = cond (eqb a b) 255 0

set : (s : Bool) → top 7 (cond s 255 0) ≡ s
set true = refl
set false = refl

one_set : (s t u : Bool) → top 7 (bit_and (cond s 255 0) (bit_or (cond t 255 0) (cond u 255 0))) ≡ (s && (t || u))
one_set true true true = refl
one_set true true false = refl
one_set true false true = refl
one_set true false false = refl
one_set false true true = refl
one_set false true false = refl
one_set false false true = refl
one_set false false false = refl

pub end_lanes : (n : ℕ) (text : List ℕ) → n < length text
    → map (top 7) (zip2 hit (take n (drop 1 text)) (replicate n 10)) ≡ tests ends_line n text
end_lanes zero text h = refl
end_lanes (suc n) [] h = absurd (omega arith)
end_lanes (suc n) (b ∷ []) h = absurd (omega arith)
end_lanes (suc n) (b ∷ c ∷ text) h =
    let more = end_lanes n (c ∷ text) (omega arith) in
    ap₂ (λ (t : Bool) (l : List Bool). t ∷ l) (set (eqb c 10)) more

pub quote_lanes : (n : ℕ) (text : List ℕ) → n < length text
    → map (top 7) (zip2 bit_and (zip2 hit (take n text) (replicate n 10))
    (zip2 bit_or (zip2 hit (take n (drop 1 text)) (replicate n 62))
    (zip2 hit (take n (drop 1 text)) (replicate n 70)))) ≡ tests may_quote n text
quote_lanes zero text h = refl
quote_lanes (suc n) [] h = absurd (omega arith)
quote_lanes (suc n) (b ∷ []) h = absurd (omega arith)
quote_lanes (suc n) (b ∷ c ∷ text) h =
    let more = quote_lanes n (c ∷ text) (omega arith) in
    ap₂ (λ (t : Bool) (l : List Bool). t ∷ l) (one_set (eqb b 10) (eqb c 62) (eqb c 70)) more

-- ---- the first end of a line

-- the bytes before the first that passes
abbrev unset : List Bool → ℕ
unset bits = prefix_len (λ b. not b) bits

record StandsFirst (text : List ℕ) (n : ℕ) : Type 0 where
  none : pairs ends_line n text ≡ 0
  is : drop (n + 1) text ≡ lf ∷ drop (n + 2) text

later : (b c k : ℕ) (text : List ℕ) → ends_line b c ≡ false → StandsFirst (c ∷ text) k
    → StandsFirst (b ∷ c ∷ text) (suc k)
later b c k text e x =
    let none = x.none in
    let one : suc k + 1 ≡ suc (k + 1) = omega arith in
    let two : suc (k + 2) ≡ suc k + 2 = omega arith in record {
      none = rw e (omega (arith, none));
      is = ap (λ (j : ℕ). drop j (b ∷ c ∷ text)) one ∙ x.is ∙ ap (λ (j : ℕ). lf ∷ drop j (b ∷ c ∷ text)) two;
    }

first_by : (t : Bool) (b c n : ℕ) (text : List ℕ) → ends_line b c ≡ t
    → (unset (tests ends_line n (c ∷ text)) < n → StandsFirst (c ∷ text) (unset (tests ends_line n (c ∷ text))))
    → unset (t ∷ tests ends_line n (c ∷ text)) < suc n
    → StandsFirst (b ∷ c ∷ text) (unset (t ∷ tests ends_line n (c ∷ text)))
first_by true b c n text e more h = record {
  none = refl;
  is = ap (λ (x : ℕ). x ∷ text) (eqb-true c lf e);
}
first_by false b c n text e more h =
    let k = unset (tests ends_line n (c ∷ text)) in
    let one : suc k ≡ 1 + k = omega arith in
    let P : ℕ → Type 0 = λ j. StandsFirst (b ∷ c ∷ text) j in
    subst P one (later b c k text e (more (omega (arith, h))))

first : (n : ℕ) (text : List ℕ) → n < length text → unset (tests ends_line n text) < n
    → StandsFirst text (unset (tests ends_line n text))
first zero text h less = absurd (omega (arith, less))
first (suc n) [] h less = absurd (omega arith)
first (suc n) (b ∷ []) h less = absurd (omega arith)
first (suc n) (b ∷ c ∷ text) h less =
    first_by (ends_line b c) b c n text refl (first n (c ∷ text) (omega arith)) less

pub first_end : (text : List ℕ) (bits : List Bool) → 64 < length text → bits ≡ tests ends_line 64 text
    → 0 < mask_l bits % 2 ^ 64 → IsFirstEnd text (trailing_zeros w64 (mask_l bits % 2 ^ 64))
first_end text bits long e some =
    let marks : List Bool = tests ends_line 64 text in
    let few = length-tests ends_line 64 text in
    let same : mask_l bits % 2 ^ 64 ≡ mask_l marks =
    ap (λ (l : List Bool). mask_l l % 2 ^ 64) e ∙ mask_l-mod marks 64 few in
    let mapped = map-id marks in
    let any : 0 < mask_l (map (λ (b : Bool). b) marks) = rw mapped (omega (arith, same, some)) in
    let at : trailing_zeros w64 (mask_l bits % 2 ^ 64) ≡ unset marks =
    ap (trailing_zeros w64) (same ∙ ap mask_l (sym mapped))
    ∙ trailing_mask_l (λ (b : Bool). b) 64 marks few any in
    let place = bit_at-trailing_zeros w64 (mask_l bits % 2 ^ 64) some (omega arith) in
    let within : unset marks < 64 = omega (arith, place.0, at) in
    let x = first 64 text long within in
    let P : ℕ → Type 0 = λ n. IsFirstEnd text n in
    subst P (sym at) (record { within = within; none = x.none; is = x.is })
