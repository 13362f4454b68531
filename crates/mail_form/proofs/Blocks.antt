-- Blocks of bytes in which no NUL stands and no CR but before an LF.
use Rattle.std.proofs.Common.{◌≡◌, ℕ, zero, suc, ◌+◌, ◌<◌, ◌≤◌, arith, Bool, true, false, not, ◌&&◌, ◌||◌, cond, eqb, bit_and, bit_or, List, [], ◌∷◌, map, length, take, drop, replicate, refl, ap, ap₂, ◌∙◌, zero-add}
use Rattle.std.specs.Simd.Lanes.{zip2, top}
use Rattle.mbox_spool.specs.Lines.{pairs}
use Rattle.mbox_spool.proofs.Blocks.{tests}
use Rattle.mail_form.specs.Forms.{is_break}

abbrev hit : ℕ → ℕ → ℕ
hit a b = cond (eqb a b) 255 0

abbrev miss : ℕ → ℕ → ℕ
miss a b = cond (not (eqb a b)) 255 0

one_set : (s t u : Bool) → top 7 (bit_or (cond s 255 0) (bit_and (cond t 255 0) (cond (not u) 255 0))) ≡ (s || (t && not u))
one_set true true true = refl
one_set true true false = refl
one_set true false true = refl
one_set true false false = refl
one_set false true true = refl
one_set false true false = refl
one_set false false true = refl
one_set false false false = refl

pub break_lanes : (n : ℕ) (text : List ℕ) → n < length text
    → map (top 7) (zip2 bit_or (zip2 hit (take n text) (replicate n 0))
    (zip2 bit_and (zip2 hit (take n text) (replicate n 13))
    (zip2 miss (take n (drop 1 text)) (replicate n 10)))) ≡ tests is_break n text
break_lanes zero text h = refl
break_lanes (suc n) [] h = absurd (omega arith)
break_lanes (suc n) (b ∷ []) h = absurd (omega arith)
break_lanes (suc n) (b ∷ c ∷ text) h =
    let more = break_lanes n (c ∷ text) (omega arith) in
    ap₂ (λ (t : Bool) (l : List Bool). t ∷ l) (one_set (eqb b 0) (eqb b 13) (eqb c 10)) more

pub pairs_more : (test : ℕ → ℕ → Bool) (n m : ℕ) (text : List ℕ) → n < length text → pairs test n text ≡ 0
    → pairs test m (drop n text) ≡ 0 → pairs test (n + m) text ≡ 0
pairs_more test zero m text h e f = ap (λ (k : ℕ). pairs test k text) (zero-add m) ∙ f
pairs_more test (suc n) m [] h e f = absurd (omega arith)
pairs_more test (suc n) m (b ∷ []) h e f = absurd (omega arith)
pairs_more test (suc n) m (b ∷ c ∷ text) h e f =
    let k : suc n + m ≡ suc (n + m) = omega arith in
    let rest : pairs test n (c ∷ text) ≡ 0 = omega (arith, e) in
    let one : ◌≡◌ {A = ℕ} (cond (test b c) 1 0) 0 = omega (arith, e) in
    let more : pairs test (n + m) (c ∷ text) ≡ 0 = pairs_more test n m (c ∷ text) (omega arith) rest f in
    ap (λ (j : ℕ). pairs test j (b ∷ c ∷ text)) k ∙ omega (arith, one, more)

pub pairs_fewer : (test : ℕ → ℕ → Bool) (m n : ℕ) (text : List ℕ) → m ≤ n → pairs test n text ≡ 0 → pairs test m text ≡ 0
pairs_fewer test zero n text h e = refl
pairs_fewer test (suc m) zero text h e = absurd (omega arith)
pairs_fewer test (suc m) (suc n) [] h e = refl
pairs_fewer test (suc m) (suc n) (b ∷ []) h e = refl
pairs_fewer test (suc m) (suc n) (b ∷ c ∷ text) h e =
    let rest : pairs test n (c ∷ text) ≡ 0 = omega (arith, e) in
    let one : ◌≡◌ {A = ℕ} (cond (test b c) 1 0) 0 = omega (arith, e) in
    let more : pairs test m (c ∷ text) ≡ 0 = pairs_fewer test m n (c ∷ text) (omega arith) rest in
    omega (arith, one, more)
