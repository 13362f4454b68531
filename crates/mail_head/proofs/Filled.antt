-- A text that is written after the first bytes of a room, as far as the room goes.
use Rattle.std.proofs.Common.{◌≡◌, ◌≤◌, ◌+◌, ◌-◌, ◌++◌, [], ◌∷◌, suc, zero, refl, ℕ, List, length, take, min, sym, ap, ◌∙◌, arith}
use Rattle.std.proofs.lemmas.List.{append_assoc, length-take, take_min}
use Rattle.std.proofs.lemmas.Slice.{take-put_mid}
use Rattle.std.proofs.Math.Seq.{take-append-add}
use borrow.Rule.Slice.PartMut.{put_mid}

within : (n : ℕ) (xs ys : List ℕ) → length xs ≤ n → xs ++ take (n - length xs) ys ≡ take n (xs ++ ys)
within n xs ys le =
    let e : length xs + (n - length xs) ≡ n = omega (arith, le) in
    sym (take-append-add xs ys (n - length xs)) ∙ ap (λ k. take k (xs ++ ys)) e

pub filled : (limit size count k : ℕ) (bytes text piece : List ℕ) → size ≤ limit → length bytes ≡ limit
    → count ≡ min (limit - size) (length text) → piece ≡ take count text
    → take (size + count) (put_mid size k bytes piece) ≡ take limit (take size bytes ++ text)
filled limit size count k bytes text piece fits room is written =
    let n : length (take size bytes) ≡ size = length-take size bytes ∙ omega (arith, fits, room) in
    let m : length piece ≡ count = ap length written ∙ length-take count text ∙ omega (arith, is) in
    let cut : take count text ≡ take (limit - size) text = ap (λ c. take c text) is ∙ take_min (limit - size) text in
    take-put_mid size k bytes piece (size + count) (omega (arith, m)) (omega (arith, fits, room))
    ∙ ap (λ p. take size bytes ++ p) (written ∙ cut ∙ ap (λ s. take (limit - s) text) (sym n))
    ∙ within limit (take size bytes) text (omega (arith, n, fits))

-- what a text is cut to before more of it comes makes no difference
pub cut : (n : ℕ) (xs ys : List ℕ) → take n (take n xs ++ ys) ≡ take n (xs ++ ys)
cut zero xs ys = refl
cut (suc n) [] ys = refl
cut (suc n) (x ∷ xs) ys = ap (λ zs. x ∷ zs) (cut n xs ys)

-- two more texts
pub with_two : (n : ℕ) (xs a b t0 t1 t2 : List ℕ) → t0 ≡ take n xs → t1 ≡ take n (t0 ++ a) → t2 ≡ take n (t1 ++ b)
    → t2 ≡ take n (xs ++ (a ++ b))
with_two n xs a b t0 t1 t2 first second third =
    third
    ∙ ap (λ t. take n (t ++ b)) second
    ∙ cut n (t0 ++ a) b
    ∙ ap (λ t. take n t) (append_assoc t0 a b)
    ∙ ap (λ t. take n (t ++ (a ++ b))) first
    ∙ cut n xs (a ++ b)
