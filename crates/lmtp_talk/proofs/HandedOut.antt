-- What waits in a buffer, lent in parts.
use Rattle.std.proofs.Common.{ℕ, ◌+◌, ◌-◌, ◌≤◌, ◌≡◌, List, ◌++◌, take, drop, ap, ◌∙◌, arith}
use Rattle.std.specs.Prelude.{length, Result, Ok, Err, IfOk}
use Rattle.std.specs.Io.{ReadsAtMost}
use Rattle.std.proofs.Math.Seq.{take-add}
use Rattle.std.proofs.lemmas.List.{drop-drop}

-- the first n bytes of what waits, and the rest
pub waiting_parts : (bytes : List ℕ) (start end n : ℕ) → n ≤ end - start
    → take (end - start) (drop start bytes) ≡ take (start + n - start) (drop start bytes) ++ take (end - (start + n)) (drop (start + n) bytes)
waiting_parts bytes start end n within =
    let size : end - start ≡ n + (end - (start + n)) = omega (arith, within) in
    let first : n ≡ start + n - start = omega arith in
    ap (λ m. take m (drop start bytes)) size ∙ take-add n (end - (start + n)) (drop start bytes)
    ∙ ap (λ xs. take n (drop start bytes) ++ take (end - (start + n)) xs) (drop-drop n start bytes)
    ∙ ap (λ m. take m (drop start bytes) ++ take (end - (start + n)) (drop (start + n) bytes)) first

-- a read into so many bytes brings no more
pub read_within : {E : Type 0} (result : Result ℕ E) (bytes : List ℕ) (limit : ℕ) → length bytes ≡ limit → ReadsAtMost result bytes → IfOk result (λ n. n ≤ limit)
read_within (Ok n) bytes limit e h = omega (arith, e, h)
read_within (Err _) bytes limit e h = h
