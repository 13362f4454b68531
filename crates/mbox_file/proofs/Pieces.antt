-- A piece that is read of bytes.
use Rattle.std.proofs.Common.{◌≡◌, ◌∙◌, ℕ, ◌+◌, ◌-◌, ◌<◌, ◌≤◌, List, [], ◌++◌, length, take, drop, min, ap, sym, arith, length-append}
use Rattle.std.proofs.lemmas.List.{take-append-le, take-append-drop, drop-drop, drop_min, length-drop, length-take, nil_from_length, take_all, take_rest}

module _ (bytes held buffer copied : List ℕ) (r from size : ℕ) (same : held ≡ bytes) (place : from ≡ min r (length bytes))
    (piece : size ≡ min (length (take (length held - from) (drop from held))) (length buffer))
    (is : copied ≡ take size (take (length held - from) (drop from held))) where
  left : take (length held - from) (drop from held) ≡ drop from bytes
  left = take_rest held from ∙ ap (λ (l : List ℕ). drop from l) same

  sized : size ≡ min (length (drop from bytes)) (length buffer)
  sized = piece ∙ ap (λ (l : List ℕ). min (length l) (length buffer)) left

  taken : copied ≡ take size (drop from bytes)
  taken = is ∙ ap (λ (l : List ℕ). take size l) left

  long : length copied ≡ size
  long = let k = length-take size (drop from bytes) in let e = ap length taken in grind (arith, k, e, sized)

  first : take size (copied ++ drop size buffer) ≡ copied
  first = let k : size ≤ length copied = omega (arith, long) in let m : length copied ≤ size = omega (arith, long) in
      take-append-le size copied (drop size buffer) k ∙ take_all size copied m

  rest : drop (from + size) bytes ≡ drop size (drop from bytes)
  rest = sym (drop-drop size from bytes)

  pub piece_whole : drop r bytes ≡ take size (copied ++ drop size buffer) ++ drop (from + size) bytes
  piece_whole =
      sym (drop_min r bytes) ∙ ap (λ (k : ℕ). drop k bytes) (sym place) ∙ sym (take-append-drop size (drop from bytes))
      ∙ ap (λ (l : List ℕ). l ++ drop size (drop from bytes)) (sym (first ∙ taken))
      ∙ ap (λ (l : List ℕ). take size (copied ++ drop size buffer) ++ l) (sym rest)

  pub piece_last : size ≡ 0 → 0 < length (copied ++ drop size buffer) → drop (from + size) bytes ≡ []
  piece_last none some =
      let a = length-append copied (drop size buffer) in
      let b = length-drop size buffer in
      let c = length-drop (from + size) bytes in
      let d = length-drop from bytes in
      nil_from_length (drop (from + size) bytes) (grind (arith, long, a, b, c, d, none, some, sized))
