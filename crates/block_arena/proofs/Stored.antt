-- Blocks that are made, and zeros in the place of the others.
use Rattle.std.proofs.Common.{◌≡◌, ℕ, zero, suc, ◌+◌, ◌-◌, ◌<◌, ◌≤◌, List, [], ◌∷◌, ◌++◌, get_or, length, replicate, set, refl, ap, sym, ◌∙◌, arith}
use Rattle.std.proofs.Common.{length-append, length-set, append_assoc}
use Rattle.block_arena.specs.Rows.{zeros, padded, with_piece}

length_same : {A : Type 0} (n : ℕ) (x : A) → length (replicate n x) ≡ n
length_same zero x = refl
length_same (suc n) x = ap (λ k. suc k) (length_same n x)

same_more : {A : Type 0} (n m : ℕ) (x : A) → replicate n x ++ replicate m x ≡ replicate (n + m) x
same_more zero m x = let e : m ≡ zero + m = omega arith in ap (λ k. replicate k x) e
same_more (suc n) m x = ap (λ t. x ∷ t) (same_more n m x) ∙ ap (λ k. replicate k x) (let e : suc (n + m) ≡ suc n + m = omega arith in e)

pub length_padded : (made : List (List ℕ)) (count : ℕ) → length made ≤ count → length (padded made count) ≡ count
length_padded made count low = omega (arith, low, length-append made (replicate (count - length made) zeros), length_same (count - length made) zeros)

-- a block is made: all blocks are as they were
pub padded_made : (made : List (List ℕ)) (count n : ℕ) → n ≤ count → length made ≤ count
    → padded (made ++ replicate (n - length made) zeros) count ≡ padded made count
padded_made made count n fits low =
    let size : length (made ++ replicate (n - length made) zeros) ≡ length made + (n - length made) =
    omega (arith, length-append made (replicate (n - length made) zeros), length_same (n - length made) zeros) in
    let rest : count - length (made ++ replicate (n - length made) zeros) ≡ count - (length made + (n - length made)) = ap (λ k. count - k) size in
    let all : (n - length made) + (count - (length made + (n - length made))) ≡ count - length made = omega (arith, fits, low) in
    ap (λ k. (made ++ replicate (n - length made) zeros) ++ replicate k zeros) rest
    ∙ append_assoc made (replicate (n - length made) zeros) (replicate (count - (length made + (n - length made))) zeros)
    ∙ ap (λ t. made ++ t) (same_more (n - length made) (count - (length made + (n - length made))) zeros ∙ ap (λ k. replicate k zeros) all)

pub get_prefix : {A : Type 0} (xs ys : List A) (k : ℕ) (e : A) → k < length xs → get_or (xs ++ ys) k e ≡ get_or xs k e
get_prefix [] ys k e h = absurd (omega (arith, h))
get_prefix (x ∷ xs) ys zero e h = refl
get_prefix (x ∷ xs) ys (suc k) e h = get_prefix xs ys k e (omega (arith, h))

pub set_prefix : {A : Type 0} (xs ys : List A) (k : ℕ) (v : A) → k < length xs → set (xs ++ ys) k v ≡ set xs k v ++ ys
set_prefix [] ys k v h = absurd (omega (arith, h))
set_prefix (x ∷ xs) ys zero v h = refl
set_prefix (x ∷ xs) ys (suc k) v h = ap (λ t. x ∷ t) (set_prefix xs ys k v (omega (arith, h)))

-- how far the making is: the blocks before that one are made
pub record IsMaking (old : List (List ℕ)) (room count : ℕ) (made : List (List ℕ)) (len capacity block : ℕ) : Type 0 where
  pub is : len ≡ block
  pub same : capacity ≡ room
  pub within : block - length old ≤ count - length old
  pub items : made ≡ old ++ replicate (block - length old) zeros
  pub begun : length old ≤ block

pub making_on : (old : List (List ℕ)) (room count : ℕ) (made made' : List (List ℕ)) (len len' capacity capacity' block : ℕ) (row : List ℕ)
    → IsMaking old room count made len capacity block → block < count
    → made' ≡ made ++ row ∷ [] → len' ≡ len + 1 → capacity' ≡ capacity → row ≡ zeros → IsMaking old room count made' len' capacity' (block + 1)
making_on old room count made made' len len' capacity capacity' block row m more items one kept zero_row =
    let next : (block + 1) - length old ≡ (block - length old) + 1 = omega (arith, m.begun) in
    record {
      is = omega (arith, m.is, one);
      same = kept ∙ m.same;
      within = omega (arith, m.begun, more);
      items = items ∙ ap (λ r. made ++ r ∷ []) zero_row ∙ ap (λ xs. xs ++ zeros ∷ []) m.items
          ∙ append_assoc old (replicate (block - length old) zeros) (zeros ∷ [])
          ∙ ap (λ xs. old ++ xs) (same_more (block - length old) 1 zeros ∙ ap (λ k. replicate k zeros) (sym next));
      begun = omega (arith, m.begun);
    }

get_any : {A : Type 0} (xs : List A) (i : ℕ) (a b : A) → i < length xs → get_or xs i a ≡ get_or xs i b
get_any [] i a b h = absurd (omega (arith, h))
get_any (x ∷ xs) zero a b h = refl
get_any (x ∷ xs) (suc i) a b h = get_any xs i a b (omega (arith, h))

-- a block is made and written
pub filled : (made made' all : List (List ℕ)) (count block at : ℕ) (piece old row other : List ℕ) → padded made count ≡ all
    → made' ≡ made ++ replicate ((block + 1) - length made) zeros → length made ≤ count → block < length all
    → old ≡ get_or made' block other → row ≡ with_piece old at piece
    → padded (set made' block row) count ≡ set all block (with_piece (get_or all block []) at piece)
filled made made' all count block at piece old row other view e low inside was is =
    let size : length all ≡ count = ap length (sym view) ∙ length_padded made count low in
    let long : length made' ≡ length (made ++ replicate ((block + 1) - length made) zeros) = ap length e in
    let there : block < length made' =
    omega (arith, long, length-append made (replicate ((block + 1) - length made) zeros), length_same ((block + 1) - length made) zeros) in
    let same : padded made' count ≡ all = ap (λ m. padded m count) e ∙ padded_made made count (block + 1) (omega (arith, inside, size)) low ∙ view in
    let here : old ≡ get_or all block [] =
    was ∙ get_any made' block other [] there ∙ sym (get_prefix made' (replicate (count - length made') zeros) block [] there)
    ∙ ap (λ xs. get_or xs block []) same in
    ap (λ k. set made' block row ++ replicate (count - k) zeros) (length-set made' block row)
    ∙ sym (set_prefix made' (replicate (count - length made') zeros) block row there)
    ∙ ap (λ xs. set xs block row) same
    ∙ ap (set all block) (is ∙ ap (λ r. with_piece r at piece) here)
