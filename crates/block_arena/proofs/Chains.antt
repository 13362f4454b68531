-- Chains of blocks: what a changed link does to them, how one is put after another.
use Rattle.std.proofs.Common.{◌≡◌, ℕ, zero, suc, ◌+◌, ◌<◌, ◌≤◌, List, [], ◌∷◌, ◌++◌, Bool, true, false, cond, ◌==◌, get_or, length, set, refl, ap, sym, ◌∙◌}
use Rattle.std.proofs.Common.{arith}
use Rattle.std.proofs.lemmas.List.{get_or-set_same, get_or-set_other}
use Rattle.std.proofs.lemmas.Bool.{eq-eqb}
use Rattle.std.proofs.lemmas.List.Sums.{sum_by-cons}
use Rattle.mail_world.specs.Depot.{occurrences}
use Rattle.mail_world.proofs.Depots.{times-append}
use Rattle.block_arena.specs.Fields.{chain, node}

-- a number that doesn't stand in the list isn't its first
apart_by : (b f n : ℕ) (t : Bool) → (f == b) ≡ t → cond t 1 0 + n ≡ 0 → (f ≡ b → ⊥) × (n ≡ 0)
apart_by b f n true e h = absurd (omega (arith, h))
apart_by b f n false e h = (λ same. let yes' : (f == b) ≡ true = eq-eqb f b same in cc, omega (arith, h))

pub times_cons : (b f : ℕ) (xs : List ℕ) → occurrences b (f ∷ xs) ≡ cond (f == b) 1 0 + occurrences b xs
times_cons b f xs = sum_by-cons (λ y. cond (y == b) 1 0) f xs

pub apart : (b f : ℕ) (xs : List ℕ) → occurrences b (f ∷ xs) ≡ 0 → (f ≡ b → ⊥) × (occurrences b xs ≡ 0)
apart b f xs h = apart_by b f (occurrences b xs) (f == b) refl (sym (times_cons b f xs) ∙ h)

pub chain_keeps : (n : ℕ) (xs : List ℕ) (b v f : ℕ) → occurrences b (chain n xs f) ≡ 0 → chain n (set xs b v) f ≡ chain n xs f
chain_keeps zero xs b v f h = refl
chain_keeps (suc n) xs b v f h =
    let p : (f ≡ b → ⊥) × (occurrences b (chain n xs (get_or xs f 0)) ≡ 0) = apart b f (chain n xs (get_or xs f 0)) h in
    let same : get_or (set xs b v) f 0 ≡ get_or xs f 0 = get_or-set_other xs b f v 0 p.0 in
    ap (λ g. f ∷ chain n (set xs b v) g) same ∙ ap (λ t. f ∷ t) (chain_keeps n xs b v (get_or xs f 0) p.1)

pub node_keeps : (n : ℕ) (xs : List ℕ) (b v f : ℕ) → occurrences b (chain n xs f) ≡ 0 → node n (set xs b v) f ≡ node n xs f
node_keeps zero xs b v f h = refl
node_keeps (suc n) xs b v f h =
    let p : (f ≡ b → ⊥) × (occurrences b (chain n xs (get_or xs f 0)) ≡ 0) = apart b f (chain n xs (get_or xs f 0)) h in
    let same : get_or (set xs b v) f 0 ≡ get_or xs f 0 = get_or-set_other xs b f v 0 p.0 in
    ap (λ g. node n (set xs b v) g) same ∙ node_keeps n xs b v (get_or xs f 0) p.1

pub chain_last : (n : ℕ) (xs : List ℕ) (f : ℕ) → chain (suc n) xs f ≡ chain n xs f ++ node n xs f ∷ []
chain_last zero xs f = refl
chain_last (suc n) xs f = ap (λ t. f ∷ t) (chain_last n xs (get_or xs f 0))

chain_step : (k j : ℕ) (xs : List ℕ) (f : ℕ) → k ≡ suc j → chain k xs f ≡ f ∷ chain j xs (get_or xs f 0)
chain_step k j xs f e = ap (λ n. chain n xs f) e

-- one chain after another, by the link of its last block
pub splice : (n m : ℕ) (xs : List ℕ) (f g b : ℕ) → node n xs f ≡ b → occurrences b (chain n xs f) ≡ 0 → b < length xs → occurrences b (chain m xs g) ≡ 0
    → chain (suc n + m) (set xs b g) f ≡ chain (suc n) xs f ++ chain m xs g
splice zero m xs f g b e h low free =
    let here : get_or (set xs b g) f 0 ≡ g = ap (λ i. get_or (set xs b g) i 0) e ∙ get_or-set_same xs b g 0 low in
    chain_step (suc zero + m) m (set xs b g) f (omega arith) ∙ ap (λ i. f ∷ chain m (set xs b g) i) here ∙ ap (λ t. f ∷ t) (chain_keeps m xs b g g free)
splice (suc n) m xs f g b e h low free =
    let p : (f ≡ b → ⊥) × (occurrences b (chain n xs (get_or xs f 0)) ≡ 0) = apart b f (chain n xs (get_or xs f 0)) h in
    let same : get_or (set xs b g) f 0 ≡ get_or xs f 0 = get_or-set_other xs b f g 0 p.0 in
    chain_step (suc (suc n) + m) (suc n + m) (set xs b g) f (omega arith) ∙ ap (λ i. f ∷ chain (suc n + m) (set xs b g) i) same
    ∙ ap (λ t. f ∷ t) (splice n m xs (get_or xs f 0) g b e p.1 low free)

-- the last block of a spliced chain
pub node_splice : (n : ℕ) (xs : List ℕ) (f g b : ℕ) → node n xs f ≡ b → occurrences b (chain n xs f) ≡ 0 → b < length xs → node (suc n) (set xs b g) f ≡ g
node_splice zero xs f g b e h low = ap (λ i. get_or (set xs b g) i 0) e ∙ get_or-set_same xs b g 0 low
node_splice (suc n) xs f g b e h low =
    let p : (f ≡ b → ⊥) × (occurrences b (chain n xs (get_or xs f 0)) ≡ 0) = apart b f (chain n xs (get_or xs f 0)) h in
    let same : get_or (set xs b g) f 0 ≡ get_or xs f 0 = get_or-set_other xs b f g 0 p.0 in
    ap (λ i. node (suc n) (set xs b g) i) same ∙ node_splice n xs (get_or xs f 0) g b e p.1 low

pub chain_length : (n : ℕ) (xs : List ℕ) (f : ℕ) → length (chain n xs f) ≡ n
chain_length zero xs f = refl
chain_length (suc n) xs f = ap (λ k. suc k) (chain_length n xs (get_or xs f 0))

-- what stands in a chain without its last block stands in it
pub times_less : (n : ℕ) (xs : List ℕ) (b f : ℕ) → occurrences b (chain n xs f) ≤ occurrences b (chain (suc n) xs f)
times_less n xs b f =
    let e : occurrences b (chain (suc n) xs f) ≡ occurrences b (chain n xs f ++ node n xs f ∷ []) = ap (occurrences b) (chain_last n xs f) in
    omega (arith, e, times-append b (chain n xs f) (node n xs f ∷ []))
