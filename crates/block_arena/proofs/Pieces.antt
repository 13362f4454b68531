-- A piece is written into a draft's last block.
use Rattle.std.proofs.Common.{◌≡◌, ℕ, zero, suc, ◌+◌, ◌-◌, ◌*◌, ◌%◌, ◌<◌, ◌≤◌, List, [], ◌∷◌, ◌++◌, get_or, length, take, drop, set, refl, ap, sym, ◌∙◌, arith}
use Rattle.std.proofs.Common.{append_assoc, append-nil, length-append, length-take}
use Rattle.std.specs.Prelude.{flat_map}
use Rattle.std.proofs.lemmas.List.{get_or-set_same, get_or-set_other}
use Rattle.mail_world.specs.Depot as d
use Rattle.mail_world.specs.Depot.{occurrences}
use Rattle.block_arena.specs.declared.slot.Run.{Run}
use Rattle.block_arena.specs.declared.slot.Content.{Content}
use Rattle.block_arena.specs.declared.slot.Content.TheVariants.{Free, Draft, Sealed, Retired}
use Rattle.block_arena.specs.declared.slot.Slot.{Slot}
use Rattle.block_arena.specs.Fields.{held, slot_of, blocks_in, longer, IsRun}
use Rattle.block_arena.proofs.Chains.{apart}
use Rattle.block_arena.proofs.Frames.{Without}
use Rattle.mail_world.specs.declared.limits.TheConstants.{BLOCK_SIZE}

-- the blocks' bytes, one block after another
abbrev pub flat : List (List ℕ) → List ℕ → List ℕ
flat store bs = flat_map (λ b. get_or store b []) bs

pub flat_keeps : (store : List (List ℕ)) (b : ℕ) (row : List ℕ) (bs : List ℕ) → occurrences b bs ≡ 0 → flat (set store b row) bs ≡ flat store bs
flat_keeps store b row [] h = refl
flat_keeps store b row (x ∷ bs) h =
    let p : ((x ≡ b) → ⊥) × (occurrences b bs ≡ 0) = apart b x bs h in
    ap (λ r. r ++ flat (set store b row) bs) (get_or-set_other store b x row [] p.0) ∙ ap (λ t. get_or store x [] ++ t) (flat_keeps store b row bs p.1)

pub flat_append : (store : List (List ℕ)) (xs ys : List ℕ) → flat store (xs ++ ys) ≡ flat store xs ++ flat store ys
flat_append store [] ys = refl
flat_append store (x ∷ xs) ys =
    ap (λ t. get_or store x [] ++ t) (flat_append store xs ys) ∙ sym (append_assoc (get_or store x []) (flat store xs) (flat store ys))

-- what a slot says of other blocks than the one that is written
pub held_stays : (store : List (List ℕ)) (next : List ℕ) (b : ℕ) (row : List ℕ) (c : Content) → occurrences b (d.blocks_of (held store next c)) ≡ 0
    → held (set store b row) next c ≡ held store next c
held_stays store next b row Free h = refl
held_stays store next b row (Draft run) h = ap (λ bytes. d.Draft (take run.length bytes) (blocks_in next run)) (flat_keeps store b row (blocks_in next run) h)
held_stays store next b row (Sealed run holds) h =
    ap (λ bytes. d.Sealed (take run.length bytes) (blocks_in next run) holds) (flat_keeps store b row (blocks_in next run) h)
held_stays store next b row Retired h = refl

pub slot_stays : (store : List (List ℕ)) (next : List ℕ) (b : ℕ) (row : List ℕ) (slot : Slot) → Without store next b slot
    → slot_of (set store b row) next slot ≡ slot_of store next slot
slot_stays store next b row slot h = ap (λ (x : d.Held). record { generation = slot.generation; held = x }) (held_stays store next b row slot.content h)

-- more bytes in the last block, while they fit there
pub longer_run : (next : List ℕ) (run : Run) (n : ℕ) → IsRun next run → 0 < run.length % BLOCK_SIZE → n ≤ BLOCK_SIZE - run.length % BLOCK_SIZE
    → IsRun next (longer run n)
longer_run next run n is some fits = record { enough = omega (arith, is.enough, some, fits); last = is.last }

-- one more whole block
pub next_run : (blocks n k : ℕ) → blocks ≡ d.blocks_for k → k % BLOCK_SIZE ≡ 0 → 0 < n → n ≤ BLOCK_SIZE → blocks + 1 ≡ d.blocks_for (k + n)
next_run blocks n k e full some fits = omega (arith, e, full, some, fits)

pub full_run : (blocks k : ℕ) → blocks ≡ d.blocks_for k → k % BLOCK_SIZE ≡ 0 → k ≡ BLOCK_SIZE * blocks
full_run blocks k e full = omega (arith, e, full)

pub take_after : (k n : ℕ) (xs ys : List ℕ) → length xs ≡ k → take (k + n) (xs ++ ys) ≡ xs ++ take n ys
take_after k n [] ys e = let same : k + n ≡ n = omega (arith, e) in ap (λ j. take j ys) same
take_after zero n (x ∷ xs) ys e = absurd (omega (arith, e))
take_after (suc k) n (x ∷ xs) ys e =
    let same : suc k + n ≡ suc (k + n) = omega arith in
    ap (λ j. take j (x ∷ xs ++ ys)) same ∙ ap (λ t. x ∷ t) (take_after k n xs ys (omega (arith, e)))

pub take_exact : (k : ℕ) (xs ys : List ℕ) → length xs ≡ k → take k (xs ++ ys) ≡ xs
take_exact zero [] ys e = refl
take_exact zero (x ∷ xs) ys e = absurd (omega (arith, e))
take_exact (suc k) [] ys e = absurd (omega (arith, e))
take_exact (suc k) (x ∷ xs) ys e = ap (λ t. x ∷ t) (take_exact k xs ys (omega (arith, e)))

-- the bytes of a run whose last block gets a piece after those that it has
pub written : (store : List (List ℕ)) (bs : List ℕ) (last m at n len : ℕ) (piece : List ℕ) → occurrences last bs ≡ 0 → last < length store
    → length (flat store bs) ≡ m → length (get_or store last []) ≡ BLOCK_SIZE
    → len ≡ m + at → length piece ≡ n → at + n ≤ BLOCK_SIZE
    → take (len + n) (flat (set store last (take at (get_or store last []) ++ piece ++ drop (at + n) (get_or store last []))) (bs ++ last ∷ []))
    ≡ take len (flat store (bs ++ last ∷ [])) ++ piece
written store bs last m at n len piece apart low size row e long fits =
    let new : List ℕ = take at (get_or store last []) ++ piece ++ drop (at + n) (get_or store last []) in
    let prefix : length (take at (get_or store last []) ++ piece) ≡ at + n =
    omega (arith, length-append (take at (get_or store last [])) piece, length-take at (get_or store last []), row, long, fits) in
    let one : flat (set store last (take at (get_or store last []) ++ piece ++ drop (at + n) (get_or store last []))) (bs ++ last ∷ []) ≡ flat store bs
    ++ (take at (get_or store last []) ++ piece ++ drop (at + n) (get_or store last [])) =
    flat_append (set store last (take at (get_or store last []) ++ piece ++ drop (at + n) (get_or store last []))) bs (last ∷ [])
    ∙ ap (λ t. t ++ flat (set store last (take at (get_or store last []) ++ piece ++ drop (at + n) (get_or store last []))) (last ∷ []))
    (flat_keeps store last (take at (get_or store last []) ++ piece ++ drop (at + n) (get_or store last [])) bs apart)
    ∙ ap (λ t. flat store bs ++ t)
    (append-nil (get_or (set store last (take at (get_or store last []) ++ piece ++ drop (at + n) (get_or store last []))) last [])
    ∙ get_or-set_same store last (take at (get_or store last []) ++ piece ++ drop (at + n) (get_or store last [])) [] low) in
    let old : flat store (bs ++ last ∷ []) ≡ flat store bs ++ get_or store last [] =
    flat_append store bs (last ∷ []) ∙ ap (λ t. flat store bs ++ t) (append-nil (get_or store last [])) in
    let sum : len + n ≡ m + (at + n) = omega (arith, e) in
    ap (take (len + n)) one
    ∙ ap (λ j. take j (flat store bs ++ (take at (get_or store last []) ++ piece ++ drop (at + n) (get_or store last [])))) sum
    ∙ take_after m (at + n) (flat store bs) (take at (get_or store last []) ++ piece ++ drop (at + n) (get_or store last [])) size
    ∙ ap (λ t. flat store bs ++ t) (take_exact (at + n) (take at (get_or store last []) ++ piece) (drop (at + n) (get_or store last [])) prefix)
    ∙ sym (append_assoc (flat store bs) (take at (get_or store last [])) piece)
    ∙ ap (λ t. t ++ piece) (sym (take_after m at (flat store bs) (get_or store last []) size) ∙ ap (λ j. take j (flat store bs ++ get_or store last [])) (sym e)
    ∙ ap (take len) (sym old))
