-- An arena of free blocks and free slots.
use Rattle.std.proofs.Common.{◌≡◌, ℕ, zero, suc, ◌+◌, ◌<◌, ◌≤◌, List, [], ◌∷◌, ◌++◌, Bool, true, false, cond, ◌==◌, Some, get_or, length, map, replicate, refl}
use Rattle.std.proofs.Common.{ap, sym, ◌∙◌, arith}
use Rattle.std.specs.Prelude.{slice_get, flat_map, sum_by, nat_lt}
use Rattle.std.specs.List.{AllByRecursion}
use Rattle.std.proofs.lemmas.Bool.{eqb-true, eq-eqb, lt-ltb, le-ltb}
use Rattle.std.proofs.lemmas.List.Sums.{sum_by-cons}
use Rattle.mail_world.specs.Depot as d
use Rattle.mail_world.specs.Depot.{occurrences}
use Rattle.mail_world.specs.declared.limits.TheConstants.{BLOCK_SIZE, BLOCK_LIMIT, SLOT_LIMIT}
use Rattle.mail_world.proofs.Depots.{times-append}
use Rattle.block_arena.specs.declared.slot.Content.TheVariants.{Free}
use Rattle.block_arena.specs.declared.slot.Slot.{Slot}
use Rattle.block_arena.specs.declared.slot.Stamp.{Stamp}
use Rattle.block_arena.specs.declared.slot.TheConstants.{UNUSED}
use Rattle.block_arena.specs.Fields.{links, chain, slot_of, depot_of, IsContent, block_count, IsArena}
use Rattle.block_arena.proofs.Chains.{times_cons}
use Rattle.block_arena.proofs.Slots.{slot_at, get_within}

links_some : (n first last : ℕ) → first + n ≡ last → links first (n + 1) ≡ links first n ++ last ∷ []
links_some zero first last e = let same : first ≡ last = omega (arith, e) in ap (λ k. k ∷ []) same
links_some (suc n) first last e =
    ap (λ k. links first k) (let h : suc n + 1 ≡ suc (n + 1) = omega arith in h) ∙ ap (λ t. first ∷ t) (links_some n (first + 1) last (omega (arith, e)))

pub links_next : (n : ℕ) → links 1 (n + 1) ≡ links 1 n ++ (n + 1) ∷ []
links_next n = links_some n 1 (n + 1) (omega arith)

pub same_next : {A : Type 0} (n : ℕ) (x : A) → replicate (n + 1) x ≡ replicate n x ++ x ∷ []
same_next zero x = refl
same_next (suc n) x = ap (λ k. replicate k x) (let h : suc n + 1 ≡ suc (n + 1) = omega arith in h) ∙ ap (λ t. x ∷ t) (same_next n x)

pub length_links : (n first : ℕ) → length (links first n) ≡ n
length_links zero first = refl
length_links (suc n) first = ap (λ k. suc k) (length_links n (first + 1))

get_links : (m first k v : ℕ) → k < m → first + k ≡ v → get_or (links first m) k 0 ≡ v
get_links zero first k v h e = absurd (omega (arith, h))
get_links (suc m) first zero v h e = omega (arith, e)
get_links (suc m) first (suc k) v h e = get_links m (first + 1) k v (omega (arith, h)) (omega (arith, e))

pub chain_links : (n m k : ℕ) → k + n ≤ m → chain n (links 1 m) k ≡ links k n
chain_links zero m k h = refl
chain_links (suc n) m k h =
    ap (λ g. k ∷ chain n (links 1 m) g) (get_links m 1 k (k + 1) (omega (arith, h)) (omega arith))
    ∙ ap (λ t. k ∷ t) (chain_links n m (k + 1) (omega (arith, h)))

below_by : (x k n : ℕ) (xs : List ℕ) (t : Bool) → x < k → occurrences x xs ≡ 0 → (k == x) ≡ t → occurrences x (k ∷ xs) ≡ 0
below_by x k n xs true h rest e = let same : k ≡ x = eqb-true k x e in absurd (omega (arith, same, h))
below_by x k n xs false h rest e =
    times_cons x k xs ∙ ap (λ b. cond b 1 0 + occurrences x xs) e ∙ (let sum : 0 + occurrences x xs ≡ 0 = omega (arith, rest) in sum)

times_below : (x k n : ℕ) → x < k → occurrences x (links k n) ≡ 0
times_below x k zero h = refl
times_below x k (suc n) h = below_by x k n (links (k + 1) n) (k == x) h (times_below x (k + 1) n (omega (arith, h))) refl

from_by : (x k n end : ℕ) (t : Bool) → k ≤ x → k + suc n ≡ end → (k + 1 ≤ x → occurrences x (links (k + 1) n) ≡ cond (nat_lt x end) 1 0) → (k == x) ≡ t
    → occurrences x (links k (suc n)) ≡ cond (nat_lt x end) 1 0
from_by x k n end true h e rest e' =
    let same : k ≡ x = eqb-true k x e' in
    let on : nat_lt x end ≡ true = lt-ltb x end (omega (arith, same, e)) in
    let none : occurrences x (links (k + 1) n) ≡ 0 = times_below x (k + 1) n (omega (arith, same)) in
    times_cons x k (links (k + 1) n) ∙ ap (λ b. cond b 1 0 + occurrences x (links (k + 1) n)) e'
    ∙ (let one : 1 + occurrences x (links (k + 1) n) ≡ 1 = omega (arith, none) in one) ∙ sym (ap (λ b. cond b 1 0) on)
from_by x k n end false h e rest e' =
    let other : (k ≡ x) → ⊥ = λ same. (let yes' : (k == x) ≡ true = eq-eqb k x same in cc) in
    let later : occurrences x (links (k + 1) n) ≡ cond (nat_lt x end) 1 0 = rest (omega (arith, h, other)) in
    times_cons x k (links (k + 1) n) ∙ ap (λ b. cond b 1 0 + occurrences x (links (k + 1) n)) e'
    ∙ (let drop0 : 0 + occurrences x (links (k + 1) n) ≡ occurrences x (links (k + 1) n) = omega arith in drop0) ∙ later

times_from : (x k n end : ℕ) → k ≤ x → k + n ≡ end → occurrences x (links k n) ≡ cond (nat_lt x end) 1 0
times_from x k zero end h e =
    let off : nat_lt x end ≡ false = le-ltb x end (omega (arith, h, e)) in
    sym (ap (λ b. cond b 1 0) off)
times_from x k (suc n) end h e = from_by x k n end (k == x) h e (λ up. times_from x (k + 1) n end up (omega (arith, e))) refl

all_same : {A : Type 0} (P : A → Type 0) (n : ℕ) (x : A) → P x → AllByRecursion P (replicate n x)
all_same P zero x p = tt
all_same P (suc n) x p = (p, all_same P n x p)

none_counted : (n g : ℕ) → sum_by (λ (slot : Slot). block_count slot.content) (replicate n (slot_at g Free)) ≡ 0
none_counted zero g = refl
none_counted (suc n) g = sum_by-cons (λ (slot : Slot). block_count slot.content) (slot_at g Free) (replicate n (slot_at g Free))
    ∙ (let h : sum_by (λ (slot : Slot). block_count slot.content) (replicate n (slot_at g Free)) ≡ 0 = none_counted n g in omega (arith, h))

none_used : (store : List (List ℕ)) (next : List ℕ) (n g : ℕ)
    → flat_map (λ (slot : d.Slot). d.blocks_of slot.held) (map (slot_of store next) (replicate n (slot_at g Free))) ≡ []
none_used store next zero g = refl
none_used store next (suc n) g = none_used store next n g

pub slots_seen : (store : List (List ℕ)) (next : List ℕ) (n g : ℕ)
    → map (slot_of store next) (replicate n (slot_at g Free)) ≡ replicate n (record { generation = g; held = d.Free })
slots_seen store next zero g = refl
slots_seen store next (suc n) g = ap (λ t. record { generation = g; held = d.Free } ∷ t) (slots_seen store next n g)

length_same : {A : Type 0} (n : ℕ) (x : A) → length (replicate n x) ≡ n
length_same zero x = refl
length_same (suc n) x = ap (λ k. suc k) (length_same n x)

pub once_made : (store : List (List ℕ)) (stamps : List Stamp) (blocks n g : ℕ)
    → d.HasEachBlockOnce blocks (depot_of
    (record { store = store; next = links 1 blocks; stamps = stamps; slots = replicate n (slot_at g Free); free = 0; free_count = blocks }))
once_made store stamps blocks n g x =
    let none : flat_map (λ (slot : d.Slot). d.blocks_of slot.held) (map (slot_of store (links 1 blocks)) (replicate n (slot_at g Free))) ≡ [] =
    none_used store (links 1 blocks) n g in
    let free : chain blocks (links 1 blocks) 0 ≡ links 0 blocks = chain_links blocks blocks 0 (omega arith) in
    times-append x (chain blocks (links 1 blocks) 0)
    (flat_map (λ (slot : d.Slot). d.blocks_of slot.held) (map (slot_of store (links 1 blocks)) (replicate n (slot_at g Free))))
    ∙ ap (λ t. occurrences x (chain blocks (links 1 blocks) 0) + occurrences x t) none
    ∙ (let plain : occurrences x (chain blocks (links 1 blocks) 0) + 0 ≡ occurrences x (chain blocks (links 1 blocks) 0) = omega arith in plain)
    ∙ ap (occurrences x) free
    ∙ times_from x 0 blocks blocks (omega arith) (omega arith)

get_same : {A : Type 0} (n : ℕ) (x : A) (k : ℕ) (e : A) → k < length (replicate n x) → get_or (replicate n x) k e ≡ x
get_same zero x k e h = absurd (omega (arith, h))
get_same (suc n) x zero e h = refl
get_same (suc n) x (suc k) e h = get_same n x k e (omega (arith, h))

get_replicate : {A : Type 0} (n : ℕ) (x : A) (k : ℕ) (y : A) → slice_get (replicate n x) k ≡ Some y → x ≡ y
get_replicate zero x k y e = cc
get_replicate (suc n) x zero y e = cc
get_replicate (suc n) x (suc k) y e = get_replicate n x k y e

pub made : (blocks n g : ℕ) (row : List ℕ) → length row ≡ BLOCK_SIZE → blocks ≤ BLOCK_LIMIT → n ≤ SLOT_LIMIT → g ≤ d.last_generation
    → IsArena (record {
      store = replicate blocks row;
      next = links 1 blocks;
      stamps = replicate blocks UNUSED;
      slots = replicate n (slot_at g Free);
      free = 0;
      free_count = blocks;
    })
made blocks n g row size few few_slots generation = record {
  sizes = λ k e h. ap length (get_same blocks row k e h) ∙ size;
  count = length_same blocks row ∙ sym (length_links blocks 1);
  limit = omega (arith, length_links blocks 1, few);
  slot_limit = omega (arith, length_same n (slot_at g Free), few_slots);
  runs = all_same (λ (slot : Slot). IsContent (links 1 blocks) slot.content) n (slot_at g Free) tt;
  generations = all_same (λ (slot : Slot). slot.generation ≤ d.last_generation) n (slot_at g Free) generation;
  total = omega (arith, none_counted n g, length_links blocks 1);
  stamp_count = length_same blocks UNUSED ∙ sym (length_links blocks 1);
  stamped = λ block stamp slot at named.
      let same : UNUSED ≡ stamp = get_replicate blocks UNUSED block stamp at in
      let there : stamp.slot < length (replicate n (slot_at g Free)) = get_within (replicate n (slot_at g Free)) stamp.slot slot named in
      let none : SLOT_LIMIT ≡ stamp.slot = ap (λ (s : Stamp). s.slot) same in
      absurd (omega (arith, there, none, few_slots, length_same n (slot_at g Free)));
  once = λ x. once_made (replicate blocks row) (replicate blocks UNUSED) blocks n g x ∙ ap (λ k. cond (nat_lt x k) 1 0) (sym (length_links blocks 1));
}

pub made_as : (blocks n g : ℕ) (row : List ℕ) (store : List (List ℕ)) (next : List ℕ) (stamps : List Stamp) (slots : List Slot) → length row ≡ BLOCK_SIZE
    → blocks ≤ BLOCK_LIMIT → n ≤ SLOT_LIMIT → g ≤ d.last_generation
    → store ≡ replicate blocks row → next ≡ links 1 blocks → stamps ≡ replicate blocks UNUSED → slots ≡ replicate n (slot_at g Free)
    → IsArena (record { store = store; next = next; stamps = stamps; slots = slots; free = 0; free_count = blocks })
made_as blocks n g row store next stamps slots size few few_slots generation e1 e2 e3 e4 =
    rw (e1, e2, e3, e4) (made blocks n g row size few few_slots generation)

pub made_slots : (n g : ℕ) (store : List (List ℕ)) (next : List ℕ) (slots : List Slot) → slots ≡ replicate n (slot_at g Free)
    → map (slot_of store next) slots ≡ replicate n (record { generation = g; held = d.Free })
made_slots n g store next slots e = rw e (slots_seen store next n g)

pub made_once : (blocks n g : ℕ) (store : List (List ℕ)) (next : List ℕ) (stamps : List Stamp) (slots : List Slot) → next ≡ links 1 blocks
    → slots ≡ replicate n (slot_at g Free)
    → d.HasEachBlockOnce blocks (depot_of (record { store = store; next = next; stamps = stamps; slots = slots; free = 0; free_count = blocks }))
made_once blocks n g store next stamps slots e2 e3 = rw (e2, e3) (once_made store stamps blocks n g)

pub row_size : length {A = ℕ} (replicate BLOCK_SIZE 0) ≡ BLOCK_SIZE
row_size = length_same {A = ℕ} BLOCK_SIZE 0
