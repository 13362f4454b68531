-- A place of a run is found from another place of it.
use Rattle.std.proofs.Common.{◌≡◌, ℕ, zero, suc, ◌+◌, ◌-◌, ◌*◌, ◌/◌, ◌<◌, ◌≤◌, List, Bool, true, false, cond, Option, Some, None, get_or, length, refl, ap, sym}
use Rattle.std.proofs.Common.{◌∙◌, subst, arith}
use Rattle.std.specs.Prelude.{slice_get, ◌==◌, ◌&&◌}
use Rattle.std.specs.List.{AllByRecursion}
use Rattle.mail_world.specs.Depot as d
use Rattle.block_arena.specs.declared.key.Key.{Key}
use Rattle.block_arena.specs.declared.slot.Run.{Run}
use Rattle.block_arena.specs.declared.slot.Stamp.{Stamp}
use Rattle.block_arena.specs.declared.bookmark.Bookmark.{Bookmark}
use Rattle.block_arena.specs.declared.slot.Content.TheVariants.{Sealed}
use Rattle.block_arena.specs.Fields.{ArenaFields, chain, node, blocks_in, is_stamp_of, start_of, IsPlace}
use Rattle.std.proofs.lemmas.Bool.{eqb-true}
use Rattle.block_arena.proofs.Slots.{slot_at}
use Rattle.block_arena.proofs.Seen.{Sees, stands}
use Rattle.block_arena.proofs.Freed.{Owns, sum_within}
use Rattle.mail_world.specs.declared.limits.TheConstants.{BLOCK_SIZE, BLOCK_LIMIT}

node_add : (i k : ℕ) (next : List ℕ) (first : ℕ) → node (i + k) next first ≡ node k next (node i next first)
node_add zero k next first = let same : 0 + k ≡ k = omega arith in ap (λ n. node n next first) same
node_add (suc i) k next first =
    let same : suc i + k ≡ suc (i + k) = omega arith in
    ap (λ n. node n next first) same ∙ node_add i k next (get_or next first 0)

chain_first : (P : ℕ → Type 0) (k m : ℕ) (next : List ℕ) (first : ℕ) → AllByRecursion P (chain m next first) → k ≤ m → AllByRecursion P (chain k next first)
chain_first P zero m next first low h = tt
chain_first P (suc k) zero next first low h = absurd (omega (arith, h))
chain_first P (suc k) (suc m) next first low h = (low.0, chain_first P k m next (get_or next first 0) low.1 (omega (arith, h)))

chain_part : (P : ℕ → Type 0) (i k m : ℕ) (next : List ℕ) (first : ℕ) → AllByRecursion P (chain m next first) → i + k ≤ m
    → AllByRecursion P (chain k next (node i next first))
chain_part P zero k m next first low h = chain_first P k m next first low (omega (arith, h))
chain_part P (suc i) k zero next first low h = absurd (omega (arith, h))
chain_part P (suc i) k (suc m) next first low h = chain_part P i k m next (get_or next first 0) low.1 (omega (arith, h))

pub prefix_low : (next : List ℕ) (run : Run) (n : ℕ) → AllByRecursion (λ b. b < length next) (blocks_in next run) → n ≤ run.blocks
    → AllByRecursion (λ b. b < length next) (chain n next run.first)
prefix_low next run n low h = chain_first (λ b. b < length next) n run.blocks next run.first low h

pub part_low : (next : List ℕ) (run : Run) (from : Bookmark) (n : ℕ) → AllByRecursion (λ b. b < length next) (blocks_in next run) → IsPlace next run from
    → from.index ≤ n → n ≤ run.blocks → AllByRecursion (λ b. b < length next) (chain (n - from.index) next from.block)
part_low next run from n low p h within =
    subst (λ b. AllByRecursion (λ x. x < length next) (chain (n - from.index) next b)) p.is
    (chain_part (λ x. x < length next) from.index (n - from.index) run.blocks next run.first low (omega (arith, h, within)))

pub from_place : (next : List ℕ) (run : Run) (from : Bookmark) (n block : ℕ) → IsPlace next run from → from.index ≤ n → n ≤ run.blocks
    → block ≡ node (n - from.index) next from.block → IsPlace next run (record { index = n; block = block })
from_place next run from n block p h within e =
    let sum : n ≡ from.index + (n - from.index) = omega (arith, h) in
    record {
      is = ap (λ k. node k next run.first) sum ∙ node_add from.index (n - from.index) next run.first ∙ ap (λ b. node (n - from.index) next b) p.is ∙ sym e;
      within = within;
    }

-- the block at a byte
pub block_there : (next : List ℕ) (run : Run) (from : Bookmark) (at : ℕ) → IsPlace next run from → from.index ≡ at → from.block ≡ node at next run.first
block_there next run from at p e = sym p.is ∙ ap (λ i. node i next run.first) e

-- a bookmark that a stamp bears out is a place of the message
both : (x y : Bool) → (x && y) ≡ true → (x ≡ true) × (y ≡ true)
both true true e = (refl, refl)
both true false e = cc
both false y e = cc

first_place : (next : List ℕ) (run : Run) → IsPlace next run (record { index = 0; block = run.first })
first_place next run = record { is = refl; within = omega arith }

borne_out : (key : Key) (depot : d.Depot) (a : ArenaFields) (run : Run) (holds : ℕ) (mark : Bookmark) (stamp : Stamp) → Sees key depot a (Sealed run holds)
    → slice_get a.stamps mark.block ≡ Some stamp → is_stamp_of stamp key mark.index ≡ true
    → IsPlace a.next run mark
borne_out key depot a run holds mark stamp s at e =
    let p : ((stamp.slot == key.slot && stamp.generation == key.generation) ≡ true) × ((stamp.index == mark.index) ≡ true) =
    both (stamp.slot == key.slot && stamp.generation == key.generation) (stamp.index == mark.index) e in
    let q : ((stamp.slot == key.slot) ≡ true) × ((stamp.generation == key.generation) ≡ true) =
    both (stamp.slot == key.slot) (stamp.generation == key.generation) p.0 in
    let index : stamp.index ≡ mark.index = eqb-true stamp.index mark.index p.1 in
    let named : slice_get a.slots stamp.slot ≡ Some (slot_at key.generation (Sealed run holds)) =
    ap (slice_get a.slots) (eqb-true stamp.slot key.slot q.0) ∙ stands key depot a (Sealed run holds) s (λ e. cc) in
    let there : (stamp.index < run.blocks) × (node stamp.index a.next run.first ≡ mark.block) =
    (s.arena.stamped mark.block stamp (slot_at key.generation (Sealed run holds)) at named).here (eqb-true stamp.generation key.generation q.1) in
    let low : stamp.index < run.blocks = there.0 in
    record {
      is = ap (λ i. node i a.next run.first) (sym index) ∙ there.1;
      within = omega (arith, low, index);
    }

start_if : (t : Bool) (next : List ℕ) (run : Run) (mark : Bookmark) → (t ≡ true → IsPlace next run mark)
    → IsPlace next run (cond t mark (record { index = 0; block = run.first }))
start_if true next run mark h = h refl
start_if false next run mark h = first_place next run

start_by : (o : Option Stamp) (key : Key) (depot : d.Depot) (a : ArenaFields) (run : Run) (holds : ℕ) (mark : Bookmark) → Sees key depot a (Sealed run holds)
    → slice_get a.stamps mark.block ≡ o → IsPlace a.next run (start_of o key run mark)
start_by None key depot a run holds mark s at = first_place a.next run
start_by (Some stamp) key depot a run holds mark s at =
    start_if (is_stamp_of stamp key mark.index) a.next run mark (borne_out key depot a run holds mark stamp s at)

pub start_is : (key : Key) (depot : d.Depot) (a : ArenaFields) (run : Run) (holds : ℕ) (stamps : List Stamp) (mark result : Bookmark)
    → Sees key depot a (Sealed run holds) → stamps ≡ a.stamps → result ≡ start_of (slice_get stamps mark.block) key run mark
    → IsPlace a.next run result
start_is key depot a run holds stamps mark result s same e =
    let P : Bookmark → Type 0 = λ place. IsPlace a.next run place in
    subst P (sym (e ∙ ap (λ (xs : List Stamp). start_of (slice_get xs mark.block) key run mark) same))
    (start_by (slice_get a.stamps mark.block) key depot a run holds mark s refl)

pub block_at_byte : (run : Run) (at : ℕ) → run.length ≤ BLOCK_SIZE * run.blocks → at < run.length → at / BLOCK_SIZE < run.blocks
block_at_byte run at e h = omega (arith, e, h)

pub message_owns : (store : List (List ℕ)) (next : List ℕ) (run : Run) (holds : ℕ) → Owns store next (Sealed run holds) run
message_owns store next run holds = record { filled = λ e. cc; blocks = refl; count = refl; is = λ x. x }

pub message_few : (key : Key) (depot : d.Depot) (a : ArenaFields) (run : Run) (holds : ℕ) → Sees key depot a (Sealed run holds) → run.blocks ≤ BLOCK_LIMIT
message_few key depot a run holds s = omega (arith, sum_within key depot a (Sealed run holds) run s (message_owns a.store a.next run holds))
