-- Calls that move no block: a slot says something else of its blocks.
use Rattle.std.proofs.Common.{◌≡◌, ℕ, zero, suc, ◌+◌, List, [], ◌∷◌, Bool, true, false, cond, Some, refl, ap, ◌∙◌, subst, arith}
use Rattle.std.specs.Prelude.{slice_get, slice_set, ◌==◌}
use Rattle.std.proofs.lemmas.Bool.{eq-eqb}
use Rattle.mail_world.specs.Depot as d
use Rattle.mail_world.proofs.Depots.{set_at}
use Rattle.block_arena.specs.declared.key.Key.{Key}
use Rattle.block_arena.specs.declared.slot.Run.{Run}
use Rattle.block_arena.specs.declared.slot.Content.{Content}
use Rattle.block_arena.specs.declared.slot.Content.TheVariants.{Draft, Sealed}
use Rattle.block_arena.specs.declared.slot.Slot.{Slot}
use Rattle.block_arena.specs.Fields.{ArenaFields, held, slot_of, depot_of, blocks_in, bytes_in, IsContent, IsArena}
use Rattle.block_arena.specs.Calls.{depot_key, ReleasesAll}
use Rattle.mail_world.proofs.Accepted.{each_at}
use Rattle.block_arena.proofs.Slots.{slot_at, relabelled, map_set}
use Rattle.block_arena.proofs.Seen.{Sees, under, stands}

-- the depot after such a call
pub held_after : (key : Key) (depot : d.Depot) (a : ArenaFields) (old content : Content) → Sees key depot a old
    → depot_of (record a { slots = slice_set a.slots key.slot (slot_at key.generation content) })
    ≡ d.with_held depot (depot_key key) (held a.store a.next content) depot.free
held_after key depot a old content s =
    ap (λ (ss : List d.Slot). record { slots = ss; free = (depot_of a).free })
    (map_set (slot_of a.store a.next) a.slots key.slot (slot_at key.generation content))
    ∙ ap (λ (e : d.Depot). d.with_held e (depot_key key) (held a.store a.next content) e.free) s.view

pub sealed_arena : (key : Key) (depot : d.Depot) (a : ArenaFields) (run : Run) (n : ℕ) → Sees key depot a (Draft run)
    → IsArena (record a { slots = slice_set a.slots key.slot (slot_at key.generation (Sealed run n)) })
sealed_arena key depot a run n s =
    let was : slice_get a.slots key.slot ≡ Some (slot_at key.generation (Draft run)) = stands key depot a (Draft run) s (λ e. cc) in
    relabelled a key.slot key.generation (Draft run) (Sealed run n) s.arena was
    (each_at (λ (slot : Slot). IsContent a.next slot.content) a.slots key.slot (slot_at key.generation (Draft run)) s.arena.runs was) refl refl
    (λ index block h. h)

pub seals : (key : Key) (depot : d.Depot) (a : ArenaFields) (run : Run) (n : ℕ) → Sees key depot a (Draft run)
    → d.Seals depot (depot_key key) n (depot_of (record a { slots = slice_set a.slots key.slot (slot_at key.generation (Sealed run n)) }))
seals key depot a run n s = record {
  bytes = bytes_in a.store a.next run;
  blocks = blocks_in a.next run;
  draft = under key depot a (Draft run) s;
  after = held_after key depot a (Draft run) (Sealed run n) s;
}

pub lighter_arena : (key : Key) (depot : d.Depot) (a : ArenaFields) (run : Run) (holds n : ℕ) → Sees key depot a (Sealed run holds)
    → IsArena (record a { slots = slice_set a.slots key.slot (slot_at key.generation (Sealed run n)) })
lighter_arena key depot a run holds n s =
    let was : slice_get a.slots key.slot ≡ Some (slot_at key.generation (Sealed run holds)) = stands key depot a (Sealed run holds) s (λ e. cc) in
    relabelled a key.slot key.generation (Sealed run holds) (Sealed run n) s.arena was
    (each_at (λ (slot : Slot). IsContent a.next slot.content) a.slots key.slot (slot_at key.generation (Sealed run holds)) s.arena.runs was) refl refl
    (λ index block h. h)

abbrev pub depot_slot : ℕ → d.Held → d.Slot
depot_slot generation held = record { generation = generation; held = held }

-- in the depot alone: holds go one after another
pub set_same : {A : Type 0} (xs : List A) (i : ℕ) (x : A) → slice_get xs i ≡ Some x → slice_set xs i x ≡ xs
set_same [] i x e = refl
set_same (y ∷ xs) zero x e = let same : x ≡ y = cc in ap (λ z. z ∷ xs) same
set_same (y ∷ xs) (suc i) x e = ap (λ t. y ∷ t) (set_same xs i x e)

pub set_twice : {A : Type 0} (xs : List A) (i : ℕ) (x y : A) → slice_set (slice_set xs i x) i y ≡ slice_set xs i y
set_twice [] i x y = refl
set_twice (z ∷ xs) zero x y = refl
set_twice (z ∷ xs) (suc i) x y = ap (λ t. z ∷ t) (set_twice xs i x y)

held_if_so : (t : Bool) (h : d.Held) → t ≡ true → cond t h d.Free ≡ h
held_if_so true h e = refl
held_if_so false h e = cc

pub held_there : (depot : d.Depot) (key : d.Key) (held : d.Held) → slice_get depot.slots key.slot ≡ Some (record { generation = key.generation; held = held })
    → d.held_under depot key ≡ held
held_there depot key held e = ap (d.held_at key) e ∙ held_if_so (key.generation == key.generation) held (eq-eqb key.generation key.generation refl)

pub releases : (k w : ℕ) (depot : d.Depot) (key : d.Key) (bytes blocks : List ℕ)
    → slice_get depot.slots key.slot ≡ Some (record { generation = key.generation; held = d.Sealed bytes blocks (w + k) })
    → ReleasesAll k depot key (d.with_held depot key (d.Sealed bytes blocks w) depot.free)
releases zero w depot key bytes blocks was =
    let same : w + zero ≡ w = omega arith in
    let there : slice_get depot.slots key.slot ≡ Some (record { generation = key.generation; held = d.Sealed bytes blocks w }) =
    was ∙ ap (λ (x : d.Slot). Some x) (ap (λ n. depot_slot key.generation (d.Sealed bytes blocks n)) same) in
    ap (λ (ss : List d.Slot). record { slots = ss; free = depot.free })
    (set_same depot.slots key.slot (record { generation = key.generation; held = d.Sealed bytes blocks w }) there)
releases (suc k) w depot key bytes blocks was =
    let one : w + suc k ≡ (w + k) + 1 = omega arith in
    let between : d.Depot = d.with_held depot key (d.Sealed bytes blocks (w + k)) depot.free in
    let there : slice_get (slice_set depot.slots key.slot (record { generation = key.generation; held = d.Sealed bytes blocks (w + k) })) key.slot
    ≡ Some (record { generation = key.generation; held = d.Sealed bytes blocks (w + k) }) =
    set_at depot.slots key.slot (record { generation = key.generation; held = d.Sealed bytes blocks (w + k) })
    (record { generation = key.generation; held = d.Sealed bytes blocks (w + suc k) }) was in
    let rest : ReleasesAll k (d.with_held depot key (d.Sealed bytes blocks (w + k)) depot.free) key
    (d.with_held (d.with_held depot key (d.Sealed bytes blocks (w + k)) depot.free) key (d.Sealed bytes blocks w) depot.free) =
    releases k w (d.with_held depot key (d.Sealed bytes blocks (w + k)) depot.free) key bytes blocks there in (
      d.with_held depot key (d.Sealed bytes blocks (w + k)) depot.free,
      record {
        bytes = bytes;
        blocks = blocks;
        weight = w + k;
        message = held_there depot key (d.Sealed bytes blocks (w + suc k)) was ∙ ap (d.Sealed bytes blocks) one;
        after = refl;
      },
      subst (λ (ss : List d.Slot). ReleasesAll k (d.with_held depot key (d.Sealed bytes blocks (w + k)) depot.free) key
          (record { slots = ss; free = depot.free }))
          (set_twice depot.slots key.slot (record { generation = key.generation; held = d.Sealed bytes blocks (w + k) })
          (record { generation = key.generation; held = d.Sealed bytes blocks w })) rest,
    )
