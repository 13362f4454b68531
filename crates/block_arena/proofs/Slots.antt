-- One slot of the arena changes, and the blocks that it gains or loses.
use Rattle.std.proofs.Common.{◌≡◌, ℕ, zero, suc, ◌+◌, ◌<◌, ◌≤◌, List, [], ◌∷◌, ◌++◌, Bool, true, false, cond, ◌==◌, Option, Some, None, length, map, refl, ap}
use Rattle.std.proofs.Common.{sym, ◌∙◌, subst, arith}
use Rattle.std.specs.Prelude.{slice_get, slice_set, flat_map, sum_by, nat_lt}
use Rattle.std.specs.List.{All, AllByRecursion}
use Rattle.std.proofs.lemmas.Bool.{eqb-true}
use Rattle.mail_world.specs.Depot as d
use Rattle.mail_world.specs.Depot.{occurrences}
use Rattle.mail_world.specs.declared.limits.TheConstants.{BLOCK_SIZE}
use Rattle.mail_world.proofs.Accepted.{each_at}
use Rattle.mail_world.proofs.Heard.{all_set}
use Rattle.mail_world.proofs.Holds.{sum_set}
use Rattle.mail_world.proofs.LastSeal.{length_set}
use Rattle.mail_world.proofs.Depots.{set_at, times-append, total_set}
use Rattle.block_arena.specs.declared.slot.Content.{Content}
use Rattle.block_arena.specs.declared.slot.Content.TheVariants.{Free}
use Rattle.block_arena.specs.declared.slot.Slot.{Slot}
use Rattle.block_arena.specs.Fields.{ArenaFields, content_at, chain, held, slot_of, IsContent, block_count, AreStamped, IsArena}
use Rattle.block_arena.proofs.Stamps.{Stays, stamped_on, goes_on}

pub get_map : {A B : Type 0} (f : A → B) (xs : List A) (i : ℕ) (x : A) → slice_get xs i ≡ Some x → slice_get (map f xs) i ≡ Some (f x)
get_map f [] i x e = cc
get_map f (y ∷ xs) zero x e = let same : y ≡ x = cc in ap (λ z. Some (f z)) same
get_map f (y ∷ xs) (suc i) x e = get_map f xs i x e

pub get_within : {A : Type 0} (xs : List A) (i : ℕ) (x : A) → slice_get xs i ≡ Some x → i < length xs
get_within [] i x e = cc
get_within (y ∷ xs) zero x e = omega arith
get_within (y ∷ xs) (suc i) x e = let h : i < length xs = get_within xs i x e in omega (arith, h)

pub map_set : {A B : Type 0} (f : A → B) (xs : List A) (i : ℕ) (x : A) → map f (slice_set xs i x) ≡ slice_set (map f xs) i (f x)
map_set f [] i x = refl
map_set f (y ∷ xs) zero x = refl
map_set f (y ∷ xs) (suc i) x = ap (λ t. f y ∷ t) (map_set f xs i x)

-- what is not free under a generation lies in the slot
found_if : (g k : ℕ) (t : Bool) (c content : Content) → (g == k) ≡ t → cond t c Free ≡ content → ((content ≡ Free) → ⊥) → (g ≡ k) × (c ≡ content)
found_if g k true c content e is filled = (eqb-true g k e, is)
found_if g k false c content e is filled = absurd (filled (sym is))

abbrev pub slot_at : ℕ → Content → Slot
slot_at g c = record { generation = g; content = c }

same_slot : (g k : ℕ) (c content : Content) → g ≡ k → c ≡ content → slot_at g c ≡ slot_at k content
same_slot g k c content e h = ap (λ n. slot_at n c) e ∙ ap (slot_at k) h

pub found : (o : Option Slot) (g : ℕ) (content : Content) → content_at o g ≡ content → ((content ≡ Free) → ⊥)
    → o ≡ Some (record { generation = g; content = content })
found None g content e filled = absurd (filled (sym e))
found (Some slot) g content e filled =
    let p : (slot.generation ≡ g) × (slot.content ≡ content) = found_if slot.generation g (slot.generation == g) slot.content content refl e filled in
    ap (λ (x : Slot). Some x) (same_slot slot.generation g slot.content content p.0 p.1)

-- what a step of one slot owes for the arena to stand after it
pub record SlotChange (a : ArenaFields) (i : ℕ) (old s : Slot) (a' : ArenaFields) : Type 0 where
  pub arena : IsArena a
  pub was : slice_get a.slots i ≡ Some old
  pub slots : a'.slots ≡ slice_set a.slots i s
  pub sizes : All (λ (bytes : List ℕ). length bytes ≡ BLOCK_SIZE) a'.store
  pub blocks_stay : length a'.store ≡ length a.store
  pub next_stay : length a'.next ≡ length a.next
  pub stamps_stay : length a'.stamps ≡ length a.stamps
  pub stamped : AreStamped a'.next a'.slots a'.stamps
  pub generation : s.generation ≤ d.last_generation
  pub count : a'.free_count + block_count s.content ≡ a.free_count + block_count old.content
  pub others : map (slot_of a'.store a'.next) a'.slots ≡ slice_set (map (slot_of a.store a.next) a.slots) i (slot_of a'.store a'.next s)
  pub runs : AllByRecursion (λ (slot : Slot). IsContent a'.next slot.content) a'.slots
  pub split : (x : ℕ) → occurrences x (chain a'.free_count a'.next a'.free) + occurrences x (d.blocks_of (held a'.store a'.next s.content))
      ≡ occurrences x (chain a.free_count a.next a.free) + occurrences x (d.blocks_of (held a.store a.next old.content))

pub turned : (a : ArenaFields) (i : ℕ) (old s : Slot) (a' : ArenaFields)
    → SlotChange a i old s a' → IsArena a'
turned a i old s a' t = record {
  sizes = t.sizes;
  count = t.blocks_stay ∙ t.arena.count ∙ sym t.next_stay;
  limit = omega (arith, t.next_stay, t.arena.limit);
  slot_limit = omega (arith, size, t.arena.slot_limit);
  runs = t.runs;
  generations = subst (λ ss. AllByRecursion (λ (slot : Slot). slot.generation ≤ d.last_generation) ss) (sym t.slots)
      (all_set (λ (slot : Slot). slot.generation ≤ d.last_generation) a.slots i s t.arena.generations t.generation);
  total = omega (arith, t.count, t.arena.total, t.next_stay, sum, sum_set (λ (slot : Slot). block_count slot.content) a.slots i old s t.was);
  once = λ x. once_by x;
  stamp_count = t.stamps_stay ∙ t.arena.stamp_count ∙ sym t.next_stay;
  stamped = t.stamped;
} where
  sum : sum_by (λ (slot : Slot). block_count slot.content) a'.slots ≡ sum_by (λ (slot : Slot). block_count slot.content) (slice_set a.slots i s)
  sum = ap (λ ss. sum_by (λ (slot : Slot). block_count slot.content) ss) t.slots

  size : length a'.slots ≡ length a.slots
  size = ap length t.slots ∙ length_set a.slots i s

  in_use : List d.Slot → List ℕ
  in_use ss = flat_map (λ (slot : d.Slot). d.blocks_of slot.held) ss

  once_by : (x : ℕ) → occurrences x
      (chain a'.free_count a'.next a'.free ++ flat_map (λ (slot : d.Slot). d.blocks_of slot.held) (map (slot_of a'.store a'.next) a'.slots))
      ≡ cond (nat_lt x (length a'.next)) 1 0
  once_by x =
      let used : occurrences x (flat_map (λ (slot : d.Slot). d.blocks_of slot.held) (map (slot_of a'.store a'.next) a'.slots))
      ≡ occurrences x (flat_map (λ (slot : d.Slot). d.blocks_of slot.held)
      (slice_set (map (slot_of a.store a.next) a.slots) i (slot_of a'.store a'.next s))) = ap
      (λ ss. occurrences x (flat_map (λ (slot : d.Slot). d.blocks_of slot.held) ss)) t.others in
      let total : occurrences x (flat_map (λ (slot : d.Slot). d.blocks_of slot.held)
      (slice_set (map (slot_of a.store a.next) a.slots) i (slot_of a'.store a'.next s))) + occurrences x (d.blocks_of (held a.store a.next old.content))
      ≡ occurrences x (flat_map (λ (slot : d.Slot). d.blocks_of slot.held) (map (slot_of a.store a.next) a.slots))
      + occurrences x (d.blocks_of (held a'.store a'.next s.content)) =
      total_set (λ y. cond (y == x) 1 0) (λ (slot : d.Slot). d.blocks_of slot.held) (map (slot_of a.store a.next) a.slots) i (slot_of a.store a.next old)
      (slot_of a'.store a'.next s) (get_map (slot_of a.store a.next) a.slots i old t.was) in
      let split : occurrences x (chain a'.free_count a'.next a'.free) + occurrences x (d.blocks_of (held a'.store a'.next s.content))
      ≡ occurrences x (chain a.free_count a.next a.free) + occurrences x (d.blocks_of (held a.store a.next old.content)) = t.split x in
      let moved : occurrences x (chain a'.free_count a'.next a'.free
      ++ flat_map (λ (slot : d.Slot). d.blocks_of slot.held) (map (slot_of a'.store a'.next) a'.slots))
      ≡ occurrences x (chain a.free_count a.next a.free ++ flat_map (λ (slot : d.Slot). d.blocks_of slot.held) (map (slot_of a.store a.next) a.slots)) =
      omega (
        arith,
        split,
        total,
        used,
        times-append x (chain a'.free_count a'.next a'.free) (flat_map (λ (slot : d.Slot). d.blocks_of slot.held) (map (slot_of a'.store a'.next) a'.slots)),
        times-append x (chain a.free_count a.next a.free) (flat_map (λ (slot : d.Slot). d.blocks_of slot.held) (map (slot_of a.store a.next) a.slots)),
      ) in
      moved ∙ t.arena.once x ∙ ap (λ n. cond (nat_lt x n) 1 0) (sym t.next_stay)

-- the slot after the step
pub turned_at : (a : ArenaFields) (i : ℕ) (old s : Slot) (a' : ArenaFields) → SlotChange a i old s a' → slice_get a'.slots i ≡ Some s
turned_at a i old s a' t = ap (λ ss. slice_get ss i) t.slots ∙ set_at a.slots i s old t.was

-- a slot changes what it says of its blocks, and no block moves
pub relabelled : (a : ArenaFields) (i g : ℕ) (old new : Content) → IsArena a → slice_get a.slots i ≡ Some (slot_at g old)
    → IsContent a.next new → block_count new ≡ block_count old → d.blocks_of (held a.store a.next new) ≡ d.blocks_of (held a.store a.next old)
    → Stays a.next old a.next new
    → IsArena (record a { slots = slice_set a.slots i (slot_at g new) })
relabelled a i g old new arena was content count same stays =
    turned a i (slot_at g old) (slot_at g new) (record a { slots = slice_set a.slots i (slot_at g new) }) (record {
      arena = arena;
      was = was;
      slots = refl;
      sizes = arena.sizes;
      blocks_stay = refl;
      next_stay = refl;
      stamps_stay = refl;
      stamped = stamped_on a.next a.next a.slots a.stamps i (slot_at g old) (slot_at g new) arena.stamped was (λ j x apart at index block h. h)
          (goes_on a.next a.next g old new stays);
      generation = each_at (λ (slot : Slot). slot.generation ≤ d.last_generation) a.slots i (slot_at g old) arena.generations was;
      count = ap (λ n. a.free_count + n) count;
      others = map_set (slot_of a.store a.next) a.slots i (slot_at g new);
      runs = all_set (λ (slot : Slot). IsContent a.next slot.content) a.slots i (slot_at g new) arena.runs content;
      split = λ x. ap (λ b. occurrences x (chain a.free_count a.next a.free) + occurrences x b) same;
    })
