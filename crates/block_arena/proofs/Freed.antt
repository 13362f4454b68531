-- A slot's blocks go to the free ones, by one link.
use Rattle.std.proofs.Common.{◌≡◌, ℕ, suc, length-set, ◌+◌, ◌-◌, ◌<◌, ◌≤◌, List, [], ◌∷◌, ◌++◌, Bool, true, false, cond, ◌==◌, Some, length, set, map, refl, ap}
use Rattle.std.proofs.Common.{sym, ◌∙◌, subst, arith}
use Rattle.std.specs.Prelude.{slice_get, slice_set, nat_lt}
use Rattle.std.specs.List.{AllByRecursion}
use Rattle.std.proofs.lemmas.Bool.{eq-eqb, ltb-true}
use Rattle.mail_world.specs.Depot as d
use Rattle.mail_world.specs.Depot.{occurrences}
use Rattle.mail_world.proofs.Depots.{times-append}
use Rattle.block_arena.specs.declared.key.Key.{Key}
use Rattle.block_arena.specs.declared.slot.Run.{Run}
use Rattle.block_arena.specs.declared.slot.Content.{Content}
use Rattle.block_arena.specs.declared.slot.Content.TheVariants.{Free, Draft, Sealed, Retired}
use Rattle.block_arena.specs.declared.slot.Slot.{Slot}
use Rattle.block_arena.specs.Fields.{ArenaFields, chain, node, held, slot_of, depot_of, slot_after, run_of, block_count, IsContent, IsRun, IsArena}
use Rattle.block_arena.specs.Calls.{depot_key, IsInUse, Frees}
use Rattle.block_arena.proofs.Chains.{chain_last, splice}
use Rattle.mail_world.proofs.Heard.{all_set}
use Rattle.mail_world.proofs.Accepted.{each_at}
use Rattle.mail_world.proofs.Holds.{sum_set}
use Rattle.block_arena.proofs.Slots.{slot_at, SlotChange, turned, map_set, get_within}
use Rattle.block_arena.proofs.Seen.{Sees, under, stands, run_times}
use Rattle.block_arena.proofs.Stamps.{stamped_on, goes_past}
use Rattle.block_arena.proofs.Frames.{Without, none_else, map_kept, all_kept, slot_keeps, content_keeps, others_stay}
use Rattle.mail_world.specs.declared.limits.TheConstants.{BLOCK_LIMIT}

-- a slot in use, and its run
pub record Owns (store : List (List ℕ)) (next : List ℕ) (content : Content) (run : Run) : Type 0 where
  pub filled : (content ≡ Free) → ⊥
  pub blocks : d.blocks_of (held store next content) ≡ chain run.blocks next run.first
  pub count : block_count content ≡ run.blocks
  pub is : IsContent next content → IsRun next run

pub owns : (store : List (List ℕ)) (next : List ℕ) (content : Content) → IsInUse (held store next content) → Owns store next content (run_of content)
owns store next Free h = absurd h
owns store next (Draft run) h = record { filled = λ e. cc; blocks = refl; count = refl; is = λ x. x }
owns store next (Sealed run holds) h = record { filled = λ e. cc; blocks = refl; count = refl; is = λ x. x }
owns store next Retired h = absurd h

-- the slot's content in an arena, whichever it is
pub in_use : (key : Key) (depot : d.Depot) (a : ArenaFields) (content : Content)
    → Sees key depot a content → IsInUse (d.held_under depot (depot_key key)) → Owns a.store a.next content (run_of content)
in_use key depot a content s h = owns a.store a.next content (subst (λ (x : d.Held). IsInUse x) (under key depot a content s) h)

after_content : (t : Bool) (next : List ℕ) (g k : ℕ) → IsContent next ((cond t (slot_at g Free) (slot_at k Retired)).content)
after_content true next g k = tt
after_content false next g k = tt

after_blocks : (t : Bool) (store : List (List ℕ)) (next : List ℕ) (g k : ℕ)
    → d.blocks_of (held store next ((cond t (slot_at g Free) (slot_at k Retired)).content)) ≡ []
after_blocks true store next g k = refl
after_blocks false store next g k = refl

count_after : (t : Bool) (g k : ℕ) → block_count ((cond t (slot_at g Free) (slot_at k Retired)).content) ≡ 0
count_after true g k = refl
count_after false g k = refl

after_generation : (t : Bool) (g : ℕ) → nat_lt g d.last_generation ≡ t → g ≤ d.last_generation
    → (cond t (slot_at (g + 1) Free) (slot_at g Retired)).generation ≤ d.last_generation
after_generation true g e h = let low : g < d.last_generation = ltb-true g d.last_generation e in omega (arith, low)
after_generation false g e h = h

abbrev depot_with : List d.Slot → List ℕ → d.Depot
depot_with slots free = record { slots = slots; free = free }

after_as : (t : Bool) (store : List (List ℕ)) (next : List ℕ) (slots : List d.Slot) (i g : ℕ) (free : List ℕ)
    → depot_with (slice_set slots i (slot_of store next (cond t (slot_at (g + 1) Free) (slot_at g Retired)))) free
    ≡ cond t (depot_with (slice_set slots i (record { generation = g + 1; held = d.Free })) free)
    (depot_with (slice_set slots i (record { generation = g; held = d.Retired })) free)
after_as true store next slots i g free = refl
after_as false store next slots i g free = refl

-- a slot without blocks
pub empty_turn : (key : Key) (depot : d.Depot) (a : ArenaFields) (content : Content) (run : Run)
    → Sees key depot a content → Owns a.store a.next content run → run.blocks ≡ 0
    → SlotChange a key.slot (slot_at key.generation content) (slot_after key.generation)
    (record a { slots = slice_set a.slots key.slot (slot_after key.generation) })
empty_turn key depot a content run s o none =
    let was : slice_get a.slots key.slot ≡ Some (slot_at key.generation content) = stands key depot a content s o.filled in
    record {
      arena = s.arena;
      was = was;
      slots = refl;
      sizes = s.arena.sizes;
      blocks_stay = refl;
      next_stay = refl;
      stamps_stay = refl;
      stamped = stamped_on a.next a.next a.slots a.stamps key.slot (slot_at key.generation content) (slot_after key.generation) s.arena.stamped was
          (λ j x apart at index block h. h) (goes_past (nat_lt key.generation d.last_generation) a.next a.next key.generation content);
      generation = after_generation (nat_lt key.generation d.last_generation) key.generation refl
          (each_at (λ (slot : Slot). slot.generation ≤ d.last_generation) a.slots key.slot (slot_at key.generation content) s.arena.generations was);
      count = omega (arith, count_after (nat_lt key.generation d.last_generation) (key.generation + 1) key.generation, o.count, none);
      others = map_set (slot_of a.store a.next) a.slots key.slot (slot_after key.generation);
      runs = all_set (λ (slot : Slot). IsContent a.next slot.content) a.slots key.slot (slot_after key.generation) s.arena.runs
          (after_content (nat_lt key.generation d.last_generation) a.next (key.generation + 1) key.generation);
      split = λ x. ap (λ bs. occurrences x (chain a.free_count a.next a.free) + occurrences x bs)
          (after_blocks (nat_lt key.generation d.last_generation) a.store a.next (key.generation + 1) key.generation
          ∙ sym (ap (λ k. chain k a.next run.first) none) ∙ sym o.blocks);
    }

-- what holds of the last block of a run
pub record IsLastFreed (next : List ℕ) (free free_count n first last : ℕ) : Type 0 where
  pub is : node n next first ≡ last
  pub once : occurrences last (chain n next first) ≡ 0
  pub low : last < length next
  pub apart : occurrences last (chain free_count next free) ≡ 0
  pub there : occurrences last (chain (suc n) next first) ≡ 1

one_of : (t : Bool) (m f : ℕ) → m + 1 + f ≤ cond t 1 0 → (m ≡ 0) × (f ≡ 0) × (t ≡ true)
one_of true m f h = (omega (arith, h), omega (arith, h), refl)
one_of false m f h = absurd (omega (arith, h))

one_self : (x : ℕ) (t : Bool) → (x == x) ≡ t → 0 + cond t 1 0 ≡ 1
one_self x true e = refl
one_self x false e = let yes' : (x == x) ≡ true = eq-eqb x x refl in cc

last_times : (n : ℕ) (next : List ℕ) (first last : ℕ) → node n next first ≡ last
    → occurrences last (chain (suc n) next first) ≡ occurrences last (chain n next first) + 1
last_times n next first last e =
    ap (occurrences last) (chain_last n next first) ∙ times-append last (chain n next first) (node n next first ∷ [])
    ∙ ap (λ b. occurrences last (chain n next first) + occurrences last (b ∷ [])) e
    ∙ ap (λ k. occurrences last (chain n next first) + k) (one_self last (last == last) refl)

pub last_of : (next : List ℕ) (free free_count n first last : ℕ) → node n next first ≡ last
    → occurrences last (chain free_count next free) + occurrences last (chain (suc n) next first) ≤ cond (nat_lt last (length next)) 1 0
    → IsLastFreed next free free_count n first last
last_of next free free_count n first last is within =
    let count : occurrences last (chain (suc n) next first) ≡ occurrences last (chain n next first) + 1 = last_times n next first last is in
    let p : (occurrences last (chain n next first) ≡ 0) × (occurrences last (chain free_count next free) ≡ 0) × (nat_lt last (length next) ≡ true) =
    one_of (nat_lt last (length next)) (occurrences last (chain n next first)) (occurrences last (chain free_count next free))
    (omega (arith, within, count)) in
    record {
      is = is;
      once = p.0;
      low = ltb-true last (length next) p.2;
      apart = p.1;
      there = (let here : occurrences last (chain n next first) ≡ 0 = p.0 in omega (arith, count, here));
    }

-- the blocks of a run go to the head of the free ones
splice_free : (next : List ℕ) (free free_count : ℕ) (run : Run) → IsLastFreed next free free_count (run.blocks - 1) run.first run.last → 0 < run.blocks
    → chain (free_count + run.blocks) (set next run.last free) run.first ≡ chain run.blocks next run.first ++ chain free_count next free
splice_free next free free_count run l some =
    let one : suc (run.blocks - 1) ≡ run.blocks = omega (arith, some) in
    let all : suc (run.blocks - 1) + free_count ≡ free_count + run.blocks = omega (arith, some) in
    ap (λ k. chain k (set next run.last free) run.first) (sym all) ∙ splice (run.blocks - 1) free_count next run.first free run.last l.is l.once l.low l.apart
    ∙ ap (λ k. chain k next run.first ++ chain free_count next free) one

pub last_in : (key : Key) (depot : d.Depot) (a : ArenaFields) (content : Content) (run : Run)
    → Sees key depot a content → Owns a.store a.next content run → 0 < run.blocks → IsLastFreed a.next a.free a.free_count (run.blocks - 1) run.first run.last
last_in key depot a content run s o some =
    let was : slice_get a.slots key.slot ≡ Some (slot_at key.generation content) = stands key depot a content s o.filled in
    let is : IsRun a.next run = o.is
    (each_at (λ (slot : Slot). IsContent a.next slot.content) a.slots key.slot (slot_at key.generation content) s.arena.runs was) in
    let one : suc (run.blocks - 1) ≡ run.blocks = omega (arith, some) in
    let same : occurrences run.last (d.blocks_of (held a.store a.next content)) ≡ occurrences run.last (chain (suc (run.blocks - 1)) a.next run.first) =
    ap (occurrences run.last) o.blocks ∙ ap (λ k. occurrences run.last (chain k a.next run.first)) (sym one) in
    last_of a.next a.free a.free_count (run.blocks - 1) run.first run.last (is.last some)
    (omega (arith, same, run_times a key.slot (slot_at key.generation content) s.arena was run.last))

pub freed_turn : (key : Key) (depot : d.Depot) (a : ArenaFields) (content : Content) (run : Run)
    → Sees key depot a content → Owns a.store a.next content run → 0 < run.blocks
    → SlotChange a key.slot (slot_at key.generation content) (slot_after key.generation)
    (record a {
      next = set a.next run.last a.free;
      slots = slice_set a.slots key.slot (slot_after key.generation);
      free = run.first;
      free_count = a.free_count + run.blocks;
    })
freed_turn key depot a content run s o some =
    let was : slice_get a.slots key.slot ≡ Some (slot_at key.generation content) = stands key depot a content s o.filled in
    let l : IsLastFreed a.next a.free a.free_count (run.blocks - 1) run.first run.last = last_in key depot a content run s o some in
    let one : suc (run.blocks - 1) ≡ run.blocks = omega (arith, some) in
    let there : occurrences run.last (d.blocks_of (held a.store a.next content)) ≡ 1 =
    ap (occurrences run.last) o.blocks ∙ ap (λ k. occurrences run.last (chain k a.next run.first)) (sym one) ∙ l.there in
    let else' : AllByRecursion (Without a.store a.next run.last) (slice_set a.slots key.slot (slot_at 0 Free)) =
    none_else a key.slot (slot_at key.generation content) run.last s.arena was (omega (arith, there)) in
    record {
      arena = s.arena;
      was = was;
      slots = refl;
      sizes = s.arena.sizes;
      blocks_stay = refl;
      next_stay = length-set a.next run.last a.free;
      stamps_stay = refl;
      stamped = stamped_on a.next (set a.next run.last a.free) a.slots a.stamps key.slot (slot_at key.generation content) (slot_after key.generation)
          s.arena.stamped was (others_stay a.store a.next a.slots key.slot run.last a.free (slot_at 0 Free) else')
          (goes_past (nat_lt key.generation d.last_generation) a.next (set a.next run.last a.free) key.generation content);
      generation = after_generation (nat_lt key.generation d.last_generation) key.generation refl
          (each_at (λ (slot : Slot). slot.generation ≤ d.last_generation) a.slots key.slot (slot_at key.generation content) s.arena.generations was);
      count = omega (arith, count_after (nat_lt key.generation d.last_generation) (key.generation + 1) key.generation, o.count);
      others = map_kept (slot_of a.store a.next) (slot_of a.store (set a.next run.last a.free)) (Without a.store a.next run.last) a.slots key.slot
          (slot_after key.generation) (slot_at 0 Free) else' (slot_keeps a.store a.next run.last a.free);
      runs = all_kept (Without a.store a.next run.last) (λ (slot : Slot). IsContent a.next slot.content)
          (λ (slot : Slot). IsContent (set a.next run.last a.free) slot.content) a.slots key.slot (slot_after key.generation) (slot_at 0 Free) else'
          s.arena.runs
          (λ (x : Slot) without is. content_keeps a.store a.next run.last a.free x.content without is)
          (after_content (nat_lt key.generation d.last_generation) (set a.next run.last a.free) (key.generation + 1) key.generation);
      split = λ x.
          ap (λ bs. occurrences x (chain (a.free_count + run.blocks) (set a.next run.last a.free) run.first) + occurrences x bs)
          (after_blocks (nat_lt key.generation d.last_generation) a.store (set a.next run.last a.free) (key.generation + 1) key.generation)
          ∙ split_by x (chain (a.free_count + run.blocks) (set a.next run.last a.free) run.first) (chain run.blocks a.next run.first)
          (chain a.free_count a.next a.free) (d.blocks_of (held a.store a.next content)) (splice_free a.next a.free a.free_count run l some) o.blocks;
    } where
      split_by : (x : ℕ) (new these those held : List ℕ) → new ≡ these ++ those → held ≡ these
          → occurrences x new + 0 ≡ occurrences x those + occurrences x held
      split_by x new these those held e h =
          let a : occurrences x new ≡ occurrences x (these ++ those) = ap (occurrences x) e in
          let b : occurrences x held ≡ occurrences x these = ap (occurrences x) h in
          omega (arith, a, b, times-append x these those)

-- what a turn of the slot past its generation frees
pub frees : (key : Key) (depot : d.Depot) (a : ArenaFields) (content : Content) (a' : ArenaFields)
    → Sees key depot a content
    → SlotChange a key.slot (slot_at key.generation content) (slot_after key.generation) a'
    → Frees depot (depot_key key) (depot_of a')
frees key depot a content a' s t = record {
  free = chain a'.free_count a'.next a'.free;
  given = λ x.
      let split : occurrences x (chain a'.free_count a'.next a'.free)
      + occurrences x (d.blocks_of (held a'.store a'.next ((slot_after key.generation).content))) ≡ occurrences x (chain a.free_count a.next a.free)
      + occurrences x (d.blocks_of (held a.store a.next content)) = t.split x in
      let none : occurrences x (d.blocks_of (held a'.store a'.next ((slot_after key.generation).content))) ≡ 0 =
      ap (occurrences x) (after_blocks (nat_lt key.generation d.last_generation) a'.store a'.next (key.generation + 1) key.generation) in
      let here : occurrences x (d.blocks_of (d.held_under depot (depot_key key))) ≡ occurrences x (d.blocks_of (held a.store a.next content)) =
      ap (λ h. occurrences x (d.blocks_of h)) (under key depot a content s) in
      let spare : occurrences x depot.free ≡ occurrences x (chain a.free_count a.next a.free) = ap (λ (e : d.Depot). occurrences x e.free) (sym s.view) in
      omega (arith, split, none, here, spare);
  after =
      ap (λ (ss : List d.Slot). depot_with ss (chain a'.free_count a'.next a'.free)) t.others
      ∙ after_as (nat_lt key.generation d.last_generation) a'.store a'.next (map (slot_of a.store a.next) a.slots) key.slot key.generation
      (chain a'.free_count a'.next a'.free)
      ∙ ap (λ (e : d.Depot). d.given_back e (depot_key key) (chain a'.free_count a'.next a'.free)) s.view;
}

-- no more blocks are free than there are
pub free_within : (a : ArenaFields) (i : ℕ) (s : Slot) → IsArena a → slice_get a.slots i ≡ Some s
    → a.free_count + block_count s.content ≤ length a.next
free_within a i s arena was = omega (arith, arena.total, sum_set (λ (slot : Slot). block_count slot.content) a.slots i s (slot_at 0 Free) was)

-- the same, with the slot as code made it
pub empty_arena : (key : Key) (depot : d.Depot) (a : ArenaFields) (content : Content) (run : Run) (slot : Slot) → Sees key depot a content
    → Owns a.store a.next content run → run.blocks ≡ 0 → slot ≡ slot_after key.generation → IsArena (record a { slots = slice_set a.slots key.slot slot })
empty_arena key depot a content run slot s o none e = subst (λ (x : Slot). IsArena (record a { slots = slice_set a.slots key.slot x })) (sym e)
    (turned a key.slot (slot_at key.generation content) (slot_after key.generation) _ (empty_turn key depot a content run s o none))

pub empty_frees : (key : Key) (depot : d.Depot) (a : ArenaFields) (content : Content) (run : Run) (slot : Slot) → Sees key depot a content
    → Owns a.store a.next content run → run.blocks ≡ 0 → slot ≡ slot_after key.generation
    → Frees depot (depot_key key) (depot_of (record a { slots = slice_set a.slots key.slot slot }))
empty_frees key depot a content run slot s o none e =
    subst (λ (x : Slot). Frees depot (depot_key key) (depot_of (record a { slots = slice_set a.slots key.slot x }))) (sym e)
    (frees key depot a content _ s (empty_turn key depot a content run s o none))

pub freed_arena : (key : Key) (depot : d.Depot) (a : ArenaFields) (content : Content) (run : Run) (slot : Slot) → Sees key depot a content
    → Owns a.store a.next content run → 0 < run.blocks → slot ≡ slot_after key.generation
    → IsArena (record a {
      next = set a.next run.last a.free;
      slots = slice_set a.slots key.slot slot;
      free = run.first;
      free_count = a.free_count + run.blocks;
    })
freed_arena key depot a content run slot s o some e =
    subst (λ (x : Slot). IsArena (record
    a { next = set a.next run.last a.free; slots = slice_set a.slots key.slot x; free = run.first; free_count = a.free_count + run.blocks })) (sym e)
    (turned a key.slot (slot_at key.generation content) (slot_after key.generation) _ (freed_turn key depot a content run s o some))

pub freed_frees : (key : Key) (depot : d.Depot) (a : ArenaFields) (content : Content) (run : Run) (slot : Slot) → Sees key depot a content
    → Owns a.store a.next content run → 0 < run.blocks → slot ≡ slot_after key.generation
    → Frees depot (depot_key key) (depot_of
    (record a { next = set a.next run.last a.free; slots = slice_set a.slots key.slot slot; free = run.first; free_count = a.free_count + run.blocks }))
freed_frees key depot a content run slot s o some e =
    subst (λ (x : Slot). Frees depot (depot_key key)
    (depot_of (record a { next = set a.next run.last a.free; slots = slice_set a.slots key.slot x; free = run.first; free_count = a.free_count + run.blocks })))
    (sym e)
    (frees key depot a content _ s (freed_turn key depot a content run s o some))

pub slot_within : (key : Key) (depot : d.Depot) (a : ArenaFields) (content : Content) (run : Run)
    → Sees key depot a content → Owns a.store a.next content run → key.slot < length a.slots
slot_within key depot a content run s o = get_within a.slots key.slot (slot_at key.generation content) (stands key depot a content s o.filled)

pub generation_within : (key : Key) (depot : d.Depot) (a : ArenaFields) (content : Content) (run : Run)
    → Sees key depot a content → Owns a.store a.next content run → key.generation ≤ d.last_generation
generation_within key depot a content run s o =
    each_at (λ (slot : Slot). slot.generation ≤ d.last_generation) a.slots key.slot (slot_at key.generation content) s.arena.generations
    (stands key depot a content s o.filled)

pub sum_within : (key : Key) (depot : d.Depot) (a : ArenaFields) (content : Content) (run : Run)
    → Sees key depot a content → Owns a.store a.next content run → a.free_count + run.blocks ≤ BLOCK_LIMIT
sum_within key depot a content run s o =
    omega (arith, o.count, s.arena.limit, free_within a key.slot (slot_at key.generation content) s.arena (stands key depot a content s o.filled))
