-- A draft gets a free block, which is written first and linked after its last.
use Rattle.std.proofs.Common.{◌≡◌, ℕ, suc, ◌+◌, ◌-◌, ◌*◌, ◌%◌, ◌<◌, ◌≤◌, ◌≢◌, List, [], ◌∷◌, ◌++◌, Bool, true, false, cond, ◌==◌, Some, get_or, min, take, drop}
use Rattle.std.proofs.Common.{length, set, map, refl, ap, sym, ◌∙◌, subst, arith, length-set, length-append, length-take, length-drop, append-nil}
use Rattle.std.specs.Prelude.{slice_get, slice_set, flat_map, nat_lt}
use Rattle.std.specs.List.{AllByRecursion}
use Rattle.std.proofs.lemmas.Bool.{eqb-true, eqb-false}
use Rattle.std.proofs.lemmas.List.Elements.{All-set}
use Rattle.mail_world.specs.Depot as d
use Rattle.mail_world.specs.Depot.{occurrences}
use Rattle.mail_world.specs.declared.limits.TheConstants.{BLOCK_SIZE}
use Rattle.mail_world.proofs.Depots.{times-append, set_at}
use Rattle.block_arena.specs.declared.key.Key.{Key}
use Rattle.block_arena.specs.declared.slot.Run.{Run}
use Rattle.block_arena.specs.declared.slot.Content.{Content}
use Rattle.block_arena.specs.declared.slot.Content.TheVariants.{Free, Draft}
use Rattle.block_arena.specs.declared.slot.Slot.{Slot}
use Rattle.block_arena.specs.Fields.{ArenaFields, chain, node, bytes_in, slot_of, depot_of, longer, linked_run, linked_next, stamp_for, IsContent, IsRun}
use Rattle.block_arena.specs.Fields.{IsStamped, AreStamped, IsArena}
use Rattle.block_arena.specs.Calls.{depot_key}
use Rattle.block_arena.proofs.Chains.{times_cons, apart, chain_keeps, node_keeps, chain_length, splice, node_splice}
use Rattle.mail_world.proofs.Heard.{all_set}
use Rattle.mail_world.proofs.Accepted.{each_at}
use Rattle.block_arena.proofs.Stamps.{Stays, stamped_on, stamped_new, goes_on}
use Rattle.block_arena.proofs.Slots.{slot_at, SlotChange, map_set}
use Rattle.block_arena.proofs.Frames.{Without, none_by, none_else, at_most, map_same, map_kept, all_kept, slot_keeps, content_keeps, others_stay, times_part}
use Rattle.block_arena.proofs.Seen.{Sees, stands, run_low, free_low, full_length}
use Rattle.block_arena.proofs.Freed.{IsLastFreed, last_in}
use Rattle.block_arena.proofs.Puts.{Gains, room_to}
use Rattle.block_arena.proofs.Filled.{draft_owns}
use Rattle.block_arena.proofs.Pieces.{flat, flat_append, slot_stays, next_run, full_run, take_after, take_exact}

-- a block is free: the first free one, and those after it
free_first : (next : List ℕ) (free free_count : ℕ) → 1 ≤ free_count → chain free_count next free ≡ free ∷ chain (free_count - 1) next (get_or next free 0)
free_first next free free_count some =
    let one : free_count ≡ suc (free_count - 1) = omega (arith, some) in
    ap (λ k. chain k next free) one

self_in : (b : ℕ) (xs : List ℕ) (t : Bool) → (b == b) ≡ t → 1 ≤ cond t 1 0 + occurrences b xs
self_in b xs true e = omega arith
self_in b xs false e = absurd (eqb-false b b e refl)

free_once : (next : List ℕ) (free free_count : ℕ) → 1 ≤ free_count → 1 ≤ occurrences free (chain free_count next free)
free_once next free free_count some =
    let count : occurrences free (chain free_count next free) ≡ occurrences free (free ∷ chain (free_count - 1) next (get_or next free 0)) =
    ap (occurrences free) (free_first next free free_count some) in
    omega (
      arith,
      count,
      times_cons free free (chain (free_count - 1) next (get_or next free 0)),
      self_in free (chain (free_count - 1) next (get_or next free 0)) (free == free) refl,
    )

free_within : (next : List ℕ) (free free_count : ℕ) → AllByRecursion (λ b. b < length next) (chain free_count next free) → 1 ≤ free_count → free < length next
free_within next free free_count low some = (subst (λ bs. AllByRecursion (λ b. b < length next) bs) (free_first next free free_count some) low).0

-- the first free block is written: the depot stays as it is
spare_others : (a : ArenaFields) (row : List ℕ) → IsArena a → 1 ≤ a.free_count
    → map (slot_of (set a.store a.free row) a.next) a.slots ≡ map (slot_of a.store a.next) a.slots
spare_others a row arena some =
    let once : occurrences a.free (chain a.free_count a.next a.free
    ++ flat_map (λ (slot : d.Slot). d.blocks_of slot.held) (map (slot_of a.store a.next) a.slots))
    ≡ cond (nat_lt a.free (length a.next)) 1 0 = arena.once a.free in
    let none : occurrences a.free (flat_map (λ (slot : d.Slot). d.blocks_of slot.held) (map (slot_of a.store a.next) a.slots)) ≡ 0 =
    omega (
      arith,
      once,
      at_most (nat_lt a.free (length a.next)),
      free_once a.next a.free a.free_count some,
      times-append a.free (chain a.free_count a.next a.free) (flat_map (λ (slot : d.Slot). d.blocks_of slot.held) (map (slot_of a.store a.next) a.slots)),
    ) in
    map_same (slot_of a.store a.next) (slot_of (set a.store a.free row) a.next) (Without a.store a.next a.free) a.slots
    (none_by a.store a.next a.free a.slots none) (slot_stays a.store a.next a.free row)

spare_view : (a : ArenaFields) (row : List ℕ) → IsArena a → 1 ≤ a.free_count
    → depot_of (record a { store = set a.store a.free row }) ≡ depot_of a
spare_view a row arena some = ap (λ (ss : List d.Slot). record { slots = ss; free = chain a.free_count a.next a.free }) (spare_others a row arena some)

pub spare : (key : Key) (depot : d.Depot) (a : ArenaFields) (content : Content) (row : List ℕ)
    → Sees key depot a content → 1 ≤ a.free_count → length row ≡ BLOCK_SIZE → Sees key depot (record a { store = set a.store a.free row }) content
spare key depot a content row s some size =
    let same : depot_of (record a { store = set a.store a.free row }) ≡ depot_of a = spare_view a row s.arena some in
    record {
      arena = record {
        sizes = All-set (λ (bytes : List ℕ). length bytes ≡ BLOCK_SIZE) a.store a.free row size s.arena.sizes;
        count = length-set a.store a.free row ∙ s.arena.count;
        limit = s.arena.limit;
        slot_limit = s.arena.slot_limit;
        runs = s.arena.runs;
        generations = s.arena.generations;
        total = s.arena.total;
        once = subst (λ (e : d.Depot). d.HasEachBlockOnce (length a.next) e) (sym same) s.arena.once;
        stamp_count = s.arena.stamp_count;
        stamped = s.arena.stamped;
      };
      view = same ∙ s.view;
      at = s.at;
    }

-- the first free block stands after a run: by these links, from that first block on
record Links (a : ArenaFields) (i : ℕ) (run : Run) (next' : List ℕ) (first : ℕ) : Type 0 where
  stay : length next' ≡ length a.next
  others : (s : Slot) → map (slot_of a.store next') (slice_set a.slots i s) ≡ slice_set (map (slot_of a.store a.next) a.slots) i (slot_of a.store next' s)
  runs : (s : Slot) → IsContent next' s.content → AllByRecursion (λ (slot : Slot). IsContent next' slot.content) (slice_set a.slots i s)
  rest : chain (a.free_count - 1) next' (get_or a.next a.free 0) ≡ chain (a.free_count - 1) a.next (get_or a.next a.free 0)
  blocks : chain (run.blocks + 1) next' first ≡ chain run.blocks a.next run.first ++ a.free ∷ []
  last : node run.blocks next' first ≡ a.free
  apart : (j : ℕ) (x : Slot) → (j ≢ i) → slice_get a.slots j ≡ Some x → Stays a.next x.content next' x.content
  own : (index : ℕ) → index < run.blocks → node index next' first ≡ node index a.next run.first

links_none : (a : ArenaFields) (i : ℕ) (run : Run) → IsArena a → run.blocks ≡ 0 → Links a i run a.next a.free
links_none a i run arena none = record {
  stay = refl;
  others = map_set (slot_of a.store a.next) a.slots i;
  runs = λ s is. all_set (λ (slot : Slot). IsContent a.next slot.content) a.slots i s arena.runs is;
  rest = refl;
  blocks = ap (λ k. chain (k + 1) a.next a.free) none ∙ sym (ap (λ k. chain k a.next run.first ++ a.free ∷ []) none);
  last = ap (λ k. node k a.next a.free) none;
  apart = λ j x apart at index block h. h;
  own = λ index low. absurd (omega (arith, low, none));
}

links_some : (key : Key) (depot : d.Depot) (a : ArenaFields) (run : Run) → Sees key depot a (Draft run) → 0 < run.blocks → 1 ≤ a.free_count
    → Links a key.slot run (set a.next run.last a.free) run.first
links_some key depot a run s has some =
    let was : slice_get a.slots key.slot ≡ Some (slot_at key.generation (Draft run)) = stands key depot a (Draft run) s (λ e. cc) in
    let l : IsLastFreed a.next a.free a.free_count (run.blocks - 1) run.first run.last =
    last_in key depot a (Draft run) run s (draft_owns a.store a.next run) has in
    let one : suc (run.blocks - 1) ≡ run.blocks = omega (arith, has) in
    let more : suc (run.blocks - 1) + 1 ≡ run.blocks + 1 = omega (arith, has) in
    let there : occurrences run.last (chain run.blocks a.next run.first) ≡ 1 = ap (λ k. occurrences run.last (chain k a.next run.first)) (sym one) ∙ l.there in
    let else' : AllByRecursion (Without a.store a.next run.last) (slice_set a.slots key.slot (slot_at 0 Free)) =
    none_else a key.slot (slot_at key.generation (Draft run)) run.last s.arena was (omega (arith, there)) in
    let p : ((a.free ≡ run.last) → ⊥) × (occurrences run.last (chain (a.free_count - 1) a.next (get_or a.next a.free 0)) ≡ 0) =
    apart run.last a.free (chain (a.free_count - 1) a.next (get_or a.next a.free 0))
    (ap (occurrences run.last) (sym (free_first a.next a.free a.free_count some)) ∙ l.apart) in
    record {
      stay = length-set a.next run.last a.free;
      others = λ new. map_kept (slot_of a.store a.next) (slot_of a.store (set a.next run.last a.free)) (Without a.store a.next run.last) a.slots key.slot new
          (slot_at 0 Free) else' (slot_keeps a.store a.next run.last a.free);
      runs = λ new is. all_kept (Without a.store a.next run.last) (λ (slot : Slot). IsContent a.next slot.content)
          (λ (slot : Slot). IsContent (set a.next run.last a.free) slot.content) a.slots key.slot new (slot_at 0 Free) else' s.arena.runs
          (λ (x : Slot) without was. content_keeps a.store a.next run.last a.free x.content without was) is;
      rest = chain_keeps (a.free_count - 1) a.next run.last a.free (get_or a.next a.free 0) p.1;
      blocks = ap (λ k. chain k (set a.next run.last a.free) run.first) (sym more)
          ∙ splice (run.blocks - 1) 1 a.next run.first a.free run.last l.is l.once l.low (alone run.last a.free p.0)
          ∙ ap (λ k. chain k a.next run.first ++ a.free ∷ []) one;
      last = ap (λ k. node k (set a.next run.last a.free) run.first) (sym one)
          ∙ node_splice (run.blocks - 1) a.next run.first a.free run.last l.is l.once l.low;
      apart = others_stay a.store a.next a.slots key.slot run.last a.free (slot_at 0 Free) else';
      own = λ index low.
          let once : occurrences run.last (chain (run.blocks - 1) a.next run.first) ≡ 0 = l.once in
          node_keeps index a.next run.last a.free run.first
          (omega (arith, once, times_part index (run.blocks - 1) a.next run.last run.first (omega (arith, low))));
    } where
      alone_by : (b f : ℕ) (t : Bool) → (f == b) ≡ t → ((f ≡ b) → ⊥) → cond t 1 0 + 0 ≡ 0
      alone_by b f true e h = absurd (h (eqb-true f b e))
      alone_by b f false e h = refl

      alone : (b f : ℕ) → ((f ≡ b) → ⊥) → occurrences b (f ∷ []) ≡ 0
      alone b f h = times_cons b f [] ∙ alone_by b f (f == b) refl h

links_by : (t : Bool) (key : Key) (depot : d.Depot) (a : ArenaFields) (run : Run) → Sees key depot a (Draft run) → 1 ≤ a.free_count → (run.blocks == 0) ≡ t
    → Links a key.slot run (cond t a.next (set a.next run.last a.free)) (cond t a.free run.first)
links_by true key depot a run s some e = links_none a key.slot run s.arena (eqb-true run.blocks 0 e)
links_by false key depot a run s some e =
    let apart : (run.blocks ≡ 0) → ⊥ = eqb-false run.blocks 0 e in
    links_some key depot a run s (omega (arith, apart)) some

links : (key : Key) (depot : d.Depot) (a : ArenaFields) (run : Run) → Sees key depot a (Draft run) → 1 ≤ a.free_count
    → Links a key.slot run (linked_next a.next run a.free) ((linked_run run a.free).first)
links key depot a run s some = links_by (run.blocks == 0) key depot a run s some refl

-- what the code knows of the piece that goes into a free block
pub record IsNextRun (free_count : ℕ) (run : Run) (n : ℕ) (piece row : List ℕ) : Type 0 where
  pub full : run.length % BLOCK_SIZE ≡ 0
  pub free : 1 ≤ free_count
  pub some : 0 < n
  pub fits : n ≤ BLOCK_SIZE
  pub size : length piece ≡ n
  pub row_size : length row ≡ BLOCK_SIZE
  pub prefix : take n row ≡ piece

linked_is : (key : Key) (depot : d.Depot) (a : ArenaFields) (run : Run) (n : ℕ) (piece row : List ℕ) → Sees key depot a (Draft run)
    → IsNextRun a.free_count run n piece row
    → IsRun (linked_next a.next run a.free) (longer (linked_run run a.free) n)
linked_is key depot a run n piece row s f =
    let was : slice_get a.slots key.slot ≡ Some (slot_at key.generation (Draft run)) = stands key depot a (Draft run) s (λ e. cc) in
    let is : IsRun a.next run = each_at (λ (slot : Slot). IsContent a.next slot.content) a.slots key.slot (slot_at key.generation (Draft run)) s.arena.runs
    was in
    let l : Links a key.slot run (linked_next a.next run a.free) ((linked_run run a.free).first) = links key depot a run s f.free in
    let back : run.blocks + 1 - 1 ≡ run.blocks = omega arith in
    record {
      enough = next_run run.blocks n run.length is.enough f.full f.some f.fits;
      last = λ some. ap (λ k. node k (linked_next a.next run a.free) ((linked_run run a.free).first)) back ∙ l.last;
    }

-- the blocks that the draft had keep their stamps, and the new one gets its own
linked_stamps : (key : Key) (depot : d.Depot) (a : ArenaFields) (run : Run) (n : ℕ) → Sees key depot a (Draft run)
    → Links a key.slot run (linked_next a.next run a.free) ((linked_run run a.free).first)
    → AreStamped (linked_next a.next run a.free) (slice_set a.slots key.slot (slot_at key.generation (Draft (longer (linked_run run a.free) n))))
    (set a.stamps a.free (stamp_for key run.blocks))
linked_stamps key depot a run n s l =
    let was : slice_get a.slots key.slot ≡ Some (slot_at key.generation (Draft run)) = stands key depot a (Draft run) s (λ e. cc) in
    let new : Slot = slot_at key.generation (Draft (longer (linked_run run a.free) n)) in
    let there : slice_get (slice_set a.slots key.slot (slot_at key.generation (Draft (longer (linked_run run a.free) n)))) key.slot
    ≡ Some (slot_at key.generation (Draft (longer (linked_run run a.free) n))) =
    set_at a.slots key.slot (slot_at key.generation (Draft (longer (linked_run run a.free) n))) (slot_at key.generation (Draft run)) was in
    stamped_new (linked_next a.next run a.free) (slice_set a.slots key.slot (slot_at key.generation (Draft (longer (linked_run run a.free) n)))) a.stamps a.free
    (stamp_for key run.blocks)
    (stamped_on a.next (linked_next a.next run a.free) a.slots a.stamps key.slot (slot_at key.generation (Draft run))
    (slot_at key.generation (Draft (longer (linked_run run a.free) n))) s.arena.stamped was l.apart
    (goes_on a.next (linked_next a.next run a.free) key.generation (Draft run) (Draft (longer (linked_run run a.free) n))
    (λ index block h. (let low : index < run.blocks = h.0 in omega (arith, low), l.own index h.0 ∙ h.1))))
    (λ slot named.
    let same : slot_at key.generation (Draft (longer (linked_run run a.free) n)) ≡ slot =
    let one : Some (slot_at key.generation (Draft (longer (linked_run run a.free) n))) ≡ Some slot = sym there ∙ named in cc in
    let P : Slot → Type 0 = λ x. IsStamped (linked_next a.next run a.free) x a.free (stamp_for key run.blocks) in
    subst P same (record { past = omega arith; here = λ e. (omega arith, l.last) }))

pub linked_turn : (key : Key) (depot : d.Depot) (a : ArenaFields) (run : Run) (n : ℕ) (piece row : List ℕ) → Sees key depot a (Draft run)
    → IsNextRun a.free_count run n piece row
    → SlotChange a key.slot (slot_at key.generation (Draft run)) (slot_at key.generation (Draft (longer (linked_run run a.free) n)))
    (record a {
      next = linked_next a.next run a.free;
      stamps = set a.stamps a.free (stamp_for key run.blocks);
      slots = slice_set a.slots key.slot (slot_at key.generation (Draft (longer (linked_run run a.free) n)));
      free = get_or a.next a.free 0;
      free_count =
          a.free_count - 1;
    })
linked_turn key depot a run n piece row s f =
    let was : slice_get a.slots key.slot ≡ Some (slot_at key.generation (Draft run)) = stands key depot a (Draft run) s (λ e. cc) in
    let l : Links a key.slot run (linked_next a.next run a.free) ((linked_run run a.free).first) = links key depot a run s f.free in
    record {
      arena = s.arena;
      was = was;
      slots = refl;
      sizes = s.arena.sizes;
      blocks_stay = refl;
      next_stay = l.stay;
      stamps_stay = length-set a.stamps a.free (stamp_for key run.blocks);
      stamped = linked_stamps key depot a run n s l;
      generation = each_at (λ (slot : Slot). slot.generation ≤ d.last_generation) a.slots key.slot (slot_at key.generation (Draft run)) s.arena.generations was;
      count = omega (arith, f.free);
      others = l.others (slot_at key.generation (Draft (longer (linked_run run a.free) n)));
      runs = l.runs (slot_at key.generation (Draft (longer (linked_run run a.free) n))) (linked_is key depot a run n piece row s f);
      split = λ x.
          let old : occurrences x (chain a.free_count a.next a.free) ≡ occurrences x (a.free ∷ chain (a.free_count - 1) a.next (get_or a.next a.free 0)) =
          ap (occurrences x) (free_first a.next a.free a.free_count f.free) in
          let rest : occurrences x (chain (a.free_count - 1) (linked_next a.next run a.free) (get_or a.next a.free 0))
          ≡ occurrences x (chain (a.free_count - 1) a.next (get_or a.next a.free 0)) = ap (occurrences x) l.rest in
          let new : occurrences x (chain (run.blocks + 1) (linked_next a.next run a.free) ((linked_run run a.free).first))
          ≡ occurrences x (chain run.blocks a.next run.first ++ a.free ∷ []) = ap (occurrences x) l.blocks in
          omega (
            arith,
            old,
            rest,
            new,
            times_cons x a.free (chain (a.free_count - 1) a.next (get_or a.next a.free 0)),
            times_cons x a.free [],
            times-append x (chain run.blocks a.next run.first) (a.free ∷ []),
          );
    }

take_all_of : (k : ℕ) (xs : List ℕ) → length xs ≡ k → take k xs ≡ xs
take_all_of k xs e = ap (take k) (sym (append-nil xs)) ∙ take_exact k xs [] e

-- the bytes after a piece in a block of its own
pub linked_bytes : (key : Key) (depot : d.Depot) (a : ArenaFields) (run : Run) (n : ℕ) (piece row : List ℕ) → Sees key depot a (Draft run)
    → IsNextRun a.free_count run n piece row
    → get_or a.store a.free [] ≡ row
    → bytes_in a.store (linked_next a.next run a.free) (longer (linked_run run a.free) n) ≡ bytes_in a.store a.next run ++ piece
linked_bytes key depot a run n piece row s f there =
    let was : slice_get a.slots key.slot ≡ Some (slot_at key.generation (Draft run)) = stands key depot a (Draft run) s (λ e. cc) in
    let is : IsRun a.next run = each_at (λ (slot : Slot). IsContent a.next slot.content) a.slots key.slot (slot_at key.generation (Draft run)) s.arena.runs
    was in
    let l : Links a key.slot run (linked_next a.next run a.free) ((linked_run run a.free).first) = links key depot a run s f.free in
    let size : length (flat a.store (chain run.blocks a.next run.first)) ≡ run.length =
    full_length a.store (length a.next) (chain run.blocks a.next run.first) s.arena.count s.arena.sizes
    (run_low a key.slot (slot_at key.generation (Draft run)) s.arena was)
    ∙ ap (λ k. BLOCK_SIZE * k) (chain_length run.blocks a.next run.first) ∙ sym (full_run run.blocks run.length is.enough f.full) in
    ap (λ bs. take (run.length + n) (flat a.store bs)) l.blocks
    ∙ ap (take (run.length + n)) (flat_append a.store (chain run.blocks a.next run.first) (a.free ∷ [])
    ∙ ap (λ t. flat a.store (chain run.blocks a.next run.first) ++ t) (append-nil (get_or a.store a.free []) ∙ there))
    ∙ take_after run.length n (flat a.store (chain run.blocks a.next run.first)) row size
    ∙ ap (λ t. flat a.store (chain run.blocks a.next run.first) ++ t) f.prefix
    ∙ ap (λ t. t ++ piece) (sym (take_all_of run.length (flat a.store (chain run.blocks a.next run.first)) size))

pub linked_gains : (key : Key) (depot : d.Depot) (a : ArenaFields) (run : Run) (n : ℕ) (piece row : List ℕ) → Sees key depot a (Draft run)
    → IsNextRun a.free_count run n piece row
    → get_or a.store a.free [] ≡ row
    → Gains key a run (longer (linked_run run a.free) n) piece
    (record a {
      next = linked_next a.next run a.free;
      stamps = set a.stamps a.free (stamp_for key run.blocks);
      slots = slice_set a.slots key.slot (slot_at key.generation (Draft (longer (linked_run run a.free) n)));
      free = get_or a.next a.free 0;
      free_count =
          a.free_count - 1;
    })
linked_gains key depot a run n piece row s f there = record {
  picked = a.free ∷ [];
  turn = linked_turn key depot a run n piece row s f;
  long = omega (arith, f.size);
  bytes = linked_bytes key depot a run n piece row s f there;
  blocks = (links key depot a run s f.free).blocks;
  taken = λ x.
      let old : occurrences x (chain a.free_count a.next a.free) ≡ occurrences x (a.free ∷ chain (a.free_count - 1) a.next (get_or a.next a.free 0)) =
      ap (occurrences x) (free_first a.next a.free a.free_count f.free) in
      let rest : occurrences x (chain (a.free_count - 1) (linked_next a.next run a.free) (get_or a.next a.free 0))
      ≡ occurrences x (chain (a.free_count - 1) a.next (get_or a.next a.free 0)) = ap (occurrences x) ((links key depot a run s f.free).rest) in
      omega (arith, old, rest, times_cons x a.free (chain (a.free_count - 1) a.next (get_or a.next a.free 0)), times_cons x a.free []);
}

room_left : (blocks k n count : ℕ) → blocks ≡ d.blocks_for k → k % BLOCK_SIZE ≡ 0 → 0 < n → d.blocks_for (k + n) ≤ blocks + count → 1 ≤ count
room_left blocks k n count e full some h = omega (arith, e, full, some, h)

-- where there is room for a byte after full blocks, a block is free
pub some_free : (key : Key) (depot : d.Depot) (a : ArenaFields) (run : Run) (bytes : List ℕ) → Sees key depot a (Draft run)
    → d.HasRoom depot (depot_key key) bytes → 0 < length bytes → run.length % BLOCK_SIZE ≡ 0 → 1 ≤ a.free_count
some_free key depot a run bytes s room some full =
    let was : slice_get a.slots key.slot ≡ Some (slot_at key.generation (Draft run)) = stands key depot a (Draft run) s (λ e. cc) in
    let is : IsRun a.next run = each_at (λ (slot : Slot). IsContent a.next slot.content) a.slots key.slot (slot_at key.generation (Draft run)) s.arena.runs
    was in
    room_left run.blocks run.length (length bytes) a.free_count is.enough full some (room_to key depot a run bytes s room)

pub free_there : (key : Key) (depot : d.Depot) (a : ArenaFields) (content : Content) → Sees key depot a content → 1 ≤ a.free_count → a.free < length a.next
free_there key depot a content s some = free_within a.next a.free a.free_count (free_low a s.arena) some

-- what the code wrote into the first free block
pub next_by : (key : Key) (depot : d.Depot) (a : ArenaFields) (run : Run) (n : ℕ) (bytes old row other : List ℕ)
    → Sees key depot a (Draft run) → d.HasRoom depot (depot_key key) bytes → 0 < length bytes → run.length % BLOCK_SIZE ≡ 0
    → n ≡ min (length bytes) (BLOCK_SIZE - run.length % BLOCK_SIZE) → old ≡ get_or a.store a.free other
    → row ≡ take 0 old ++ take n bytes ++ drop (0 + length (take n bytes)) old → IsNextRun a.free_count run n (take n bytes) row
next_by key depot a run n bytes old row other s room some full least was is =
    let free_some : 1 ≤ a.free_count = some_free key depot a run bytes s room some full in
    let low : a.free < length a.next = free_there key depot a (Draft run) s free_some in
    let size : length (get_or a.store a.free other) ≡ BLOCK_SIZE = s.arena.sizes a.free other (omega (arith, low, s.arena.count)) in
    let same : length old ≡ length (get_or a.store a.free other) = ap length was in
    let piece : length (take n bytes) ≡ n = omega (arith, least, length-take n bytes) in
    let all : length row ≡ length (take n bytes ++ drop (0 + length (take n bytes)) old) = ap length is in
    record {
      full = full;
      free = free_some;
      some = omega (arith, least, full, some);
      fits = omega (arith, least);
      size = piece;
      row_size = omega (
        arith,
        all,
        piece,
        least,
        same,
        size,
        length-append (take n bytes) (drop (0 + length (take n bytes)) old),
        length-drop (0 + length (take n bytes)) old,
      );
      prefix = ap (take n) is ∙ take_exact n (take n bytes) (drop (0 + length (take n bytes)) old) piece;
    }
