-- What a put of one piece owes, from what its code knows.
use Rattle.std.proofs.Common.{◌≡◌, ℕ, ◌+◌, ◌-◌, ◌*◌, ◌%◌, ◌<◌, ◌≤◌, List, [], ◌++◌, Some, get_or, min, take, drop, length, set, refl, ap, sym, ◌∙◌, subst}
use Rattle.std.proofs.Common.{arith, length-take}
use Rattle.std.specs.Prelude.{slice_get, slice_set}
use Rattle.std.proofs.lemmas.List.{get_or-set_same}
use Rattle.mail_world.specs.Depot as d
use Rattle.block_arena.specs.declared.key.Key.{Key}
use Rattle.block_arena.specs.declared.slot.Run.{Run}
use Rattle.block_arena.specs.declared.slot.Content.{Content}
use Rattle.block_arena.specs.declared.slot.Content.TheVariants.{Draft}
use Rattle.block_arena.specs.declared.slot.Slot.{Slot}
use Rattle.block_arena.specs.Fields.{ArenaFields, content_at, depot_of, run_of, longer, linked_run, linked_next, stamp_for, IsContent, IsRun, IsArena}
use Rattle.block_arena.specs.Rows.{with_piece}
use Rattle.block_arena.specs.Calls.{depot_key, IsDraft}
use Rattle.mail_world.proofs.Accepted.{each_at}
use Rattle.block_arena.proofs.Slots.{slot_at}
use Rattle.block_arena.proofs.Seen.{Sees, sees, under, stands, enough_room}
use Rattle.block_arena.proofs.Freed.{last_in, slot_within, sum_within}
use Rattle.block_arena.proofs.Filled.{draft_is, draft_owns, draft_last, filled_by, filled_gains, get_any, FillsBlock}
use Rattle.block_arena.proofs.Linked.{IsNextRun, linked_gains, next_by, some_free, free_there, spare}
use Rattle.block_arena.proofs.Puts.{Gains, gained_puts, gained_room, sees_new, room_to, room_from}
use Rattle.mail_world.specs.declared.limits.TheConstants.{BLOCK_SIZE, BLOCK_LIMIT}

-- what the code knows once it looked the draft's run up
pub record Knows (key : Key) (depot : d.Depot) (a : ArenaFields) (run : Run) (n : ℕ) (bytes : List ℕ) : Type 0 where
  pub sees : Sees key depot a (Draft run)
  pub some : 0 < length bytes
  pub room : d.HasRoom depot (depot_key key) bytes
  pub least : n ≡ min (length bytes) (BLOCK_SIZE - run.length % BLOCK_SIZE)

pub knows : (key : Key) (depot : d.Depot) (a : ArenaFields) (items : List Slot) (content : Content) (run : Run) (n : ℕ) (bytes : List ℕ)
    → IsArena a → depot_of a ≡ depot → items ≡ a.slots → content ≡ content_at (slice_get items key.slot) key.generation
    → IsDraft (d.held_under depot (depot_key key)) → run ≡ run_of content
    → 0 < length bytes → d.HasRoom depot (depot_key key) bytes → n ≡ min (length bytes) (BLOCK_SIZE - run.length % BLOCK_SIZE)
    → Knows key depot a run n bytes
knows key depot a items content run n bytes arena view same is draft e some room least =
    let s : Sees key depot a content = sees key depot a items content content arena view same is refl in
    record {
      sees = record {
        arena = s.arena;
        view = s.view;
        at = s.at ∙ draft_is a.store a.next content (subst (λ (x : d.Held). IsDraft x) (under key depot a content s) draft) ∙ ap (λ (r : Run). Draft r) (sym e);
      };
      some = some;
      room = room;
      least = least;
    }

pub slot_low : (key : Key) (depot : d.Depot) (a : ArenaFields) (run : Run) (n : ℕ) (bytes : List ℕ) → Knows key depot a run n bytes → key.slot < length a.slots
slot_low key depot a run n bytes k = slot_within key depot a (Draft run) run k.sees (draft_owns a.store a.next run)

-- the two ways of a piece, whose links and free blocks the code made
pub record PieceIsPut (key : Key) (depot : d.Depot) (n : ℕ) (bytes : List ℕ) (a : ArenaFields) : Type 0 where
  pub arena : IsArena a
  pub put : d.Puts depot (depot_key key) (take n bytes) (depot_of a)
  pub room : d.HasRoom (depot_of a) (depot_key key) (drop n bytes)

gained : (key : Key) (depot : d.Depot) (a : ArenaFields) (run run' : Run) (n : ℕ) (bytes : List ℕ) (a' : ArenaFields)
    → Sees key depot a (Draft run) → Gains key a run run' (take n bytes) a' → n ≤ length bytes → d.HasRoom depot (depot_key key) bytes
    → PieceIsPut key depot n bytes a'
gained key depot a run run' n bytes a' s g short room = record {
  arena = (sees_new key depot a run run' a' g.turn).arena;
  put = gained_puts key depot a run run' (take n bytes) a' s g;
  room = gained_room key depot a run run' n bytes a' s g (omega (arith, short, length-take n bytes)) short room;
}

pub put_last : (key : Key) (depot : d.Depot) (a : ArenaFields) (run : Run) (n : ℕ) (bytes : List ℕ) (store' : List (List ℕ)) (slot : Slot)
    → Knows key depot a run n bytes → 0 < run.length % BLOCK_SIZE
    → store' ≡ set a.store run.last (with_piece (get_or a.store run.last []) (run.length % BLOCK_SIZE) (take n bytes))
    → slot ≡ slot_at key.generation (Draft (longer run n))
    → PieceIsPut key depot n bytes (record a { store = store'; slots = slice_set a.slots key.slot slot })
put_last key depot a run n bytes store' slot k some is e =
    let f : FillsBlock a.store run n (take n bytes) (get_or a.store run.last [])
    (with_piece (get_or a.store run.last []) (run.length % BLOCK_SIZE) (take n bytes)) =
    filled_by key depot a run n bytes (get_or a.store run.last []) (with_piece (get_or a.store run.last []) (run.length % BLOCK_SIZE) (take n bytes)) [] k.sees
    some (omega (arith, k.least)) (omega (arith, k.least)) refl refl in
    subst (λ (x : Slot). PieceIsPut key depot n bytes (record a { store = store'; slots = slice_set a.slots key.slot x })) (sym e)
    (subst (λ (x : List (List ℕ)). PieceIsPut key depot n bytes
    (record a { store = x; slots = slice_set a.slots key.slot (slot_at key.generation (Draft (longer run n))) })) (sym is)
    (gained key depot a run (longer run n) n bytes _ k.sees
    (filled_gains key depot a run n (take n bytes) (get_or a.store run.last [])
    (with_piece (get_or a.store run.last []) (run.length % BLOCK_SIZE) (take n bytes)) k.sees f) (omega (arith, k.least)) k.room))

put_free : (key : Key) (depot : d.Depot) (a : ArenaFields) (run : Run) (n : ℕ) (bytes old row other : List ℕ) (rest spare' : ℕ) (run' : Run) (next' : List ℕ)
    (slot : Slot)
    → Knows key depot a run n bytes → run.length % BLOCK_SIZE ≡ 0 → old ≡ get_or a.store a.free other
    → row ≡ take 0 old ++ take n bytes ++ drop (0 + length (take n bytes)) old
    → rest ≡ get_or a.next a.free spare' → run' ≡ linked_run run a.free → next' ≡ linked_next a.next run a.free
    → slot ≡ slot_at key.generation (Draft (longer run' n))
    → PieceIsPut key depot n bytes (record
    a {
      store = set a.store a.free row;
      next = next';
      stamps = set a.stamps a.free (stamp_for key run.blocks);
      slots = slice_set a.slots key.slot slot;
      free = rest;
      free_count = a.free_count - 1;
    })
put_free key depot a run n bytes old row other rest spare' run' next' slot k full was is after runs links e =
    let f : IsNextRun a.free_count run n (take n bytes) row = next_by key depot a run n bytes old row other k.sees k.room k.some full k.least was is in
    let low : a.free < length a.next = free_there key depot a (Draft run) k.sees f.free in
    let s : Sees key depot (record a { store = set a.store a.free row }) (Draft run) = spare key depot a (Draft run) row k.sees f.free f.row_size in
    let there : get_or (set a.store a.free row) a.free [] ≡ row = get_or-set_same a.store a.free row [] (omega (arith, low, k.sees.arena.count)) in
    let same : slot ≡ slot_at key.generation (Draft (longer (linked_run run a.free) n)) =
    e ∙ ap (λ (r : Run). slot_at key.generation (Draft (longer r n))) runs in
    subst (λ (x : Slot). PieceIsPut key depot n bytes
    (record a {
      store = set a.store a.free row;
      next = next';
      stamps = set a.stamps a.free (stamp_for key run.blocks);
      slots = slice_set a.slots key.slot x;
      free = rest;
      free_count = a.free_count - 1;
    })) (sym same)
    (subst (λ ns. PieceIsPut key depot n bytes
    (record a {
      store = set a.store a.free row;
      next = ns;
      stamps = set a.stamps a.free (stamp_for key run.blocks);
      slots = slice_set a.slots key.slot (slot_at key.generation (Draft (longer (linked_run run a.free) n)));
      free = rest;
      free_count = a.free_count - 1;
    }))
    (sym links)
    (subst (λ b. PieceIsPut key depot n bytes
    (record a {
      store = set a.store a.free row;
      next = linked_next a.next run a.free;
      stamps = set a.stamps a.free (stamp_for key run.blocks);
      slots = slice_set a.slots key.slot (slot_at key.generation (Draft (longer (linked_run run a.free) n)));
      free = b;
      free_count = a.free_count - 1;
    }))
    (sym (after ∙ get_any a.next a.free spare' 0 low))
    (gained key depot (record a { store = set a.store a.free row }) run (longer (linked_run run a.free) n) n bytes _ s
    (linked_gains key depot (record a { store = set a.store a.free row }) run n (take n bytes) row s f there) (omega (arith, k.least)) k.room)))

pub put_next : (key : Key) (depot : d.Depot) (a : ArenaFields) (run : Run) (n : ℕ) (bytes : List ℕ) (store' : List (List ℕ)) (rest spare' : ℕ) (run' : Run)
    (next' : List ℕ) (slot : Slot)
    → Knows key depot a run n bytes → run.length % BLOCK_SIZE ≡ 0 → store' ≡ set a.store a.free (with_piece (get_or a.store a.free []) 0 (take n bytes))
    → rest ≡ get_or a.next a.free spare' → run' ≡ linked_run run a.free → next' ≡ linked_next a.next run a.free
    → slot ≡ slot_at key.generation (Draft (longer run' n))
    → PieceIsPut key depot n bytes (record
    a {
      store = store';
      next = next';
      stamps = set a.stamps a.free (stamp_for key run.blocks);
      slots = slice_set a.slots key.slot slot;
      free = rest;
      free_count = a.free_count - 1;
    })
put_next key depot a run n bytes store' rest spare' run' next' slot k full is after runs links e =
    subst (λ (x : List (List ℕ)). PieceIsPut key depot n bytes
    (record a {
      store = x;
      next = next';
      stamps = set a.stamps a.free (stamp_for key run.blocks);
      slots = slice_set a.slots key.slot slot;
      free = rest;
      free_count = a.free_count - 1;
    })) (sym is)
    (put_free key depot a run n bytes (get_or a.store a.free []) (with_piece (get_or a.store a.free []) 0 (take n bytes)) [] rest spare' run' next' slot k full
    refl refl after runs links e)

-- bounds that the code needs
pub last_low : (key : Key) (depot : d.Depot) (a : ArenaFields) (run : Run) (n : ℕ) (bytes : List ℕ) → Knows key depot a run n bytes
    → 0 < run.length % BLOCK_SIZE → run.last < length a.store
last_low key depot a run n bytes k some =
    let low : run.last < length a.next = (draft_last key depot a run k.sees some).1.low in
    omega (arith, low, k.sees.arena.count)

pub last_fits : (key : Key) (depot : d.Depot) (a : ArenaFields) (run : Run) (n : ℕ) (bytes old other : List ℕ) → Knows key depot a run n bytes
    → 0 < run.length % BLOCK_SIZE
    → old ≡ get_or a.store run.last other → run.length % BLOCK_SIZE + length (take n bytes) ≤ length old
last_fits key depot a run n bytes old other k some was =
    let size : length (get_or a.store run.last other) ≡ BLOCK_SIZE = k.sees.arena.sizes run.last other (last_low key depot a run n bytes k some) in
    let same : length old ≡ length (get_or a.store run.last other) = ap length was in
    omega (arith, size, same, k.least, some, length-take n bytes)

pub free_some : (key : Key) (depot : d.Depot) (a : ArenaFields) (run : Run) (n : ℕ) (bytes : List ℕ) → Knows key depot a run n bytes
    → run.length % BLOCK_SIZE ≡ 0 → 1 ≤ a.free_count
free_some key depot a run n bytes k full = some_free key depot a run bytes k.sees k.room k.some full

pub free_low : (key : Key) (depot : d.Depot) (a : ArenaFields) (run : Run) (n : ℕ) (bytes : List ℕ) → Knows key depot a run n bytes
    → run.length % BLOCK_SIZE ≡ 0 → (a.free < length a.next) × (a.free < length a.store) × (a.free < length a.stamps)
free_low key depot a run n bytes k full =
    let low : a.free < length a.next = free_there key depot a (Draft run) k.sees (free_some key depot a run n bytes k full) in
    (low, omega (arith, low, k.sees.arena.count), omega (arith, low, k.sees.arena.stamp_count))

pub free_fits : (key : Key) (depot : d.Depot) (a : ArenaFields) (run : Run) (n : ℕ) (bytes old other : List ℕ) → Knows key depot a run n bytes
    → run.length % BLOCK_SIZE ≡ 0
    → old ≡ get_or a.store a.free other → 0 + length (take n bytes) ≤ length old
free_fits key depot a run n bytes old other k full was =
    let size : length (get_or a.store a.free other) ≡ BLOCK_SIZE = k.sees.arena.sizes a.free other ((free_low key depot a run n bytes k full).1) in
    let same : length old ≡ length (get_or a.store a.free other) = ap length was in
    omega (arith, size, same, k.least, length-take n bytes)

pub link_low : (key : Key) (depot : d.Depot) (a : ArenaFields) (run : Run) (n : ℕ) (bytes : List ℕ) → Knows key depot a run n bytes → 0 < run.blocks
    → run.last < length a.next
link_low key depot a run n bytes k some = (last_in key depot a (Draft run) run k.sees (draft_owns a.store a.next run) some).low

-- a draft is no longer than the blocks that there may be
pub run_few : (key : Key) (depot : d.Depot) (a : ArenaFields) (run : Run) → Sees key depot a (Draft run)
    → (a.free_count + run.blocks ≤ BLOCK_LIMIT) × (run.length ≤ BLOCK_SIZE * run.blocks)
run_few key depot a run s =
    let was : slice_get a.slots key.slot ≡ Some (slot_at key.generation (Draft run)) = stands key depot a (Draft run) s (λ e. cc) in
    let is : IsRun a.next run = each_at (λ (slot : Slot). IsContent a.next slot.content) a.slots key.slot (slot_at key.generation (Draft run)) s.arena.runs
    was in
    (sum_within key depot a (Draft run) run s (draft_owns a.store a.next run), enough_room run.length run.blocks is.enough)

pub few : (key : Key) (depot : d.Depot) (a : ArenaFields) (run : Run) (n : ℕ) (bytes : List ℕ) → Knows key depot a run n bytes
    → (a.free_count + run.blocks ≤ BLOCK_LIMIT) × (run.length ≤ BLOCK_SIZE * run.blocks) × (n ≤ BLOCK_SIZE)
few key depot a run n bytes k =
    let p : (a.free_count + run.blocks ≤ BLOCK_LIMIT) × (run.length ≤ BLOCK_SIZE * run.blocks) = run_few key depot a run k.sees in
    (p.0, p.1, omega (arith, k.least))

-- room for that many bytes, as the code counts it
pub room_is : (key : Key) (depot : d.Depot) (a : ArenaFields) (run : Run) (bytes : List ℕ) → Sees key depot a (Draft run)
    → (d.HasRoom depot (depot_key key) bytes → length bytes ≤ BLOCK_SIZE * (run.blocks + a.free_count) - run.length)
    × (length bytes ≤ BLOCK_SIZE * (run.blocks + a.free_count) - run.length → d.HasRoom depot (depot_key key) bytes)
room_is key depot a run bytes s = (
  λ h. let all : d.blocks_for (run.length + length bytes) ≤ run.blocks + a.free_count = room_to key depot a run bytes s h in omega (arith, all),
  λ h. room_from key depot a run bytes s (omega (arith, h, within)),
) where
  was : slice_get a.slots key.slot ≡ Some (slot_at key.generation (Draft run))
  was = stands key depot a (Draft run) s (λ e. cc)

  is : IsRun a.next run
  is = each_at (λ (slot : Slot). IsContent a.next slot.content) a.slots key.slot (slot_at key.generation (Draft run)) s.arena.runs was

  within : run.length ≤ BLOCK_SIZE * run.blocks
  within = enough_room run.length run.blocks is.enough
