-- A draft gains a piece, and a run of pieces is one.
use Rattle.std.proofs.Common.{◌≡◌, ℕ, ◌+◌, ◌≤◌, List, [], ◌++◌, Bool, true, false, cond, ◌==◌, Some, length, take, drop, refl, ap, sym, ◌∙◌, subst, arith}
use Rattle.std.proofs.Common.{length-append, length-drop, append-nil, append_assoc, take-add, drop-drop}
use Rattle.std.specs.Prelude.{slice_get, slice_set}
use Rattle.std.proofs.lemmas.Bool.{eq-eqb}
use Rattle.mail_world.specs.Depot as d
use Rattle.mail_world.specs.Depot.{occurrences}
use Rattle.mail_world.proofs.Depots.{set_at, times-append, used}
use Rattle.block_arena.specs.declared.key.Key.{Key}
use Rattle.block_arena.specs.declared.slot.Run.{Run}
use Rattle.block_arena.specs.declared.slot.Content.{Content}
use Rattle.block_arena.specs.declared.slot.Content.TheVariants.{Free, Draft}
use Rattle.block_arena.specs.declared.slot.Slot.{Slot}
use Rattle.block_arena.specs.Fields.{ArenaFields, content_at, chain, blocks_in, bytes_in, depot_of, IsContent, IsRun}
use Rattle.block_arena.specs.Calls.{depot_key}
use Rattle.block_arena.proofs.Chains.{chain_length}
use Rattle.mail_world.proofs.Accepted.{each_at}
use Rattle.block_arena.proofs.Slots.{slot_at, SlotChange, turned, turned_at}
use Rattle.block_arena.proofs.Seen.{Sees, under, stands, run_low, run_length, draft_length}
use Rattle.block_arena.proofs.Labels.{set_same, set_twice, held_there}

content_if : (g : ℕ) (c : Content) (t : Bool) → (g == g) ≡ t → cond t c Free ≡ c
content_if g c true e = refl
content_if g c false e = let yes' : (g == g) ≡ true = eq-eqb g g refl in cc

-- the draft after a turn of its slot
pub sees_new : (key : Key) (depot : d.Depot) (a : ArenaFields) (run run' : Run) (a' : ArenaFields)
    → SlotChange a key.slot (slot_at key.generation (Draft run)) (slot_at key.generation (Draft run')) a'
    → Sees key (depot_of a') a' (Draft run')
sees_new key depot a run run' a' t = record {
  arena = turned a key.slot (slot_at key.generation (Draft run)) (slot_at key.generation (Draft run')) a' t;
  view = refl;
  at = ap (λ o. content_at o key.generation) (turned_at a key.slot (slot_at key.generation (Draft run)) (slot_at key.generation (Draft run')) a' t)
      ∙ content_if key.generation (Draft run') (key.generation == key.generation) refl;
}

-- what room means by the counts
pub room_to : (key : Key) (depot : d.Depot) (a : ArenaFields) (run : Run) (bytes : List ℕ)
    → Sees key depot a (Draft run) → d.HasRoom depot (depot_key key) bytes → d.blocks_for (run.length + length bytes) ≤ run.blocks + a.free_count
room_to key depot a run bytes s h =
    let all : length (d.bytes_of (d.held_under depot (depot_key key)) ++ bytes) ≡ run.length + length bytes =
    omega (arith, draft_length key depot a run s, length-append (d.bytes_of (d.held_under depot (depot_key key))) bytes) in
    let blocks : length (d.blocks_of (d.held_under depot (depot_key key))) ≡ run.blocks =
    ap (λ h. length (d.blocks_of h)) (under key depot a (Draft run) s) ∙ chain_length run.blocks a.next run.first in
    let spare : length depot.free ≡ a.free_count = ap (λ (e : d.Depot). length e.free) (sym s.view) ∙ chain_length a.free_count a.next a.free in
    omega (arith, all, blocks, spare, h)

pub room_from : (key : Key) (depot : d.Depot) (a : ArenaFields) (run : Run) (bytes : List ℕ)
    → Sees key depot a (Draft run) → d.blocks_for (run.length + length bytes) ≤ run.blocks + a.free_count → d.HasRoom depot (depot_key key) bytes
room_from key depot a run bytes s h =
    let all : length (d.bytes_of (d.held_under depot (depot_key key)) ++ bytes) ≡ run.length + length bytes =
    omega (arith, draft_length key depot a run s, length-append (d.bytes_of (d.held_under depot (depot_key key))) bytes) in
    let blocks : length (d.blocks_of (d.held_under depot (depot_key key))) ≡ run.blocks =
    ap (λ h. length (d.blocks_of h)) (under key depot a (Draft run) s) ∙ chain_length run.blocks a.next run.first in
    let spare : length depot.free ≡ a.free_count = ap (λ (e : d.Depot). length e.free) (sym s.view) ∙ chain_length a.free_count a.next a.free in
    omega (arith, all, blocks, spare, h)

-- a turn by which a draft gains a piece, and the free blocks that it picks
pub record Gains (key : Key) (a : ArenaFields) (run run' : Run) (piece : List ℕ) (a' : ArenaFields) : Type 0 where
  pub picked : List ℕ
  pub turn : SlotChange a key.slot (slot_at key.generation (Draft run)) (slot_at key.generation (Draft run')) a'
  pub long : run'.length ≡ run.length + length piece
  pub bytes : bytes_in a'.store a'.next run' ≡ bytes_in a.store a.next run ++ piece
  pub blocks : blocks_in a'.next run' ≡ blocks_in a.next run ++ picked
  pub taken : (x : ℕ) → occurrences x (chain a.free_count a.next a.free) ≡ occurrences x picked + occurrences x (chain a'.free_count a'.next a'.free)

pub gained_puts : (key : Key) (depot : d.Depot) (a : ArenaFields) (run run' : Run) (piece : List ℕ) (a' : ArenaFields)
    → Sees key depot a (Draft run) → Gains key a run run' piece a'
    → d.Puts depot (depot_key key) piece (depot_of a')
gained_puts key depot a run run' piece a' s g =
    let there : slice_get a'.slots key.slot ≡ Some (slot_at key.generation (Draft run')) =
    turned_at a key.slot (slot_at key.generation (Draft run)) (slot_at key.generation (Draft run')) a' g.turn in
    let new : Sees key (depot_of a') a' (Draft run') = sees_new key depot a run run' a' g.turn in
    let is : IsRun a'.next run' = each_at (λ (slot : Slot). IsContent a'.next slot.content) a'.slots key.slot (slot_at key.generation (Draft run')) g.turn.runs
    there in
    let long : run'.length ≡ length (bytes_in a'.store a'.next run') =
    run_length a'.store a'.next run' new.arena.count new.arena.sizes is (run_low a' key.slot (slot_at key.generation (Draft run')) new.arena there) in
    record {
      bytes = bytes_in a.store a.next run;
      blocks = blocks_in a.next run;
      picked = g.picked;
      rest = chain a'.free_count a'.next a'.free;
      draft = under key depot a (Draft run) s;
      enough = ap length (sym g.blocks) ∙ chain_length run'.blocks a'.next run'.first ∙ is.enough ∙ ap (λ k. d.blocks_for k) (long ∙ ap length g.bytes);
      taken = λ x. ap (λ (e : d.Depot). occurrences x e.free) (sym s.view) ∙ g.taken x;
      after =
          ap (λ (ss : List d.Slot). record { slots = ss; free = chain a'.free_count a'.next a'.free }) g.turn.others
          ∙ ap (λ bs. d.with_held (depot_of a) (depot_key key) (d.Draft bs (blocks_in a'.next run')) (chain a'.free_count a'.next a'.free)) g.bytes
          ∙ ap (λ bs. d.with_held (depot_of a) (depot_key key) (d.Draft (bytes_in a.store a.next run ++ piece) bs) (chain a'.free_count a'.next a'.free))
          g.blocks
          ∙ ap (λ (e : d.Depot). d.with_held e (depot_key key) (d.Draft (bytes_in a.store a.next run ++ piece) (blocks_in a.next run ++ g.picked))
          (chain a'.free_count a'.next a'.free)) s.view;
    }

pub gained_room : (key : Key) (depot : d.Depot) (a : ArenaFields) (run run' : Run) (n : ℕ) (bytes : List ℕ) (a' : ArenaFields)
    → Sees key depot a (Draft run) → Gains key a run run' (take n bytes) a' → length (take n bytes) ≡ n → n ≤ length bytes
    → d.HasRoom depot (depot_key key) bytes → d.HasRoom (depot_of a') (depot_key key) (drop n bytes)
gained_room key depot a run run' n bytes a' s g size short room =
    let old : d.blocks_for (run.length + length bytes) ≤ run.blocks + a.free_count = room_to key depot a run bytes s room in
    let count : a'.free_count + run'.blocks ≡ a.free_count + run.blocks = g.turn.count in
    let all : run'.length + length (drop n bytes) ≡ run.length + length bytes = omega (arith, g.long, size, short, length-drop n bytes) in
    room_from key (depot_of a') a' run' (drop n bytes)
    (sees_new key depot a run run' a' g.turn)
    (omega (arith, old, count, all))

-- no bytes are put
pub puts_none : (key : Key) (depot : d.Depot) (a : ArenaFields) (run : Run) → Sees key depot a (Draft run) → d.Puts depot (depot_key key) [] depot
puts_none key depot a run s =
    let was : slice_get a.slots key.slot ≡ Some (slot_at key.generation (Draft run)) = stands key depot a (Draft run) s (λ e. cc) in
    let is : IsRun a.next run = each_at (λ (slot : Slot). IsContent a.next slot.content) a.slots key.slot (slot_at key.generation (Draft run)) s.arena.runs
    was in
    let here : d.held_under depot (depot_key key) ≡ d.Draft (bytes_in a.store a.next run) (blocks_in a.next run) = under key depot a (Draft run) s in
    let long : run.length ≡ length (bytes_in a.store a.next run) =
    run_length a.store a.next run s.arena.count s.arena.sizes is (run_low a key.slot (slot_at key.generation (Draft run)) s.arena was) in
    record {
      bytes = bytes_in a.store a.next run;
      blocks = blocks_in a.next run;
      picked = [];
      rest = depot.free;
      draft = here;
      enough = ap length (append-nil (blocks_in a.next run)) ∙ chain_length run.blocks a.next run.first ∙ is.enough
          ∙ ap (λ k. d.blocks_for k) (long ∙ ap length (sym (append-nil (bytes_in a.store a.next run))));
      taken = λ x. omega arith;
      after = sym (
          ap (λ bs. d.with_held depot (depot_key key) (d.Draft bs (blocks_in a.next run ++ [])) depot.free) (append-nil (bytes_in a.store a.next run))
          ∙ ap (λ bs. d.with_held depot (depot_key key) (d.Draft (bytes_in a.store a.next run) bs) depot.free) (append-nil (blocks_in a.next run))
          ∙ ap (λ (ss : List d.Slot). record { slots = ss; free = depot.free })
          (set_same depot.slots key.slot (record { generation = key.generation; held = d.Draft (bytes_in a.store a.next run) (blocks_in a.next run) })
          (used depot (depot_key key) (d.Draft (bytes_in a.store a.next run) (blocks_in a.next run)) here (λ e. cc)))
          );
    }

-- one put after another
pub puts_then : (a b c : d.Depot) (key : d.Key) (xs ys : List ℕ) → d.Puts a key xs b → d.Puts b key ys c → d.Puts a key (xs ++ ys) c
puts_then a b c key xs ys p q =
    let was : slice_get a.slots key.slot ≡ Some (record { generation = key.generation; held = d.Draft p.bytes p.blocks }) =
    used a key (d.Draft p.bytes p.blocks) p.draft (λ e. cc) in
    let there : slice_get (slice_set a.slots key.slot (record { generation = key.generation; held = d.Draft (p.bytes ++ xs) (p.blocks ++ p.picked) })) key.slot
    ≡ Some (record { generation = key.generation; held = d.Draft (p.bytes ++ xs) (p.blocks ++ p.picked) }) =
    set_at a.slots key.slot (record { generation = key.generation; held = d.Draft (p.bytes ++ xs) (p.blocks ++ p.picked) })
    (record { generation = key.generation; held = d.Draft p.bytes p.blocks }) was in
    let between : d.held_under b key ≡ d.Draft (p.bytes ++ xs) (p.blocks ++ p.picked) =
    ap (λ (e : d.Depot). d.held_under e key) p.after
    ∙ held_there (d.with_held a key (d.Draft (p.bytes ++ xs) (p.blocks ++ p.picked)) p.rest) key (d.Draft (p.bytes ++ xs) (p.blocks ++ p.picked)) there in
    let same : d.Draft q.bytes q.blocks ≡ d.Draft (p.bytes ++ xs) (p.blocks ++ p.picked) = sym q.draft ∙ between in
    let bytes : q.bytes ≡ p.bytes ++ xs = ap d.bytes_of same in
    let blocks : q.blocks ≡ p.blocks ++ p.picked = ap d.blocks_of same in
    let all : q.bytes ++ ys ≡ p.bytes ++ (xs ++ ys) = ap (λ t. t ++ ys) bytes ∙ append_assoc p.bytes xs ys in
    let every : q.blocks ++ q.picked ≡ p.blocks ++ (p.picked ++ q.picked) = ap (λ t. t ++ q.picked) blocks ∙ append_assoc p.blocks p.picked q.picked in
    record {
      bytes = p.bytes;
      blocks = p.blocks;
      picked = p.picked ++ q.picked;
      rest = q.rest;
      draft = p.draft;
      enough = ap length (sym every) ∙ q.enough ∙ ap (λ t. d.blocks_for (length t)) all;
      taken = λ x.
          let first : occurrences x a.free ≡ occurrences x p.picked + occurrences x p.rest = p.taken x in
          let second : occurrences x b.free ≡ occurrences x q.picked + occurrences x q.rest = q.taken x in
          let free : occurrences x b.free ≡ occurrences x p.rest = ap (λ (e : d.Depot). occurrences x e.free) p.after in
          omega (arith, first, second, free, times-append x p.picked q.picked);
      after =
          q.after
          ∙ ap (λ t. d.with_held b key (d.Draft t (q.blocks ++ q.picked)) q.rest) all
          ∙ ap (λ t. d.with_held b key (d.Draft (p.bytes ++ (xs ++ ys)) t) q.rest) every
          ∙ ap (λ (e : d.Depot). d.with_held e key (d.Draft (p.bytes ++ (xs ++ ys)) (p.blocks ++ (p.picked ++ q.picked))) q.rest) p.after
          ∙ ap (λ (ss : List d.Slot). record { slots = ss; free = q.rest })
          (set_twice a.slots key.slot (record { generation = key.generation; held = d.Draft (p.bytes ++ xs) (p.blocks ++ p.picked) })
          (record { generation = key.generation; held = d.Draft (p.bytes ++ (xs ++ ys)) (p.blocks ++ (p.picked ++ q.picked)) }));
    }

-- the bytes up to a place are put, and there is room for the others
pub record IsPutUpTo (old : d.Depot) (key : d.Key) (bytes : List ℕ) (done : ℕ) (now : d.Depot) : Type 0 where
  pub within : done ≤ length bytes
  pub put : d.Puts old key (take done bytes) now
  pub room : d.HasRoom now key (drop done bytes)

pub put_more : (old between now : d.Depot) (key : d.Key) (bytes : List ℕ) (done n : ℕ) → IsPutUpTo old key bytes done between → n ≤ length (drop done bytes)
    → d.Puts between key (take n (drop done bytes)) now → d.HasRoom now key (drop n (drop done bytes))
    → IsPutUpTo old key bytes (done + n) now
put_more old between now key bytes done n i short p room = record {
  within = omega (arith, i.within, short, length-drop done bytes);
  put = subst (λ t. d.Puts old key t now) (sym (take-add done n bytes)) (puts_then old between now key (take done bytes) (take n (drop done bytes)) i.put p);
  room = subst (λ t. d.HasRoom now key t) (drop-drop n done bytes) room;
}
