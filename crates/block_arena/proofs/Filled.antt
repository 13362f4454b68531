-- A piece goes into a draft's last block: no block moves.
use Rattle.std.proofs.Common.{◌≡◌, ℕ, zero, suc, ◌+◌, ◌-◌, ◌*◌, ◌%◌, ◌<◌, ◌≤◌, List, [], ◌∷◌, ◌++◌, Some, get_or, take, drop, length, set, refl, ap, sym, ◌∙◌}
use Rattle.std.proofs.Common.{subst, arith, length-set, length-append, length-take, length-drop, append-nil}
use Rattle.std.specs.Prelude.{slice_get, slice_set}
use Rattle.std.specs.List.{AllByRecursion}
use Rattle.std.proofs.lemmas.List.Elements.{All-set}
use Rattle.mail_world.specs.Depot as d
use Rattle.mail_world.specs.Depot.{occurrences}
use Rattle.mail_world.specs.declared.limits.TheConstants.{BLOCK_SIZE}
use Rattle.block_arena.specs.declared.key.Key.{Key}
use Rattle.block_arena.specs.declared.slot.Run.{Run}
use Rattle.block_arena.specs.declared.slot.Content.{Content}
use Rattle.block_arena.specs.declared.slot.Content.TheVariants.{Free, Draft, Sealed, Retired}
use Rattle.block_arena.specs.declared.slot.Slot.{Slot}
use Rattle.block_arena.specs.Fields.{ArenaFields, chain, blocks_in, bytes_in, held, slot_of, run_of, longer, IsContent, IsRun}
use Rattle.block_arena.specs.Calls.{IsDraft}
use Rattle.mail_world.proofs.Heard.{all_set}
use Rattle.mail_world.proofs.Accepted.{each_at}
use Rattle.block_arena.proofs.Stamps.{stamped_on, goes_on}
use Rattle.block_arena.proofs.Slots.{slot_at, SlotChange}
use Rattle.block_arena.proofs.Seen.{Sees, stands, run_low, full_length}
use Rattle.block_arena.proofs.Frames.{Without, none_else, map_kept}
use Rattle.block_arena.proofs.Freed.{Owns, IsLastFreed, last_in}
use Rattle.block_arena.proofs.Pieces.{flat, written, longer_run, slot_stays}
use Rattle.block_arena.proofs.Puts.{Gains}
use Rattle.block_arena.proofs.Chains.{chain_last, chain_length}

pub draft_is : (store : List (List ℕ)) (next : List ℕ) (content : Content) → IsDraft (held store next content) → content ≡ Draft (run_of content)
draft_is store next Free h = absurd h
draft_is store next (Draft run) h = refl
draft_is store next (Sealed run holds) h = absurd h
draft_is store next Retired h = absurd h

pub draft_owns : (store : List (List ℕ)) (next : List ℕ) (run : Run) → Owns store next (Draft run) run
draft_owns store next run = record { filled = λ e. cc; blocks = refl; count = refl; is = λ x. x }

some_block : (n blocks : ℕ) → blocks ≡ d.blocks_for n → 0 < n % BLOCK_SIZE → 0 < blocks
some_block n blocks e h = omega (arith, e, h)

pub draft_last : (key : Key) (depot : d.Depot) (a : ArenaFields) (run : Run)
    → Sees key depot a (Draft run) → 0 < run.length % BLOCK_SIZE → (0 < run.blocks) × IsLastFreed a.next a.free a.free_count (run.blocks - 1) run.first run.last
draft_last key depot a run s some =
    let was : slice_get a.slots key.slot ≡ Some (slot_at key.generation (Draft run)) = stands key depot a (Draft run) s (λ e. cc) in
    let is : IsRun a.next run = each_at (λ (slot : Slot). IsContent a.next slot.content) a.slots key.slot (slot_at key.generation (Draft run)) s.arena.runs
    was in
    let there : 0 < run.blocks = some_block run.length run.blocks is.enough some in
    (there, last_in key depot a (Draft run) run s (draft_owns a.store a.next run) there)

pub fill_turn : (key : Key) (depot : d.Depot) (a : ArenaFields) (run : Run) (n : ℕ) (row : List ℕ)
    → Sees key depot a (Draft run) → 0 < run.length % BLOCK_SIZE → n ≤ BLOCK_SIZE - run.length % BLOCK_SIZE → length row ≡ BLOCK_SIZE
    → SlotChange a key.slot (slot_at key.generation (Draft run)) (slot_at key.generation (Draft (longer run n)))
    (record a { store = set a.store run.last row; slots = slice_set a.slots key.slot (slot_at key.generation (Draft (longer run n))) })
fill_turn key depot a run n row s some fits size =
    let was : slice_get a.slots key.slot ≡ Some (slot_at key.generation (Draft run)) = stands key depot a (Draft run) s (λ e. cc) in
    let is : IsRun a.next run = each_at (λ (slot : Slot). IsContent a.next slot.content) a.slots key.slot (slot_at key.generation (Draft run)) s.arena.runs
    was in
    let l : (0 < run.blocks) × IsLastFreed a.next a.free a.free_count (run.blocks - 1) run.first run.last = draft_last key depot a run s some in
    let has : 0 < run.blocks = l.0 in
    let one : suc (run.blocks - 1) ≡ run.blocks = omega (arith, has) in
    let there : occurrences run.last (chain run.blocks a.next run.first) ≡ 1 =
    ap (λ k. occurrences run.last (chain k a.next run.first)) (sym one) ∙ l.1.there in
    let else' : AllByRecursion (Without a.store a.next run.last) (slice_set a.slots key.slot (slot_at 0 Free)) =
    none_else a key.slot (slot_at key.generation (Draft run)) run.last s.arena was (omega (arith, there)) in
    record {
      arena = s.arena;
      was = was;
      slots = refl;
      sizes = All-set (λ (bytes : List ℕ). length bytes ≡ BLOCK_SIZE) a.store run.last row size s.arena.sizes;
      blocks_stay = length-set a.store run.last row;
      next_stay = refl;
      stamps_stay = refl;
      stamped = stamped_on a.next a.next a.slots a.stamps key.slot (slot_at key.generation (Draft run)) (slot_at key.generation (Draft (longer run n)))
          s.arena.stamped was (λ j x apart at index block h. h) (goes_on a.next a.next key.generation (Draft run) (Draft (longer run n)) (λ index block h. h));
      generation = each_at (λ (slot : Slot). slot.generation ≤ d.last_generation) a.slots key.slot (slot_at key.generation (Draft run)) s.arena.generations was;
      count = refl;
      others = map_kept (slot_of a.store a.next) (slot_of (set a.store run.last row) a.next) (Without a.store a.next run.last) a.slots key.slot
          (slot_at key.generation (Draft (longer run n))) (slot_at 0 Free) else' (slot_stays a.store a.next run.last row);
      runs = all_set (λ (slot : Slot). IsContent a.next slot.content) a.slots key.slot (slot_at key.generation (Draft (longer run n))) s.arena.runs
          (longer_run a.next run n is some fits);
      split = λ x. refl;
    }

all_prefix : (P : ℕ → Type 0) (xs ys : List ℕ) → AllByRecursion P (xs ++ ys) → AllByRecursion P xs
all_prefix P [] ys h = tt
all_prefix P (x ∷ xs) ys h = (h.0, all_prefix P xs ys h.1)

len_parts : (n blocks : ℕ) → blocks ≡ d.blocks_for n → 0 < n % BLOCK_SIZE → n ≡ BLOCK_SIZE * (blocks - 1) + n % BLOCK_SIZE
len_parts n blocks e some = omega (arith, e, some)

-- the bytes after a piece that went into the last block
pub filled_bytes : (key : Key) (depot : d.Depot) (a : ArenaFields) (run : Run) (n : ℕ) (piece : List ℕ)
    → Sees key depot a (Draft run) → 0 < run.length % BLOCK_SIZE → n ≤ BLOCK_SIZE - run.length % BLOCK_SIZE → length piece ≡ n
    → bytes_in (set a.store run.last
    (take (run.length % BLOCK_SIZE) (get_or a.store run.last []) ++ piece ++ drop (run.length % BLOCK_SIZE + n) (get_or a.store run.last []))) a.next
    (longer run n) ≡ bytes_in a.store a.next run ++ piece
filled_bytes key depot a run n piece s some fits size =
    let was : slice_get a.slots key.slot ≡ Some (slot_at key.generation (Draft run)) = stands key depot a (Draft run) s (λ e. cc) in
    let is : IsRun a.next run = each_at (λ (slot : Slot). IsContent a.next slot.content) a.slots key.slot (slot_at key.generation (Draft run)) s.arena.runs
    was in
    let l : (0 < run.blocks) × IsLastFreed a.next a.free a.free_count (run.blocks - 1) run.first run.last = draft_last key depot a run s some in
    let has : 0 < run.blocks = l.0 in
    let one : run.blocks ≡ suc (run.blocks - 1) = omega (arith, has) in
    let parts : chain run.blocks a.next run.first ≡ chain (run.blocks - 1) a.next run.first ++ run.last ∷ [] =
    ap (λ k. chain k a.next run.first) one ∙ chain_last (run.blocks - 1) a.next run.first
    ∙ ap (λ b. chain (run.blocks - 1) a.next run.first ++ b ∷ []) l.1.is in
    let low : AllByRecursion (λ b. b < length a.next) (chain (run.blocks - 1) a.next run.first ++ run.last ∷ []) =
    subst (λ bs. AllByRecursion (λ b. b < length a.next) bs) parts (run_low a key.slot (slot_at key.generation (Draft run)) s.arena was) in
    let prefix : length (flat a.store (chain (run.blocks - 1) a.next run.first)) ≡ BLOCK_SIZE * (run.blocks - 1) =
    full_length a.store (length a.next) (chain (run.blocks - 1) a.next run.first) s.arena.count s.arena.sizes
    (all_prefix (λ b. b < length a.next) (chain (run.blocks - 1) a.next run.first) (run.last ∷ []) low)
    ∙ ap (λ k. BLOCK_SIZE * k) (chain_length (run.blocks - 1) a.next run.first) in
    let there : run.last < length a.store = omega (arith, l.1.low, s.arena.count) in
    ap (λ bs. take (run.length + n)
    (flat (set a.store run.last (take (run.length % BLOCK_SIZE) (get_or a.store run.last []) ++ piece
    ++ drop (run.length % BLOCK_SIZE + n) (get_or a.store run.last []))) bs)) parts
    ∙ written a.store (chain (run.blocks - 1) a.next run.first) run.last (BLOCK_SIZE * (run.blocks - 1)) (run.length % BLOCK_SIZE) n run.length piece l.1.once
    there prefix (s.arena.sizes run.last [] there)
    (len_parts run.length run.blocks is.enough some) size (omega (arith, fits))
    ∙ ap (λ bs. take run.length (flat a.store bs) ++ piece) (sym parts)

pub get_any : {A : Type 0} (xs : List A) (i : ℕ) (a b : A) → i < length xs → get_or xs i a ≡ get_or xs i b
get_any [] i a b h = absurd (omega (arith, h))
get_any (x ∷ xs) zero a b h = refl
get_any (x ∷ xs) (suc i) a b h = get_any xs i a b (omega (arith, h))

-- what the code wrote into the last block
pub record FillsBlock (store : List (List ℕ)) (run : Run) (n : ℕ) (piece old row : List ℕ) : Type 0 where
  pub some : 0 < run.length % BLOCK_SIZE
  pub fits : n ≤ BLOCK_SIZE - run.length % BLOCK_SIZE
  pub size : length piece ≡ n
  pub was : old ≡ get_or store run.last []
  pub is : row ≡ take (run.length % BLOCK_SIZE) old ++ piece ++ drop (run.length % BLOCK_SIZE + length piece) old

row_is : (store : List (List ℕ)) (run : Run) (n : ℕ) (piece old row : List ℕ) → FillsBlock store run n piece old row
    → row ≡ take (run.length % BLOCK_SIZE) (get_or store run.last []) ++ piece ++ drop (run.length % BLOCK_SIZE + n) (get_or store run.last [])
row_is store run n piece old row f =
    f.is ∙ ap (λ o. take (run.length % BLOCK_SIZE) o ++ piece ++ drop (run.length % BLOCK_SIZE + length piece) o) f.was
    ∙ ap (λ k. take (run.length % BLOCK_SIZE) (get_or store run.last []) ++ piece ++ drop (run.length % BLOCK_SIZE + k) (get_or store run.last [])) f.size

row_size : (row old piece : List ℕ) (at n : ℕ) → row ≡ take at old ++ piece ++ drop (at + n) old → length old ≡ BLOCK_SIZE → length piece ≡ n
    → at + n ≤ BLOCK_SIZE → length row ≡ BLOCK_SIZE
row_size row old piece at n e size long fits =
    ap length e ∙ omega (
      arith,
      size,
      long,
      fits,
      length-append (take at old ++ piece) (drop (at + n) old),
      length-append (take at old) piece,
      length-take at old,
      length-drop (at + n) old,
    )

pub filled_turn : (key : Key) (depot : d.Depot) (a : ArenaFields) (run : Run) (n : ℕ) (piece old row : List ℕ)
    → Sees key depot a (Draft run) → FillsBlock a.store run n piece old row
    → SlotChange a key.slot (slot_at key.generation (Draft run)) (slot_at key.generation (Draft (longer run n)))
    (record a { store = set a.store run.last row; slots = slice_set a.slots key.slot (slot_at key.generation (Draft (longer run n))) })
filled_turn key depot a run n piece old row s f =
    let l : (0 < run.blocks) × IsLastFreed a.next a.free a.free_count (run.blocks - 1) run.first run.last = draft_last key depot a run s f.some in
    let there : run.last < length a.store = omega (arith, l.1.low, s.arena.count) in
    fill_turn key depot a run n row s f.some f.fits
    (row_size row (get_or a.store run.last []) piece (run.length % BLOCK_SIZE) n (row_is a.store run n piece old row f) (s.arena.sizes run.last [] there) f.size
    (omega (arith, f.fits, f.some)))

pub filled_gains : (key : Key) (depot : d.Depot) (a : ArenaFields) (run : Run) (n : ℕ) (piece old row : List ℕ)
    → Sees key depot a (Draft run) → FillsBlock a.store run n piece old row
    → Gains key a run (longer run n) piece
    (record a { store = set a.store run.last row; slots = slice_set a.slots key.slot (slot_at key.generation (Draft (longer run n))) })
filled_gains key depot a run n piece old row s f = record {
  picked = [];
  turn = filled_turn key depot a run n piece old row s f;
  long = omega (arith, f.size);
  bytes = ap (λ r. bytes_in (set a.store run.last r) a.next (longer run n)) (row_is a.store run n piece old row f)
      ∙ filled_bytes key depot a run n piece s f.some f.fits f.size;
  blocks = sym (append-nil (blocks_in a.next run));
  taken = λ x. omega arith;
}

pub filled_by : (key : Key) (depot : d.Depot) (a : ArenaFields) (run : Run) (n : ℕ) (bytes old row other : List ℕ)
    → Sees key depot a (Draft run) → 0 < run.length % BLOCK_SIZE → n ≤ length bytes → n ≤ BLOCK_SIZE - run.length % BLOCK_SIZE
    → old ≡ get_or a.store run.last other
    → row ≡ take (run.length % BLOCK_SIZE) old ++ take n bytes ++ drop (run.length % BLOCK_SIZE + length (take n bytes)) old
    → FillsBlock a.store run n (take n bytes) old row
filled_by key depot a run n bytes old row other s some short fits was is =
    let l : (0 < run.blocks) × IsLastFreed a.next a.free a.free_count (run.blocks - 1) run.first run.last = draft_last key depot a run s some in
    record {
      some = some;
      fits = fits;
      size = omega (arith, short, length-take n bytes);
      was = was ∙ get_any a.store run.last other [] (omega (arith, l.1.low, s.arena.count));
      is = is;
    }
