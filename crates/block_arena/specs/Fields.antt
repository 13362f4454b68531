-- The arena's fields, and the depot that they stand for.
use Rattle.std.specs.Prelude.{◌≡◌, ℕ, zero, suc, ◌+◌, ◌-◌, ◌*◌, ◌<◌, ◌≤◌, ◌==◌, ◌&&◌, nat_lt, slice_get, List, [], ◌∷◌}
use Rattle.std.specs.Prelude.{length, take, slice_set, map, get_or, if◌then◌else◌, Option, Some, None, Bool, true}
use Rattle.std.specs.Prelude.{false, flat_map, sum_by}
use Rattle.std.specs.List.{All, AllByRecursion}
use Rattle.mail_world.specs.Depot as d
use Rattle.mail_world.specs.declared.limits.TheConstants.{BLOCK_SIZE, BLOCK_LIMIT, SLOT_LIMIT}
use Rattle.block_arena.specs.declared.key.Key.{Key}
use Rattle.block_arena.specs.declared.bookmark.Bookmark.{Bookmark}
use Rattle.block_arena.specs.declared.slot.Run.{Run}
use Rattle.block_arena.specs.declared.slot.Stamp.{Stamp}
use Rattle.block_arena.specs.declared.slot.Content.{Content}
use Rattle.block_arena.specs.declared.slot.Content.TheVariants.{Free, Draft, Sealed, Retired}
use Rattle.block_arena.specs.declared.slot.Slot.{Slot}

-- what lies in a slot, under a key of that generation
abbrev pub content_at : Option Slot → ℕ → Content
content_at None generation = Free
content_at (Some slot) generation = if slot.generation == generation then slot.content else Free

-- n numbers from the first on
abbrev pub links : ℕ → ℕ → List ℕ
links first zero = []
links first (suc n) = first ∷ links (first + 1) n

-- a slot whose message of that generation went
abbrev pub slot_after : ℕ → Slot
slot_after generation =
    if nat_lt generation d.last_generation then record { generation = generation + 1; content = Free }
    else record { generation = generation; content = Retired }

-- n blocks from the first on, each followed by its next one
abbrev pub chain : ℕ → List ℕ → ℕ → List ℕ
chain zero next first = []
chain (suc n) next first = first ∷ chain n next (get_or next first 0)

-- the block n links after the first
abbrev pub node : ℕ → List ℕ → ℕ → ℕ
node zero next first = first
node (suc n) next first = node n next (get_or next first 0)

abbrev pub blocks_in : List ℕ → Run → List ℕ
blocks_in next run = chain run.blocks next run.first

abbrev pub bytes_in : List (List ℕ) → List ℕ → Run → List ℕ
bytes_in blocks next run = take run.length (flat_map (λ block. get_or blocks block []) (blocks_in next run))

abbrev pub held : List (List ℕ) → List ℕ → Content → d.Held
held blocks next Free = d.Free
held blocks next (Draft run) = d.Draft (bytes_in blocks next run) (blocks_in next run)
held blocks next (Sealed run holds) = d.Sealed (bytes_in blocks next run) (blocks_in next run) holds
held blocks next Retired = d.Retired

abbrev pub slot_of : List (List ℕ) → List ℕ → Slot → d.Slot
slot_of blocks next slot = record { generation = slot.generation; held = held blocks next slot.content }

-- the arena's fields as lists and numbers: the blocks' bytes, the links from block to block, as what each block was
-- handed out, the slots, the first free block, and how many are free
pub record ArenaFields : Type 0 where
  pub store : List (List ℕ)
  pub next : List ℕ
  pub stamps : List Stamp
  pub slots : List Slot
  pub free : ℕ
  pub free_count : ℕ

abbrev pub depot_of : ArenaFields → d.Depot
depot_of a = record { slots = map (slot_of a.store a.next) a.slots; free = chain a.free_count a.next a.free }

-- a block of a run, by how many stand before it
pub record IsPlace (next : List ℕ) (run : Run) (place : Bookmark) : Type 0 where
  pub is : node place.index next run.first ≡ place.block
  pub within : place.index ≤ run.blocks

-- whether a stamp is of the key's message, with that many blocks before its own
abbrev pub is_stamp_of : Stamp → Key → ℕ → Bool
is_stamp_of stamp key index = stamp.slot == key.slot && stamp.generation == key.generation && stamp.index == index

-- the stamp of a block that goes to the key's message, after that many
abbrev pub stamp_for : Key → ℕ → Stamp
stamp_for key index = record { slot = key.slot; index = index; generation = key.generation }

-- from where a run is read on: from a bookmark that its block's stamp bears out, or from its first block
abbrev pub start_of : Option Stamp → Key → Run → Bookmark → Bookmark
start_of None key run mark = record { index = 0; block = run.first }
start_of (Some stamp) key run mark =
    if is_stamp_of stamp key mark.index then mark else record { index = 0; block = run.first }

-- as many blocks as the bytes take, and the last of them
pub record IsRun (next : List ℕ) (run : Run) : Type 0 where
  pub enough : run.blocks ≡ d.blocks_for run.length
  pub last : 0 < run.blocks → node (run.blocks - 1) next run.first ≡ run.last

abbrev pub IsContent : List ℕ → Content → Type 0
IsContent next Free = Unit {0}
IsContent next (Draft run) = IsRun next run
IsContent next (Sealed run holds) = IsRun next run
IsContent next Retired = Unit {0}

-- the block lies in the slot's chain after that many; of a retired slot nothing is said
abbrev pub IsAt : List ℕ → Content → ℕ → ℕ → Type 0
IsAt next Free index block = ⊥
IsAt next (Draft run) index block = (index < run.blocks) × (node index next run.first ≡ block)
IsAt next (Sealed run holds) index block = (index < run.blocks) × (node index next run.first ≡ block)
IsAt next Retired index block = Unit {0}

-- a stamp that names the slot is of a message that went, or tells where the block lies
pub record IsStamped (next : List ℕ) (slot : Slot) (block : ℕ) (stamp : Stamp) : Type 0 where
  pub past : stamp.generation ≤ slot.generation
  pub here : stamp.generation ≡ slot.generation → IsAt next slot.content stamp.index block

abbrev pub AreStamped : List ℕ → List Slot → List Stamp → Type 0
AreStamped next slots stamps = (block : ℕ) (stamp : Stamp) (slot : Slot)
    → slice_get stamps block ≡ Some stamp → slice_get slots stamp.slot ≡ Some slot → IsStamped next slot block stamp

abbrev pub is_free : Content → Bool
is_free Free = true
is_free (Draft run) = false
is_free (Sealed run holds) = false
is_free Retired = false

-- the run that lies in a slot, an empty one in a slot that is not in use
abbrev pub run_of : Content → Run
run_of Free = record { first = 0; last = 0; blocks = 0; length = 0 }
run_of (Draft run) = run
run_of (Sealed run holds) = run
run_of Retired = record { first = 0; last = 0; blocks = 0; length = 0 }

abbrev pub block_count : Content → ℕ
block_count Free = 0
block_count (Draft run) = run.blocks
block_count (Sealed run holds) = run.blocks
block_count Retired = 0

pub record IsArena (a : ArenaFields) : Type 0 where
  pub sizes : All (λ bytes. length bytes ≡ BLOCK_SIZE) a.store
  pub count : length a.store ≡ length a.next
  pub limit : length a.next ≤ BLOCK_LIMIT
  pub slot_limit : length a.slots ≤ SLOT_LIMIT
  pub runs : AllByRecursion (λ slot. IsContent a.next slot.content) a.slots
  pub generations : AllByRecursion (λ slot. slot.generation ≤ d.last_generation) a.slots
  pub total : a.free_count + sum_by (λ (slot : Slot). block_count slot.content) a.slots ≡ length a.next
  pub once : d.HasEachBlockOnce (length a.next) (depot_of a)
  pub stamp_count : length a.stamps ≡ length a.next
  pub stamped : AreStamped a.next a.slots a.stamps

-- a run whose blocks are there, and hold its bytes
pub record IsReadable (blocks : List (List ℕ)) (next : List ℕ) (run : Run) : Type 0 where
  pub sizes : All (λ bytes. length bytes ≡ BLOCK_SIZE) blocks
  pub count : length blocks ≡ length next
  pub low : AllByRecursion (λ b. b < length next) (blocks_in next run)
  pub enough : run.length ≤ BLOCK_SIZE * run.blocks

-- a run of the same blocks, with that many more bytes
abbrev pub longer : Run → ℕ → Run
longer run n = record {
  first = run.first;
  last = run.last;
  blocks = run.blocks;
  length = run.length + n;
}

-- a run with one more block after its last, and the links that make it one
abbrev pub linked_run : Run → ℕ → Run
linked_run run block = record {
  first = if run.blocks == 0 then block else run.first;
  last = block;
  blocks = run.blocks + 1;
  length = run.length;
}

abbrev pub linked_next : List ℕ → Run → ℕ → List ℕ
linked_next next run block = if run.blocks == 0 then next else slice_set next run.last block
