-- The arena's messages as the entries that the keeper's seat knows, and what the keeper's type keeps of them.
use Rattle.std.specs.Prelude.{◌≡◌, ℕ, ◌+◌, ◌≤◌, List, [], length, map, nat_lt, if◌then◌else◌, Some, slice_get}
use Rattle.atomic_table.specs.Table.{Me}
use Rattle.atomic_table.specs.Seated.{TableId}
use Rattle.mail_world.specs.Depot as d
use Rattle.msg_depot.specs.declared.view.View.{View}
use Rattle.msg_depot.specs.declared.view.Claim.{Claim}
use Rattle.msg_depot.specs.declared.view.Entry.{Entry}
use Rattle.msg_depot.specs.declared.view.Phase.{Phase}
use Rattle.msg_depot.specs.declared.view.Phase.TheVariants.{Free, Drafted, Sealed, Retired}
use Rattle.msg_depot.specs.Rules.{entry, resting, word_of}

-- the key of a token's message
abbrev pub key_of : Claim → d.Key
key_of claim = record { slot = claim.slot; generation = claim.generation }

-- what a slot is in use for
abbrev pub phase_held : d.Held → Phase
phase_held d.Free = Free
phase_held (d.Draft bytes blocks) = Drafted
phase_held (d.Sealed bytes blocks weight) = Sealed
phase_held d.Retired = Retired

-- what the keeper's seat knows of a slot
abbrev pub entry_of : d.Slot → Entry
entry_of slot = entry (phase_held slot.held) slot.generation (d.bytes_of slot.held)

-- what it knows of all slots
abbrev pub slot_entries : d.Depot → List Entry
slot_entries depot = map entry_of depot.slots

-- the slot after a message of that generation
abbrev pub slot_given_back : ℕ → d.Slot
slot_given_back generation =
    if nat_lt generation d.last_generation then record { generation = generation + 1; held = d.Free }
    else record { generation = generation; held = d.Retired }

-- a message keeps the holds that it was sealed with in the arena's count, until it goes
abbrev pub HasCount : d.Held → Type 0
HasCount d.Free = Unit {0}
HasCount (d.Draft bytes blocks) = Unit {0}
HasCount (d.Sealed bytes blocks weight) = 1 ≤ weight
HasCount d.Retired = Unit {0}

-- a depot without a name: the table of its words, and what lies in its arena
pub record Unnamed : Type 0 where
  pub table : TableId
  pub depot : d.Depot

-- The keeper's seat is of the named table and knows the arena's messages, in as many slots as there are words for. Each
-- block is in one message or free, and stands there once.
pub record IsKeeper (named table : TableId) (me : Me (Unit {0}) View) (depot : d.Depot) : Type 0 where
  pub same_table : table ≡ named
  pub knows : me ≡ (resting (slot_entries depot), [])
  pub long : named.words ≡ word_of (length depot.slots)
  pub blocks : ℕ
  pub once : d.HasEachBlockOnce blocks depot
  pub counts : (i : ℕ) (slot : d.Slot) → slice_get depot.slots i ≡ Some slot → HasCount slot.held
