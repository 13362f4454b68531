-- What the calls promise beyond the depot's own events.
use Rattle.std.specs.Prelude.{◌≡◌, ℕ, zero, suc, ◌<◌, ◌≤◌, Bool, true, false, List}
use Rattle.mail_world.specs.Depot as d
use Rattle.block_arena.specs.declared.key.Key.{Key}
use Rattle.block_arena.specs.declared.fault.ArenaFault.{ArenaFault}
use Rattle.block_arena.specs.declared.fault.ArenaFault.TheVariants as fault

-- the key as the definitions see it
abbrev pub depot_key : Key → d.Key
depot_key key = record { slot = key.slot; generation = key.generation }

abbrev pub IsUsed : d.Held → Type 0
IsUsed d.Free = ⊥
IsUsed (d.Draft bytes blocks) = Unit {0}
IsUsed (d.Sealed bytes blocks weight) = Unit {0}
IsUsed d.Retired = Unit {0}

abbrev pub IsDraft : d.Held → Type 0
IsDraft d.Free = ⊥
IsDraft (d.Draft bytes blocks) = Unit {0}
IsDraft (d.Sealed bytes blocks weight) = ⊥
IsDraft d.Retired = ⊥

-- a draft or a message
abbrev pub IsInUse : d.Held → Type 0
IsInUse d.Free = ⊥
IsInUse (d.Draft bytes blocks) = Unit {0}
IsInUse (d.Sealed bytes blocks weight) = Unit {0}
IsInUse d.Retired = ⊥

-- what is held under the key goes, and its blocks are free
pub record Frees (old : d.Depot) (key : d.Key) (new : d.Depot) : Type 0 where
  pub free : List ℕ
  pub given : d.IsSplitInto free (d.blocks_of (d.held_under old key)) old.free
  pub after : new ≡ d.given_back old key free

-- why a call on a draft is refused, where a draft itself is refused as full alone
abbrev pub RefusesDraft : Type 0 → d.Held → ArenaFault → Type 0
RefusesDraft IsFull d.Free f = f ≡ fault.Stale
RefusesDraft IsFull (d.Draft bytes blocks) f = (f ≡ fault.Full) × IsFull
RefusesDraft IsFull (d.Sealed bytes blocks weight) f = f ≡ fault.Sealed
RefusesDraft IsFull d.Retired f = f ≡ fault.Stale

-- why a call on a message is refused
abbrev pub RefusesMessage : d.Held → ArenaFault → Type 0
RefusesMessage d.Free f = f ≡ fault.Stale
RefusesMessage (d.Draft bytes blocks) f = f ≡ fault.Draft
RefusesMessage (d.Sealed bytes blocks weight) f = ⊥
RefusesMessage d.Retired f = f ≡ fault.Stale

-- a message has that many holds, if it is one
abbrev pub MayGiveBack : ℕ → d.Held → Type 0
MayGiveBack k d.Free = Unit {0}
MayGiveBack k (d.Draft bytes blocks) = Unit {0}
MayGiveBack k (d.Sealed bytes blocks weight) = k ≤ weight
MayGiveBack k d.Retired = Unit {0}

abbrev pub IsMessage : d.Held → Type 0
IsMessage d.Free = ⊥
IsMessage (d.Draft bytes blocks) = ⊥
IsMessage (d.Sealed bytes blocks weight) = Unit {0}
IsMessage d.Retired = ⊥

-- that many holds go, one after another
abbrev pub ReleasesAll : ℕ → d.Depot → d.Key → d.Depot → Type 0
ReleasesAll zero old key new = new ≡ old
ReleasesAll (suc k) old key new = (between : d.Depot) × d.Releases old key between × ReleasesAll k between key new

-- holds go, and after the last one the message
abbrev pub IsGivenBack : ℕ → d.Depot → d.Key → d.Depot → Bool → Type 0
IsGivenBack k old key new false = ReleasesAll k old key new × (0 < d.weight_under new key)
IsGivenBack k old key new true = (between : d.Depot) × ReleasesAll k old key between × d.Reclaims between key new
