-- A gatherer as contracts see it, and the slips that it takes.
use Rattle.std.specs.Prelude.{◌≡◌, ◌≢◌, ◌⊎◌, ◌≤◌, ◌<◌, ℕ, List, length, Some, None, IsSome, IsSomeAnd, All, slice_get}
use Rattle.std.specs.List.{AllByRecursion}
use Rattle.mail_world.specs.declared.Txn.{Txn}
use Rattle.mail_world.specs.declared.Slip.{Slip}
use Rattle.mail_world.specs.Slips.{answers, Gather}

-- the definitions' gatherer, and how many places it has room for
pub record Gathering : Type 0 where
  pub gather : Gather
  pub limit : ℕ

-- each place has its outcome
abbrev pub IsDone : Gather → Type 0
IsDone g = All IsSome g.places

-- a slip of another transaction, or for a place that there isn't
abbrev pub IsStranger : Gather → Slip → Type 0
IsStranger g slip = (slip.txn ≢ g.txn) ⊎ (length g.places ≤ slip.place)

-- a slip for one of its places
abbrev pub IsOwn : Gather → Slip → Type 0
IsOwn g slip = (slip.txn ≡ g.txn) × (slip.place < length g.places)

-- a slip for a place that has its outcome
abbrev pub IsDouble : Gather → Slip → Type 0
IsDouble g slip = (slip.txn ≡ g.txn) × IsSomeAnd (slice_get g.places slip.place) IsSome

-- a slip for a place that is open
abbrev pub IsAwaited : Gather → Slip → Type 0
IsAwaited g slip = (slip.txn ≡ g.txn) × (slice_get g.places slip.place ≡ Some None)

-- no slip is of the transaction
abbrev pub NoneNames : Txn → List Slip → Type 0
NoneNames txn slips = AllByRecursion (λ slip. slip.txn ≢ txn) slips

-- the gatherer is for that transaction with n recipients, and each place has the outcome of the first of these slips
-- that names it
pub record HasGathered (txn : Txn) (n : ℕ) (heard : List Slip) (g : Gather) : Type 0 where
  pub same : g.txn ≡ txn
  pub places : g.places ≡ answers txn n heard
