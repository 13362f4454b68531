-- What a spool took, by what it holds, how often it failed and what its syncs covered.
use Rattle.std.specs.Prelude.{◌≡◌, ◌||◌, ℕ, ◌+◌, ◌≤◌, true, false, List, [], ◌∷◌, ◌++◌, length, ⊤}
use Rattle.std.specs.Prelude.{Option, Some, None, Result, Ok, Err}
use Rattle.mail_world.specs.Counts.{counted}
use Rattle.mail_world.specs.Failures.{Rises}
use Rattle.mail_world.specs.Prefixes.{IsPrefix}
use Rattle.mail_world.specs.Turns.{Standing, NotHad}
use Rattle.mbox_spool.specs.declared.spool.InUse.{InUse}
use Rattle.mbox_spool.specs.TurnState.{TurnState, had}

-- What contracts see of a spool: what it holds and how many bytes it may hold; how often it failed; how many of its
-- first bytes are kept; and its turns. Between two turns it is as the last unlock left it.
pub record SpoolState : Type 0 where
  pub bytes : List ℕ
  pub failures : ℕ
  pub limit : Option ℕ
  pub synced : ℕ
  pub turn : TurnState

-- a spool with a limit holds as much as that
abbrev pub IsFull : Option ℕ → List ℕ → Type 0
IsFull None held = ⊤
IsFull (Some most) held = length held ≡ most

-- the turn stays, but for whether an append stands after the last good sync
abbrev pub IsSameTurn : TurnState → TurnState → Type 0
IsSameTurn old new = new ≡ record old { is_unsynced = new.is_unsynced }

-- and a call failed in it, if there is one
abbrev pub FailsTurn : TurnState → TurnState → Type 0
FailsTurn old new = new ≡ record old { has_failed = old.has_failed || old.in_turn; is_unsynced = new.is_unsynced }

-- the spool took the text, and nothing failed
pub record SpoolTook (old new : SpoolState) (text : List ℕ) : Type 0 where
  pub appended : new.bytes ≡ old.bytes ++ text
  pub sound : new.failures ≡ old.failures
  pub limited : new.limit ≡ old.limit
  pub covered : new.synced ≡ old.synced
  pub turn : IsSameTurn old.turn new.turn

-- the bytes at the lock are left, and after them a prefix of what else was there at most
pub record IsWithin (lock most left : List ℕ) : Type 0 where
  pub above : IsPrefix lock left
  pub below : IsPrefix left most

-- a prefix of the text was taken
pub record LeavesPrefix (old new text : List ℕ) : Type 0 where
  pub prefix : List ℕ
  pub rest : List ℕ
  pub whole : text ≡ prefix ++ rest
  pub appended : new ≡ old ++ prefix

-- What is left after a fault, where a text was to be appended: in a turn the bytes at its lock, and a prefix of what
-- was appended in it, that text included, since what waited to be written may be lost.
abbrev pub LeavesPart : Option Standing → List ℕ → List ℕ → List ℕ → Type 0
LeavesPart None old new text = LeavesPrefix old new text
LeavesPart (Some lock) old new text = IsWithin lock.bytes (old ++ text) new

-- of what was kept at the lock nothing was lost, and no more is kept than there is
pub record KeepsWithin (lock : Standing) (bytes : List ℕ) (synced : ℕ) : Type 0 where
  pub least : lock.synced ≤ synced
  pub most : synced ≤ length bytes

abbrev pub KeepsSince : Option Standing → List ℕ → ℕ → Type 0
KeepsSince None bytes synced = ⊤
KeepsSince (Some lock) bytes synced = KeepsWithin lock bytes synced

-- A call failed that was to append the text. In a turn one with a limit fails only once it is full.
pub record SpoolFailed (old new : SpoolState) (text : List ℕ) : Type 0 where
  pub left : LeavesPart old.turn.began old.bytes new.bytes text
  pub failed : Rises old.failures new.failures
  pub limited : new.limit ≡ old.limit
  pub covered : old.synced ≤ new.synced
  pub full : old.turn.in_turn ≡ true → IsFull new.limit new.bytes
  pub turn : FailsTurn old.turn new.turn

-- all that the spool holds is kept
pub record HasSynced (old new : SpoolState) : Type 0 where
  pub kept : new.bytes ≡ old.bytes
  pub sound : new.failures ≡ old.failures
  pub limited : new.limit ≡ old.limit
  pub covered : new.synced ≡ length new.bytes
  pub turn : new.turn ≡ record old.turn { is_unsynced = false }

-- a sync failed, which appends nothing
abbrev pub HasNotSynced : SpoolState → SpoolState → Type 0
HasNotSynced old new = SpoolFailed old new []

-- how a spool stands
abbrev pub standing : SpoolState → Standing
standing spool = record { bytes = spool.bytes; synced = spool.synced; failures = spool.failures }

-- A turn began, at which that many bytes stand there, of which any number is kept. Others may have changed them.
pub record BeginsTurn (old new : SpoolState) (held : ℕ) : Type 0 where
  pub free : old.turn.in_turn ≡ false
  pub count : held ≡ counted (length new.bytes)
  pub covered : new.synced ≤ length new.bytes
  pub sound : new.failures ≡ old.failures
  pub limited : new.limit ≡ old.limit
  pub turn : new.turn ≡ record old.turn {
    in_turn = true;
    has_failed = false;
    is_unsynced = false;
    began = Some (standing new);
  }

-- A turn was missed, and one more refusal is counted: nothing was appended. Others may have changed the bytes
-- meanwhile.
pub record MissesTurn (old new : SpoolState) : Type 0 where
  pub same : new ≡ record old {
    bytes = new.bytes;
    synced = new.synced;
    turn = record old.turn {
      refusals = counted (old.turn.refusals + 1);
      turns = old.turn.turns ++ NotHad ∷ [];
    };
  }

-- what a lock comes to, by its answer
abbrev pub AsksForTurn : SpoolState → SpoolState → Result ℕ InUse → Type 0
AsksForTurn old new (Ok held) = BeginsTurn old new held
AsksForTurn old new (Err in_use) = MissesTurn old new

-- A turn is over. One in which nothing failed and all was synced leaves the bytes; any other leaves those at the lock
-- and a prefix of what was appended. One with a limit that was full as a call failed still is.
pub record EndsTurn (old new : SpoolState) : Type 0 where
  pub stays : old.turn.has_failed ≡ false → old.turn.is_unsynced ≡ false
      → (new.bytes ≡ old.bytes) × (new.synced ≡ old.synced)
  pub left : LeavesPart old.turn.began old.bytes new.bytes []
  pub kept : KeepsSince old.turn.began new.bytes new.synced
  pub full : old.turn.has_failed ≡ true → IsFull old.limit old.bytes → IsFull new.limit new.bytes
  pub sound : new.failures ≡ old.failures
  pub limited : new.limit ≡ old.limit
  pub turn : new.turn ≡ record old.turn {
    in_turn = false;
    began = None;
    turns = old.turn.turns ++ had old.turn.began (standing new);
  }
