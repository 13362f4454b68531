-- What contracts see of a spool in memory.
use Rattle.std.specs.Prelude.{◌≡◌, ℕ, ◌+◌, ◌≤◌, Bool, true, false, List, length, Option, Some, None}
use Rattle.mail_world.specs.Prefixes.{IsPrefix}
use Rattle.mail_world.specs.Turns.{Standing}
use Rattle.mbox_spool.specs.Spool.{SpoolState}
use Rattle.std.specs.declared.io.ErrorKind.TheVariants.{StorageFull}
use Rattle.mbox_spool.specs.TurnLog.{TurnLog, no_turns}
use Rattle.mbox_spool.specs.declared.spool.SpoolFault.{SpoolFault}
use Rattle.mbox_spool.specs.declared.spool.SpoolFault.TheVariants.{NoTurn, Other}

pub record MemorySpool : Type 0 where
  pub bytes : List ℕ
  -- how many more bytes it takes
  pub room : ℕ
  pub failures : ℕ
  -- how many of its first bytes the last sync covered
  pub synced : ℕ
  -- it is in a turn, a call failed in this one or in the last, and an append stands after the last sync
  pub in_turn : Bool
  pub has_failed : Bool
  pub is_unsynced : Bool
  -- how many locks were refused
  pub refusals : ℕ
  pub log : TurnLog

-- how it stands
abbrev pub standing_of : MemorySpool → Standing
standing_of spool = record { bytes = spool.bytes; synced = spool.synced; failures = spool.failures }

-- what contracts see of it as a spool
abbrev pub state_of : MemorySpool → SpoolState
state_of spool = record {
  bytes = spool.bytes;
  failures = spool.failures;
  limit = Some (length spool.bytes + spool.room);
  synced = spool.synced;
  turn = record {
    in_turn = spool.in_turn;
    has_failed = spool.has_failed;
    is_unsynced = spool.is_unsynced;
    refusals = spool.refusals;
    began = spool.log.began;
    turns = spool.log.turns;
  };
}

-- why an append fails, by whether it is in a turn and whether a call failed in that: it is full
abbrev pub fault_in : Bool → Bool → SpoolFault
fault_in true false = Other StorageFull
fault_in true true = NoTurn
fault_in false has_failed = NoTurn

-- what stood at the lock is still there, and as much of it is kept
pub record StandsOn (lock : Standing) (bytes : List ℕ) (synced : ℕ) : Type 0 where
  pub still : IsPrefix lock.bytes bytes
  pub kept : lock.synced ≤ synced

abbrev pub BeganAt : Option Standing → List ℕ → ℕ → Type 0
BeganAt None bytes synced = ⊥
BeganAt (Some lock) bytes synced = StandsOn lock bytes synced

-- What holds of it between two calls: it keeps no more than it has, a lock is there in a turn alone, and a call failed
-- only once its room was used up.
pub record IsInOrder (spool : MemorySpool) : Type 0 where
  pub kept : spool.synced ≤ length spool.bytes
  pub free : spool.in_turn ≡ false → spool.log.began ≡ None
  pub stands : spool.in_turn ≡ true → BeganAt spool.log.began spool.bytes spool.synced
  pub full : spool.has_failed ≡ true → spool.room ≡ 0

-- one that holds these bytes, takes that many more, and had no turn
abbrev pub unused : List ℕ → ℕ → MemorySpool
unused bytes room = record {
  bytes = bytes;
  room = room;
  failures = 0;
  synced = 0;
  in_turn = false;
  has_failed = false;
  is_unsynced = false;
  refusals = 0;
  log = no_turns;
}
