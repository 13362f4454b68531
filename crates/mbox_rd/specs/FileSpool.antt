-- What contracts see of a spool over a file, which other programs use too.
use Rattle.std.specs.Prelude.{◌≡◌, ℕ, ◌+◌, ◌-◌, ◌≤◌, ◌^◌, min, ◌||◌, Bool, true, false, List, [], ◌++◌, length, take}
use Rattle.std.specs.Prelude.{Option, Some, None, if◌then◌else◌}
use Rattle.mail_world.specs.Counts.{counted}
use Rattle.mail_world.specs.Failures.{Rises}
use Rattle.mail_world.specs.Prefixes.{IsPrefix}
use Rattle.mail_world.specs.Turns.{Standing}
use Rattle.mbox_spool.specs.Lines.{CopiesLines}
use Rattle.mbox_spool.specs.Spool.{SpoolState}
use Rattle.mbox_spool.specs.TurnLog.{TurnLog, no_turns_at, begun_at, missed, left_at}
use Rattle.mbox_spool.specs.declared.tail.Tail.{Tail}
use Rattle.mbox_file.specs.MailboxFile.{FileState, IsHeld}
use Rattle.mail_world.specs.Endings.{ending}
use Rattle.mbox_spool.specs.Tail.{ending_of}
use Rattle.mbox_rd.specs.Patience.{IsPutOff}
use Rattle.mbox_rd.specs.Turn.{HasBegun, HasEndedTurn}
use Rattle.mbox_rd.specs.declared.patience.Patience.{Patience}

pub record FileSpool (F : Type 0) : Type 0 where
  pub file : F
  -- how many seconds a lock waits for other programs
  pub wait : ℕ
  -- and what it was waited for so far
  pub patience : Patience
  -- the bytes that were taken and aren't written yet
  pub waiting : List ℕ
  -- it is in a turn
  pub in_turn : Bool
  -- a call failed in this turn, or, outside of turns, in the last one that was had
  pub has_failed : Bool
  -- an append stands after the last good sync
  pub is_unsynced : Bool
  -- what an earlier turn cut off may not be kept so, and nothing is appended over that
  pub is_unsettled : Bool
  -- its locks were taken before a turn is asked for
  pub is_ready : Bool
  -- how long the file was as the turn began, or as these locks were taken
  pub began : ℕ
  -- how the file ended then, with what was written since, as long as no call failed
  pub tail : Tail
  pub failures : ℕ
  -- how many turns were missed
  pub refusals : ℕ
  -- how the spool stood at this turn's lock, and the turns that are over
  pub log : TurnLog

-- the file's bytes and then what waits
abbrev pub contents_of : {F : Type 0} → (F → FileState) → FileSpool F → List ℕ
contents_of state spool = (state spool.file).bytes ++ spool.waiting

-- one of which nothing waits stands so, by its file and by how often it has failed
abbrev pub standing_of : FileState → ℕ → Standing
standing_of file failures = record { bytes = file.bytes; synced = file.kept; failures = failures }

-- what contracts see of it as a spool, by whether they see its file or how the last turn left that
abbrev pub seen_by : {F : Type 0} → (F → FileState) → Bool → FileSpool F → SpoolState
seen_by state sees_file spool = record {
  bytes = if sees_file then contents_of state spool else spool.log.stands.bytes;
  failures = spool.failures;
  limit = None;
  synced = if sees_file then (state spool.file).kept else spool.log.stands.synced;
  turn = record {
    in_turn = spool.in_turn;
    has_failed = spool.has_failed;
    is_unsynced = spool.is_unsynced;
    refusals = spool.refusals;
    began = spool.log.began;
    turns = spool.log.turns;
  };
}

-- The file is seen in a turn alone. Between two turns it stays as the last one left it, and before the first one as the
-- spool found it.
abbrev pub state_of : {F : Type 0} → (F → FileState) → FileSpool F → SpoolState
state_of state spool = seen_by state spool.in_turn spool

-- it knows how the file ends
abbrev pub KnowsEnd : {F : Type 0} → (F → FileState) → FileSpool F → Type 0
KnowsEnd state spool = ending_of spool.tail ≡ ending (state spool.file).bytes

-- It knows the length of what stood at the lock, and that still begins the file. What was kept then is kept, and no
-- more is kept than there is.
pub record BeginsWith (lock : Standing) (began : ℕ) (file : FileState) : Type 0 where
  pub size : began ≡ length lock.bytes
  pub still : take began file.bytes ≡ lock.bytes
  pub within : lock.synced ≤ began
  pub least : lock.synced ≤ file.kept
  pub most : file.kept ≤ length file.bytes

abbrev pub StandsOn : Option Standing → ℕ → FileState → Type 0
StandsOn None began file = ⊥
StandsOn (Some lock) began file = BeginsWith lock began file

-- Locks were taken before a turn is asked for, on the file that the path names, where a crash leaves it: its length and
-- end are known. The last turn didn't break.
pub record IsReady {F : Type 0} (state : F → FileState) (spool : FileSpool F) : Type 0 where
  pub begun : HasBegun (state spool.file) (state spool.file) (record { at = spool.began; tail = spool.tail })
  pub entry : (state spool.file).has_entry ≡ true
  pub sound : spool.has_failed ≡ false

-- What holds of it between two calls: outside a turn nothing waits, nor after a good sync; in a turn both locks are
-- held, a crash leaves the file at its path, and it still begins with what stood there at the lock, of which as much is
-- kept; and as long as no call failed in it, its end is known. Locks that were taken before a turn are held until it is
-- asked for. Where a turn was put off its wait goes on.
pub record IsInOrder {F : Type 0} (state : F → FileState) (spool : FileSpool F) : Type 0 where
  pub free : spool.in_turn ≡ false → (spool.waiting ≡ []) × (spool.log.began ≡ None)
  pub synced : spool.is_unsynced ≡ false → spool.waiting ≡ []
  pub held : spool.in_turn ≡ true → IsHeld (state spool.file)
  pub entry : spool.in_turn ≡ true → (state spool.file).has_entry ≡ true
  pub stands : spool.in_turn ≡ true → StandsOn spool.log.began spool.began (state spool.file)
  pub ends : spool.in_turn ≡ true → spool.has_failed ≡ false → KnowsEnd state spool
  pub settled : spool.is_unsettled ≡ false → (state spool.file).cut_off ≡ []
  pub ready : spool.in_turn ≡ false → spool.is_ready ≡ true → IsReady state spool
  pub unready : spool.in_turn ≡ true → spool.is_ready ≡ false
  pub put_off : spool.patience.goes_on ≡ true → IsPutOff spool.patience spool.wait

-- Just opened: nothing waits, nothing failed, and it is in no turn, and had none: it stands as its file does. What was
-- cut off before, by another process too, may not be kept so.
pub record IsOpened {F : Type 0} (state : F → FileState) (spool : FileSpool F) : Type 0 where
  pub empty : spool.waiting ≡ []
  pub sound : spool.has_failed ≡ false
  pub free : spool.in_turn ≡ false
  pub unsettled : spool.is_unsettled ≡ true
  pub failures : spool.failures ≡ 0
  pub refusals : spool.refusals ≡ 0
  pub unready : spool.is_ready ≡ false
  pub turns : spool.log ≡ no_turns_at (standing_of (state spool.file) 0)

-- A turn began: both locks are on the file that the path names, where a crash leaves it, and its length and end are
-- those that it has now. Nothing waits.
pub record HasTurn {F : Type 0} (state : F → FileState) (new : FileSpool F) : Type 0 where
  pub held : IsHeld (state new.file)
  pub entry : (state new.file).has_entry ≡ true
  pub began : new.began ≡ length (state new.file).bytes
  pub tail : ending_of new.tail ≡ ending (state new.file).bytes
  pub settled : new.is_unsettled ≡ false → (state new.file).cut_off ≡ []

-- What a turn is to the fields: nothing waits, and no call failed in it yet.
pub record StartsTurn {F : Type 0} (state : F → FileState) (old new : FileSpool F) : Type 0 where
  pub was_free : old.in_turn ≡ false
  pub same : new ≡ record old {
    file = new.file;
    patience = new.patience;
    is_ready = false;
    waiting = [];
    in_turn = true;
    has_failed = false;
    is_unsynced = false;
    is_unsettled = new.is_unsettled;
    began = new.began;
    tail = new.tail;
    log = begun_at old.log (standing_of (state new.file) old.failures);
  }

-- a missed turn is counted, and else only the file may have changed, and how long it was waited for
abbrev pub CountsRefusal : {F : Type 0} → FileSpool F → FileSpool F → Type 0
CountsRefusal old new = new ≡ record old {
  file = new.file;
  patience = new.patience;
  is_ready = false;
  refusals = counted (old.refusals + 1);
  log = missed old.log;
}

-- A turn is over: both locks were given back, but the lock file where it couldn't be removed. The bytes stay, or,
-- where a call failed in this turn, they are cut back.
abbrev pub HasEnded : {F : Type 0} → (F → FileState) → FileSpool F → FileSpool F → Type 0
HasEnded state old new = HasEndedTurn (state old.file) (state new.file) old.has_failed old.began

-- what the end of a turn is to the fields
abbrev pub StopsTurn : {F : Type 0} → (F → FileState) → FileSpool F → FileSpool F → Type 0
StopsTurn state old new = new ≡ record old {
  file = new.file;
  waiting = [];
  in_turn = false;
  is_unsettled = new.is_unsettled;
  log = left_at old.log (standing_of (state new.file) old.failures);
}

-- the bytes were taken: the file's and what waits grow by them, and no lock changes
pub record HasTaken {F : Type 0} (state : F → FileState) (old new : FileSpool F) (text : List ℕ) : Type 0 where
  pub contents : contents_of state new ≡ contents_of state old ++ text
  pub same : (state new.file) ≡ record (state old.file) {
    bytes = (state new.file).bytes;
    moments = (state new.file).moments;
  }

-- the file got all of the text, and keeps all that it has through a crash
pub record KeepsWritten (old new : FileState) (text : List ℕ) : Type 0 where
  pub contents : new.bytes ≡ old.bytes ++ text
  pub kept : new.kept ≡ length new.bytes
  pub same : new ≡ record old { bytes = new.bytes; kept = new.kept; cut_off = []; moments = new.moments }

-- all that was taken is in the file, which keeps it
abbrev pub KeepsAll : {F : Type 0} → (F → FileState) → FileSpool F → FileSpool F → Type 0
KeepsAll state old new = KeepsWritten (state old.file) (state new.file) old.waiting

-- what waits has grown by lines of the piece, as they are written in place of its first n bytes
pub record AddsLines (old new piece : List ℕ) (n : ℕ) : Type 0 where
  pub text : List ℕ
  pub added : new ≡ old ++ text
  pub copies : CopiesLines piece text n

-- a call in a turn stays in it, and nothing failed
pub record StaysSound {F : Type 0} (old new : FileSpool F) : Type 0 where
  pub turn : old.in_turn ≡ true
  pub sound : old.has_failed ≡ false
  pub same : new ≡ record old {
    file = new.file;
    waiting = new.waiting;
    is_unsynced = new.is_unsynced;
    tail = new.tail;
  }

-- it only counts one more failure, which breaks its turn
abbrev pub failed_again : {F : Type 0} → FileSpool F → FileSpool F
failed_again spool = record spool {
  waiting = [];
  has_failed = spool.has_failed || spool.in_turn;
  failures = min (spool.failures + 1) (2 ^ 64 - 1);
}

-- the file failed: it has a part of the text after what it had, what was kept stays kept, and no lock changed
pub record LosesPart (old new : FileState) (text : List ℕ) : Type 0 where
  pub prefix : List ℕ
  pub part : IsPrefix prefix text
  pub same : new ≡ record old {
    bytes = old.bytes ++ prefix;
    kept = new.kept;
    moments = new.moments;
    faults = new.faults;
  }
  pub kept : old.kept ≤ new.kept
  pub within : old.kept ≤ length old.bytes → new.kept ≤ length new.bytes
  pub failed : Rises old.faults new.faults

-- it has a part of what waited
abbrev pub HasLost : {F : Type 0} → (F → FileState) → FileSpool F → FileSpool F → Type 0
HasLost state old new = LosesPart (state old.file) (state new.file) old.waiting

-- nothing waits any more; or the turn is broken
abbrev pub HasWritten : {F : Type 0} → FileSpool F → FileSpool F → Type 0
HasWritten old new = new ≡ record old { file = new.file; waiting = []; tail = new.tail }

abbrev pub HasNotWritten : {F : Type 0} → FileSpool F → FileSpool F → Type 0
HasNotWritten old new = new ≡ record old { file = new.file; has_failed = true }

-- its turn broke in this call
abbrev pub Breaks : {F : Type 0} → FileSpool F → FileSpool F → Type 0
Breaks old new = new ≡ record (failed_again old) { file = new.file }
