-- What contracts see of a peer, and what a read and a write do.
use Rattle.std.specs.Prelude.{◌≡◌, ◌≤◌, ◌⊎◌, ℕ, ◌+◌, ◌-◌, ◌^◌, List, [], length, take, Option}
use Rattle.std.specs.Io.KnownBytes.{Appends, Consumes, IsAtEnd}
use Rattle.mail_world.specs.Failures.{Rises}
use Rattle.lmtp_talk.specs.declared.read_buffer.TheConstants.{PIECE_LIMIT}
use Rattle.lmtp_talk.specs.declared.peer.Came.{Came}
use Rattle.lmtp_talk.specs.declared.peer.Came.TheVariants.{Bytes, End, Stop}

-- the bytes that were read of it, those that are still to come and those that it was given, each where it tells; how
-- often it was read, which stays at its largest value; how often it failed; how often it said that the server is to
-- stop; the names of the borrows that it holds
pub record PeerState : Type 0 where
  pub read : Option (List ℕ)
  pub unread : Option (List ℕ)
  pub written : Option (List ℕ)
  pub reads : ℕ
  pub failures : ℕ
  pub stops : ℕ
  pub holds : List ℕ

-- these bytes were read and those were written
pub record HasMoved (old new : PeerState) (came said : List ℕ) : Type 0 where
  pub read : Appends old.read new.read came
  pub unread : Consumes old.unread new.unread came
  pub written : Appends old.written new.written said
  pub still : new.holds ≡ old.holds

-- the same, and nothing failed
pub record HasTransferred (old new : PeerState) (came said : List ℕ) : Type 0 where
  pub moved : HasMoved old new came said
  pub sound : new.failures ≡ old.failures
  pub same : new.stops ≡ old.stops

-- nothing was read or written, and it failed
pub record PeerFailed (old new : PeerState) : Type 0 where
  pub moved : HasMoved old new [] []
  pub failed : Rises old.failures new.failures
  pub same : new.stops ≡ old.stops

-- nothing was read or written, and it said that the server is to stop
pub record HasStopped (old new : PeerState) : Type 0 where
  pub moved : HasMoved old new [] []
  pub sound : new.failures ≡ old.failures
  pub stopped : Rises old.stops new.stops

-- a count that stops at 2^64 - 1 went up that often
abbrev pub RisesBy : ℕ → ℕ → ℕ → Type 0
RisesBy times old new = (new ≡ old + times) ⊎ ((2 ^ 64 - 1 ≤ old + times) × (2 ^ 64 - 1 ≤ new))

-- it was read that often
abbrev pub WasRead : ℕ → PeerState → PeerState → Type 0
WasRead made old new = RisesBy made old.reads new.reads

-- a read has brought what it answered: bytes are the piece that its buffer lends now
abbrev pub HasBrought : PeerState → PeerState → List ℕ → Came → Type 0
HasBrought old new piece (Bytes n) = (1 ≤ n) × (n ≤ PIECE_LIMIT) × (n ≡ length piece) × HasTransferred old new piece []
HasBrought old new piece End = HasTransferred old new [] [] × IsAtEnd new.unread
HasBrought old new piece Stop = HasStopped old new

-- a prefix of that many bytes was accepted
abbrev pub HasWritten : PeerState → PeerState → List ℕ → ℕ → Type 0
HasWritten old new bytes n = (1 ≤ n) × (n ≤ length bytes) × HasTransferred old new [] (take n bytes)
