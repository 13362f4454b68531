-- A worker takes a turn at its mailbox for each copy, from a lock to an unlock, whatever became of the turns before.
use Rattle.std.specs.Prelude.{◌≡◌, ℕ, ◌+◌, Bool, true, false, List, [], ◌∷◌, ◌++◌, length, map, count_by, ⊤}
use Rattle.std.specs.Prelude.{Option}
use Rattle.std.specs.List.{AllByRecursion}
use Rattle.mail_world.specs.declared.Note.{Note}
use Rattle.mail_world.specs.declared.Outcome.{Outcome}
use Rattle.mail_world.specs.declared.Outcome.TheVariants.{Failed}
use Rattle.mail_world.specs.Counts.{counted}
use Rattle.mail_world.specs.Endings.{mended}
use Rattle.mail_world.specs.Quotas.{fits}
use Rattle.mail_world.specs.Turns.{Standing, Turn, NotHad, Had, Told, HaveTurns, AllKeep, breaks_last, last_broke}
use Rattle.mbox_spool.specs.Spool.{SpoolState, IsFull, SpoolFailed, standing, BeginsTurn, MissesTurn, EndsTurn}
use Rattle.mbox_spool.specs.TurnState.{knows_end}
use Rattle.box_worker.specs.declared.limit.Limit.{Limit}
use Rattle.box_worker.specs.declared.turn.TurnEnd.{TurnEnd}
use Rattle.box_worker.specs.declared.turn.TurnEnd.TheVariants.{Missed, Over, Stored, Broke}
use Rattle.box_worker.specs.Limits.{Setting, start_of, CountsTo}
use Rattle.box_worker.specs.Stored.{HasKept, MailboxState, CountedMailbox}

-- how a spool changes between two turns, and when one may be missed: its trait says what each is
pub record Manner : Type 1 where
  pub MayFind : Standing → Standing → Type 0
  pub MayRefuse : Bool → Bool → Type 0

abbrev pub manner_of : (Standing → Standing → Type 0) → (Bool → Bool → Type 0) → Manner
manner_of MayFind MayRefuse = record { MayFind = MayFind; MayRefuse = MayRefuse }

-- a spool, whether the last turn that was had broke, and how many turns were missed
pub record TurnedMailbox : Type 0 where
  pub state : SpoolState
  pub faulty : Bool
  pub in_use : ℕ

abbrev pub turned : SpoolState → Bool → ℕ → TurnedMailbox
turned state faulty in_use = record { state = state; faulty = faulty; in_use = in_use }

-- ---- one copy, by the text of its record

-- what mends the spool and the text were appended, and a sync covers all that it holds
pub record HasKeptMended (old new : SpoolState) (text : List ℕ) : Type 0 where
  pub mending : List ℕ
  pub mends : knows_end old.turn ≡ true → mending ≡ mended old.bytes
  pub kept : HasKept old new (mending ++ text)

-- the spool failed before a sync covered them
pub record HasNotKeptMended (old new : SpoolState) (text : List ℕ) : Type 0 where
  pub mending : List ℕ
  pub mends : knows_end old.turn ≡ true → mending ≡ mended old.bytes
  pub broken : SpoolFailed old new (mending ++ text)

-- whether a text of that size fits the quota, after what stands there at the lock and what mends it
abbrev pub Measures : Option ℕ → ℕ → SpoolState → Bool → Type 0
Measures quota size locked fit = fits quota (start_of locked) size ≡ fit

-- what is done between lock and unlock: the record is stored,
pub record StoresInTurn (quota : Option ℕ) (text : List ℕ) (locked done : SpoolState) : Type 0 where
  pub measured : Measures quota (length text) locked true
  pub kept : HasKeptMended locked done text

-- or kept out, and nothing is appended,
pub record KeepsOutOfTurn (quota : Option ℕ) (text : List ℕ) (locked done : SpoolState) : Type 0 where
  pub measured : Measures quota (length text) locked false
  pub same : done ≡ locked

-- or the spool failed
pub record BreaksTurn (quota : Option ℕ) (text : List ℕ) (locked done : SpoolState) : Type 0 where
  pub measured : Measures quota (length text) locked true
  pub broken : HasNotKeptMended locked done text

-- a turn from its lock on: by what was done in it, to its unlock
pub record FromLock (Does : SpoolState → SpoolState → Type 0) (locked new : SpoolState) : Type 0 where
  pub done : SpoolState
  pub does : Does locked done
  pub ends : EndsTurn done new

-- a turn that wasn't missed
pub record HadTurn (manner : Manner) (Does : SpoolState → SpoolState → Type 0) (old new : SpoolState) : Type 0 where
  pub held : ℕ
  pub locked : SpoolState
  pub begins : BeginsTurn old locked held
  pub found : manner.MayFind (standing old) (standing locked)
  pub granted : manner.MayRefuse old.turn.has_failed false
  pub rest : FromLock Does locked new

-- one that was
pub record MissedTurn (manner : Manner) (old new : SpoolState) : Type 0 where
  pub misses : MissesTurn old new
  pub found : old.turn.in_turn ≡ false → manner.MayFind (standing old) (standing new)
  pub refused : old.turn.in_turn ≡ false → manner.MayRefuse old.turn.has_failed true

-- A copy with that record, by how its turn ended. It has one, whatever became of those before: one that is missed, that
-- keeps the record out or stores it, or that breaks.
abbrev pub TakesTurn : Manner → Option ℕ → List ℕ → TurnEnd → TurnedMailbox → TurnedMailbox → Type 0
TakesTurn manner quota text (Missed reason) old new = MissedTurn manner old.state new.state
    × (new ≡ turned new.state old.faulty (counted (old.in_use + 1)))
TakesTurn manner quota text Over old new = HadTurn manner (KeepsOutOfTurn quota text) old.state new.state
    × (new ≡ turned new.state false old.in_use)
TakesTurn manner quota text Stored old new = HadTurn manner (StoresInTurn quota text) old.state new.state
    × (new ≡ turned new.state false old.in_use)
TakesTurn manner quota text (Broke reason) old new = HadTurn manner (BreaksTurn quota text) old.state new.state
    × (new ≡ turned new.state true old.in_use)

-- the same for a worker's count under a quota, which is some number of bytes before and after
abbrev pub TurnsCopy : Manner → List ℕ → TurnEnd → CountedMailbox → CountedMailbox → Type 0
TurnsCopy manner text end old new = (quota : Option ℕ) (n : ℕ) → CountsTo quota n old.limit
    → TakesTurn manner quota text end (turned old.mailbox.state old.mailbox.faulty old.in_use)
    (turned new.mailbox.state new.mailbox.faulty new.in_use)
    × ((m : ℕ) × CountsTo quota m new.limit)

-- what is done in a turn that was had, by how it ends
abbrev pub DoesInTurn : Option ℕ → List ℕ → TurnEnd → MailboxState → MailboxState → Type 0
DoesInTurn quota text (Missed reason) old new = ⊥
DoesInTurn quota text Over old new = KeepsOutOfTurn quota text old.state new.state × (new.faulty ≡ false)
DoesInTurn quota text Stored old new = StoresInTurn quota text old.state new.state × (new.faulty ≡ false)
DoesInTurn quota text (Broke reason) old new = BreaksTurn quota text old.state new.state × (new.faulty ≡ true)

-- and from there to its unlock
abbrev pub EndsInTurn : Option ℕ → List ℕ → TurnEnd → MailboxState → MailboxState → Type 0
EndsInTurn quota text (Missed reason) old new = ⊥
EndsInTurn quota text Over old new = FromLock (KeepsOutOfTurn quota text) old.state new.state × (new.faulty ≡ false)
EndsInTurn quota text Stored old new = FromLock (StoresInTurn quota text) old.state new.state × (new.faulty ≡ false)
EndsInTurn quota text (Broke reason) old new = FromLock (BreaksTurn quota text) old.state new.state
    × (new.faulty ≡ true)

-- the worker counts again what stands there at the lock
abbrev pub MeasuresAgain : SpoolState → Option Limit → Option Limit → Type 0
MeasuresAgain locked old new = (quota : Option ℕ) (n : ℕ) → CountsTo quota n old → CountsTo quota (start_of locked) new

-- a copy in a turn, where the worker has counted what stands there and what mends it
abbrev pub CountsInTurn : (Option ℕ → Type 0) → CountedMailbox → CountedMailbox → Type 0
CountsInTurn Does old new = (quota : Option ℕ) → CountsTo quota (start_of old.mailbox.state) old.limit
    → Does quota × ((m : ℕ) × CountsTo quota m new.limit)

-- ---- copies one after another, by their turns

-- what stood at a lock, or after a turn that was missed, is what the spool may find after what stood last
abbrev pub IsFound : (Standing → Standing → Type 0) → Standing → Turn → Standing → Type 0
IsFound MayFind last NotHad left = MayFind last left
IsFound MayFind last (Had lock unlock) left = MayFind last lock × (lock.failures ≡ last.failures) × (left ≡ unlock)

abbrev pub AreFound : (Standing → Standing → Type 0) → Standing → List Told → Standing → Type 0
AreFound MayFind last [] now = now ≡ last
AreFound MayFind last (told ∷ turns) now =
    (left : Standing) × IsFound MayFind last told.turn left × AreFound MayFind left turns now

abbrev pub is_not_had : Turn → Bool
is_not_had NotHad = true
is_not_had (Had lock unlock) = false

-- each turn was missed as the spool may refuse it
abbrev pub AreRefused : (Bool → Bool → Type 0) → Bool → List Told → Type 0
AreRefused MayRefuse broke [] = ⊤
AreRefused MayRefuse broke (told ∷ turns) = MayRefuse broke (is_not_had told.turn)
    × AreRefused MayRefuse (breaks_last broke told.outcome told.turn) turns

-- where a turn broke a spool with a limit is full
abbrev pub IsFullWhereBroken : Option ℕ → Outcome → Turn → Type 0
IsFullWhereBroken limit Failed (Had lock unlock) = IsFull limit unlock.bytes
IsFullWhereBroken limit _ _ = ⊤

-- What a worker came to at its spool: each copy that it took has its turn, in the order taken, as the turns say that
-- the spool lists since. What stood at each lock is what the spool may find there, and none was missed but where it may
-- refuse one; the last turn that was had says whether the mailbox is faulty, and those that were missed are counted.
pub record HasTurned (at : Setting) (manner : Manner) (copies : List Note) (turns : List Told)
    (old new : TurnedMailbox) : Type 0 where
  pub are : HaveTurns at.calendar at.site at.quota copies turns
  pub keep : AllKeep turns
  pub listed : new.state.turn.turns ≡ old.state.turn.turns ++ map (λ told. told.turn) turns
  pub free : old.state.turn.in_turn ≡ false → new.state.turn.in_turn ≡ false
  pub found : old.state.turn.in_turn ≡ false
      → AreFound manner.MayFind (standing old.state) turns (standing new.state)
  pub refused : old.state.turn.in_turn ≡ false → AreRefused manner.MayRefuse old.state.turn.has_failed turns
  pub limited : new.state.limit ≡ old.state.limit
  pub full : AllByRecursion (λ told. IsFullWhereBroken old.state.limit told.outcome told.turn) turns
  pub failed : new.state.turn.has_failed ≡ last_broke old.state.turn.has_failed turns
  pub broke : new.faulty ≡ last_broke old.faulty turns
  pub missed : new.in_use ≡ counted (old.in_use + count_by (λ told. is_not_had told.turn) turns)
