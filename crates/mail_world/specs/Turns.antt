-- Turns at a mailbox that other programs read and empty too: between two copies it belongs to whoever takes its locks,
-- and what a worker does with one copy is a turn, from a lock to an unlock.
use Rattle.std.specs.Prelude.{◌≡◌, ◌≢◌, ℕ, ◌≤◌, Bool, true, false, List, [], ◌∷◌, ◌++◌, length, Option, ⊤}
use Rattle.std.specs.List.{AllByRecursion}
use Rattle.mail_world.specs.declared.Note.{Note}
use Rattle.mail_world.specs.declared.Outcome.{Outcome}
use Rattle.mail_world.specs.declared.Outcome.TheVariants.{Stored, Failed, OverQuota}
use Rattle.mail_world.specs.Failures.{Rises}
use Rattle.mail_world.specs.Prefixes.{IsPrefix}
use Rattle.mail_world.specs.Records.{Calendar, record_of}
use Rattle.mail_world.specs.Endings.{mended}
use Rattle.mail_world.specs.Quotas.{fits}
use Rattle.mail_world.specs.Site.{Site}

-- a mailbox at a lock or at an unlock: its bytes, how many of the first of them a sync covered, and how often its spool
-- has failed
pub record Standing : Type 0 where
  pub bytes : List ℕ
  pub synced : ℕ
  pub failures : ℕ

-- what came of asking for a turn: the mailbox at its lock and at its unlock, where it wasn't missed
pub data Turn : Type 0 where
  NotHad : Turn
  Had : Standing → Standing → Turn

-- what a turn that stores appends: what mends the bytes at the lock, and the record
abbrev pub addition : Calendar → Site → Note → List ℕ → List ℕ
addition calendar site note bytes = mended bytes ++ record_of calendar site note

-- the bytes at the lock, what mends them and the record are together within the quota
abbrev pub has_room : Calendar → Site → Option ℕ → Note → List ℕ → Bool
has_room calendar site quota note bytes =
    fits quota (length (bytes ++ mended bytes)) (length (record_of calendar site note))

-- the record stands after what was there, and a sync covers all of it
pub record IsStoringTurn (calendar : Calendar) (site : Site) (quota : Option ℕ) (note : Note)
    (lock unlock : Standing) : Type 0 where
  pub room : has_room calendar site quota note lock.bytes ≡ true
  pub whole : unlock.bytes ≡ lock.bytes ++ addition calendar site note lock.bytes
  pub covered : unlock.synced ≡ length unlock.bytes
  pub sound : unlock.failures ≡ lock.failures

-- the record would bring the mailbox above the quota, and nothing is appended
pub record IsFullTurn (calendar : Calendar) (site : Site) (quota : Option ℕ) (note : Note)
    (lock unlock : Standing) : Type 0 where
  pub room : has_room calendar site quota note lock.bytes ≡ false
  pub same : unlock.bytes ≡ lock.bytes
  pub sound : unlock.failures ≡ lock.failures

-- the spool failed: a prefix of what was to be appended is there, or none where it was cut away again
pub record IsBrokenTurn (calendar : Calendar) (site : Site) (quota : Option ℕ) (note : Note)
    (lock unlock : Standing) : Type 0 where
  pub room : has_room calendar site quota note lock.bytes ≡ true
  pub failed : Rises lock.failures unlock.failures
  pub prefix : List ℕ
  pub part : IsPrefix prefix (addition calendar site note lock.bytes)
  pub left : unlock.bytes ≡ lock.bytes ++ prefix

-- the turn of a copy, by what its lane is told
abbrev pub IsTurn : Calendar → Site → Option ℕ → Note → Outcome → Turn → Type 0
IsTurn calendar site quota note Failed NotHad = ⊤
IsTurn calendar site quota note Stored (Had lock unlock) = IsStoringTurn calendar site quota note lock unlock
IsTurn calendar site quota note OverQuota (Had lock unlock) = IsFullTurn calendar site quota note lock unlock
IsTurn calendar site quota note Failed (Had lock unlock) = IsBrokenTurn calendar site quota note lock unlock
IsTurn calendar site quota note _ _ = ⊥

-- a turn, and what is told of its copy
pub record Told : Type 0 where
  pub outcome : Outcome
  pub turn : Turn

-- each of these copies has its turn, in their order
abbrev pub HaveTurns : Calendar → Site → Option ℕ → List Note → List Told → Type 0
HaveTurns calendar site quota [] [] = ⊤
HaveTurns calendar site quota (note ∷ notes) (told ∷ turns) =
    IsTurn calendar site quota note told.outcome told.turn × HaveTurns calendar site quota notes turns
HaveTurns calendar site quota _ _ = ⊥

-- how much is kept at the end of a turn: where it broke no less than at its lock, and no more than stands there; a copy
-- that is over the quota changes nothing (what a turn keeps that stored is said above)
abbrev pub KeepsAtEnd : Outcome → Standing → Standing → Type 0
KeepsAtEnd Failed lock unlock = (lock.synced ≤ unlock.synced) × (unlock.synced ≤ length unlock.bytes)
KeepsAtEnd OverQuota lock unlock = unlock.synced ≡ lock.synced
KeepsAtEnd _ lock unlock = ⊤

-- and at its lock no more than stands there
abbrev pub KeepsInTurn : Outcome → Turn → Type 0
KeepsInTurn outcome NotHad = ⊤
KeepsInTurn outcome (Had lock unlock) = (lock.synced ≤ length lock.bytes) × KeepsAtEnd outcome lock unlock

abbrev pub AllKeep : List Told → Type 0
AllKeep turns = AllByRecursion (λ told. KeepsInTurn told.outcome told.turn) turns

-- what stands after a turn, and after these turns, where these bytes stood before
abbrev pub left_after : List ℕ → Turn → List ℕ
left_after bytes NotHad = bytes
left_after bytes (Had lock unlock) = unlock.bytes

abbrev pub left_by : List ℕ → List Told → List ℕ
left_by bytes [] = bytes
left_by bytes (told ∷ turns) = left_by (left_after bytes told.turn) turns

-- nobody else changed these bytes before the turn, and between these turns
abbrev pub BeginsAt : List ℕ → Turn → Type 0
BeginsAt bytes NotHad = ⊤
BeginsAt bytes (Had lock unlock) = lock.bytes ≡ bytes

abbrev pub AreAlone : List ℕ → List Told → Type 0
AreAlone bytes [] = ⊤
AreAlone bytes (told ∷ turns) = BeginsAt bytes told.turn × AreAlone (left_after bytes told.turn) turns

-- none of them was missed, and none broke
abbrev pub NoneFailed : List Told → Type 0
NoneFailed turns = AllByRecursion (λ told. told.outcome ≢ Failed) turns

-- whether the last turn that was had broke, by one more turn and what is told of its copy
abbrev pub breaks_last : Bool → Outcome → Turn → Bool
breaks_last broke outcome NotHad = broke
breaks_last broke Failed (Had lock unlock) = true
breaks_last broke _ (Had lock unlock) = false

-- and by these turns, one after the other
abbrev pub last_broke : Bool → List Told → Bool
last_broke broke [] = broke
last_broke broke (told ∷ turns) = last_broke (breaks_last broke told.outcome told.turn) turns
