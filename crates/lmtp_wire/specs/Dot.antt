-- Where a dot stands in data, and what it has made of the message (RFC 5321, 4.5.2).
use Rattle.std.specs.Prelude.{◌≡◌, ◌<◌, ◌≤◌, ◌⊎◌, ℕ, Bool, true, false, Option, Some, None}
use Rattle.std.specs.Prelude.{List, [], ◌∷◌, ◌++◌, length, take, drop}
use Rattle.mail_world.specs.Data.{data_end, shown}
use Rattle.lmtp_wire.specs.declared.dot.Dot.{Dot}
use Rattle.lmtp_wire.specs.declared.dot.Fed.{Fed}
use Rattle.lmtp_wire.specs.DataState.{IsInState, IsDataEnd}

-- a byte, if there is one
abbrev pub owed_bytes : Option ℕ → List ℕ
owed_bytes None = []
owed_bytes (Some byte) = byte ∷ []

-- this data was taken and hasn't ended, and this of the message was made; what is owed of it had no room
pub record HasMade (dot : Dot) (taken made : List ℕ) : Type 0 where
  pub goes_on : data_end taken ≡ None
  pub shows : shown taken ≡ made ++ owed_bytes dot.owed
  pub stands : IsInState dot.state taken

-- the data has ended, or goes on
abbrev pub HasFed : Dot → List ℕ → List ℕ → Bool → Type 0
HasFed new taken made true = IsDataEnd taken made
HasFed new taken made false = HasMade new taken made

-- these bytes were put after what was made, and only what has no room is owed
pub record PutsAfter (old new : Dot) (out_old out_new : List ℕ) (made result : ℕ) (bytes : List ℕ) : Type 0 where
  pub within : result ≤ length out_new
  pub kept : made ≤ result
  pub rest : drop result out_new ≡ drop result out_old
  pub owes : result < length out_new → new.owed ≡ None
  pub same : new.state ≡ old.state
  pub put : take result out_new ++ owed_bytes new.owed ≡ take made out_old ++ bytes

-- more may be taken: the piece has a further byte, `out` has room, and nothing is owed
pub record MayTake (dot : Dot) (piece out : List ℕ) (fed : Fed) : Type 0 where
  pub left : fed.used < length piece
  pub room : fed.made < length out
  pub paid : dot.owed ≡ None

-- more of the piece was taken, what it brings was put after what was made, and only what has no room is owed
pub record TakesOn (old new : Dot) (piece out_old out_new : List ℕ) (fed result : Fed) : Type 0 where
  pub used : result.used ≤ length piece
  pub more : fed.used < result.used
  pub made : result.made ≤ length out_new
  pub kept : fed.made ≤ result.made
  pub rest : drop result.made out_new ≡ drop result.made out_old
  pub owes : result.made < length out_new → new.owed ≡ None
  pub comes : (taken prefix : List ℕ) → HasMade old (taken ++ take fed.used piece) (prefix ++ take fed.made out_old)
      → HasFed new (taken ++ take result.used piece) (prefix ++ take result.made out_new) result.ended

-- the data goes on: the piece is used up or `out` is full, and where it isn't, all that is sure of the message was made
pub record DataGoesOn (new : Dot) (taken made : List ℕ) (piece out : ℕ) (fed : Fed) : Type 0 where
  pub after : HasMade new taken made
  pub stops : (fed.used ≡ piece) ⊎ (fed.made ≡ out)
  pub whole : fed.made < out → new.owed ≡ None

-- the one where the data has ended, and else the other
abbrev pub EndedOr : Bool → Type 0 → Type 0 → Type 0
EndedOr true ends goes_on = ends
EndedOr false ends goes_on = goes_on

-- what a call did, by whether the data has ended
abbrev pub Feeds : Dot → List ℕ → List ℕ → ℕ → ℕ → Fed → Type 0
Feeds new taken made piece out fed = EndedOr fed.ended (IsDataEnd taken made) (DataGoesOn new taken made piece out fed)
