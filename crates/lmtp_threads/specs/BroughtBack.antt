-- What worker threads hand back, the mailboxes in their own order again.
use Rattle.std.specs.Prelude.{◌≡◌, ℕ, List, [], ◌∷◌, ◌++◌, map, length, slice_get, Some}
use Rattle.std.specs.List.{AllZip, AllByRecursion}
use Rattle.box_worker.specs.Shares.{KeptState, numbers_of}
use Rattle.lmtp_threads.specs.declared.tally.Tally.{Tally}
use Rattle.lmtp_threads.specs.Works.{SpoolsView}
use Rattle.lmtp_threads.specs.Reports.{tally_of, TellsOfSpool}
use Rattle.lmtp_threads.specs.ByThread.{numbers_from, numbers_at}

-- what came back of mailboxes so far, and how many there is room for
pub record BoxesState (S : Type 0) : Type 0 where
  pub lent : List S
  pub tallies : List Tally
  pub room : ℕ

-- threads' mailboxes: of each thread those that are numbered so, of so many mailboxes from number b on
abbrev pub AreDealt : ℕ → ℕ → List (List KeptState) → Type 0
AreDealt b count boxes = (t : ℕ) (own : List KeptState) → slice_get boxes t ≡ Some own
    → numbers_of own ≡ numbers_at (length boxes) t b count

-- one of threads' mailboxes
pub record IsAmong (boxes : List (List KeptState)) (kept : KeptState) : Type 0 where
  pub thread : ℕ
  pub own : List KeptState
  pub own_is : slice_get boxes thread ≡ Some own
  pub place : ℕ
  pub is : slice_get own place ≡ Some kept

module _ {S : Type 0} where
  -- nothing yet
  abbrev pub no_boxes : ℕ → BoxesState S
  no_boxes room = record { lent = []; tallies = []; room = room }

  module _ (view : SpoolsView S) where
    -- one more mailbox
    pub record TakesBox (kept : KeptState) (old new : BoxesState S) : Type 0 where
      pub lent : S
      pub tells : TellsOfSpool view kept lent
      pub is : new ≡ record {
        lent = old.lent ++ lent ∷ [];
        tallies = old.tallies ++ tally_of kept ∷ [];
        room = old.room;
      }

    -- so many of these mailboxes came back, in the order of their numbers
    pub record HoldBoxes (count : ℕ) (boxes : List (List KeptState)) (back : BoxesState S) : Type 0 where
      pub came : List KeptState
      pub numbers : numbers_of came ≡ numbers_from 0 count
      pub among : AllByRecursion (IsAmong boxes) came
      pub lent : AllZip (TellsOfSpool view) came back.lent
      pub tallies : back.tallies ≡ map tally_of came
