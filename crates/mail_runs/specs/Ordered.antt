-- How a server's threads go about their deeds: a lane sends one message after the other, and of each mailbox's copies
-- at most as many wait as its channel has room for.
use Rattle.std.specs.Prelude.{◌≡◌, ℕ, ◌+◌, ◌<◌, ◌≤◌, List, [], ◌∷◌, ◌++◌, map, filter, drop, length}
use Rattle.std.specs.List.{AllByRecursion}
use Rattle.mail_world.specs.declared.Note.{Note}
use Rattle.mail_world.specs.declared.Slip.{Slip}
use Rattle.mail_world.specs.Slips.{answers, txn_of}
use Rattle.mail_world.specs.Lists.{Transaction, copies}
use Rattle.mail_progress.specs.Orderly.{HasOutcome, IsOrderly}
use Rattle.mail_runs.specs.Deeds.{Deed, Gave, Heard, given_to, taken_by}
use Rattle.mail_runs.specs.Courses.{Server}
use Rattle.mail_runs.specs.Histories.{Threads, IsHistory}
use Rattle.mail_runs.specs.RunOf.{IsRunOf}
use Rattle.mail_runs.specs.Timed.{Timed, whats, is_of_lane, AreTimed}
use Rattle.mail_runs.specs.Known.{Known, AreKnown, timed_of}

-- what a lane did
abbrev pub done_by : ℕ → List Deed → List Deed
done_by k deeds = filter (is_of_lane k) deeds

-- The lane sent these transactions one after the other: of each it gave the copies, at most as many as there is room
-- for slips, and then heard slips until each copy had its answer.
abbrev pub AreExchanges : ℕ → ℕ → List Transaction → List Deed → Type 0
AreExchanges room k [] deeds = deeds ≡ []
AreExchanges room k (t ∷ ts) deeds = (slips : List Slip) × (rest : List Deed)
    × (deeds ≡ map Gave (copies k t) ++ map Heard slips ++ rest)
    × (length (copies k t) ≤ room)
    × AllByRecursion HasOutcome (answers (txn_of k t.number) (length (copies k t)) slips)
    × AreExchanges room k ts rest

-- as a copy was given, fewer waited in the mailbox's channel than the capacity, where that many waited at first
abbrev pub FindsRoom : ℕ → ℕ → ℕ → List Deed → Type 0
FindsRoom capacity b waiting deeds = (before after : List Deed) (note : Note) → deeds ≡ before ++ Gave note ∷ after
    → note.mailbox ≡ b → waiting + length (given_to b before) < capacity + length (taken_by b before)

-- a history in which each lane and each mailbox's channel goes on so
pub record IsOrderlyHistory (room capacity : ℕ) (s : Server) (t : Threads) (deeds : List Deed) : Type 0 where
  pub history : IsHistory s t deeds
  pub exchanges : (k : ℕ) → k < s.lanes → AreExchanges room k (t.transactions k) (done_by k deeds)
  pub finds_room : (b : ℕ) → b < s.boxes → FindsRoom capacity b 0 deeds

-- a run in the order in which a running server goes, over channels of its capacity
pub record IsOrderlyRunOf (room capacity : ℕ) (s : Server) (t : Threads) : Type 0 where
  pub is : IsRunOf s t
  pub capacity_is : is.start.capacity ≡ capacity
  pub orderly : IsOrderly room is.start is.run

-- such a history gives such a run
abbrev pub AnOrderlyHistoryGivesAnOrderlyRun : Type 0
AnOrderlyHistoryGivesAnOrderlyRun = (room capacity : ℕ) (s : Server) (t : Threads) (deeds : List Deed)
    → IsOrderlyHistory room capacity s t deeds → IsOrderlyRunOf room capacity s t

-- each of the first times is before the one that stands at its place among the second
abbrev pub AreBefore : List ℕ → List ℕ → Type 0
AreBefore taken [] = Unit {0}
AreBefore [] (a ∷ accepted) = ⊥
AreBefore (t ∷ taken) (a ∷ accepted) = (t < a) × AreBefore taken accepted

-- what a channel of that capacity accepted was accepted after what stood that many places before it was taken
abbrev pub MakesRoom : ℕ → List ℕ → List ℕ → Type 0
MakesRoom capacity accepted taken = AreBefore taken (drop capacity accepted)

-- deeds with times of threads that go on so
pub record AreTimedInOrder (room capacity : ℕ) (s : Server) (t : Threads) (x : Timed) : Type 0 where
  pub timed : AreTimed s t x
  pub exchanges : (k : ℕ) → k < s.lanes → AreExchanges room k (t.transactions k) (whats (x.lanes k))
  pub makes_room : (b : ℕ) → b < s.boxes
      → MakesRoom capacity (map (λ p. p.accepted) (x.copies b)) (map (λ p. p.taken) (x.copies b))

-- then there is such a history
abbrev pub TimesGiveAnOrderlyHistory : Type 0
TimesGiveAnOrderlyHistory = (room capacity : ℕ) (s : Server) (t : Threads) (x : Timed)
    → AreTimedInOrder room capacity s t x → (deeds : List Deed) × IsOrderlyHistory room capacity s t deeds

-- what is known of a server once all its threads have ended, where each lane and each mailbox's channel went on so
pub record AreKnownInOrder (room capacity : ℕ) (s : Server) (t : Threads) (x : Known) : Type 0 where
  pub known : AreKnown s t x
  pub exchanges : (k : ℕ) → k < s.lanes → AreExchanges room k (t.transactions k) (whats (x.lanes k))
  pub makes_room : (b : ℕ) → b < s.boxes → MakesRoom capacity (x.copies b).accepted (x.copies b).taken

-- then the deeds with their times are so
abbrev pub KnownAreTimedInOrder : Type 0
KnownAreTimedInOrder = (room capacity : ℕ) (s : Server) (t : Threads) (x : Known)
    → AreKnownInOrder room capacity s t x → AreTimedInOrder room capacity s t (timed_of t x)
