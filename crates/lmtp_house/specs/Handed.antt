-- What a server is given and what it gives back.
use Rattle.std.specs.Prelude.{ℕ, List, Option}
use Rattle.lmtp_threads.specs.declared.tally.Tally.{Tally}

-- what is handed in: clients by lane, spools by mailbox, both with their observers, how many copies may wait in a
-- worker thread's channel, and by mailbox its quota, if it has one
pub record HandedIn (V S : Type 0) : Type 0 where
  pub visits : List V
  pub spools : List S
  pub capacity : ℕ
  pub quotas : List (Option ℕ)

-- what is handed back, and what is told of it: how many conversations each lane held, what each worker did, and how
-- many blocks and slots the messages had
pub record HandedBack (V S : Type 0) : Type 0 where
  pub visits : List V
  pub spools : List S
  pub conversations : List ℕ
  pub tallies : List Tally
  pub blocks : ℕ
  pub slots : ℕ

-- what is handed in, part by part
abbrev pub handed_in : {V S : Type 0} → List V → List S → ℕ → List (Option ℕ) → HandedIn V S
handed_in visits spools capacity quotas = record {
  visits = visits;
  spools = spools;
  capacity = capacity;
  quotas = quotas;
}
