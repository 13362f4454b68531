-- What the threads of a server do with copies and slips: each is a send or a receive on a channel.
use Rattle.std.specs.Prelude.{ℕ, Bool, false, ◌==◌, List, [], ◌∷◌, filter, flat_map}
use Rattle.mail_world.specs.declared.Note.{Note}
use Rattle.mail_world.specs.declared.Slip.{Slip}
use Rattle.mail_world.specs.declared.Outcome.{Outcome}
use Rattle.mail_world.specs.Slips.{slip_of}
use Rattle.mail_world.specs.Lists.{of_lane}

-- a lane gave a copy, which the channel of its mailbox accepted; the mailbox's worker took it; a worker told a slip,
-- which the channel of its lane accepted; the lane heard it
pub data Deed : Type 0 where
  Gave : Note → Deed
  Took : Note → Deed
  Told : Slip → Deed
  Heard : Slip → Deed

abbrev pub given_in : Deed → List Note
given_in (Gave note) = note ∷ []
given_in _ = []

abbrev pub taken_in : Deed → List Note
taken_in (Took note) = note ∷ []
taken_in _ = []

abbrev pub told_in : Deed → List Slip
told_in (Told slip) = slip ∷ []
told_in _ = []

abbrev pub heard_in : Deed → List Slip
heard_in (Heard slip) = slip ∷ []
heard_in _ = []

-- the copies for a mailbox, and the slips for a lane
abbrev pub of_mailbox : ℕ → List Note → List Note
of_mailbox b notes = filter (λ note. note.mailbox == b) notes

abbrev pub slips_to : ℕ → List Slip → List Slip
slips_to k slips = filter (λ slip. slip.txn.lane == k) slips

-- what a lane gave, what a mailbox's channel accepted, and what its worker took of it
abbrev pub given_by : ℕ → List Deed → List Note
given_by k deeds = of_lane k (flat_map given_in deeds)

abbrev pub given_to : ℕ → List Deed → List Note
given_to b deeds = of_mailbox b (flat_map given_in deeds)

abbrev pub taken_by : ℕ → List Deed → List Note
taken_by b deeds = of_mailbox b (flat_map taken_in deeds)

-- what a lane's channel of slips accepted, and what the lane heard of it
abbrev pub told_to : ℕ → List Deed → List Slip
told_to k deeds = slips_to k (flat_map told_in deeds)

abbrev pub heard_by : ℕ → List Deed → List Slip
heard_by k deeds = slips_to k (flat_map heard_in deeds)

-- what a worker did
abbrev pub is_of_worker : ℕ → Deed → Bool
is_of_worker b (Took note) = note.mailbox == b
is_of_worker b (Told slip) = slip.worker == b
is_of_worker b _ = false

abbrev pub worked_by : ℕ → List Deed → List Deed
worked_by b deeds = filter (is_of_worker b) deeds

-- one copy after the other, each with its outcome: a worker tells of a copy before it takes the next
abbrev pub turns_of : ℕ → List Note → List Outcome → List Deed
turns_of b (note ∷ notes) (outcome ∷ outcomes) =
    Took note ∷ Told (slip_of b note outcome) ∷ turns_of b notes outcomes
turns_of b _ _ = []
