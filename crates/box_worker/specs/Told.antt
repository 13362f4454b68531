-- What a worker tells the lanes of the copies that it took.
use Rattle.std.specs.Prelude.{ℕ, ◌==◌, Bool, true, false, List, filter}
use Rattle.mail_world.specs.declared.Txn.{Txn}
use Rattle.mail_world.specs.declared.Note.{Note}
use Rattle.mail_world.specs.declared.Outcome.{Outcome}
use Rattle.mail_world.specs.declared.Outcome.TheVariants.{Stored, OverQuota}
use Rattle.mail_world.specs.declared.Slip.{Slip}
use Rattle.mail_world.specs.Slips.{slips_from}
use Rattle.mail_post.specs.Channel.{Sender}

-- the slip that names the transaction and the place, and the worker that gives it
abbrev pub slip_by : Txn → ℕ → Outcome → Sender Slip → Slip
slip_by txn place outcome sender = record { txn = txn; place = place; worker = sender.number; outcome = outcome }

-- the slips that a worker owes lane k for these copies, each with its outcome
abbrev pub owed_to : ℕ → List Outcome → ℕ → List Note → List Slip
owed_to worker outcomes k copies = filter (λ slip. slip.txn.lane == k) (slips_from worker outcomes copies)

-- outcomes that are counted
abbrev pub is_stored : Outcome → Bool
is_stored Stored = true
is_stored _ = false

abbrev pub says_over_quota : Outcome → Bool
says_over_quota OverQuota = true
says_over_quota _ = false
