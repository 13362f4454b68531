-- One step of a writer over a piece of the message.
use Rattle.std.specs.Prelude.{◌≡◌, ℕ, ◌+◌, ◌-◌, ◌*◌, ◌<◌, ◌≤◌, List, ◌++◌, length, take, drop}
use Rattle.mbox_spool.specs.declared.pending.Step.{Step}
use Rattle.mbox_spool.specs.declared.pending.Pending.TheVariants.{Inside}
use Rattle.mbox_spool.specs.Quoted.{Pending, IsPending, quoted_owed}

-- the texts that a step writes: bytes of the piece as they are, and others after them
abbrev pub step_text : Step → List ℕ → List ℕ
step_text step piece = take step.len piece ++ step.extra.now

-- a step inside a line takes a byte at least; any other may only settle what the line is
abbrev pub pending_weight : Pending → ℕ
pending_weight Inside = 0
pending_weight _ = 1

pub record IsWriterStep (before : Pending) (piece : List ℕ) (step : Step) : Type 0 where
  pub len : step.len ≤ length piece
  pub taken : step.taken ≤ length piece
  pub next : IsPending step.next
  pub smaller : 2 * (length piece - step.taken) + pending_weight step.next < 2 * length piece + pending_weight before
  pub goes : (rest : List ℕ) → step_text step piece
      ++ quoted_owed step.next (drop step.taken piece ++ rest) ≡ quoted_owed before (piece ++ rest)

-- a line that is written as it is, up to its end: the first len bytes, in place of the first taken ones
pub record IsWriterRun (before : Pending) (piece : List ℕ) (len taken : ℕ) : Type 0 where
  pub within : len ≤ length piece
  pub further : taken ≤ length piece
  pub smaller : 2 * (length piece - taken) < 2 * length piece + pending_weight before
  pub goes : (rest : List ℕ) → take len piece ++ quoted_owed Inside (drop taken piece ++ rest)
      ≡ quoted_owed before (piece ++ rest)
