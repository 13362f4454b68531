use Rattle.std.proofs.Common.{◌≡◌, length}
use Rattle.lmtpd_serve.proofs.run.gates_of.Given as goal

-- a gate for each mailbox that was counted
abbrev pub invariant-loop-place : goal.invariant-loop-place
invariant-loop-place g l = length l.gates.items ≡ l.place
