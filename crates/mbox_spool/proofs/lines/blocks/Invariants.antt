use Rattle.std.proofs.Common.{◌≡◌, length, drop, ◌-◌}
use Rattle.mbox_spool.specs.declared.pending.Pending.TheVariants.{Inside}
use Rattle.mbox_spool.specs.Lines.{pairs, may_quote, IsWriterLines}
use Rattle.mbox_spool.proofs.lines.blocks.Given as goal

abbrev pub invariant-loop-taken : goal.invariant-loop-taken
invariant-loop-taken l = (IsWriterLines Inside l.piece l.len l.taken) × (pairs may_quote 1 (drop l.taken l.piece) ≡ 0)

abbrev pub decreases-loop-taken : goal.decreases-loop-taken
decreases-loop-taken l = length l.piece - l.taken
