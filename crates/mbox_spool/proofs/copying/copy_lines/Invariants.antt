use Rattle.std.proofs.Common.{◌≡◌, length, ◌-◌, ◌<◌, ◌≤◌, take, drop}
use Rattle.mbox_spool.specs.Lines.{pairs, may_quote, CopiesLines}
use Rattle.mbox_spool.proofs.copying.copy_lines.Given as goal

abbrev pub invariant-loop-copied : goal.invariant-loop-copied
invariant-loop-copied l =
    (l.copied.made ≤ length l.room) × (CopiesLines l.piece (take l.copied.made l.room) l.copied.taken)
    × (0 < l.copied.taken) × (pairs may_quote 1 (drop l.copied.taken l.piece) ≡ 0)

abbrev pub decreases-loop-copied : goal.decreases-loop-copied
decreases-loop-copied l = length l.piece - l.copied.taken
