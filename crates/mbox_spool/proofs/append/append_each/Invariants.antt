use Rattle.std.proofs.Common.{take}
use Rattle.std.specs.Prelude.{flat_map}
use Rattle.mbox_spool.specs.Spool.{SpoolTook}
use Rattle.mbox_spool.proofs.append.append_each.Given as goal

-- the pieces that were passed are taken
abbrev pub invariant-loop-piece : goal.invariant-loop-piece
invariant-loop-piece g l =
    SpoolTook (g.S.Spool.state l.initial.spool) (g.S.Spool.state l.spool) (flat_map (λ piece. piece.now) (take l.piece-index l.pieces))
