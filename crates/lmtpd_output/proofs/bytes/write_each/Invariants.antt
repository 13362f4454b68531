use Rattle.std.proofs.Common.{drop}
use Rattle.std.specs.Prelude.{flat_map}
use Rattle.lmtpd_output.proofs.Written.{WritesUpTo}
use Rattle.lmtpd_output.proofs.bytes.write_each.Given as goal

abbrev pub invariant-loop-piece : goal.invariant-loop-piece
invariant-loop-piece g l = WritesUpTo (g.W.Write.contents l.initial.writer) (g.W.Write.contents l.writer) (flat_map (λ piece. piece.now) l.pieces)
    (flat_map (λ piece. piece.now) (drop l.piece-index l.pieces))
