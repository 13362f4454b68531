use Rattle.lmtp_wire.proofs.Wires.{takes_line}
use Rattle.lmtp_wire.proofs.wire.Wire.command.Goals as goal

pub returns-clause-takes : goal.returns-clause-takes
returns-clause-takes c = λ taken h.
    takes_line c.end_line-got.result c.end_line-got.new.self taken c.args.piece.now c.in-Some.used c.in-Some.ensures.within.1 (c.in-Some.ensures.place taken h)
    (c.end_line-got.ensures _ (c.keep-2.ensures taken h.keeps))
