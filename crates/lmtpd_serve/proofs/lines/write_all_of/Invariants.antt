use Rattle.std.proofs.Common.{drop}
use Rattle.std.specs.Arc.{arc_value}
use Rattle.lmtpd_output.specs.Output.{pair_texts}
use Rattle.lmtpd_output.proofs.Written.{WritesUpTo}
use Rattle.lmtpd_serve.specs.Served.{trouble_lines_of, trouble_told}
use Rattle.lmtpd_serve.proofs.lines.write_all_of.Given as goal

abbrev pub invariant-loop-number : goal.invariant-loop-number
invariant-loop-number g l = WritesUpTo (g.W.Write.contents l.initial.writer) (g.W.Write.contents l.writer) (trouble_lines_of l.trouble l.served)
    (pair_texts (trouble_told l.trouble) (drop l.number (arc_value l.served.site).boxes) (drop l.number l.served.tallies.items))
