use Rattle.std.proofs.Common.{drop}
use Rattle.lmtpd_output.specs.Output.{pair_texts}
use Rattle.lmtpd_output.proofs.Written.{WritesUpTo}
use Rattle.lmtpd_serve.specs.Served.{count_told}
use Rattle.lmtpd_serve.proofs.lines.tell_counts.Given as goal

abbrev pub invariant-loop-number : goal.invariant-loop-number
invariant-loop-number g l = WritesUpTo (g.W.Write.contents l.initial.writer) (g.W.Write.contents l.writer)
    (pair_texts (count_told l.are_few) l.site.boxes l.tallies)
    (pair_texts (count_told l.are_few) (drop l.number l.site.boxes) (drop l.number l.tallies))
