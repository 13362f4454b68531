use Rattle.mbox_letters.proofs.LineCuts.{IsLineCut-found, has_no_lf}
use Rattle.mbox_letters.proofs.reading.cut_line.Goals as goal

pub returns-in-Some-clause-cut : goal.returns-in-Some-clause-cut
returns-in-Some-clause-cut c = IsLineCut-found c.args.text.now c.in-Some.at c.in-Some.ensures.0 c.in-Some.ensures.1

pub returns-in-None-clause-none : goal.returns-in-None-clause-none
returns-in-None-clause-none c = has_no_lf c.args.text.now c.in-None.ensures
