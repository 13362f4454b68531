use Rattle.std.proofs.Common.{sym, ◌∙◌}
use Rattle.mbox_rd.proofs.Leaving.{after_cut, after_cut_and_keep}
use Rattle.mbox_rd.proofs.turn.cut_back.Goals as goal

pub returns-then-is_ok-clause-moments : goal.returns-then-is_ok-clause-moments
returns-then-is_ok-clause-moments g c = λ lock at.
    after_cut_and_keep lock c.args.size _ at c.cut.result c.keep.result _ _ (sym c.is_ok.ensures.value ∙ c.if-is_ok.true)
    c.cut.ensures.ok c.keep.ensures.ok c.keep.ensures.err

pub returns-else-is_ok-clause-moments : goal.returns-else-is_ok-clause-moments
returns-else-is_ok-clause-moments g c = λ lock at.
    after_cut lock c.args.size _ at c.cut.result _ c.cut.ensures.ok c.cut.ensures.err
