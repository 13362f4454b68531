use Rattle.std.proofs.Common.{sym, subst}
use Rattle.mbox_rd.specs.Moments.{LeavesOfTurn}
use Rattle.mbox_rd.proofs.Leaving.{leaves_and_lets_go, gone_and_rests, at_rest, prefix_itself}
use Rattle.mbox_rd.proofs.turn.end_turn.Goals as goal
use Rattle.mbox_rd.proofs.turn.end_turn.Goals.{then-is_broken, else-is_broken}

pub returns-clause-moments : goal.returns-clause-moments
returns-clause-moments g c = λ lock at.
    let S = g.F.MailboxFile.state in
    let a = S c.args.file.now in
    let ended : LeavesOfTurn lock a.bytes a (S c.if-is_broken.file) = elim c.if-is_broken.branch [
      | then-is_broken w ↦ subst (λ f. LeavesOfTurn lock a.bytes a (S f)) (sym w.file-is) (w.cut_back.ensures.moments lock at)
      | else-is_broken w ↦ subst (λ f. LeavesOfTurn lock a.bytes a (S f)) (sym w.file-is)
          (at_rest lock c.args.size a at a.bytes (prefix_itself a.bytes))
    ] in
    leaves_and_lets_go _ a _ _ (gone_and_rests _ _ _ c.let_go.ensures c.rest.ensures) ended
