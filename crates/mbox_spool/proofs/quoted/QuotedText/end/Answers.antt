use Rattle.mbox_spool.proofs.Words.{last_word}
use Rattle.mbox_spool.proofs.Taken.{OnOk-as, OnErr-as}
use Rattle.mbox_spool.proofs.quoted.QuotedText.end.Goals as goal

pub returns-in-Word-clause-ok : goal.returns-in-Word-clause-ok
returns-in-Word-clause-ok g c = OnOk-as c.append_each.result _ _ _ _
    (last_word c.args.self c.self.inside.pending c.in-Word.n c.in-Word.is c.self.view_is c.self.invariant) c.append_each.ensures.ok

pub returns-in-Word-clause-err : goal.returns-in-Word-clause-err
returns-in-Word-clause-err g c = OnErr-as c.append_each.result _ _ _ _
    (last_word c.args.self c.self.inside.pending c.in-Word.n c.in-Word.is c.self.view_is c.self.invariant) c.append_each.ensures.err
