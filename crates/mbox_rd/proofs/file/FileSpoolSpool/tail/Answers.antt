use Rattle.std.proofs.Common.{rules, subst}
use Rattle.mbox_spool.specs.Tail.{ending_of}
use Rattle.mbox_rd.specs.FileSpool.{IsInOrder}
use Rattle.mbox_rd.proofs.Failing.{knows_tail}
use Rattle.mbox_rd.proofs.file.FileSpoolSpool.tail.Goals as goal

pub returns-clause-known : goal.returns-clause-known
returns-clause-known g c = knows_tail g.F.MailboxFile.state c.args.self.now (ending_of c.tail_after.result)
    (subst (IsInOrder g.F.MailboxFile.state) c.self.view_is c.self.invariant) (search rules)
