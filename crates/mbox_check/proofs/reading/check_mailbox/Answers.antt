use Rattle.mbox_check.proofs.Readers.{read_more}
use Rattle.mbox_check.proofs.reading.check_mailbox.Goals as goal

pub loop-preserved : goal.loop-preserved
loop-preserved g c = read_more _ _ _ c.loop.form _ _ c.loop.invariant c.in_ok-size.ensures.bytes.0 c.in_default.ensures.ok
