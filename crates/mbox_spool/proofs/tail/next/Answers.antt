use Rattle.mbox_spool.proofs.Tails.{take_most}
use Rattle.mbox_spool.proofs.tail.next.Goals as goal

pub missing_after-requires : goal.missing_after-requires
missing_after-requires c = take_most c.first_missing.result.now c.in-InFromLine-default.missing.now c.first_missing.ensures
