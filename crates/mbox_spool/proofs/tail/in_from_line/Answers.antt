use Rattle.mbox_spool.proofs.Tails.{from_line_fits}
use Rattle.mbox_spool.proofs.tail.in_from_line.Goals as goal

pub returns-then-missing-room : goal.returns-then-missing-room
returns-then-missing-room c = from_line_fits c.args.room c.args.missing.now c.if-missing-room.true c.requires
