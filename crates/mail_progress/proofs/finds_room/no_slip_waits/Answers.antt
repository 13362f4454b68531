use Rattle.mail_progress.proofs.Within.{slips_find_room}
use Rattle.mail_progress.proofs.finds_room.no_slip_waits.Goals as goal

pub returns : goal.returns
returns c = slips_find_room
