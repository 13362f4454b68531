use Rattle.mail_progress.proofs.Movers as moved
use Rattle.mail_progress.proofs.Shut.{closed_stays}
use Rattle.mail_progress.proofs.moved.nothing_is_stuck_when_closed.Goals as goal

pub returns : goal.returns
returns c = record { moved = moved.nothing_is_stuck_when_closed; stays = closed_stays }
