use Rattle.mail_progress.proofs.Movers as moved
use Rattle.mail_progress.proofs.moved.nothing_is_stuck.Goals as goal

pub returns : goal.returns
returns c = moved.nothing_is_stuck
