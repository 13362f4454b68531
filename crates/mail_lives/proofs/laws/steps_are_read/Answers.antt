use Rattle.mail_lives.proofs.Stepping.{steps_read}
use Rattle.mail_lives.proofs.laws.steps_are_read.Goals as goal

pub returns : goal.returns
returns c = steps_read
