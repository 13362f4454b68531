use Rattle.mail_lives.proofs.Alone.{told_read}
use Rattle.mail_lives.proofs.laws.told_are_read.Goals as goal

pub returns : goal.returns
returns c = told_read
