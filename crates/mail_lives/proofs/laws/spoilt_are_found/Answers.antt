use Rattle.mail_lives.proofs.Spoilt.{letters_found}
use Rattle.mail_lives.proofs.laws.spoilt_are_found.Goals as goal

pub returns : goal.returns
returns c = letters_found
