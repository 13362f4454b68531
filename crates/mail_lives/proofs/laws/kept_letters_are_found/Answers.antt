use Rattle.mail_lives.proofs.Spoilt.{kept_found}
use Rattle.mail_lives.proofs.laws.kept_letters_are_found.Goals as goal

pub returns : goal.returns
returns c = kept_found
