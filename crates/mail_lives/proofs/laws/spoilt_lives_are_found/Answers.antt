use Rattle.mail_lives.proofs.SpoiltLives.{lives_found, lives_add}
use Rattle.mail_lives.proofs.laws.spoilt_lives_are_found.Goals as goal

pub returns : goal.returns
returns c = record { are = lives_found; told = lives_add }
