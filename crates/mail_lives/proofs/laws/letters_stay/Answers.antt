use Rattle.mail_lives.proofs.Stays.{old_stay, stored_stay}
use Rattle.mail_lives.proofs.laws.letters_stay.Goals as goal

pub returns : goal.returns
returns c = record { old = old_stay; stored = stored_stay }
