use Rattle.mail_lives.proofs.Spoilt.{stored_adds, torn_spoils}
use Rattle.mail_lives.proofs.laws.turns_are_moves.Goals as goal

pub returns : goal.returns
returns c = record { stored = stored_adds; torn = torn_spoils }
