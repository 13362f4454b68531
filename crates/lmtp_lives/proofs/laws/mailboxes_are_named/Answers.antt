use Rattle.lmtp_lives.proofs.Names.{number_is}
use Rattle.lmtp_lives.proofs.laws.mailboxes_are_named.Goals as goal

pub returns : goal.returns
returns c = number_is
