use Rattle.lmtp_talk.proofs.Entered.{said_none}
use Rattle.lmtp_talk.proofs.telling.tell_all.Goals as goal

pub returns-in-Deliver : goal.returns-in-Deliver
returns-in-Deliver g c = said_none _ _ _ _ _ _ c.in-Deliver.is
