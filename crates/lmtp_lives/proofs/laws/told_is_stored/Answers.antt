use Rattle.lmtp_lives.proofs.Told.{named_stored}
use Rattle.lmtp_lives.proofs.laws.told_is_stored.Goals as goal

pub returns : goal.returns
returns g c = λ run name k lane. named_stored run name k lane
