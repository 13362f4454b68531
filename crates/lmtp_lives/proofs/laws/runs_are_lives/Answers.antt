use Rattle.lmtp_lives.proofs.ReadBack.{lived, taken_mailed}
use Rattle.lmtp_lives.proofs.laws.runs_are_lives.Goals as goal

pub returns : goal.returns
returns g c = λ runs name old new leave. (lived name runs old new leave, taken_mailed name runs)
