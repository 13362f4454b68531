use Rattle.lmtp_lives.proofs.ReadBack.{read_back}
use Rattle.lmtp_lives.proofs.laws.told_is_read_back.Goals as goal

pub returns : goal.returns
returns g c = λ runs name old new letters one was leave. read_back name runs old new letters one was leave
