use Rattle.lmtp_lives.proofs.Spoilt.{runs_found, runs_add}
use Rattle.lmtp_lives.proofs.laws.spoilt_runs_are_found.Goals as goal

pub returns : goal.returns
returns g c = record {
  found = λ runs name letters new one are keep. runs_found name runs letters new one are keep;
  stored = λ runs name. runs_add name runs;
}
