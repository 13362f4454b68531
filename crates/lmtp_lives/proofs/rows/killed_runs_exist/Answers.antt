use Rattle.lmtp_lives.proofs.KilledRuns.{two_runs}
use Rattle.lmtp_lives.proofs.rows.killed_runs_exist.Goals as goal

pub returns : goal.returns
returns c = two_runs
