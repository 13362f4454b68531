use Rattle.mail_runs.proofs.OneLane.{one_lane}
use Rattle.mail_runs.proofs.histories.one_lane_has_a_history.Goals as goal

pub returns : goal.returns
returns c s t is = one_lane s t is
