use Rattle.mail_runs.proofs.Timed.{by_times}
use Rattle.mail_runs.proofs.histories.times_give_a_history.Goals as goal

pub returns : goal.returns
returns c s t x timed = by_times s t x timed
