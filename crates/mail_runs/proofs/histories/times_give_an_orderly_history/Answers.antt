use Rattle.mail_runs.proofs.TimedInOrder.{by_times_in_order}
use Rattle.mail_runs.proofs.histories.times_give_an_orderly_history.Goals as goal

pub returns : goal.returns
returns c room capacity s t x timed = by_times_in_order room capacity s t x timed
