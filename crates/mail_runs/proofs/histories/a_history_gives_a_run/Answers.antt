use Rattle.mail_runs.proofs.Played.{a_history_plays}
use Rattle.mail_runs.proofs.histories.a_history_gives_a_run.Goals as goal

pub returns : goal.returns
returns c = a_history_plays
