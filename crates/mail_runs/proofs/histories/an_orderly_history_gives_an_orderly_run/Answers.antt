use Rattle.mail_runs.proofs.Played.{an_orderly_history_plays}
use Rattle.mail_runs.proofs.histories.an_orderly_history_gives_an_orderly_run.Goals as goal

pub returns : goal.returns
returns c = an_orderly_history_plays
