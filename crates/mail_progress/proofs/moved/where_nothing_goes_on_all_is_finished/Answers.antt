use Rattle.mail_progress.proofs.AllFinished.{ends_finished}
use Rattle.mail_progress.proofs.NothingFollows.{finished_is_still}
use Rattle.mail_progress.proofs.moved.where_nothing_goes_on_all_is_finished.Goals as goal

pub returns : goal.returns
returns c = record { finished = ends_finished; still = finished_is_still }
