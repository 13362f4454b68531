use Rattle.mail_runs.proofs.Known as known
use Rattle.mail_runs.proofs.histories.known_are_timed.Goals as goal

pub returns : goal.returns
returns c s t x h = known.known_are_timed s t x h
