use Rattle.mail_runs.proofs.KnownInOrder as known
use Rattle.mail_runs.proofs.histories.known_are_timed_in_order.Goals as goal

pub returns : goal.returns
returns c room capacity s t x h = known.known_are_timed_in_order room capacity s t x h
