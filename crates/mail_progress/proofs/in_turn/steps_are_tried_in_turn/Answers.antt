use Rattle.mail_progress.proofs.InTurn.{tried_in_turn}
use Rattle.mail_progress.proofs.in_turn.steps_are_tried_in_turn.Goals as goal

pub returns : goal.returns
returns c = tried_in_turn
