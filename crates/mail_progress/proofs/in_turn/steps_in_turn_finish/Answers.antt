use Rattle.mail_progress.proofs.AlwaysFinishes.{always_finishes, finishes_in_turn}
use Rattle.mail_progress.proofs.ThereStays.{there_stays}
use Rattle.mail_progress.proofs.in_turn.steps_in_turn_finish.Goals as goal

pub returns : goal.returns
returns c = record { always = always_finishes; in_turn = finishes_in_turn; stays = there_stays }
