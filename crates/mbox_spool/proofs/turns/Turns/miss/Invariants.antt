use Rattle.mbox_spool.specs.TurnLog.{missed}
use Rattle.mbox_spool.proofs.turns.Turns.miss.Given as goal

abbrev pub ghosts-after : goal.ghosts-after
ghosts-after a = record { log = missed a._old.now.log }
