use Rattle.mbox_file.specs.Told.{after}
use Rattle.mbox_file.proofs.told.Told.add.Given as goal

abbrev pub ghosts-then : goal.ghosts-then
ghosts-then a = record { state = after a._old.now.state a._step }
