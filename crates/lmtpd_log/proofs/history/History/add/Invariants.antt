use Rattle.lmtpd_log.specs.Events.{after}
use Rattle.lmtpd_log.proofs.history.History.add.Given as goal

abbrev pub ghosts-then : goal.ghosts-then
ghosts-then a = record { list = after a._old.now.list a._event }
