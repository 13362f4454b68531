use Rattle.mbox_spool.specs.MemorySpool.{standing_of}
use Rattle.mbox_spool.specs.TurnLog.{begun_at}
use Rattle.mbox_spool.proofs.memory.MemorySpool.begin.Given as goal

abbrev pub ghosts-after : goal.ghosts-after
ghosts-after a = record { log = begun_at a._old.now.log (standing_of a._seen.now) }
