use Rattle.mbox_spool.specs.MemorySpool.{standing_of}
use Rattle.mbox_spool.specs.TurnLog.{ended_at}
use Rattle.mbox_spool.proofs.memory.MemorySpoolSpool.unlock.Given as goal

abbrev pub ghosts-after : goal.ghosts-after
ghosts-after a = record { log = ended_at a._old.now.log (standing_of a._seen.now) }
