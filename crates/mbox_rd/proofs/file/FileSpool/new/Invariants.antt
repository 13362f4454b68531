use Rattle.mbox_spool.specs.TurnLog.{no_turns_at}
use Rattle.mbox_rd.specs.FileSpool.{standing_of}
use Rattle.mbox_rd.proofs.file.FileSpool.new.Given as goal

abbrev pub ghosts-after : goal.ghosts-after
ghosts-after g a = record { log = no_turns_at (standing_of (g.F.MailboxFile.state a._seen.now) 0) }
