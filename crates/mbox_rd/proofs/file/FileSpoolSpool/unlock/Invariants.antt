use Rattle.mbox_spool.specs.TurnLog.{left_at}
use Rattle.mbox_rd.specs.FileSpool.{standing_of}
use Rattle.mbox_rd.proofs.file.FileSpoolSpool.unlock.Given as goal

abbrev pub ghosts-after : goal.ghosts-after
ghosts-after g a = record {
  log = left_at a._old.now.log (standing_of (g.F.MailboxFile.state a._seen.now) a._failures);
}
