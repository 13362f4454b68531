use Rattle.mbox_rd.specs.Turn.{IsBetweenTries}
use Rattle.mbox_rd.proofs.turn.begin_turn.Given as goal

-- earlier tries opened other files, and left nothing else
abbrev pub invariant-loop : goal.invariant-loop
invariant-loop g l =
    IsBetweenTries (g.F.MailboxFile.state l.initial.file) (g.F.MailboxFile.state l.file)
