use Rattle.mbox_rd.specs.Turn.{IsBetweenTries}
use Rattle.mbox_rd.proofs.Pausing.{HasMade}
use Rattle.mbox_rd.proofs.turn.wait_for_turn.Given as goal

-- earlier tries left nothing, and after each was a pause
abbrev pub invariant-loop-made : goal.invariant-loop-made
invariant-loop-made g l =
    IsBetweenTries (g.F.MailboxFile.state l.initial.file) (g.F.MailboxFile.state l.file)
    × HasMade l.initial.patience l.patience l.made
