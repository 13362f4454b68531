use Rattle.std.proofs.Common.{◌≡◌, true}
use Rattle.lmtpd_copy.specs.Copied.{StaysMade}
use Rattle.lmtpd_copy.specs.Target.{HasSamePath}
use Rattle.lmtpd_copy.proofs.Moving.{HasMoved}
use Rattle.lmtpd_copy.proofs.copying.copy_all.Given as goal

-- what was read is written, and else nothing changed
abbrev pub invariant-loop : goal.invariant-loop
invariant-loop g l = record {
  moved : HasMoved (g.F.MailboxSource.unread l.initial.source) (g.F.MailboxSource.unread l.source) (g.T.CopyTarget.state l.initial.target).bytes
      (g.T.CopyTarget.state l.target).bytes;
  same : g.F.MailboxFile.state l.source ≡ g.F.MailboxFile.state l.initial.source;
  path : HasSamePath (g.T.CopyTarget.state l.initial.target) (g.T.CopyTarget.state l.target);
  made : g.T.CopyTarget.tells ≡ true → StaysMade (g.T.CopyTarget.state l.initial.target) (g.T.CopyTarget.state l.target);
}
