use Rattle.std.proofs.Common.{◌≡◌, replicate}
use Rattle.lmtpd_rehearse.specs.Mailboxes.{empty_mailbox}
use Rattle.lmtpd_rehearse.proofs.parts.empty_mailboxes.Given as goal

abbrev pub invariant-loop-made : goal.invariant-loop-made
invariant-loop-made l = l.mailboxes.items ≡ replicate l._made (empty_mailbox l.site)
