use Rattle.std.proofs.Common.{drop}
use Rattle.lmtpd_rehearse.specs.Mailboxes.{bytes_of_all, texts_of_mailboxes}
use Rattle.lmtpd_output.proofs.Written.{WritesUpTo}
use Rattle.lmtpd_rehearse.proofs.output.write_mailboxes.Given as goal

abbrev pub invariant-loop-number : goal.invariant-loop-number
invariant-loop-number g l = WritesUpTo (g.W.Write.contents l.initial.writer) (g.W.Write.contents l.writer)
    (texts_of_mailboxes l.site.boxes (bytes_of_all l.mailboxes))
    (texts_of_mailboxes (drop l.number l.site.boxes) (drop l.number (bytes_of_all l.mailboxes)))
