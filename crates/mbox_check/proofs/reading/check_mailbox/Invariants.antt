use Rattle.mbox_check.proofs.Readers.{IsCheckedUpTo}
use Rattle.mbox_check.proofs.reading.check_mailbox.Given as goal

-- what came of the reader is read
abbrev pub invariant-loop : goal.invariant-loop
invariant-loop g l = IsCheckedUpTo (g.R.Read.remaining l.initial.reader) (g.R.Read.remaining l.reader) l.form
