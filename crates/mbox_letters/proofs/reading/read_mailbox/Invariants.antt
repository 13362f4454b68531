use Rattle.std.proofs.Common.{length}
use Rattle.mbox_letters.proofs.Mailboxes.{IsReadUpTo}
use Rattle.mbox_letters.proofs.reading.read_mailbox.Given as goal

-- the letters before the rest are read
abbrev pub invariant-loop-rest : goal.invariant-loop-rest
invariant-loop-rest l = IsReadUpTo l.fn.mailbox l.letters.items l.rest

abbrev pub decreases-loop-rest : goal.decreases-loop-rest
decreases-loop-rest l = length l.rest
