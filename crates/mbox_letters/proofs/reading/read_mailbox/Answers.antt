use Rattle.std.proofs.Common.{ap, Err}
use Rattle.std.proofs.lemmas.Result.{err_from_is_err_and}
use Rattle.mbox_letters.proofs.LineCuts.{some_by}
use Rattle.mbox_letters.proofs.Mailboxes.{IsReadUpTo-none, same_cause}
use Rattle.mbox_letters.proofs.reading.read_mailbox.Goals as goal

pub returns-in_err-letter-clause-no_empty_line : goal.returns-in_err-letter-clause-no_empty_line
returns-in_err-letter-clause-no_empty_line c = λ e.
    let p = err_from_is_err_and c.from_residual.result c.from_residual.ensures.1 in
    IsReadUpTo-none c.args.mailbox.now c.loop-rest.letters.items c.loop-rest.rest.now c.loop-rest.invariant
    (some_by c.loop-rest.rest.now c.is_empty.result c.is_empty.ensures c.loop-rest-test.true)
    (c.in_err-letter.ensures.no_empty_line (ap (λ cause. Err cause) (same_cause c.from_residual.result p.0 _ _ p.1 p.2 e)))
