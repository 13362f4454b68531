use Rattle.std.proofs.Common.{ap, Err}
use Rattle.std.proofs.lemmas.Result.{err_from_is_err_and}
use Rattle.mbox_letters.proofs.Mailboxes.{IsLetterRead-lines, no_head, no_body, same_cause}
use Rattle.mbox_letters.proofs.reading.read_letter.Goals as goal

pub returns-in_default-clause-no_empty_line : goal.returns-in_default-clause-no_empty_line
returns-in_default-clause-no_empty_line c = λ e. no_head c.args.text.now c.requires c.in_default.ensures.none

pub returns-in_err-body-clause-no_empty_line : goal.returns-in_err-body-clause-no_empty_line
returns-in_err-body-clause-no_empty_line c = λ e.
    let p = err_from_is_err_and c.from_residual.result c.from_residual.ensures.1 in
    no_body c.args.text.now c.in-Some.head.now c.in-Some.lines.now c.requires c.in-Some.ensures.cut
    (c.in_err-body.ensures.no_empty_line (ap (λ cause. Err cause) (same_cause c.from_residual.result p.0 _ _ p.1 p.2 e)))

pub returns-clause-read : goal.returns-clause-read
returns-clause-read c =
    rw (c.new.ensures, c.in_ok-head.ensures.items_if_clones_equal (λ x y h. h))
    (IsLetterRead-lines c.args.text.now c.in-Some.head.now c.in-Some.lines.now c.in_ok-body.body.items c.in_ok-body.rest.now c.requires c.in-Some.ensures.cut
    c.in_ok-body.ensures.read)
