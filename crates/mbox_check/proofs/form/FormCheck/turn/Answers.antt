use Rattle.std.proofs.Common.{arith, ◌<◌, take, sym, subst}
use Rattle.std.proofs.lemmas.List.{length-take-le}
use Rattle.std.proofs.lemmas.Result.{err_from_is_err_and}
use Rattle.mbox_check.specs.SoFar.{ReadsOn}
use Rattle.mbox_check.proofs.Taken.{first_breaks, free_taken}
use Rattle.mbox_check.proofs.form.FormCheck.turn.Goals as goal

pub returns-in_err-byte-clause-err : goal.returns-in_err-byte-clause-err
returns-in_err-byte-clause-err c =
    let p = err_from_is_err_and c.from_residual.result c.from_residual.ensures.1 in
    rw (p.1, p.2) (first_breaks c.args.self.now c.args.text.now _ c.requires c.in_err-byte.ensures.err)

pub returns-clause-ok : goal.returns-clause-ok
returns-clause-ok c =
    let other = c.if-size-eq0.false in
    let some : 0 < c.free_size-size.result = omega (arith, other) in
    subst (λ form. ReadsOn c.args.self.now form (take c.free_size-size.result c.args.text.now)) (sym c.go.ensures)
    (free_taken c.args.self.now (take c.free_size-size.result c.args.text.now) c.free_size-size.result (c.free_size-size.ensures.free some) some
    (length-take-le c.free_size-size.result c.args.text.now c.free_size-size.ensures.within))
