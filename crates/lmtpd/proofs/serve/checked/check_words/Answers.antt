use Rattle.std.proofs.Common.{◌∙◌, inr, length, refl, arith, ap, sym}
use Rattle.std.specs.Arc.{arc_value}
use Rattle.std.proofs.lemmas.Result.{err_from_is_err_and}
use Rattle.lmtpd.proofs.AsAsked.{sized_or_not, unset_checked}
use Rattle.lmtpd.proofs.serve.checked.check_words.Goals as goal

pub returns-in_err-setup : goal.returns-in_err-setup
returns-in_err-setup g c =
    let p = err_from_is_err_and c.from_residual-in_err-setup.result c.from_residual-in_err-setup.ensures.1 in
    rw (p.1, p.2) (unset_checked c.args.words.now c.in_err-setup.field-0.0 c.requires
    (c.in_ok-listen_address_of.field-0, c.in_ok-listen_address_of.ensures) c.in_err-setup.ensures.refused)

pub returns : goal.returns
returns g c =
    sized_or_not c.args.words.now c.deref.result.now c.len.result c.look_at_sizes.result c.requires
    (c.in_ok-listen_address_of.field-0, c.in_ok-listen_address_of.ensures) c.in_ok-setup.ensures.sound
    (c.deref.ensures ∙ c.in_ok-setup.ensures.site) (omega (arith, c.len.ensures, c.in_ok-setup.ensures.count)) c.look_at_sizes.ensures
