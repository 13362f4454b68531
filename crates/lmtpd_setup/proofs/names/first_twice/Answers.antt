use Rattle.std.proofs.Common.{◌≡◌, ◌∙◌, Bool, true, false, refl, sym}
use Rattle.std.specs.Prelude.{not}
use Rattle.lmtpd_setup.proofs.WrongNames.{here, later}
use Rattle.lmtpd_setup.proofs.names.first_twice.Goals as goal

was_false : (b : Bool) → true ≡ not b → b ≡ false
was_false true e = cc
was_false false e = refl

was_true : (b : Bool) → false ≡ not b → b ≡ true
was_true true e = refl
was_true false e = cc

pub returns-then-not-branch : goal.returns-then-not-branch
returns-then-not-branch c =
    let there = was_true _ (sym c.if-not-branch.true ∙ c.in_ok-add_name.ensures.is_new) in (
      here c.args.names.now c.loop-number.number _ _ c.loop-number-test.true c.loop-number.invariant.0 c.loop-number.invariant.1 there,
      c.loop-number-test.true,
    )

pub loop-number-preserved : goal.loop-number-preserved
loop-number-preserved c =
    let fresh = was_false _ (sym c.if-not-branch.false ∙ c.in_ok-add_name.ensures.is_new) in
    later c.args.names.now c.loop-number.number _ _ _ c.loop-number-test.true c.loop-number.invariant.0 c.loop-number.invariant.1 fresh
    (c.in_ok-add_name.ensures.more c.if-not-branch.false)
