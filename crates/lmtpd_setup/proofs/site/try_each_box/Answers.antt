use Rattle.std.proofs.Common.{◌≤◌, ◌<◌, inr, arith, length, ℕ, List, subst}
use Rattle.std.specs.Prelude.{cond, nat_lt, Some, None}
use Rattle.std.specs.Borrow.{Bor}
use Rattle.std.proofs.lemmas.List.{length-map}
use Rattle.mail_world.specs.Site.{has_twice}
use Rattle.lmtp_text.specs.Sites.{texts}
use Rattle.lmtpd_setup.specs.Faults.{are_usable_names}
use Rattle.lmtpd_setup.specs.Names.{IsFoundAt, bad_place}
use Rattle.lmtpd_setup.specs.declared.fault.Fault.TheVariants as fault
use Rattle.lmtpd_setup.proofs.Orders.{bad_said, is_over, many_said}
use Rattle.lmtpd_setup.proofs.WrongNames.{all_usable, one_unusable}
use Rattle.lmtpd_setup.proofs.site.try_each_box.Goals as goal

pub returns-in-Some : goal.returns-in-Some
returns-in-Some c =
    let boxes = c.args.boxes.now in
    let suffix = c.args.suffix.now in
    let own = c.args.own in
    let same = length-map boxes (λ (name : Bor (List ℕ)). name.now) in
    let found = subst (λ o. IsFoundAt (bad_place suffix own (texts boxes)) (length boxes) o) c.in-Some.is c.in_ok-first_bad.ensures in
    let bad = one_unusable suffix own (texts boxes) (omega (arith, c.requires, same)) (omega (arith, found, same)) in
    let rest = cond (nat_lt c.args.limit (length (texts boxes))) (Some fault.TooManyBoxes) (cond (has_twice (texts boxes)) (Some fault.BoxTwice) None) in
    inr (bad_said (are_usable_names suffix own (texts boxes)) rest bad)

pub returns-in-None : goal.returns-in-None
returns-in-None c =
    let boxes = c.args.boxes.now in
    let suffix = c.args.suffix.now in
    let own = c.args.own in
    let same = length-map boxes (λ (name : Bor (List ℕ)). name.now) in
    let found = subst (λ o. IsFoundAt (bad_place suffix own (texts boxes)) (length boxes) o) c.in-None.is c.in_ok-first_bad.ensures in
    let all = all_usable suffix own (texts boxes) (omega (arith, c.requires, same)) (omega (arith, found, same)) in
    inr (many_said (are_usable_names suffix own (texts boxes)) (nat_lt c.args.limit (length (texts boxes)))
    (cond (has_twice (texts boxes)) (Some fault.BoxTwice) None) all (is_over c.args.limit boxes c.if-boxes-limit.true))

pub returns-in-None-2 : goal.returns-in-None-2
returns-in-None-2 c =
    let boxes = c.args.boxes.now in
    let suffix = c.args.suffix.now in
    let own = c.args.own in
    let same = length-map boxes (λ (name : Bor (List ℕ)). name.now) in
    let found = subst (λ o. IsFoundAt (bad_place suffix own (texts boxes)) (length boxes) o) c.in-None.is c.in_ok-first_bad.ensures in
    (all_usable suffix own (texts boxes) (omega (arith, c.requires, same)) (omega (arith, found, same)), omega (arith, c.if-boxes-limit.false))
