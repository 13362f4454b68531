use Rattle.std.proofs.Common.{length, drop, List, ℕ, None, Some, subst, take}
use Rattle.std.specs.Prelude.{◌-◌}
use Rattle.std.specs.Borrow.{Bor}
use Rattle.std.proofs.lemmas.List.{take_rest}
use Rattle.std.specs.List.{prefix_len}
use Rattle.lmtp_text.specs.Sites.{texts}
use Rattle.lmtpd_setup.specs.Faults.{is_usable_listed_name, is_usable_name}
use Rattle.lmtpd_setup.specs.Names.{IsFoundAt}
use Rattle.lmtpd_setup.proofs.WrongNames.{found_listed, found_none, found_own}
use Rattle.lmtpd_setup.proofs.names.first_bad.Goals as goal

pub returns-in-Some : goal.returns-in-Some
returns-in-Some c =
    let suffix = c.args.suffix.now in
    let own = c.args.own in
    let names = c.args.names.now in
    let first = take own names in
    found_own suffix own names c.in-Some.place c.requires
    (subst (λ o. IsFoundAt (prefix_len (is_usable_name suffix) (texts first)) (length first) o) c.in-Some.is c.in_ok-place.ensures)

pub returns-in-Some-2 : goal.returns-in-Some-2
returns-in-Some-2 c =
    let suffix = c.args.suffix.now in
    let own = c.args.own in
    let names = c.args.names.now in
    let first = take own names in
    let rest = take (length names - own) (drop own names) in
    found_listed suffix own names c.in-Some-2.place c.requires
    (subst (λ o. IsFoundAt (prefix_len (is_usable_name suffix) (texts first)) (length first) o) c.in-None.is c.in_ok-place.ensures)
    (subst (λ (l : List (Bor (List ℕ))). IsFoundAt (prefix_len (is_usable_listed_name suffix) (texts l)) (length l) (Some c.in-Some-2.place)) (take_rest names own)
    (subst (λ o. IsFoundAt (prefix_len (is_usable_listed_name suffix) (texts rest)) (length rest) o) c.in-Some-2.is
    c.in_ok-place-in-None.ensures))

pub returns-in-None-2 : goal.returns-in-None-2
returns-in-None-2 c =
    let suffix = c.args.suffix.now in
    let own = c.args.own in
    let names = c.args.names.now in
    let first = take own names in
    let rest = take (length names - own) (drop own names) in
    found_none suffix own names c.requires
    (subst (λ o. IsFoundAt (prefix_len (is_usable_name suffix) (texts first)) (length first) o) c.in-None.is c.in_ok-place.ensures)
    (subst (λ (l : List (Bor (List ℕ))). IsFoundAt (prefix_len (is_usable_listed_name suffix) (texts l)) (length l) None) (take_rest names own)
    (subst (λ o. IsFoundAt (prefix_len (is_usable_listed_name suffix) (texts rest)) (length rest) o) c.in-None-2.is
    c.in_ok-place-in-None.ensures))
