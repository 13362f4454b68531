use Rattle.std.proofs.Common.{◌≤◌, inr, length, subst, ℕ, List}
use Rattle.std.specs.Borrow.{Bor}
use Rattle.lmtp_text.specs.Sites.{texts}
use Rattle.lmtpd_setup.specs.Faults.{box_limit_of, own_count}
use Rattle.lmtpd_setup.specs.Names.{IsFoundAt, wrong_place}
use Rattle.lmtpd_setup.proofs.WrongNames.{name_told, nothing_told}
use Rattle.lmtpd_setup.proofs.names.told_site.Goals as goal

pub returns-in-Ok-None : goal.returns-in-Ok-None
returns-in-Ok-None c =
    let names = c.deref.result.now in
    let suffix = c.args.words.now.mailbox_suffix.now in
    let limit = c.box_limit_of-limit.result in
    let own = c.own_count-own.result in
    let f = c.args.fault in
    let found : length names ≤ wrong_place limit suffix own f (texts names) =
    subst (λ o. IsFoundAt (wrong_place limit suffix own f (texts names)) (length names) o) c.in-Ok-None.field-0-is c.in-Ok-None.ensures in
    let limited : length names ≤ wrong_place (box_limit_of c.args.words.now) suffix own f (texts names) =
    subst (λ m. length names ≤ wrong_place m suffix own f (texts names)) c.box_limit_of-limit.ensures.value found in
    let placed : length names ≤ wrong_place (box_limit_of c.args.words.now) suffix (own_count c.args.words.now) f (texts names) =
    subst (λ m. length names ≤ wrong_place (box_limit_of c.args.words.now) suffix m f (texts names)) c.own_count-own.ensures.value limited in
    nothing_told c.args.words.now f c.requires
    (subst (λ (l : List (Bor (List ℕ))). length l ≤ wrong_place (box_limit_of c.args.words.now) suffix (own_count c.args.words.now) f (texts l))
    c.deref.ensures.value placed)

pub returns-in-Ok : goal.returns-in-Ok
returns-in-Ok c = inr (name_told c.args.words.now c.args.fault c.in-Ok.line c.in-Ok.ensures)
