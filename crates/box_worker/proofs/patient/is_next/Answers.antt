use Rattle.std.proofs.Common.{◌≡◌, ◌∙◌, ◌==◌, ℕ, [], Bool, true, false, Some, take, ap, sym, subst, refl, rules, tests}
use Rattle.std.specs.Prelude.{not}
use Rattle.std.proofs.lemmas.Option.{slice_get-get_or}
use Rattle.std.proofs.lemmas.Iterator.{YieldsList-from_slice}
use Rattle.std.proofs.lemmas.Iterator.Search.{any_from_yields_List}
use Rattle.mail_world.specs.declared.Note.{Note}
use Rattle.mail_post.specs.Parcels.{of}
use Rattle.box_worker.specs.Shares.{for_box}
use Rattle.box_worker.proofs.Patience.{none_of}
use Rattle.box_worker.proofs.patient.is_next.Goals as goal

un_not : (b : Bool) → not b ≡ true → b ≡ false
un_not true e = cc
un_not false e = refl

pub returns : goal.returns
returns g c sure note is =
    let waits = c.args.waits.now in
    let at = c.args.at in
    let number = c.mailbox-number.result in
    let any = any_from_yields_List (λ (n : Note). n.mailbox == number) _ _ c.any.result c.any.ensures.ran (YieldsList-from_slice (take at waits) cc)
    (λ x b q k. search (rules, tests)) in
    let there = slice_get-get_or waits at c.index-waits-at.result c.requires ∙ ap Some (sym c.index-waits-at.is) in
    let two : Some note ≡ Some c.index-waits-at.result = sym is ∙ there in
    let same : note ≡ c.index-waits-at.result = cc in
    let mine : number ≡ note.mailbox = c.mailbox-number.ensures ∙ ap (λ (n : Note). n.mailbox) (sym same) in
    subst (λ (m : ℕ). of for_box m (take at waits) ≡ []) mine (none_of number (take at waits) (sym any ∙ un_not c.any.result sure))
