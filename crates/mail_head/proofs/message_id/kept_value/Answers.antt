use Rattle.std.proofs.Common.{◌++◌, ◌∙◌, ap, take}
use Rattle.mail_world.specs.Commands.{trimmed}
use Rattle.mail_head.specs.MessageIds as ids
use Rattle.mail_head.proofs.GoingOn.{kept_once}
use Rattle.mail_head.proofs.message_id.kept_value.Goals as goal

pub returns : goal.returns
returns c =
    let value = c.args.value.now ++ ids.folded_value (ids.lines_within c.args.lines c.args.rest.now) in
    let kept = c.go_on.ensures c.args.value.now (c.of-id.ensures ∙ ap (λ t. take 250 t) c.after_blanks.ensures) in
    let cut = c.without_blanks_after.ensures ∙ ap trimmed (c.text.ensures ∙ kept) in
    c.of.ensures ∙ ap (λ t. take 250 t) cut ∙ kept_once 250 (ids.after_blanks value)
