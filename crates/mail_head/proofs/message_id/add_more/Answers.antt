use Rattle.std.proofs.Common.{◌∙◌, ap, take, ◌++◌, arith, sym}
use Rattle.mail_head.specs.Texts.{text_of}
use Rattle.mail_head.proofs.Blanks.{more_of_none, more_of_some, none_by, some_by}
use Rattle.mail_head.proofs.message_id.add_more.Goals as goal

pub returns-then-is_empty : goal.returns-then-is_empty
returns-then-is_empty c = λ value is.
    c.add.ensures ∙ ap (λ t. take 250 (text_of c.args.id.now ++ t)) c.after_blanks.ensures
    ∙ more_of_none 250 value c.args.more.now (text_of c.args.id.now) (omega arith)
    (sym c.text.ensures ∙ none_by c.text.result.now (sym c.is_empty.ensures ∙ c.if-is_empty.true)) is

pub returns-else-is_empty : goal.returns-else-is_empty
returns-else-is_empty c = λ value is.
    c.add-else-is_empty.ensures
    ∙ more_of_some 250 value c.args.more.now (text_of c.args.id.now)
    (λ none. some_by c.text.result.now (sym c.is_empty.ensures ∙ c.if-is_empty.false) (c.text.ensures ∙ none)) is
