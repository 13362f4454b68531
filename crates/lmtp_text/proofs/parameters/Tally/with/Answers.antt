use Rattle.std.proofs.Common.{sym, ◌∙◌}
use Rattle.lmtp_text.specs.Parameters.{seen_parameter}
use Rattle.lmtp_text.proofs.ParameterTallies.{with_size_tallies, with_body_tallies, with_utf8_tallies, unknown_tallies}
use Rattle.lmtp_text.proofs.parameters.Tally.with.Goals as goal

pub returns-then-is_word : goal.returns-then-is_word
returns-then-is_word c =
    λ before h. with_size_tallies c.args.offered c.args.self c.with_size.result before (seen_parameter c.args.parameter)
    (sym c.is_word.ensures ∙ c.if-is_word.true) c.with_size.ensures h

pub returns-then-is_word-2 : goal.returns-then-is_word-2
returns-then-is_word-2 c =
    λ before h. with_body_tallies c.args.offered c.args.self c.with_body.result before (seen_parameter c.args.parameter)
    (sym c.is_word.ensures ∙ c.if-is_word.false) (sym c.is_word-else-is_word.ensures ∙ c.if-is_word-2.true) c.with_body.ensures h

pub returns-then-is_word-3 : goal.returns-then-is_word-3
returns-then-is_word-3 c =
    λ before h. with_utf8_tallies c.args.offered c.args.self c.with_utf8.result before (seen_parameter c.args.parameter)
    (sym c.is_word.ensures ∙ c.if-is_word.false) (sym c.is_word-else-is_word.ensures ∙ c.if-is_word-2.false)
    (sym c.is_word-else-is_word-2.ensures ∙ c.if-is_word-3.true) c.with_utf8.ensures h

pub returns-else-is_word-3 : goal.returns-else-is_word-3
returns-else-is_word-3 c =
    λ before h. unknown_tallies c.args.offered c.args.self before (seen_parameter c.args.parameter)
    (sym c.is_word.ensures ∙ c.if-is_word.false) (sym c.is_word-else-is_word.ensures ∙ c.if-is_word-2.false)
    (sym c.is_word-else-is_word-2.ensures ∙ c.if-is_word-3.false) h
