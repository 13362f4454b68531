use Rattle.std.proofs.Common.{◌∙◌}
use Rattle.std.specs.Str.Parse.{ParsesBool}
use Rattle.clap.specs.Words.{found_of, one_of, rows_of}
use Rattle.clap.proofs.WalkLemmas.{one_text-rows}
use Rattle.lmtpd_words.proofs.Numbers.{flag_read}
use Rattle.lmtpd_words.proofs.values.is_given.Goals as goal

pub returns : goal.returns
returns c =
    let f = found_of c.args.matches.now in
    let name = c.args.name.now in
    let e = one_text-rows f name in
    flag_read ParsesBool (λ text r h. h) (one_of name (rows_of f)) c.get_one.result c.unwrap_or.result
    (λ no. c.get_one.ensures.none (e ∙ no)) (λ text is. c.get_one.ensures.value text (e ∙ is)) c.unwrap_or.ensures
