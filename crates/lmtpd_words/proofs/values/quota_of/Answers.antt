use Rattle.std.proofs.Common.{◌∙◌, codes}
use Rattle.std.specs.Str.Parse.{ParsesUnsigned, ExplainsUnsignedError, HasUnsignedDigitsIfOk}
use Rattle.clap.specs.Words.{found_of, one_of, rows_of}
use Rattle.clap.proofs.WalkLemmas.{one_text-rows}
use Rattle.lmtpd_words.proofs.Numbers.{limit_read}
use Rattle.lmtpd_words.proofs.values.quota_of.Goals as goal

pub returns : goal.returns
returns c =
    let f = found_of c.args.matches.now in
    let name = codes "quota" in
    let e = one_text-rows f name in
    limit_read (λ bs r. ParsesUnsigned 64 10 bs r × ExplainsUnsignedError 10 bs r × HasUnsignedDigitsIfOk bs r) (λ text r h. h.0)
    (one_of name (rows_of f)) c.get_one.result (λ no. c.get_one.ensures.none (e ∙ no)) (λ text is. c.get_one.ensures.value text (e ∙ is))
