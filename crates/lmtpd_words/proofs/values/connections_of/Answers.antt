use Rattle.std.proofs.Common.{◌∙◌, codes}
use Rattle.std.specs.Str.Parse.{ParsesUnsigned, ExplainsUnsignedError, HasUnsignedDigitsIfOk}
use Rattle.clap.specs.Words.{found_of, one_of, rows_of}
use Rattle.clap.proofs.WalkLemmas.{one_text-rows}
use Rattle.lmtpd_words.proofs.Numbers.{given_number}
use Rattle.lmtpd_words.proofs.values.connections_of.Goals as goal

pub returns : goal.returns
returns c =
    let f = found_of c.args.matches.now in
    let name = codes "connections" in
    let e = one_text-rows f name in
    rw c.ok.ensures.value
    (given_number (λ bs r. ParsesUnsigned 32 10 bs r × ExplainsUnsignedError 10 bs r × HasUnsignedDigitsIfOk bs r) (λ text r h. h.0)
    (one_of name (rows_of f)) c.try_get_one.result (λ no. c.try_get_one.ensures.none (e ∙ no)) (λ text is. c.try_get_one.ensures.value text (e ∙ is)))
