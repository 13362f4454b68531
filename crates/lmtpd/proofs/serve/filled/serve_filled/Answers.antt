use Rattle.std.proofs.Common.{inr}
use Rattle.std.proofs.lemmas.Result.{err_from_is_err_and}
use Rattle.lmtpd.proofs.Arms.{refused_with}
use Rattle.lmtpd.proofs.serve.filled.serve_filled.Goals as goal

pub returns-in_err-check_words : goal.returns-in_err-check_words
returns-in_err-check_words g c =
    let p = err_from_is_err_and c.from_residual-in_err-check_words.result c.from_residual-in_err-check_words.ensures.1 in
    refused_with _ _ _ _ _ p.1 p.2 (inr (c.fill.new.words, c.in_ok-fill.ensures, c.in_err-check_words.ensures))

pub returns-then-words : goal.returns-then-words
returns-then-words g c = (c.fill.new.words, c.in_ok-fill.ensures, c.in_ok-check_words.ensures)

pub returns-in_err-served : goal.returns-in_err-served
returns-in_err-served g c =
    let p = err_from_is_err_and c.from_residual-in_err-served.result c.from_residual-in_err-served.ensures.1 in
    refused_with _ _ _ _ _ p.1 p.2 (inr (c.fill.new.words, c.in_ok-fill.ensures, c.in_err-served.ensures))

pub returns : goal.returns
returns g c = (c.fill.new.words, c.in_ok-fill.ensures, c.in_ok-served.ensures)
