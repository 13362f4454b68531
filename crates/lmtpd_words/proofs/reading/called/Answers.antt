use Rattle.std.proofs.Common.{subst, Option}
use Rattle.std.specs.Prelude.{MatchOption}
use Rattle.std.proofs.lemmas.Result.{err_from_is_err_and}
use Rattle.clap.specs.Words.{subcommand_rows_of}
use Rattle.lmtpd_words.specs.Words.{IsAsked, IsLacking}
use Rattle.lmtpd_words.specs.declared.words.Words.{Words}
use Rattle.lmtpd_words.proofs.reading.called.Goals as goal

pub returns-in_err-matches-clause-refused : goal.returns-in_err-matches-clause-refused
returns-in_err-matches-clause-refused c =
    let p = err_from_is_err_and c.from_residual.result c.from_residual.ensures.1 in
    rw (p.1, p.2) c.in_err-matches.ensures.refused

pub returns-in-Some-clause-read : goal.returns-in-Some-clause-read
returns-in-Some-clause-read c =
    let call = subcommand_rows_of c.in_ok-matches.matches in
    rw (← c.in_ok-matches.ensures.call) (subst (λ (read : Option Words). MatchOption read (IsLacking call) (IsAsked call)) c.in-Some.is c.in_ok-read.ensures)

pub returns-clause-read : goal.returns-clause-read
returns-clause-read c =
    let call = subcommand_rows_of c.in_ok-matches.matches in
    rw (← c.in_ok-matches.ensures.call) (subst (λ (read : Option Words). MatchOption read (IsLacking call) (IsAsked call)) c.in-None.is c.in_ok-read.ensures)
