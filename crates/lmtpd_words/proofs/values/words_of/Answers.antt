use Rattle.std.proofs.Common.{◌∙◌, sym, refl, subst}
use Rattle.std.specs.Prelude.{MatchOption}
use Rattle.clap.specs.Words.{found_of, rows_of}
use Rattle.lmtpd_words.specs.Words.{LacksRehearse, LacksServe, IsRehearseRead, IsServeRead}
use Rattle.lmtpd_words.proofs.Lacking.{named_so, lacks_rehearse, lacks_serve}
use Rattle.lmtpd_words.proofs.values.words_of.Goals as goal

pub returns-in-None-2 : goal.returns-in-None-2
returns-in-None-2 c =
    let rows = rows_of (found_of c.in-Some.rehearse.now) in
    let lacks : LacksRehearse rows =
    subst (λ read. MatchOption read (LacksRehearse rows) (IsRehearseRead rows)) c.in-None-2.is (c.in_ok-read-in-Some.ensures) in
    lacks_rehearse _ rows (sym (named_so c.args.matches.now) ∙ c.in-Some.ensures.found.0 refl) c.in-Some.ensures.rows lacks

pub returns-in-None-3 : goal.returns-in-None-3
returns-in-None-3 c =
    let rows = rows_of (found_of c.in-Some-subcommand_matches.serve.now) in
    let lacks : LacksServe rows =
    subst (λ read. MatchOption read (LacksServe rows) (IsServeRead rows)) c.in-None-3.is (c.in_ok-read-in-Some-subcommand_matches.ensures) in
    lacks_serve _ rows (sym (named_so c.args.matches.now) ∙ c.in-Some-subcommand_matches.ensures.found.0 refl) c.in-Some-subcommand_matches.ensures.rows lacks
