use Rattle.std.proofs.Common.{◌∙◌, ◌≡◌, sym, codes, refl, Option, Some, None}
use Rattle.clap.specs.Words.{Text, first_of, found_of, rows_of}
use Rattle.clap.proofs.WalkLemmas.{first_value-rows}
use Rattle.lmtpd_words.proofs.values.log_of.Goals as goal

pub returns-in-Some : goal.returns-in-Some
returns-in-Some c =
    let f = found_of c.args.matches.now in
    let is : ◌≡◌ {A = Option Text} (first_of (codes "log") (rows_of f)) (Some c.in-Some.name.now) =
    sym (first_value-rows f (codes "log")) ∙ sym c.in-Some.ensures in
    rw is c.level_of.ensures

pub returns-in-None : goal.returns-in-None
returns-in-None c =
    let f = found_of c.args.matches.now in
    let is : ◌≡◌ {A = Option Text} (first_of (codes "log") (rows_of f)) None = sym (first_value-rows f (codes "log")) ∙ sym c.in-None.ensures in
    rw is refl
