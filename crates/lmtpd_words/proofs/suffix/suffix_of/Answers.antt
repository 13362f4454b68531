use Rattle.std.proofs.Common.{◌∙◌, ◌≡◌, sym, refl, codes, Option, Some, None}
use Rattle.clap.specs.Words.{Text, first_of, found_of, rows_of}
use Rattle.clap.proofs.WalkLemmas.{first_value-rows}
use Rattle.lmtpd_words.proofs.suffix.suffix_of.Goals as goal

pub returns-in-Some : goal.returns-in-Some
returns-in-Some c =
    let f = found_of c.args.matches.now in
    let is : ◌≡◌ {A = Option Text} (first_of (codes "mailbox-suffix") (rows_of f)) (Some c.in-Some.text.now) =
    sym (first_value-rows f (codes "mailbox-suffix")) ∙ sym c.in-Some.ensures in
    rw is c.suffix_in.ensures

pub returns-in-None : goal.returns-in-None
returns-in-None c =
    let f = found_of c.args.matches.now in
    let is : ◌≡◌ {A = Option Text} (first_of (codes "mailbox-suffix") (rows_of f)) None =
    sym (first_value-rows f (codes "mailbox-suffix")) ∙ sym c.in-None.ensures in
    rw is refl
