use Rattle.std.proofs.Common.{◌∙◌, ◌≡◌, sym, codes, Option, Some, None}
use Rattle.clap.specs.Words.{Text, first_of, found_of, rows_of}
use Rattle.clap.proofs.WalkLemmas.{first_value-rows}
use Rattle.lmtpd_words.proofs.values.folder_of.Goals as goal

pub returns-in-Some : goal.returns-in-Some
returns-in-Some c =
    let f = found_of c.args.matches.now in
    let is : ◌≡◌ {A = Option Text} (first_of (codes "dir") (rows_of f)) (Some c.in-Some.text.now) =
    sym (first_value-rows f (codes "dir")) ∙ sym c.in-Some.ensures in
    rw is c.path_in.ensures

pub returns-in-None : goal.returns-in-None
returns-in-None c =
    let f = found_of c.args.matches.now in
    let is : ◌≡◌ {A = Option Text} (first_of (codes "dir") (rows_of f)) None = sym (first_value-rows f (codes "dir")) ∙ sym c.in-None.ensures in
    rw is (λ folder no. let bad : ◌≡◌ {A = Option Text} None (Some folder) = no.0 in cc)
