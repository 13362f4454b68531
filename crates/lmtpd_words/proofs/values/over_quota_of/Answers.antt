use Rattle.std.proofs.Common.{◌∙◌, ◌≡◌, sym, refl, inr, codes, Option, Some}
use Rattle.clap.specs.Words.{Text, first_of, found_of, rows_of}
use Rattle.clap.proofs.WalkLemmas.{first_value-rows}
use Rattle.lmtpd_words.proofs.values.over_quota_of.Goals as goal

pub returns-in-Some : goal.returns-in-Some
returns-in-Some c =
    let f = found_of c.args.matches.now in
    let name = codes "over-quota" in
    let is : ◌≡◌ {A = Option Text} (first_of name (rows_of f)) (Some c.in-Some.text.now) = sym (first_value-rows f name) ∙ sym c.in-Some.ensures in
    rw is c.over_quota_in.ensures

pub returns-in-None : goal.returns-in-None
returns-in-None c = inr (sym (first_value-rows (found_of c.args.matches.now) (codes "over-quota")) ∙ sym c.in-None.ensures, refl)
