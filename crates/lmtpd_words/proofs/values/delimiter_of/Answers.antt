use Rattle.std.proofs.Common.{◌∙◌, ◌≡◌, sym, refl, codes, Option, Some}
use Rattle.clap.specs.Words.{Text, first_of, found_of, rows_of}
use Rattle.clap.proofs.WalkLemmas.{first_value-rows}
use Rattle.lmtpd_words.proofs.values.delimiter_of.Goals as goal

pub returns-in_err-delimiter_in-in-Some : goal.returns-in_err-delimiter_in-in-Some
returns-in_err-delimiter_in-in-Some c =
    let f = found_of c.args.matches.now in
    let name = codes "recipient-delimiter" in
    let is : ◌≡◌ {A = Option Text} (first_of name (rows_of f)) (Some c.in-Some.text.now) = sym (first_value-rows f name) ∙ sym c.in-Some.ensures in
    rw c.from_residual.ensures (rw is c.in_err-delimiter_in-in-Some.ensures)

pub returns-in_ok-delimiter_in-in-Some : goal.returns-in_ok-delimiter_in-in-Some
returns-in_ok-delimiter_in-in-Some c =
    let f = found_of c.args.matches.now in
    let name = codes "recipient-delimiter" in
    let is : ◌≡◌ {A = Option Text} (first_of name (rows_of f)) (Some c.in-Some.text.now) = sym (first_value-rows f name) ∙ sym c.in-Some.ensures in
    rw is c.in_ok-delimiter_in-in-Some.ensures

pub returns-in-None : goal.returns-in-None
returns-in-None c = (sym (first_value-rows (found_of c.args.matches.now) (codes "recipient-delimiter")) ∙ sym c.in-None.ensures, refl)
