use Rattle.std.proofs.Common.{◌∙◌, ◌≡◌, ap, sym, codes, Option, Some}
use Rattle.clap.specs.Words.{Text, first_of, found_of, rows_of}
use Rattle.clap.proofs.WalkLemmas.{first_value-rows}
use Rattle.lmtpd_words.proofs.Given.{empty_text}
use Rattle.lmtpd_words.proofs.values.stop_file_of.Goals as goal

pub returns-in_err-path_in-in-Some : goal.returns-in_err-path_in-in-Some
returns-in_err-path_in-in-Some c =
    let f = found_of c.args.matches.now in
    let name = codes "stop-file" in
    let is : ◌≡◌ {A = Option Text} (first_of name (rows_of f)) (Some c.in-Some.text.now) = sym (first_value-rows f name) ∙ sym c.in-Some.ensures in
    rw c.from_residual.ensures (is ∙ ap Some (empty_text c.in-Some.text.now c.in_err-path_in-in-Some.ensures))

pub returns-in_ok-path_in-in-Some : goal.returns-in_ok-path_in-in-Some
returns-in_ok-path_in-in-Some c =
    let f = found_of c.args.matches.now in
    let name = codes "stop-file" in
    let is : ◌≡◌ {A = Option Text} (first_of name (rows_of f)) (Some c.in-Some.text.now) = sym (first_value-rows f name) ∙ sym c.in-Some.ensures in
    rw is c.in_ok-path_in-in-Some.ensures

pub returns-in-None : goal.returns-in-None
returns-in-None c = sym (first_value-rows (found_of c.args.matches.now) (codes "stop-file")) ∙ sym c.in-None.ensures
