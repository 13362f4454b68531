use Rattle.std.proofs.Common.{◌≡◌, ◌∙◌, ap, sym, codes, Some, None}
use Rattle.clap.specs.Words.{all_of, found_of, rows_of}
use Rattle.clap.proofs.WalkLemmas.{raw_values-rows}
use Rattle.lmtp_text.specs.Sites.{texts}
use Rattle.lmtpd_words.proofs.values.boxes_of.Goals as goal

pub returns-in-Some : goal.returns-in-Some
returns-in-Some c =
    let f = found_of c.args.matches.now in
    let is : all_of (codes "box") (rows_of f) ≡ Some (texts c.in-Some.names.now) = sym (raw_values-rows f (codes "box")) ∙ sym c.in-Some.ensures in
    rw is c.bytes_of.ensures

pub returns-in-None : goal.returns-in-None
returns-in-None c =
    let f = found_of c.args.matches.now in
    let is : all_of (codes "box") (rows_of f) ≡ None = sym (raw_values-rows f (codes "box")) ∙ sym c.in-None.ensures in
    rw is (ap texts c.new.ensures.items)
