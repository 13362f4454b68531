use Rattle.std.proofs.Common.{◌∙◌, ◌≡◌, ap, sym, codes, Some, None}
use Rattle.clap.specs.Words.{first_of, found_of, rows_of}
use Rattle.clap.proofs.WalkLemmas.{first_value-rows}
use Rattle.lmtp_text.specs.Sites.{texts}
use Rattle.lmtpd_words.proofs.values.domains_of.Goals as goal

pub returns-in-Some : goal.returns-in-Some
returns-in-Some c =
    let f = found_of c.args.matches.now in
    let is : first_of (codes "domains") (rows_of f) ≡ Some c.in-Some.list.now = sym (first_value-rows f (codes "domains")) ∙ sym c.in-Some.ensures in
    rw is c.domains_in.ensures

pub returns-in-None : goal.returns-in-None
returns-in-None c =
    let f = found_of c.args.matches.now in
    let is : first_of (codes "domains") (rows_of f) ≡ None = sym (first_value-rows f (codes "domains")) ∙ sym c.in-None.ensures in
    rw is (ap texts c.new.ensures.items)
