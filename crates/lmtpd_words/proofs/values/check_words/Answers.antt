use Rattle.std.proofs.Common.{◌≡◌, ◌∙◌, ap, sym, codes, Some}
use Rattle.clap.specs.Words.{found_of}
use Rattle.clap.proofs.WalkLemmas.{raw_values-rows}
use Rattle.lmtp_text.specs.Sites.{texts}
use Rattle.lmtpd_words.proofs.values.check_words.Goals as goal

pub returns-in_default : goal.returns-in_default
returns-in_default c = sym (raw_values-rows (found_of c.args.matches.now) (codes "file")) ∙ sym c.in_default.ensures

pub returns : goal.returns
returns c =
    let files : c.in_ok-files.files.items ≡ c.in-Some.files.now = c.in_ok-files.ensures.items_if_clones_equal (λ x y h. h) in record {
      files = sym (raw_values-rows (found_of c.args.matches.now) (codes "file")) ∙ (sym c.in-Some.ensures ∙ ap Some (ap texts (sym files)));
    }
