use Rattle.std.proofs.Common.{◌∙◌, sym, inl, inr, codes}
use Rattle.clap.specs.Words.{found_of}
use Rattle.clap.proofs.WalkLemmas.{first_value-rows}
use Rattle.lmtpd_words.proofs.values.copy_words.Goals as goal

pub returns-in_default : goal.returns-in_default
returns-in_default c = inl (sym (first_value-rows (found_of c.args.matches.now) (codes "file")) ∙ sym c.in_default.ensures)

pub returns-in_default-get_str : goal.returns-in_default-get_str
returns-in_default-get_str c = inr (sym (first_value-rows (found_of c.args.matches.now) (codes "to")) ∙ sym c.in_default-get_str.ensures)

pub returns : goal.returns
returns c =
    let f = found_of c.args.matches.now in record {
      file = sym (first_value-rows f (codes "file")) ∙ sym c.in-Some.ensures;
      to = sym (first_value-rows f (codes "to")) ∙ sym c.in-Some-get_str.ensures;
    }
