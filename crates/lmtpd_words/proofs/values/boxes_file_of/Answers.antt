use Rattle.std.proofs.Common.{◌∙◌, sym, codes}
use Rattle.clap.specs.Words.{found_of}
use Rattle.clap.proofs.WalkLemmas.{first_value-rows}
use Rattle.lmtpd_words.proofs.values.boxes_file_of.Goals as goal

pub returns : goal.returns
returns c = sym (first_value-rows (found_of c.args.matches.now) (codes "boxes")) ∙ sym c.get_str.ensures
