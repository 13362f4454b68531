use Rattle.clap.specs.Words.{found_of, one_of, rows_of}
use Rattle.lmtpd_words.proofs.Numbers.{number_or_usual}
use Rattle.lmtpd_words.proofs.values.number_or.Goals as goal

pub returns : goal.returns
returns c = number_or_usual c.args.usual (one_of c.args.name.now (rows_of (found_of c.args.matches.now))) c.number_of.result c.unwrap_or.result
    c.number_of.ensures c.unwrap_or.ensures
