-- What follows from the program's command line.
use Rattle.std.proofs.Common.{◌≡◌, refl, true}
use Rattle.std.proofs.lemmas.Bool.{and_parts}
use Rattle.clap.specs.Words.{built, is_simple}
use Rattle.clap.specs.Faults.{is_free_app, is_simple_and_free}
use Rattle.clap.proofs.OnLiterals.{clap_on_literals}
use Rattle.lmtpd_words.specs.CommandLine.{program_app}

pub is_free_program : is_simple_and_free program_app ≡ true
unfolding clap_on_literals
is_free_program = refl

pub is_simple_program : is_simple program_app ≡ true
is_simple_program = (and_parts (is_simple program_app) (is_free_app (built program_app)) is_free_program).0
