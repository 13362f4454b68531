use Rattle.std.proofs.Common.{◌≡◌, false, map, take}
use Rattle.clap.specs.Words.{app_of}
use Rattle.clap.specs.declared.builder.command.Command.TheViews.{out-Command as fields_of}
use Rattle.lmtpd_words.specs.Arguments.{argument_rule, with_rules}
use Rattle.lmtpd_words.proofs.command.with_arguments.Given as goal

abbrev pub invariant-loop-argument : goal.invariant-loop-argument
invariant-loop-argument l = record {
  shape : app_of l.command ≡ with_rules (app_of l.fn.bare) (map argument_rule (take l.argument-index l.arguments));
  local : (fields_of l.fn.bare).has_globals ≡ false → (fields_of l.command).has_globals ≡ false;
}
