-- What `clap` is told of an argument.
use Rattle.std.specs.Prelude.{◌++◌, ℕ, List}
use Rattle.clap.specs.Words.{App, Rule}
use Rattle.lmtpd_words.specs.CommandLine.{bare_rule, bytes_rule, flag_rule, number_rule, text_rule, texts_rule}
use Rattle.lmtpd_words.specs.declared.arguments.Argument.{Argument}
use Rattle.lmtpd_words.specs.declared.arguments.ValueKind.{ValueKind}
use Rattle.lmtpd_words.specs.declared.arguments.ValueKind.TheVariants.{Bare, Bytes, Flag, Number, Text, Texts}

abbrev pub value_rule : List ℕ → ValueKind → Rule
value_rule name Text = text_rule name
value_rule name (Number least most) = number_rule name least most
value_rule name Bytes = bytes_rule name
value_rule name Bare = bare_rule name
value_rule name Texts = texts_rule name
value_rule name Flag = flag_rule name

abbrev pub argument_rule : Argument → Rule
argument_rule a = record (value_rule a.name.now a.kind) { required = a.is_required }

-- a command with further arguments, in this order
abbrev pub with_rules : App → List Rule → App
with_rules app rules = record app { top = record app.top { rules = app.top.rules ++ rules } }
