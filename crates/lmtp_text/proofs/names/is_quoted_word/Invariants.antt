use Rattle.std.proofs.Common.{◌≡◌, drop, false}
use Rattle.mail_world.specs.Commands.{is_word}
use Rattle.mail_world.specs.Targets.{unescaped}
use Rattle.lmtp_text.proofs.names.is_quoted_word.Given as goal

-- what is left of the word is to be what is left of the text
abbrev pub invariant-loop-b : goal.invariant-loop-b
invariant-loop-b l = is_word l.left (unescaped l.escaped (drop l.b-index l.text)) ≡ is_word l.word (unescaped false l.text)
