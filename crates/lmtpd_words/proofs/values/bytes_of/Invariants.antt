use Rattle.std.proofs.Common.{◌≡◌, take}
use Rattle.lmtp_text.specs.Sites.{texts}
use Rattle.lmtpd_words.proofs.values.bytes_of.Given as goal

abbrev pub invariant-loop-name : goal.invariant-loop-name
invariant-loop-name l = texts l.all.items ≡ texts (take l.name-index l.names)
