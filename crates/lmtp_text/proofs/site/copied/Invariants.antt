use Rattle.std.proofs.Common.{◌≡◌, take}
use Rattle.lmtp_text.specs.Sites.{texts, owned}
use Rattle.lmtp_text.proofs.site.copied.Given as goal

abbrev pub invariant-loop-name : goal.invariant-loop-name
invariant-loop-name l = owned l.all.items ≡ texts (take l.name-index l.names)
