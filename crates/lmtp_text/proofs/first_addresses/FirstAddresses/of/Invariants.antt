use Rattle.std.proofs.Common.{take}
use Rattle.lmtp_text.specs.Sites.{AreFirsts}
use Rattle.lmtp_text.proofs.first_addresses.FirstAddresses.of.Given as goal

-- the first addresses among the names so far
abbrev pub invariant-loop-place : goal.invariant-loop-place
invariant-loop-place l = AreFirsts (take l.place l.names) l.firsts
