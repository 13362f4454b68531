use Rattle.std.proofs.Common.{◌≡◌, ◌≤◌, ◌++◌, drop, take, length, false}
use Rattle.mail_world.specs.Targets.{unescaped}
use Rattle.lmtp_text.proofs.names.write_unescaped.Given as goal

-- what was written, and what is left of the text
abbrev pub invariant-loop-b : goal.invariant-loop-b
invariant-loop-b l =
    (take l.size l.room ++ unescaped l.in_pair (drop l.b-index l.text) ≡ unescaped false l.text) × (l.size ≤ length l.room)
    × (length l.room ≡ length l.fn.room)
