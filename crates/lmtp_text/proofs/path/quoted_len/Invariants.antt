use Rattle.std.proofs.Common.{◌≡◌, ◌+◌, drop, false}
use Rattle.std.specs.Prelude.{option_map}
use Rattle.mail_world.specs.Paths.{quoted_len}
use Rattle.lmtp_text.proofs.path.quoted_len.Given as goal

-- what was passed belongs to the quoted part
abbrev pub invariant-loop-i : goal.invariant-loop-i
invariant-loop-i l = option_map (λ n. n + l.i) (quoted_len l.utf8 l.escaped (drop l.i l.text)) ≡ quoted_len l.utf8 false l.text
