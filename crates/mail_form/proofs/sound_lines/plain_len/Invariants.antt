use Rattle.std.proofs.Common.{◌≡◌, ◌≤◌, length, ◌-◌}
use Rattle.mbox_spool.specs.Lines.{pairs}
use Rattle.mail_form.specs.Forms.{is_break}
use Rattle.mail_form.proofs.sound_lines.plain_len.Given as goal

abbrev pub invariant-loop-len : goal.invariant-loop-len
invariant-loop-len l = (l.len ≤ length l.text) × (pairs is_break l.len l.text ≡ 0)

abbrev pub decreases-loop-len : goal.decreases-loop-len
decreases-loop-len l = length l.text - l.len
