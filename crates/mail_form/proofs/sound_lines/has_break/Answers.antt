use Rattle.std.proofs.Common.{arith, drop}
use Rattle.std.proofs.lemmas.List.{length-drop, drop-drop}
use Rattle.mbox_spool.proofs.Blocks.{no_pairs, not_any}
use Rattle.mail_form.specs.Forms.{is_break}
use Rattle.mail_form.proofs.Blocks.{break_lanes}
use Rattle.mail_form.proofs.sound_lines.has_break.Goals as goal

pub returns : goal.returns
returns c =
    let text = drop c.args.at c.args.text.now in
    let long = length-drop c.args.at c.args.text.now in
    rw (← drop-drop 1 c.args.at c.args.text.now)
    (λ e. no_pairs is_break 64 text _ (omega arith) (break_lanes 64 text (omega (arith, long, c.requires)))
    (not_any _ e))
