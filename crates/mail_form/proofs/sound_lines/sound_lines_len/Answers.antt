use Rattle.std.proofs.Common.{◌≡◌, ◌<◌, arith, get_or, refl, ◌+◌}
use Rattle.std.proofs.lemmas.Bool.{eqb-true}
use Rattle.std.proofs.lemmas.Grind.{common_steps}
use Rattle.mail_world.specs.Text.{lf}
use Rattle.mail_form.specs.Forms.{is_break}
use Rattle.mail_form.proofs.Blocks.{pairs_fewer}
use Rattle.mail_form.proofs.Sound.{sound_lines}
use Rattle.mail_form.proofs.sound_lines.sound_lines_len.Goals as goal

pub returns-in-Some-clause-sound : goal.returns-in-Some-clause-sound
returns-in-Some-clause-sound c =
    let text = c.args.text.now in
    let at = c.in-Some.at in
    let low = c.min-plain.ensures in
    let within = c.plain_len.ensures.within in
    let high = c.in-Some.ensures.0.high in
    let is = eqb-true _ _ c.in-Some.ensures.1 in
    let before : at < c.min-plain.result = grind (arith, common_steps, high) in
    let same : get_or text at 0 ≡ lf = grind (arith, common_steps, is, before) in
    sound_lines at (at + 1) text refl (omega (arith, before, low, within))
    (pairs_fewer is_break at c.plain_len.result text (omega (arith, before, low)) c.plain_len.ensures.plain)
    same (omega (arith, before, low))
