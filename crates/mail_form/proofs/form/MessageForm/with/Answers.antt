use Rattle.std.proofs.Common.{◌≡◌, ap, ap₂, sym, ◌∙◌, drop}
use Rattle.mail_form.specs.declared.form.MessageForm.TheVariants.{Empty}
use Rattle.mail_form.specs.Forms.{form_after}
use Rattle.mail_form.proofs.Steps.{form_after-append}
use Rattle.mail_form.proofs.Sound.{goes_on, first_ends}
use Rattle.mail_form.proofs.form.MessageForm.with.Goals as goal

pub returns : goal.returns
returns c =
    let piece = c.args.piece.now in
    let r = c.first_line_len.result in
    let n = c.sound_lines_len.result in
    let front = c.split_at.ensures.front in
    let back = c.split_at.ensures.back in
    let sound = rw back at c.sound_lines_len.ensures.sound in
    let last : c.split_at-2.result.1.now ≡ drop n (drop r piece) = c.split_at-2.ensures.back ∙ ap (drop n) back in
    let went : c.after_bytes-2.result ≡ form_after c.args.self piece =
    c.after_bytes-2.ensures ∙ ap₂ form_after (c.after_bytes.ensures ∙ ap (form_after c.args.self) front) last
    ∙ goes_on c.args.self r n piece (first_ends r piece c.first_line_len.ensures.ends) sound in
    λ begun h. record {
      is = went ∙ ap (λ f. form_after f piece) h.is ∙ sym (form_after-append Empty begun piece);
    }
