use Rattle.std.proofs.Common.{◌≡◌, take}
use Rattle.mail_form.specs.Forms.{form_after}
use Rattle.mail_form.proofs.form.after_bytes.Given as goal

abbrev pub invariant-loop-byte : goal.invariant-loop-byte
invariant-loop-byte l = l.form ≡ form_after l.initial.form (take l.byte-index l.piece)
