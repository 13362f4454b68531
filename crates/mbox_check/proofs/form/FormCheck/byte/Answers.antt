use Rattle.std.proofs.Common.{[], ◌∷◌, ◌+◌, ap, sym, subst, ◌∙◌}
use Rattle.mail_world.specs.Counts.{counted}
use Rattle.mbox_check.specs.declared.form.FormCheck.{FormCheck}
use Rattle.mbox_check.specs.SoFar.{ReadsOn, BreaksIn}
use Rattle.mbox_check.proofs.Taken.{byte_to, byte_begin, byte_break}
use Rattle.mbox_check.proofs.form.FormCheck.byte.Goals as goal

pub returns-in-To-clause-ok : goal.returns-in-To-clause-ok
returns-in-To-clause-ok c =
    subst (λ form. ReadsOn c.args.self.now form (c.args.byte ∷ []))
    (sym (c.go.ensures ∙ ap (λ (form : FormCheck). record form { state = c.in-To.state; taken = counted (form.taken + 1) }) c.note.ensures))
    (byte_to c.args.self.now c.args.byte c.in-To.state (sym c.effect_at.ensures ∙ c.in-To.is))

pub returns-in-Begin-clause-ok : goal.returns-in-Begin-clause-ok
returns-in-Begin-clause-ok c =
    subst (λ form. ReadsOn c.args.self.now form (c.args.byte ∷ [])) (sym c.begin.ensures)
    (byte_begin c.args.self.now c.args.byte (sym c.effect_at.ensures ∙ c.in-Begin.is))

pub returns-in-Break-clause-err : goal.returns-in-Break-clause-err
returns-in-Break-clause-err c =
    subst (λ found. BreaksIn c.args.self.now (c.args.byte ∷ []) found) (sym c.broken.ensures)
    (byte_break c.args.self.now c.args.byte (sym c.effect_at.ensures ∙ c.in-Break.is))
