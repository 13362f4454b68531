use Rattle.std.proofs.Common.{◌≡◌, ℕ, [], ◌∷◌, false, Option, subst, sym, ◌∙◌}
use Rattle.std.specs.Prelude.{◌&&◌}
use Rattle.mail_world.specs.Text.{cr, lf, ends_in, begins_with}
use Rattle.lmtp_wire.specs.Wire.{EndsIn}
use Rattle.lmtp_wire.proofs.Wires.{ends_at_lf, ends_further, none_ends, and_left, and_right}
use Rattle.lmtp_wire.proofs.wire.Wire.line_end.Goals as goal
use Rattle.lmtp_wire.proofs.wire.Wire.line_end.Goals.{else-ends_in_cr-via-then-ends_in_cr+else-starts_with, else-ends_in_cr-via-else-ends_in_cr}

pub returns-then-starts_with-clause-place : goal.returns-then-starts_with-clause-place
returns-then-starts_with-clause-place c = λ taken h.
    ends_at_lf taken c.args.piece.now h.goes_on (sym (c.ends_in_cr.ensures taken h) ∙ c.if-ends_in_cr.true)
    (sym c.starts_with.ensures.value ∙ c.if-starts_with.true)

pub returns-in_err-before-clause-place : goal.returns-in_err-before-clause-place
returns-in_err-before-clause-place c = λ taken h.
    let apart : ends_in (cr ∷ []) taken && begins_with (lf ∷ []) c.args.piece.now ≡ false =
    elim c.else-ends_in_cr.branch [
      | else-ends_in_cr-via-then-ends_in_cr+else-starts_with w ↦ and_right _ _ (sym w.starts_with.ensures.value ∙ w.if-starts_with.false)
      | else-ends_in_cr-via-else-ends_in_cr w ↦ and_left _ _ (sym (c.ends_in_cr.ensures taken h) ∙ w.if-ends_in_cr.false)
    ] in
    subst (λ (o : Option ℕ). EndsIn taken c.args.piece.now o) (sym c.from_residual.ensures)
    (none_ends taken c.args.piece.now h.goes_on apart (sym c.place_of_crlf.ensures.place ∙ c.in_err-before.was))

pub returns-clause-place : goal.returns-clause-place
returns-clause-place c = λ taken h.
    let apart : ends_in (cr ∷ []) taken && begins_with (lf ∷ []) c.args.piece.now ≡ false =
    elim c.else-ends_in_cr.branch [
      | else-ends_in_cr-via-then-ends_in_cr+else-starts_with w ↦ and_right _ _ (sym w.starts_with.ensures.value ∙ w.if-starts_with.false)
      | else-ends_in_cr-via-else-ends_in_cr w ↦ and_left _ _ (sym (c.ends_in_cr.ensures taken h) ∙ w.if-ends_in_cr.false)
    ] in
    ends_further taken c.args.piece.now c.in_ok-before.before h.goes_on apart (sym c.place_of_crlf.ensures.place ∙ c.in_ok-before.was)
