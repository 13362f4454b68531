use Rattle.std.proofs.Common.{ap, sym, ◌++◌, ◌∙◌, append_assoc, [], ◌∷◌}
use Rattle.mail_world.specs.Text.{lf}
use Rattle.mail_world.specs.Data.{dot, with_dots}
use Rattle.lmtp_wire.proofs.AddedDots.{dot_first, no_dot_first}
use Rattle.lmtp_wire.proofs.stuffing.add_first_dot.Goals as goal

pub returns-then-not-starts_with-clause-ok : goal.returns-then-not-starts_with-clause-ok
returns-then-not-starts_with-clause-ok c =
    ap (λ l. c.args.out.now.items ++ l) (sym (no_dot_first c.args.message.now (sym c.starts_with.ensures.value ∙ c.if-not-starts_with.true)))

pub returns-clause-ok : goal.returns-clause-ok
returns-clause-ok c =
    ap (λ l. l ++ with_dots lf dot c.args.message.now) c.in_ok-extend_from_slice.ensures.items
    ∙ append_assoc c.args.out.now.items (dot ∷ []) (with_dots lf dot c.args.message.now)
    ∙ ap (λ l. c.args.out.now.items ++ l) (sym (dot_first c.args.message.now (sym c.starts_with.ensures.value ∙ c.if-not-starts_with.false)))
