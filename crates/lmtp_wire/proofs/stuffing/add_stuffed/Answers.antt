use Rattle.std.proofs.Common.{ap, ◌++◌, ◌∙◌, ◌∷◌}
use Rattle.mail_world.specs.Text.{crlf}
use Rattle.mail_world.specs.Data.{dot}
use Rattle.lmtp_wire.proofs.AddedDots.{all_added}
use Rattle.lmtp_wire.proofs.stuffing.add_stuffed.Goals as goal

pub returns-clause-ok : goal.returns-clause-ok
returns-clause-ok c =
    all_added c.args.out.now.items c.loop-run.out.items c.args.message.now c.loop-run.rest.now _ c.loop-run.invariant.whole c.in_default.ensures
    (c.in_ok-extend_from_slice-4.ensures.items ∙ ap (λ l. l ++ dot ∷ crlf) c.in_ok-extend_from_slice-3.ensures.items)
