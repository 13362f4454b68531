use Rattle.std.proofs.Common.{◌∙◌, ap, get_or, length, ◌-◌}
use Rattle.lmtp_wire.specs.DataState.{state_next}
use Rattle.lmtp_wire.proofs.Content.{after_last}
use Rattle.lmtp_wire.proofs.dot.state_after.Goals as goal

pub returns-in-len2-up : goal.returns-in-len2-up
returns-in-len2-up c =
    c.state_next-in-len2-up-2.ensures ∙ ap (λ p. state_next p (get_or c.args.run.now (length c.args.run.now - 1) 0)) c.state_next-in-len2-up.ensures
    ∙ after_last c.args.state c.args.run.now c.in-len2-up.len_at_least
