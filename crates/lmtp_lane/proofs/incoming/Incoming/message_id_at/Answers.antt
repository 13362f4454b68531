use Rattle.std.proofs.Common.{arith}
use Rattle.lmtp_lane.proofs.Coming.{id_known}
use Rattle.lmtp_lane.proofs.incoming.Incoming.message_id_at.Goals as goal

pub returns : goal.returns
returns g c refuses message h =
    id_known refuses _ c.args.self.now.room message c.args.held c.args.self.now.size _ _ (λ e. omega (arith, e, c.if-self-held.false)) c.requires
    (omega (arith, c.requires)) h
