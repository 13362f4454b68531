use Rattle.std.proofs.Common.{[], take, subst}
use Rattle.std.specs.Prelude.{option_map}
use Rattle.mail_head.specs.Texts.{text_of}
use Rattle.lmtp_lane.specs.LaneExchange.{ends_of}
use Rattle.lmtp_lane.specs.LaneAccount.{IsComing}
use Rattle.lmtp_lane.proofs.Accounting.{more_accepted}
use Rattle.lmtp_lane.proofs.delivery.LaneDeliveryDelivery.begin.Goals as goal

pub returns-clause-begins : goal.returns-clause-begins
returns-clause-begins g c n ts h =
    let S = g.S.LaneStart in
    let self = c.args.self.now in
    let incoming = c.begin.new.self in (
      more_accepted S.site S.May S.ends (ends_of self.exchange) self.accepted c.saturating_add-self.result n ts c.saturating_add-self.ensures h.0,
      h.1,
      subst (λ r. IsComing r incoming.draft (take incoming.held incoming.room) incoming.size (option_map (λ t. text_of t) incoming.message_id) incoming.form [])
          self.refusing c.begin.ensures,
    )
