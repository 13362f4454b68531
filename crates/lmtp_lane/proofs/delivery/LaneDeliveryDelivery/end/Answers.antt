use Rattle.std.proofs.Common.{length, ℕ, ◌≡◌, ◌<◌, ◌^◌, subst}
use Rattle.mail_world.specs.declared.Verdict.{Verdict}
use Rattle.mail_world.specs.declared.Verdict.TheVariants.{Whole}
use Rattle.lmtp_lane.specs.LaneExchange.{ends_of}
use Rattle.lmtp_lane.specs.LaneAccount.{told_by, verdict_on, says_malformed}
use Rattle.lmtp_lane.proofs.Accounting.{ended_refused, ended_whole}
use Rattle.lmtp_lane.proofs.Delivering.{told_count}
use Rattle.lmtp_lane.proofs.delivery.LaneDeliveryDelivery.end.Goals as goal

pub returns-in-Err-clause-ended : goal.returns-in-Err-clause-ended
returns-in-Err-clause-ended g c n ts message h =
    let self = c.args.self.now in
    let incoming = c.hand_on_rest.new.self in
    let site = g.S.LaneStart.site in
    let Fits : Verdict → ℕ → Type 0 = λ v k. v ≡ verdict_on k self.accepted incoming.size (says_malformed incoming.form) incoming.draft in
    let Low : ℕ → Type 0 = λ k. k < 2 ^ 32 in (
      ended_refused site g.S.LaneStart.May g.S.LaneStart.ends (ends_of self.exchange) self.accepted
          incoming.size incoming.form incoming.draft c.args.session.now.session c.unix-self.result c.in-Err.verdict (subst Low self.limited.0 self.limited.1)
          (subst (Fits c.in-Err.verdict) self.limited.0 c.in-Err.ensures.refused) c.in-Err.ensures.other
          (h.1 c.unix-self.result c.unix-self.ensures) n ts message (h.0, c.hand_on_rest.ensures site.refuses_malformed message h.2),
      h.1,
    )

pub returns-in-Ok-clause-ended : goal.returns-in-Ok-clause-ended
returns-in-Ok-clause-ended g c n ts message h =
    let self = c.args.self.now in
    let incoming = c.hand_on_rest.new.self in
    let new = c.deliver.new.self in
    let site = g.S.LaneStart.site in
    let Fits : Verdict → ℕ → Type 0 = λ v k. v ≡ verdict_on k self.accepted incoming.size (says_malformed incoming.form) incoming.draft in
    let Low : ℕ → Type 0 = λ k. k < 2 ^ 32 in (
      ended_whole site g.S.LaneStart.May g.S.LaneStart.ends (ends_of self.exchange) (ends_of new.exchange) self.accepted new.accepted incoming.size
          incoming.form incoming.draft c.in-Ok.draft
          c.args.session.now.session c.unix-self.result new.moment (told_by new.exchange.gather.gather) c.deliver.ensures.same
          (subst Low self.limited.0 self.limited.1) c.in-Ok.ensures.number c.in-Ok.ensures.whole.0
          (subst (Fits Whole) self.limited.0 c.in-Ok.ensures.whole.1)
          (h.1 c.unix-self.result c.unix-self.ensures) c.deliver.ensures.delivers n ts message (h.0, c.hand_on_rest.ensures site.refuses_malformed message h.2),
      λ moment may. h.1 moment (c.deliver.ensures.clock moment may),
    )

pub returns-in-Ok-clause-count : goal.returns-in-Ok-clause-count
returns-in-Ok-clause-count g c =
    let incoming = c.hand_on_rest.new.self in
    let new = c.deliver.new.self in
    told_count new.exchange.gather.gather (length c.args.session.now.session.recipients) new.none_missing c.deliver.ensures.count
