use Rattle.std.proofs.Common.{subst, ap, sym, ◌∙◌}
use Rattle.mail_world.specs.Site.{Site}
use Rattle.mail_post.specs.Offered.{any_gone}
use Rattle.lmtp_lane.specs.LaneExchange.{LaneEnds, ends_of}
use Rattle.lmtp_talk.specs.Served.{terms}
use Rattle.lmtp_lane.specs.LaneRun.{lane_start, lane_end, HasServed}
use Rattle.lmtp_lane.proofs.run.lane_run_at.Goals as goal

pub lane_at-requires-clause-start : goal.lane_at-requires-clause-start
lane_at-requires-clause-start g c =
    let begin : LaneEnds → LaneEnds = λ e. record { lane = e.lane; senders = e.senders; inbox = e.inbox; gone = any_gone e.senders } in
    c.new-exchange.ensures.ends ∙ ap begin (sym c.new-exchange.ensures.ends)

pub returns : goal.returns
returns g c =
    let V = g.V.Visits in
    let P : Site → LaneEnds → Type 0 = λ s e. HasServed (terms s c.args.reads) (g.C.Clock.May c.args.clock.now) (V.MayGive c.args.visits)
    (lane_start (V.finished c.args.visits) (V.over c.args.visits) (g.O.Observer.told c.args.observer) e.lane e.senders e.inbox) (lane_end e.lane c.lane_at.result) in
    subst (P c.args.site.now) c.new-exchange.ensures.ends (subst (λ s. P s (ends_of c.new-exchange.result)) c.requires.site c.lane_at.ensures)
