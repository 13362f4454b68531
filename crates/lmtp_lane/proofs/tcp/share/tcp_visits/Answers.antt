use Rattle.std.proofs.Common.{◌≡◌, ap, ◌∙◌, sum, rules, arith, map}
use Rattle.std.specs.List.{range_with_len}
use Rattle.lmtp_lane.specs.TcpVisits.{connections_left, share}
use Rattle.lmtp_lane.proofs.SharedOut.{all_push, map-push, sum-shares}
use Rattle.lmtp_lane.proofs.tcp.share.tcp_visits.Goals as goal

pub loop-lane-preserved : goal.loop-lane-preserved
loop-lane-preserved g c = record {
  count = search rules;
  none_out = search (rules, all_push);
  none_ended = search (rules, all_push);
  shares = ap (map connections_left) c.in_ok-push.ensures.items
      ∙ map-push connections_left (share c.args.connections c.args.lanes) c.loop-lane.visits.items c.new-in-loop-lane.result c.loop-lane.lane
      c.loop-lane.invariant.shares (c.new-in-loop-lane.ensures.ready.connections ∙ c.share_of-connections.ensures);
  each = search (rules, all_push);
}

pub returns-clause-all : goal.returns-clause-all
returns-clause-all g c = λ some.
    let end : c.loop-lane.lane ≡ c.args.lanes = omega arith in
    ap sum c.loop-lane.invariant.shares
    ∙ ap (λ n. sum (map (share c.args.connections c.args.lanes) (range_with_len 0 n))) end
    ∙ sum-shares c.args.connections c.args.lanes some
