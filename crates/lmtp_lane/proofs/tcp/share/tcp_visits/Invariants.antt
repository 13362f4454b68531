use Rattle.std.proofs.Common.{◌≡◌, false, length, map}
use Rattle.std.specs.List.{AllByRecursion, range_with_len}
use Rattle.std.specs.Arc.{arc_value}
use Rattle.lmtp_lane.specs.TcpVisits.{IsLaneOf, connections_left, conversations_ended, is_out, share}
use Rattle.lmtp_lane.proofs.tcp.share.tcp_visits.Given as goal

abbrev pub invariant-loop-lane : goal.invariant-loop-lane
invariant-loop-lane g l = record {
  count : length l.visits.items ≡ l.lane;
  none_out : AllByRecursion (λ v. is_out v ≡ false) l.visits.items;
  none_ended : AllByRecursion (λ v. conversations_ended v ≡ 0) l.visits.items;
  shares : map connections_left l.visits.items ≡ map (share l.connections l.lanes) (range_with_len 0 l.lane);
  each : AllByRecursion (IsLaneOf (arc_value l.listener) l.bounds (arc_value l.curfew)) l.visits.items;
}
