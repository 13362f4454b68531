use Rattle.std.proofs.Common.{◌≡◌, [], IfSome, length, map, vec_items}
use Rattle.std.specs.List.{AllByRecursion}
use Rattle.lmtpd_log.specs.LaneLogs.{lines_from}
use Rattle.lmtpd_log.proofs.lane_log.lane_logs.Given as goal

abbrev pub invariant-loop-lane : goal.invariant-loop-lane
invariant-loop-lane g l = record {
  count : length (vec_items l.made) ≡ l.lane;
  lines : map (λ log. g.M.Log.LaneLog.lines log) (vec_items l.made) ≡ lines_from (g.M.LaneLogs.addresses l.logs) 0 l.lane;
  untold : AllByRecursion (λ log. IfSome (g.M.Log.Observer.told log) (λ entries. entries ≡ [])) (vec_items l.made);
}
