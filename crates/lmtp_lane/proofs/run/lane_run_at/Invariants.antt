use Rattle.std.proofs.Common.{false}
use Rattle.lmtp_lane.proofs.run.lane_run_at.Given as goal

abbrev pub ghosts-lane_at : goal.ghosts-lane_at
ghosts-lane_at g a = record {
  site = a.bounded.dialogue.session.site;
  May = g.C.Clock.May a.clock.now;
  ends = record { lane = a.exchange.lane; senders = a.exchange.senders.items; inbox = a.exchange.slips; gone = false };
}
