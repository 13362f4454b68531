use Rattle.lmtp_lane.specs.LaneExchange.{sending_of, KeepsRoom, Awaits}
use Rattle.lmtp_lane.proofs.exchange.Exchange.collect.Given as goal

-- slips came, and nothing else has changed
abbrev pub invariant-loop : goal.invariant-loop
invariant-loop g l = record {
  room : KeepsRoom (sending_of l.initial.self) (sending_of l.self);
  way : Awaits l.number l.session.session (sending_of l.initial.self) (sending_of l.self);
}
