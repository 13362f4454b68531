use Rattle.std.proofs.Common.{◌≡◌}
use Rattle.lmtp_tcp.proofs.tcp_peer.TcpPeer.write_on.Given as goal

abbrev pub invariant-loop : goal.invariant-loop
invariant-loop g l = l.self ≡ record l.initial.self { stream = l.self.stream; over_since = l.self.over_since }
