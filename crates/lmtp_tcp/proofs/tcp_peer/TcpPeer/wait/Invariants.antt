use Rattle.std.proofs.Common.{◌≡◌, []}
use Rattle.std.specs.Io.KnownBytes.{Keeps}
use Rattle.lmtp_talk.specs.ReadBuffer.{waiting}
use Rattle.lmtp_tcp.proofs.tcp_peer.TcpPeer.wait.Given as goal

abbrev pub invariant-loop : goal.invariant-loop
invariant-loop g l = record {
  same : l.self ≡ record l.initial.self {
    stream = l.self.stream;
    bytes_read = l.self.bytes_read;
  };
  counts : l.self.bytes_read ≡ l.initial.self.bytes_read;
  none : waiting l.buffer ≡ [];
  kept : Keeps (g.T.Read.remaining l.initial.self.stream) (g.T.Read.remaining l.self.stream);
}
