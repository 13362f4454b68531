use Rattle.std.specs.Io.KnownBytes.{Keeps}
use Rattle.lmtp_talk.proofs.retry.read_some.Given as goal

abbrev pub invariant-loop : goal.invariant-loop
invariant-loop g l = Keeps (g.T.Read.remaining l.initial.stream) (g.T.Read.remaining l.stream)
