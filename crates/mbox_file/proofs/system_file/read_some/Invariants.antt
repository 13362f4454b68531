use Rattle.std.specs.Io.KnownBytes.{Keeps}
use Rattle.mbox_file.proofs.system_file.read_some.Given as goal

abbrev pub invariant-loop : goal.invariant-loop
invariant-loop g l = Keeps (g.F.Read.remaining l.initial.file) (g.F.Read.remaining l.file)
