use Rattle.std.proofs.Common.{◌≤◌, length, take}
use Rattle.std.specs.Io.KnownBytes.{Appends}
use Rattle.mbox_file.proofs.system_file.write_on.Given as goal

abbrev pub invariant-loop : goal.invariant-loop
invariant-loop g l = (l.count ≤ length l.bytes) × Appends (g.F.Write.contents l.initial.file) (g.F.Write.contents l.file) (take l.count l.bytes)
