-- What the code's tail of a mailbox stands for.
use Rattle.std.specs.Prelude.{ℕ, take}
use Rattle.mbox_spool.specs.declared.tail.Tail.{Tail}
use Rattle.mbox_spool.specs.declared.tail.Tail.TheVariants as tail
use Rattle.mail_world.specs.Endings.{F, Fr, Fro, From, Ending, Empty, Begun, InFromLine, NoLf, OneLf, TwoLf}

-- more than this is missing of no From line
abbrev pub missing_most : ℕ
missing_most = 38

-- how the bytes end
abbrev pub ending_of : Tail → Ending
ending_of tail.Empty = Empty
ending_of tail.F = Begun F
ending_of tail.Fr = Begun Fr
ending_of tail.Fro = Begun Fro
ending_of tail.From = Begun From
ending_of (tail.InFromLine room missing) = InFromLine room (take missing_most missing.now)
ending_of tail.NoLf = NoLf
ending_of tail.OneLf = OneLf
ending_of tail.TwoLf = TwoLf
