use Rattle.std.proofs.Common.{refl, length, Some}
use Rattle.mail_world.proofs.OneHouse.{it_starts}
use Rattle.mail_world.proofs.Moves.{computed}
use Rattle.mail_world.proofs.ComputedRuns.{note, text, refusing_start, refusing, it_refuses}
use Rattle.mail_world.proofs.runs.a_run_refuses.Goals as goal

pub returns : goal.returns
unfolding computed refusing
returns c = (refusing_start, refusing.0, note 1, it_starts 4 (Some (length (text 1))), refusing.1, refl, refl, it_refuses.0, it_refuses.1)
