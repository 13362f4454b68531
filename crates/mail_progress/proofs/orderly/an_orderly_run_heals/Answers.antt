use Rattle.std.proofs.Common.{None}
use Rattle.mail_world.proofs.OneHouse.{it_starts}
use Rattle.mail_world.proofs.Moves.{computed}
use Rattle.mail_world.proofs.ComputedRuns.{note, healing_start, healing, it_heals}
use Rattle.mail_progress.proofs.Started.{heals}
use Rattle.mail_progress.proofs.EndsOfRuns.{heals_all}
use Rattle.mail_progress.proofs.orderly.an_orderly_run_heals.Goals as goal

pub returns : goal.returns
unfolding computed healing
returns c = (healing_start, healing.0, note 0, note 1, it_starts 2 None, healing.1, heals, (it_heals.0, it_heals.1, heals_all))
