use Rattle.std.proofs.Common.{refl, None}
use Rattle.mail_world.proofs.OneHouse.{start, it_starts}
use Rattle.mail_world.proofs.Moves.{computed}
use Rattle.mail_progress.proofs.StandStill.{crowded, crowded_is_orderly, crowded_remains, crowded_has_released, crowded_stands}
use Rattle.mail_progress.proofs.standing.with_too_many_copies_a_house_stands_still.Goals as goal

pub returns : goal.returns
unfolding computed crowded
returns c = (start 1 None, crowded.0, it_starts 1 None, crowded.1, crowded_is_orderly, refl, refl, refl, refl, crowded_remains, crowded_has_released, crowded_stands)
