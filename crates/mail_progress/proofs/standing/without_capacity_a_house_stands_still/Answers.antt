use Rattle.std.proofs.Common.{refl, None}
use Rattle.mail_world.proofs.OneHouse.{start, it_starts}
use Rattle.mail_progress.proofs.StandStill.{shut, shut_is_orderly, shut_remains, shut_stands}
use Rattle.mail_progress.proofs.standing.without_capacity_a_house_stands_still.Goals as goal

pub returns : goal.returns
returns c = (start 0 None, shut.0, it_starts 0 None, shut.1, shut_is_orderly, refl, shut_remains, shut_stands)
