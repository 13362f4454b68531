-- Each by computation.
use Rattle.std.proofs.Common.{refl}
use Rattle.mail_world.proofs.Computed.{everything}
use Rattle.mail_world.proofs.rows.turns.Goals as goal

pub returns : goal.returns
unfolding everything
returns c = record {
  empty = refl;
  torn = refl;
  one_lf = refl;
  at_quota = refl;
  above = refl;
  none = refl;
}
