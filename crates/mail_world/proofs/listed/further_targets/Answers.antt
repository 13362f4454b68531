-- Each by computation.
use Rattle.std.proofs.Common.{refl}
use Rattle.mail_world.proofs.Computed.{everything}
use Rattle.mail_world.proofs.listed.further_targets.Goals as goal

pub returns : goal.returns
unfolding everything
returns c = record {
  address_first = refl;
  local_part = refl;
  whole_before_user = refl;
  address_of_user = refl;
  user_at_host = refl;
  postmaster = refl;
}
