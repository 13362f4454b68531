-- Each by computation.
use Rattle.std.proofs.Common.{refl}
use Rattle.mail_world.proofs.Computed.{everything}
use Rattle.mail_world.proofs.rows.subaddresses.Goals as goal

pub returns : goal.returns
unfolding everything
returns c = record {
  user = refl;
  first_delimiter = refl;
  no_detail = refl;
  no_user = refl;
  unknown_user = refl;
  postmaster = refl;
  own_postmaster = refl;
  quoted = refl;
  escaped = refl;
  elsewhere = refl;
  whole_name = refl;
  name_with_detail = refl;
  cut_once = refl;
  no_delimiter = refl;
}
