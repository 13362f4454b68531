-- Each by computation.
use Rattle.std.proofs.Common.{refl}
use Rattle.mail_world.proofs.Computed.{everything}
use Rattle.mail_world.proofs.listed.listed_targets.Goals as goal

pub returns : goal.returns
unfolding everything
returns c = record {
  at_host = refl;
  no_domain = refl;
  address = refl;
  detail = refl;
  no_address = refl;
  another_domain = refl;
  bracket = refl;
  postmaster = refl;
  own_postmaster = refl;
  no_postmaster = refl;
  apostrophe = refl;
  quoted = refl;
  quoted_address = refl;
  quoted_address_alone = refl;
}
