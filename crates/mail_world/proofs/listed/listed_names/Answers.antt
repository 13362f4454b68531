-- Each by computation.
use Rattle.std.proofs.Common.{refl}
use Rattle.mail_world.proofs.Computed.{everything}
use Rattle.mail_world.proofs.listed.listed_names.Goals as goal

pub returns : goal.returns
unfolding everything
returns c = record {
  apostrophe = refl;
  plus = refl;
  long = refl;
  too_long = refl;
  long_in_address = refl;
  upper_case = refl;
  dot = refl;
  address = refl;
  two_ats = refl;
  no_local_part = refl;
  no_domain = refl;
  upper_domain = refl;
  bad_domain = refl;
  any_domain = refl;
  folder_above = refl;
  path = refl;
}
