-- Each by computation.
use Rattle.std.proofs.Common.{refl}
use Rattle.mail_world.proofs.Computed.{everything}
use Rattle.mail_world.proofs.rows.any_domains.Goals as goal

pub returns : goal.returns
unfolding everything
returns c = record {
  any = refl;
  utf8 = refl;
  host = refl;
  no_domain = refl;
  bracket = refl;
  unknown = refl;
  others_too = refl;
}
