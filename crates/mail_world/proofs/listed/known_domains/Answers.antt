-- Each by computation.
use Rattle.std.proofs.Common.{refl}
use Rattle.mail_world.proofs.Computed.{everything}
use Rattle.mail_world.proofs.listed.known_domains.Goals as goal

pub returns : goal.returns
unfolding everything
returns c = record {
  host = refl;
  listed = refl;
  other = refl;
  bracket = refl;
}
