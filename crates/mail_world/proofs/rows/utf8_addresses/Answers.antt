-- Each by computation.
use Rattle.std.proofs.Common.{refl}
use Rattle.mail_world.proofs.Computed.{everything}
use Rattle.mail_world.proofs.rows.utf8_addresses.Goals as goal

pub returns : goal.returns
unfolding everything
returns c = record {
  local = refl;
  quoted = refl;
  domain = refl;
  route = refl;
  recipient = refl;
  last = refl;
  longest = refl;
  too_long = refl;
}
