-- Each by computation.
use Rattle.std.proofs.Common.{refl}
use Rattle.mail_world.proofs.Computed.{everything}
use Rattle.mail_world.proofs.rows.not_in_utf8.Goals as goal

pub returns : goal.returns
unfolding everything
returns c = record {
  overlong = refl;
  overlong_three = refl;
  surrogate = refl;
  above = refl;
  half = refl;
  half_recipient = refl;
  route_overlong = refl;
  escaped = refl;
  bracket = refl;
  client = refl;
  not_offered = refl;
}
