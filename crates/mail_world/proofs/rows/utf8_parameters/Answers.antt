-- Each by computation.
use Rattle.std.proofs.Common.{refl}
use Rattle.mail_world.proofs.Computed.{everything}
use Rattle.mail_world.proofs.rows.utf8_parameters.Goals as goal

pub returns : goal.returns
unfolding everything
returns c = record {
  parameter = refl;
  no_value = refl;
  value = refl;
  twice = refl;
  rcpt_parameter = refl;
  not_offered = refl;
  offer = refl;
  record_with = refl;
  record_length = refl;
  record_without = refl;
}
