-- Each by computation.
use Rattle.std.proofs.Common.{refl}
use Rattle.mail_world.proofs.Computed.{everything}
use Rattle.mail_world.proofs.rows.torn_tails.Goals as goal

pub returns : goal.returns
unfolding everything
returns c = record {
  none = refl;
  two_lf = refl;
  one_lf = refl;
  no_lf = refl;
  quoted = refl;
  no_empty_line = refl;
  first_byte = refl;
  two_bytes = refl;
  word = refl;
  after_a_line = refl;
  no_sender = refl;
  address = refl;
  month = refl;
  day = refl;
  whole_line = refl;
  longest = refl;
  too_long = refl;
}
