-- Each by computation.
use Rattle.std.proofs.Common.{refl}
use Rattle.mail_head.specs.MessageIds.{message_id_of}
use Rattle.mail_head.proofs.rows.last_bytes.Goals as goal

pub returns : goal.returns
unfolding message_id_of
returns c = record {
  cut = refl;
  too_late = refl;
}
