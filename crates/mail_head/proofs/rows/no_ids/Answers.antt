-- Each by computation.
use Rattle.std.proofs.Common.{refl}
use Rattle.mail_head.specs.MessageIds.{message_id_of}
use Rattle.mail_head.proofs.rows.no_ids.Goals as goal

pub returns : goal.returns
unfolding message_id_of
returns c = record {
  nothing = refl;
  no_field = refl;
  body = refl;
  no_head = refl;
  other_name = refl;
  longer_name = refl;
  no_colon = refl;
  blank_before = refl;
  after_lf = refl;
  after_cr = refl;
  lf_within = refl;
}
