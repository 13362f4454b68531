-- Each by computation.
use Rattle.std.proofs.Common.{refl}
use Rattle.mail_head.specs.MessageIds.{message_id_of}
use Rattle.mail_head.proofs.rows.message_ids.Goals as goal

pub returns : goal.returns
unfolding message_id_of
returns c = record {
  one = refl;
  first_of_two = refl;
  other_case = refl;
  tabs = refl;
  no_body = refl;
  no_end = refl;
  empty = refl;
  not_in_brackets = refl;
  long = refl;
}
