-- Each by computation.
use Rattle.std.proofs.Common.{refl}
use Rattle.mail_head.specs.MessageIds.{message_id_of}
use Rattle.mail_head.proofs.rows.folded_ids.Goals as goal

pub returns : goal.returns
unfolding message_id_of
returns c = record {
  at_once = refl;
  by_tab = refl;
  within = refl;
  twice = refl;
  blank_line = refl;
  looks_like_one = refl;
  goes_on_like_one = refl;
  past_the_head = refl;
}
