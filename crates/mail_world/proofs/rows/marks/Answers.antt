-- Each by computation.
use Rattle.std.proofs.Common.{refl}
use Rattle.mail_world.proofs.Computed.{everything}
use Rattle.mail_world.proofs.rows.marks.Goals as goal

pub returns : goal.returns
unfolding everything
returns c = record {
  renamed = refl;
  again = refl;
  all = refl;
  space = refl;
  nul = refl;
  vertical_tab = refl;
  form_feed = refl;
  cr = refl;
  no_head = refl;
  other_case = refl;
  other_names = refl;
  body = refl;
  sender = refl;
}
