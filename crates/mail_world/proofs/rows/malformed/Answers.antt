-- Each by computation.
use Rattle.std.proofs.Common.{refl}
use Rattle.mail_world.specs.Malformed.{is_malformed}
use Rattle.mail_world.proofs.rows.malformed.Goals as goal

pub returns : goal.returns
unfolding is_malformed
returns c = record {
  nul = refl;
  longest = refl;
  longer = refl;
  bare = refl;
  cr = refl;
  marks = refl;
  fewer_marks = refl;
  blank = refl;
  tab = refl;
  later_blank = refl;
  none = refl;
  usual = refl;
}
