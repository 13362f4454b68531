-- Each by computation.
use Rattle.std.proofs.Common.{refl}
use Rattle.mail_world.proofs.Computed.{everything}
use Rattle.mail_world.proofs.rows.quotas.Goals as goal

pub returns : goal.returns
unfolding everything
returns c = record {
  at_quota = refl;
  above = refl;
  between = refl;
  between_text = refl;
  between_length = refl;
  told = refl;
  told_after_a_fault = refl;
  torn = refl;
  torn_above = refl;
  none = refl;
}
