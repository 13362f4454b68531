use Rattle.std.proofs.Common.{refl}
use Rattle.mbox_check.proofs.form.FormCheck.new.Goals as goal

pub returns : goal.returns
returns c = record { n = record { count = 0; start = 0 }; count = refl; taken = refl; start = refl; at = (refl, refl); told = refl }
