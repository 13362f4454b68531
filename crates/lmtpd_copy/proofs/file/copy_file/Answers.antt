use Rattle.lmtpd_copy.proofs.Moving.{made_at}
use Rattle.lmtpd_copy.proofs.file.copy_file.Goals as goal

pub returns : goal.returns
returns g c = made_at c.copy_opened.result _ _ _ _ _ c.new-target.ensures c.copy_opened.ensures
