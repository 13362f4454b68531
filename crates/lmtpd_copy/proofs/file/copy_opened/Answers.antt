use Rattle.lmtpd_copy.proofs.Moving.{copied_file}
use Rattle.lmtpd_copy.proofs.file.copy_opened.Goals as goal

pub returns : goal.returns
returns g c = copied_file c.copy_mailbox.result _ _ _ _ _ _ _ _ _ c.copy_mailbox.ensures.path c.copy_mailbox.ensures.copied
