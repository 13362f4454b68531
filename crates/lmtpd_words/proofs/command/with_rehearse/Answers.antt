use Rattle.lmtpd_words.proofs.command.with_rehearse.Goals as goal

pub returns : goal.returns
returns c = c.added.ensures _ _ c.bare.ensures c.rehearse.ensures.shape c.rehearse.ensures.local
