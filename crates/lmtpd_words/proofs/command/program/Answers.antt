use Rattle.lmtpd_words.proofs.command.program.Goals as goal

pub returns : goal.returns
returns c = c.added.ensures _ _ c.with_check.ensures c.copy.ensures.shape c.copy.ensures.local
