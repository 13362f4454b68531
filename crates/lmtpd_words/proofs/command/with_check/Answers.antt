use Rattle.lmtpd_words.proofs.command.with_check.Goals as goal

pub returns : goal.returns
returns c = c.added.ensures _ _ c.with_serve.ensures c.check.ensures.shape c.check.ensures.local
