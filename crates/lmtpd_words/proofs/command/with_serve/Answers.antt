use Rattle.lmtpd_words.proofs.command.with_serve.Goals as goal

pub returns : goal.returns
returns c = c.added.ensures _ _ c.with_rehearse.ensures c.serve.ensures.shape c.serve.ensures.local
