use Rattle.mail_writing.proofs.ReplyTexts.{greeting-is}
use Rattle.mail_writing.proofs.reply.pieces.Goals as goal

pub returns-in-Greeting-clause-text : goal.returns-in-Greeting-clause-text
returns-in-Greeting-clause-text c = rw c.host.ensures.value (greeting-is c.args.site.now c.args.reply c.in-Greeting.is)
