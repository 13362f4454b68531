use Rattle.mail_post.proofs.Closes.{marks_of}
use Rattle.mail_post.proofs.channel.put_mark.Goals as goal

pub send_as-requires-clause-rule : goal.send_as-requires-clause-rule
send_as-requires-clause-rule g c = (marks_of g.M.FromSender.sender 0 _ _ _ _ _ c.requires.knows, (λ items views h at. tt))
