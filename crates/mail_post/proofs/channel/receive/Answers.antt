use Rattle.mail_post.proofs.Keeps.{takes}
use Rattle.mail_post.proofs.channel.receive.Goals as goal

pub try_recv_as-requires-clause-rule : goal.try_recv_as-requires-clause-rule
try_recv_as-requires-clause-rule g c = (takes g.M.FromSender.sender g.K.Moment.after _ _ c.requires.takes, (λ items views h at. tt))

pub recv_as-requires-clause-rule : goal.recv_as-requires-clause-rule
recv_as-requires-clause-rule g c = (takes g.M.FromSender.sender g.K.Moment.after _ _ c.requires.takes, (λ items views h at. tt))
