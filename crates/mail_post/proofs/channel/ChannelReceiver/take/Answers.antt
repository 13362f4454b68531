use Rattle.std.proofs.Common.{ap, ◌∙◌, subst, Some}
use Rattle.mail_post.specs.Channel.{IsDrained}
use Rattle.mail_post.proofs.Names.{drained}
use Rattle.mail_post.proofs.channel.ChannelReceiver.take.Goals as goal

pub returns-in-Some-clause-closed : goal.returns-in-Some-clause-closed
returns-in-Some-clause-closed g c is =
    subst (IsDrained g.M.FromSender.sender) c.self.view_is (drained g.M.FromSender.sender _ _ _ _ c.self.invariant.1 (c.in-Some.is ∙ ap Some is))
