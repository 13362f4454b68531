use Rattle.mail_post.proofs.Keeps.{lanes}
use Rattle.mail_post.proofs.channel.lane_pass.Goals as goal

pub another-requires-clause-rule : goal.another-requires-clause-rule
another-requires-clause-rule g c = lanes g.M.FromSender.sender g.K.Room.room _ _ c.requires.takes c.requires.room
