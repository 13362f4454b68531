use Rattle.std.proofs.Common.{◌≡◌, ◌<◌, []}
use Rattle.crossbeam_channel.specs.Claims.{IsSeatAt}
use Rattle.crossbeam_channel.specs.Ends.{sends_on, ruled_capacity}
use Rattle.mail_post.specs.Views.{taker}
use Rattle.mail_post.specs.Channel.{new_senders, channel_of, view_of}
use Rattle.mail_post.proofs.channel.open_channel.Given as goal

-- there is room for as many as the channel's end says
abbrev pub ghosts-lane_pass : goal.ghosts-lane_pass
ghosts-lane_pass g a = record { room = ruled_capacity (sends_on a.to.now) }

abbrev pub invariant-loop-lane : goal.invariant-loop-lane
invariant-loop-lane g l = record {
  seated : IsSeatAt (sends_on l.to) l.first;
  knows : view_of l.first ≡ taker (view_of l.first).room l.lane [] [] [];
  room : 0 < l.lane → (view_of l.first).room ≡ ruled_capacity (sends_on l.to);
  made : l.senders.items ≡ new_senders (channel_of l.first) l.lane;
}
