use Rattle.std.proofs.Common.{length, ap, sym, ◌∙◌}
use Rattle.mail_post.specs.Channel.{Sender, Sent, Channel}
use Rattle.mail_post.proofs.Keeps.{ends}
use Rattle.mail_post.proofs.Inboxes.{same_channel}
use Rattle.mail_post.proofs.channel.ChannelClosed.join.Goals as goal

pub absorb-requires-clause-rule : goal.absorb-requires-clause-rule
absorb-requires-clause-rule g c =
    let known = ap (λ (s : Sent _). length s.sent) c.self.view_is in
    let next = ap (λ (l : Sender _). l.number) c.from.view_is ∙ c.requires.next in
    ends g.M.FromSender.sender _ _ _ _ c.put_mark-self-inside.ensures.knows.0 (known ∙ sym (c.put_mark-self-inside.ensures.knows.1 ∙ next)) c.self.invariant.2

pub absorb-requires-clause-channel : goal.absorb-requires-clause-channel
absorb-requires-clause-channel g c =
    let here = c.self.invariant.0 in
    let there = c.put_mark-self-inside.ensures.seat in
    let own = same_channel g.M.FromSender.sender c.from.inside.pass c.put_mark-self-inside.new.pass (there.0 ∙ sym c.from.invariant.0.0)
    (there.1 ∙ sym c.from.invariant.0.1) in
    let channel = own ∙ ap (λ (l : Sender _). l.channel) c.from.view_is ∙ c.requires.channel ∙ sym (ap (λ (s : Sent _). s.channel) c.self.view_is) in
    (here, (ap (λ (l : Channel _). l.0) channel ∙ here.0, ap (λ (l : Channel _). l.1) channel ∙ here.1, there.2, here.3))
