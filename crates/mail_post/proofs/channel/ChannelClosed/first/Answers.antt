use Rattle.std.proofs.Common.{length, ap, sym, ◌∙◌}
use Rattle.mail_post.specs.declared.rule.View.{View}
use Rattle.mail_post.specs.Channel.{Sender}
use Rattle.mail_post.proofs.Keeps.{opens, ends}
use Rattle.mail_post.proofs.channel.ChannelClosed.first.Goals as goal

pub another-pass-requires-clause-rule : goal.another-pass-requires-clause-rule
another-pass-requires-clause-rule g c = opens g.M.FromSender.sender _ _

pub absorb-requires-clause-rule : goal.absorb-requires-clause-rule
absorb-requires-clause-rule g c =
    let none = ap (λ (v : View _). length v.known) c.another-pass.ensures.rule.1 in
    let first = ap (λ (l : Sender _). l.number) c.from.view_is ∙ c.requires in
    ends g.M.FromSender.sender _ _ _ _ c.put_mark-is_lost.ensures.knows.0 (none ∙ sym (c.put_mark-is_lost.ensures.knows.1 ∙ first))
    (ap (λ (v : View _). length v.known_at) c.another-pass.ensures.rule.1 ∙ sym none)
