use Rattle.std.proofs.Common.{ap, sym, ◌∙◌}
use Rattle.mail_post.specs.Channel.{Sender}
use Rattle.mail_post.specs.declared.rule.View.{View}
use Rattle.mail_post.proofs.Keeps.{offers}
use Rattle.mail_post.proofs.channel.ChannelSender.offer.Goals as goal

pub send_as-requires-clause-rule : goal.send_as-requires-clause-rule
send_as-requires-clause-rule g c =
    let is = c.self.invariant.1 in (
      offers g.M.FromSender.sender g.K.Moment.after _ _ _ _ (ap (λ (v : View _). v.sends) is) (ap (λ (v : View _). v.shut) is) (ap (λ (v : View _). v.room) is)
          (c.requires ∙ ap (λ (l : Sender _). l.number) (sym c.self.view_is) ∙ ap (λ (v : View _). v.lane) (sym is)),
      (λ items views h at. tt),
    )
