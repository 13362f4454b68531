use Rattle.std.proofs.Common.{List, ℕ, [], ap, ◌∙◌, subst}
use Rattle.mail_world.specs.declared.Reply.{Reply}
use Rattle.mail_world.specs.Site.{Site}
use Rattle.mail_world.specs.Replies.{reply_text}
use Rattle.lmtp_talk.specs.Saying.{HasSaid}
use Rattle.lmtp_talk.proofs.Rounds.{said_none}
use Rattle.lmtp_talk.proofs.conversation.greet.Goals as goal

pub returns-clause-greets : goal.returns-clause-greets
returns-clause-greets g c =
    let start = g.P.Peer.state c.args.peer.now in
    let said : List ℕ → Type 0 = λ l. HasSaid start (g.P.Peer.state c.flush.new.peer) c.flush.new.self [] l in
    record {
      site = c.greeting-greeting.ensures.site;
      session = c.greeting-greeting.ensures.session;
      wire = c.clear.ensures.after;
      same = c.flush.ensures.goes ∙ c.say.ensures.goes;
      said = subst said
          (ap (λ (x : Site). reply_text x c.greeting-greeting.result) (c.site.ensures ∙ c.greeting-greeting.ensures.site)
          ∙ ap (λ (r : Reply). reply_text c.args.dialogue.now.session.site r) c.greeting-greeting.ensures.reply)
          (c.flush.ensures.said start [] _ (c.say.ensures.says start [] [] (said_none start c.clear-2.new.self c.clear-2.ensures)));
    }
