use Rattle.std.proofs.Common.{arith, List, ℕ, ◌<◌, ◌++◌, length, take, refl, sym, ap, ◌∙◌, subst, append-nil}
use Rattle.mail_world.specs.Site.{Site}
use Rattle.mail_world.specs.Replies.{reply_text, reply_texts}
use Rattle.lmtp_talk.specs.Saying.{HasSaid}
use Rattle.lmtp_talk.proofs.Written.{one_more, all_said}
use Rattle.lmtp_talk.proofs.outbox.Outbox.say_answers.Goals as goal

pub loop-i-init : goal.loop-i-init
loop-i-init g c = record {
  goes = refl;
  reads = refl;
  says = λ start came text h.
      let said : List ℕ → Type 0 = λ l. HasSaid start (g.P.Peer.state c.args.peer.now) c.args.self.now came l in
      subst said (sym (append-nil text)) h;
}

pub loop-i-preserved : goal.loop-i-preserved
loop-i-preserved g c = record {
  goes = c.say.ensures.goes ∙ c.loop-i.invariant.goes;
  reads = c.say.ensures.reads ∙ c.loop-i.invariant.reads;
  says = λ start came text h.
      let within : c.loop-i.i < length c.args.session.now.answers = omega (arith, c.requires, c.loop-i-test.true) in
      let said : List ℕ → Type 0 = λ l. HasSaid start (g.P.Peer.state c.say.new.peer) c.say.new.self came l in
      let before : List ℕ = text ++ reply_texts c.args.session.now.site (take c.loop-i.i c.args.session.now.answers) in
      subst said (ap (λ (site : Site). before ++ reply_text site c.reply_at.result) c.site.ensures
      ∙ one_more c.args.session.now.site c.args.session.now.answers c.loop-i.i c.reply_at.result text within c.reply_at.ensures)
      (c.say.ensures.says start came before (c.loop-i.invariant.says start came text h));
}

pub returns-clause-says : goal.returns-clause-says
returns-clause-says g c start came text h =
    let said : List ℕ → Type 0 = λ l. HasSaid start (g.P.Peer.state c.loop-i.peer) c.loop-i.self came l in
    subst said (all_said c.args.session.now.site c.args.session.now.answers c.loop-i.i text
    (omega (arith, c.requires, c.loop-i.auto.i-end, c.loop-i-test.false)))
    (c.loop-i.invariant.says start came text h)
