use Rattle.std.proofs.Common.{length, ap, sym, subst, ◌∙◌}
use Rattle.mail_post.specs.declared.rule.View.{View}
use Rattle.mail_post.specs.Channel.{Inbox, Sent, Channel, IsInbox, TookSome, TookAll, view_of, taken}
use Rattle.mail_post.proofs.Keeps.{settles, learns}
use Rattle.mail_post.proofs.Closes.{some_taken, all_taken, passed_through}
use Rattle.mail_post.proofs.channel.settle.Goals as goal

pub absorb-requires-clause-rule : goal.absorb-requires-clause-rule
absorb-requires-clause-rule g c = settles g.M.FromSender.sender _ _ _ _ (ap (λ (v : View _). v.takes) c.receiver.invariant.1.knows)

pub absorb-requires-clause-channel : goal.absorb-requires-clause-channel
absorb-requires-clause-channel g c =
    let here = c.closed.invariant.0 in
    let there = c.receiver.invariant.0 in
    let channel = ap (λ (r : Inbox _). r.channel) c.receiver.view_is ∙ c.requires.channel ∙ sym (ap (λ (s : Sent _). s.channel) c.closed.view_is) in
    (here, (ap (λ (l : Channel _). l.0) channel ∙ here.0, ap (λ (l : Channel _). l.1) channel ∙ here.1, there.2, here.3))

pub learn_as-requires-clause-rule : goal.learn_as-requires-clause-rule
learn_as-requires-clause-rule g c = learns g.M.FromSender.sender _ _ (ap (λ (v : View _). v.takes) c.absorb.ensures.rule)

pub returns-clause-prefix : goal.returns-clause-prefix
returns-clause-prefix g c =
    let is = c.receiver.view_is in
    subst (λ (r : Inbox _). TookSome g.M.FromSender.sender (taken r) c.args.closed.sent) is
    (some_taken g.M.FromSender.sender _ _ _ (view_of c.receiver.inside.pass) (view_of c.absorb.new.pass) c.args.closed.sent c.receiver.invariant.1
    (ap (λ (t : View _). t.got) c.absorb.ensures.rule)
    (ap (λ (t : View _). t.known) c.absorb.ensures.rule ∙ ap (λ (s : Sent _). s.sent) c.closed.view_is)
    (c.requires.lanes ∙ ap (λ (r : Inbox _). r.lanes) (sym is))
    c.learn_as.ensures.rule.1.0)

pub returns-clause-all : goal.returns-clause-all
returns-clause-all g c gone =
    let is = c.receiver.view_is in
    subst (λ (r : Inbox _). TookAll g.M.FromSender.sender (taken r) c.args.closed.sent) is
    (all_taken g.M.FromSender.sender _ _ _ (view_of c.receiver.inside.pass) (view_of c.absorb.new.pass) c.args.closed.sent c.receiver.invariant.1
    (ap (λ (t : View _). t.got) c.absorb.ensures.rule)
    (ap (λ (t : View _). t.known) c.absorb.ensures.rule ∙ ap (λ (s : Sent _). s.sent) c.closed.view_is)
    (c.requires.lanes ∙ ap (λ (r : Inbox _). r.lanes) (sym is))
    c.learn_as.ensures.rule.1.0
    (ap (λ (r : Inbox _). r.gone) is ∙ gone))

pub returns-clause-passed : goal.returns-clause-passed
returns-clause-passed g c =
    let is = c.receiver.view_is in
    let there = c.closed.view_is in
    let both = c.absorb.ensures.rule in
    let gone = ap (λ (r : Inbox _). r.gone) is in
    let inbox = subst (λ (x : _). IsInbox g.M.FromSender.sender c.receiver.inside.lanes c.receiver.inside.marks x (view_of c.receiver.inside.pass)) gone
    c.receiver.invariant.1 in
    passed_through g.M.FromSender.sender c.receiver.inside.lanes c.receiver.inside.marks (view_of c.receiver.inside.pass) (view_of c.absorb.new.pass)
    c.args.receiver c.args.closed.sent c.args.closed.sent_at inbox
    (ap (λ (r : Inbox _). r.got) (sym is), ap (λ (r : Inbox _). r.got_at) (sym is), ap (λ (r : Inbox _). r.took_at) (sym is))
    (ap (λ (t : View _). t.lanes) both ∙ ap (λ (t : View _). t.lanes) c.receiver.invariant.1.knows)
    (ap (λ (t : View _). t.got) both) (ap (λ (t : View _). t.got_at) both) (ap (λ (t : View _). t.took_at) both)
    (ap (λ (t : View _). t.known) both ∙ ap (λ (s : Sent _). s.sent) there)
    (ap (λ (t : View _). t.known_at) both ∙ ap (λ (s : Sent _). s.sent_at) there)
    (c.requires.lanes ∙ ap (λ (r : Inbox _). r.lanes) (sym is))
    (ap (λ (s : Sent _). length s.sent_at) (sym there) ∙ c.closed.invariant.2 ∙ ap (λ (s : Sent _). length s.sent) there)
    (λ some. ap (λ (t : View _). t.room) both ∙ c.receiver.invariant.2 some ∙ ap (λ (r : Inbox _). r.capacity) is)
    c.learn_as.ensures.rule.1.0
    c.learn_as.ensures.rule.1.1
