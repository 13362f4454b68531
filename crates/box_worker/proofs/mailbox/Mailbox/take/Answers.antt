use Rattle.std.proofs.Common.{◌≡◌, ◌∙◌, Option, false, ap, sym, subst}
use Rattle.mail_writing.specs.Calendar.{civil_at}
use Rattle.mbox_record.specs.Envelope.{record_text}
use Rattle.mbox_spool.specs.Spool.{SpoolState, standing, BeginsTurn}
use Rattle.mbox_spool.specs.TurnState.{knows_end}
use Rattle.box_worker.specs.declared.limit.Limit.{Limit}
use Rattle.box_worker.specs.Stored.{CountedMailbox}
use Rattle.box_worker.specs.Turned.{Manner, manner_of, MeasuresAgain}
use Rattle.box_worker.proofs.OneTurn.{had_by}
use Rattle.box_worker.proofs.mailbox.Mailbox.take.Goals as goal

pub returns-in-Ok-clause-turns : goal.returns-in-Ok-clause-turns
returns-in-Ok-clause-turns g c =
    let manner : Manner = manner_of g.S.Spool.MayFind g.S.Spool.MayRefuse in
    let old : CountedMailbox = c.args.self.now in
    let locked : CountedMailbox = c.measure.new.self in
    let asks = c.in-Ok.ensures in
    let was : g.S.Spool.state c.self.inside.spool ≡ old.mailbox.state = ap (λ (m : CountedMailbox). m.mailbox.state) c.self.view_is in
    let is : locked.mailbox.state ≡ g.S.Spool.state c.lock.new.self = ap (λ (m : CountedMailbox). m.mailbox.state) c.measure.ensures.same in
    let limit : c.self.inside.limit ≡ old.limit = ap (λ (m : CountedMailbox). m.limit) c.self.view_is in
    let used : c.self.inside.in_use ≡ old.in_use = ap (λ (m : CountedMailbox). m.in_use) c.self.view_is in
    let state : SpoolState = g.S.Spool.state c.lock.new.self in
    let B : SpoolState → SpoolState → Type 0 = λ s t. BeginsTurn s t c.in-Ok.held in
    let F : SpoolState → SpoolState → Type 0 = λ s t. manner.MayFind (standing s) (standing t) in
    let R : SpoolState → Type 0 = λ s. manner.MayRefuse s.turn.has_failed false in
    let M : SpoolState → Option Limit → Type 0 = λ s l. MeasuresAgain s l locked.limit in
    had_by manner (record_text civil_at c.args.site.now c.args.envelope.now c.args.hold.now.bytes) c.take_in_turn.result c.in-Ok.held old locked
    c.take_in_turn.new.self
    (subst (λ s. B s locked.mailbox.state) was (subst (B (g.S.Spool.state c.self.inside.spool)) (sym is) asks.asks))
    (subst (λ s. F s locked.mailbox.state) was (subst (F (g.S.Spool.state c.self.inside.spool)) (sym is) (asks.found asks.asks.free)))
    (subst R was (asks.refused asks.asks.free))
    (subst (λ s. M s old.limit) (sym is) (subst (M state) limit
    (c.measure.ensures.counts (ap knows_end asks.asks.turn) asks.asks.count)))
    c.take_in_turn.ensures.ends
    (c.take_in_turn.ensures.in_use ∙ ap (λ (m : CountedMailbox). m.in_use) c.measure.ensures.same ∙ used)
