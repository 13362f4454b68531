use Rattle.std.proofs.Common.{◌<◌, ◌≤◌, ◌++◌, ◌+◌, length, sym, ◌∙◌, arith, length-append}
use Rattle.lmtp_talk.specs.declared.ending.EndCause.TheVariants as ends
use Rattle.lmtp_talk.specs.Parties.{parties}
use Rattle.lmtp_talk.proofs.Ends.{served}
use Rattle.lmtp_talk.proofs.Rounds.{may_not_ended}
use Rattle.lmtp_talk.proofs.Counting.{rises_then}
use Rattle.lmtp_talk.proofs.conversation.take_rounds.Goals as goal

pub returns-in-Some-clause-ends : goal.returns-in-Some-clause-ends
returns-in-Some-clause-ends g c site start first handled h =
    let w = c.loop-made.invariant.stands site start first handled h in
    c.in-Some.ensures.round c.args.reads site start first w.0 w.2

pub returns-in-Some-clause-reads : goal.returns-in-Some-clause-reads
returns-in-Some-clause-reads g c =
    let last = c.in-Some.ensures.reads in
    record {
      made = c.loop-made._made + last.1.made;
      counts = rises_then c.loop-made._made last.1.made _ _ _ c.loop-made.invariant.reads last.1.counts;
      within = omega (arith, last.1.within, c.loop-made-test.true);
      read_bound = λ e. absurd (last.0 e);
    }

pub loop-made-preserved : goal.loop-made-preserved
loop-made-preserved g c = record {
  may = c.in_default.ensures.may;
  none = c.in_default.ensures.none;
  site = c.in_default.ensures.site ∙ c.loop-made.invariant.site;
  same = c.in_default.ensures.same ∙ c.loop-made.invariant.same;
  reads = rises_then c.loop-made._made 1 _ _ _ c.loop-made.invariant.reads c.in_default.ensures.reads;
  stands = λ site start first handled h.
      let w = c.loop-made.invariant.stands site start first handled h in
      let t = c.in_default.ensures.round site start first w.0 w.2 in
      let made : c.loop-made._made ≤ length w.0 = w.1 in
      let some : 0 < length t.more = t.some in
      (w.0 ++ t.more, omega (arith, made, some, length-append w.0 t.more), t.stands);
}

pub returns-then-is_broken-clause-ends : goal.returns-then-is_broken-clause-ends
returns-then-is_broken-clause-ends g c site start first handled h =
    let now = parties (g.P.Peer.state c.loop-made.peer) (g.O.Observer.told c.loop-made.observer) in
    let w = c.loop-made.invariant.stands site start first handled h in
    served c.args.reads site start now (g.D.Delivery.HasCome first) (g.D.Delivery.HasCome c.loop-made.delivery)
    (g.D.Delivery.HasCome c.leave.new.delivery) (g.D.Delivery.IsDrafting c.loop-made.delivery)
    c.loop-made.dialogue w.0 ends.WriteFault w.2 c.leave.ensures.leaves (sym c.is_broken.ensures ∙ c.if-is_broken.true)

pub returns-else-is_broken-clause-ends : goal.returns-else-is_broken-clause-ends
returns-else-is_broken-clause-ends g c site start first handled h =
    let now = parties (g.P.Peer.state c.loop-made.peer) (g.O.Observer.told c.loop-made.observer) in
    let w = c.loop-made.invariant.stands site start first handled h in
    let made : c.loop-made._made ≤ length w.0 = w.1 in
    let bound : c.args.reads ≤ length w.0 = omega (arith, made, c.loop-made-test.false) in
    served c.args.reads site start now (g.D.Delivery.HasCome first) (g.D.Delivery.HasCome c.loop-made.delivery)
    (g.D.Delivery.HasCome c.leave.new.delivery) (g.D.Delivery.IsDrafting c.loop-made.delivery)
    c.loop-made.dialogue w.0 ends.ReadBound w.2 c.leave.ensures.leaves (
      record { whole = sym c.is_broken.ensures ∙ c.if-is_broken.false; none = c.loop-made.invariant.none },
      may_not_ended c.loop-made.dialogue.session.session.state c.loop-made.invariant.may,
      bound,
    )
