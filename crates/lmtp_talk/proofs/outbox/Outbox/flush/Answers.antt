use Rattle.std.proofs.Common.{List, ℕ, [], take, sym, subst}
use Rattle.std.specs.Prelude.{Bool, OnOk, OnErr}
use Rattle.lmtp_talk.specs.Peer.{HasTransferred}
use Rattle.lmtp_talk.specs.Saying.{BreaksOff, OutboxView, HasSaid}
use Rattle.lmtp_talk.proofs.Written.{flushed}
use Rattle.lmtp_talk.proofs.outbox.Outbox.flush.Goals as goal

pub returns-clause-said : goal.returns-clause-said
returns-clause-said g c start came text h =
    let s = g.P.Peer.state c.args.peer.now in
    let t = g.P.Peer.state c.write_all-written.new.peer in
    let r = c.write_all-written.result in
    let size : ℕ = c.self.inside.size in
    let pending : List ℕ = take size c.self.inside.bytes.items in
    let whole : HasSaid start s (record { pending = pending; broken = c.self.inside.broken }) came text =
    subst (λ (o : OutboxView). HasSaid start s o came text) (sym c.self.view_is) h in
    let before : Bool → Type 0 = λ b. HasSaid start s (record { pending = pending; broken = b }) came text in
    let ok : List ℕ → Type 0 = λ l. OnOk r (HasTransferred s t [] (take size l)) in
    let err : List ℕ → Type 0 = λ l. OnErr r (BreaksOff s t (take size l)) in
    let by : Bool → Type 0 = λ b. HasSaid start t (record { pending = []; broken = b }) came text in
    subst by (sym c.is_err-self-inside.ensures.value)
    (flushed start s t r pending came text (subst before c.if-self.false whole)
    (subst ok c.deref.ensures.value c.write_all-written.ensures.ok)
    (subst err c.deref.ensures.value c.write_all-written.ensures.err))
