use Rattle.std.proofs.Common.{◌≡◌, ◌≤◌, ◌++◌, List, ℕ, length, take, sym, ap, ◌∙◌, arith, length-take-le}
use Rattle.lmtp_talk.specs.Saying.{OutboxView}
use Rattle.lmtp_talk.proofs.Written.{put_after}
use Rattle.lmtp_talk.proofs.outbox.Outbox.add.Goals as goal

pub returns-clause-text : goal.returns-clause-text
returns-clause-text c =
    let k : ℕ = c.self.inside.size in
    let n : ℕ = c.write_reply-size.result in
    let new : List ℕ = c.write_reply-size.new.out in
    let items : List ℕ = c.self.inside.bytes.items in
    let before : List ℕ = c.args.self.now.pending in
    let waits : take k items ≡ before = ap (λ (o : OutboxView). o.pending) c.self.view_is in
    let within : k ≤ length items = omega (arith, c.self.invariant.0, c.self.invariant.1, c.deref_mut.ensures.len, ap length c.deref_mut.ensures.value) in
    let long : length before ≡ k = ap length (sym waits) ∙ length-take-le k items within in
    put_after k n c.self.inside.bytes.len c.deref_mut.result.now new _ _
    (omega (arith, within, ap length c.deref_mut.ensures.value))
    (omega (arith, long, c.requires, c.write_reply-size.ensures.size, c.self.invariant.1))
    (omega (arith, long, c.requires, c.write_reply-size.ensures.size, c.self.invariant.1, c.write_reply-size.auto.out, c.deref_mut.ensures.len))
    ∙ ap (λ l. take k l ++ take n new) c.deref_mut.ensures.value
    ∙ ap (λ l. l ++ take n new) waits
    ∙ ap (λ l. before ++ l) c.write_reply-size.ensures.text
