use Rattle.std.proofs.Common.{◌≡◌, ◌+◌, ◌-◌, ◌≤◌, List, ℕ, ◌++◌, length, take, drop, ap, ◌∙◌, subst, arith, length-drop}
use Rattle.lmtp_talk.specs.Steps.{Advances, talk}
use Rattle.lmtp_talk.specs.Parties.{parties}
use Rattle.lmtp_talk.proofs.Advancing.{advances_then, rest_of, take_more}
use Rattle.lmtp_talk.proofs.handling.handle.Goals as goal

pub loop-at-preserved : goal.loop-at-preserved
loop-at-preserved g c =
    let before = parties (g.P.Peer.state c.args.peer.now) (g.O.Observer.told c.args.observer.now) in
    let after = parties (g.P.Peer.state c.take_prefix.new.peer) (g.O.Observer.told c.take_prefix.new.observer) in
    let now = parties (g.P.Peer.state c.loop-at.peer) (g.O.Observer.told c.loop-at.observer) in
    let HasCome = g.D.Delivery.HasCome in
    let IsDrafting = g.D.Delivery.IsDrafting in
    let piece : List ℕ = c.args.piece.now in
    let at = c.loop-at.at in
    let used = c.in-Some.used in
    let rest : take (length piece - at) (drop at piece) ≡ drop at piece = rest_of at piece in
    let step = c.in-Some.ensures in
    let size : length (take (length piece - at) (drop at piece)) ≡ length piece - at = ap length rest ∙ length-drop at piece in
    let fits : at + used ≤ length piece = omega (arith, size, step.used.1, c.loop-at.invariant.within) in
    record {
      within = fits;
      site = step.site ∙ c.loop-at.invariant.site;
      same = step.same ∙ c.loop-at.invariant.same;
      reads = step.reads ∙ c.loop-at.invariant.reads;
      stands = subst (λ l. Advances HasCome IsDrafting (talk c.args.dialogue.now before c.args.delivery.now)
          (talk c.take_prefix.new.dialogue after c.take_prefix.new.delivery) l)
          (take_more at used piece c.loop-at.invariant.within)
          (subst (λ l. Advances HasCome IsDrafting (talk c.args.dialogue.now before c.args.delivery.now)
          (talk c.take_prefix.new.dialogue after c.take_prefix.new.delivery) (take at piece ++ take used l)) rest
          (advances_then HasCome IsDrafting c.args.dialogue.now c.loop-at.dialogue c.take_prefix.new.dialogue before
          now after
          c.args.delivery.now c.loop-at.delivery c.take_prefix.new.delivery (take at piece) (take used (take (length piece - at) (drop at piece)))
          c.loop-at.invariant.stands step.stands));
    }
