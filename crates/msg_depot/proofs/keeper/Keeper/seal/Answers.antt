use Rattle.std.proofs.Common.{◌≡◌, [], List, ap, ◌∙◌}
use Rattle.block_arena.specs.Calls.{depot_key}
use Rattle.msg_depot.specs.declared.view.View.{View}
use Rattle.msg_depot.specs.declared.view.Kind.TheVariants.{Draft}
use Rattle.msg_depot.specs.Rules.{token, kind_of, claim_of}
use Rattle.msg_depot.proofs.Sections.{seal_kept}
use Rattle.msg_depot.proofs.keeper.Keeper.seal.Goals as goal

pub invariant_of-self : goal.invariant_of-self
invariant_of-self g c =
    let d = c.draft.invariant in
    let t = c.take_in.ensures in
    let s = c.seal-2.ensures in
    let h = c.hand_out.ensures.seat in
    let was : c.seat_of.result.me ≡ (token Draft (claim_of c.draft.inside.badge.views), []) =
    c.seat_of.ensures.1 ∙ ap (λ (l : List View). (token (kind_of l) (claim_of l), [])) d.1 in
    seal_kept _ _ _ c.self.inside.arena c.self.invariant (depot_key c.draft.inside.key) c.seal.new.self c.args.n c.requires.n.0 c.in-Ok.ensures.done _ _ was d.2
    t.agrees _ _ _ _ _ _ _ t.seat.0 t.seat.1 s.0 s.1 h.0 h.1
