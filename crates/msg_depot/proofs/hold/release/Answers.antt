use Rattle.std.proofs.Common.{◌≡◌, ◌+◌, ◌%◌, ◌^◌, ◌-◌, [], ℕ, List, sym, ap, ◌∙◌, subst, arith, false}
use mathlib.Core.Option.{none}
use Rattle.atomic_table.specs.Table.{Allows, Me, step}
use Rattle.msg_depot.specs.declared.view.View.{View}
use Rattle.msg_depot.specs.declared.view.Claim.{Claim}
use Rattle.msg_depot.specs.Rules.{token, kind_of, claim_of, word_of}
use Rattle.msg_depot.specs.Moves.{Released}
use Rattle.msg_depot.proofs.Moves.{hold_view, Rule, releases}
use Rattle.msg_depot.proofs.hold.release.Goals as goal

pub fetch_sub-found-requires : goal.fetch_sub-found-requires
fetch_sub-found-requires g c =
    let i = c.hold.invariant in
    let s = c.seat_of-seat.ensures in
    let cl : Claim = claim_of c.hold.inside.badge.views in
    let me : c.seat_of-seat.result.me ≡ (hold_view false [] cl, []) = s.1 ∙ ap (λ (l : List View). (token (kind_of l) (claim_of l), [])) i.1 in
    let one : cl.weight ≡ 1 = ap (λ x. x.weight) c.hold.view_is ∙ c.requires.one in
    let words = ap (λ t. t.words) c.requires.board in (
      s.0 ∙ i.0 ∙ sym c.requires.board,
      omega (arith, words, i.4, c.word_at-word.ensures),
      subst (λ (x : Me (Unit {0}) View × ℕ). Allows Rule c.args.board.now.shared.table_id.slots c.seat_of-seat.result.id x.0 x.1
          (λ n. (n + (2 ^ 64 - 1)) % 2 ^ 64) (Released (step c.args.board.now.shared.table_id.slots x.1 1 0 none) x.0))
          (λ k. (sym me k, sym (c.word_at-word.ensures ∙ ap word_of i.2) k))
          (releases c.args.board.now.shared.table_id.slots c.seat_of-seat.result.id false [] cl one),
    )
