use Rattle.std.proofs.Common.{◌≡◌, ◌<◌, [], ◌∷◌, List, false, sym, ap, ◌∙◌, subst, arith}
use Rattle.atomic_table.specs.Table.{Splits}
use Rattle.msg_depot.specs.declared.view.View.{View}
use Rattle.msg_depot.specs.declared.view.Claim.{Claim}
use Rattle.msg_depot.specs.declared.view.Kind.TheVariants.{Hold}
use Rattle.msg_depot.specs.Rules.{token, kind_of, claim_of}
use Rattle.msg_depot.specs.Moves.{one_less, one}
use Rattle.msg_depot.proofs.Moves.{hold_view, Rule, cuts_one}
use Rattle.msg_depot.proofs.hold.split_one.Goals as goal

pub split_seat-one-requires : goal.split_seat-one-requires
split_seat-one-requires g c =
    let i = c.hold.invariant in
    let s = c.seat_of-seat.ensures in
    let r = c.replace.ensures.value in
    let views : c.replace.result.views ≡ token Hold (claim_of c.hold.inside.badge.views) ∷ [] = ap (λ b. b.views) r ∙ i.1 in
    let me : c.seat_of-seat.result.me.0 ≡ hold_view false [] (claim_of c.hold.inside.badge.views) =
    ap (λ m. m.0) s.1 ∙ ap (λ (l : List View). token (kind_of l) (claim_of l)) views in
    let more : 1 < (claim_of c.hold.inside.badge.views).weight = subst (λ (x : Claim). 1 < x.weight) (sym c.hold.view_is) c.requires.more in
    let words = ap (λ t. t.words) c.requires.board in (
      s.0 ∙ ap (λ b. b.table_id) r ∙ i.0 ∙ sym c.requires.board,
      omega (arith, words, i.4),
      subst (λ (v : View). Splits Rule c.seat_of-seat.result.id v (one_less v) (one v)) (sym me)
          (cuts_one c.seat_of-seat.result.id false [] (claim_of c.hold.inside.badge.views) more),
    )
