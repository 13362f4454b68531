use Rattle.std.proofs.Common.{◌≡◌, ℕ, ◌<◌, [], sym, ap, ◌∙◌, subst, arith, refl}
use mathlib.Core.Option.{none}
use Rattle.atomic_table.specs.Table.{Allows, Joins, Me, step}
use Rattle.msg_depot.specs.declared.view.View.{View}
use Rattle.msg_depot.specs.Rules.{MatchesEntry, nobody, keeping}
use Rattle.msg_depot.specs.Moves.{Checked, taking, empty_entry}
use Rattle.msg_depot.proofs.Moves.{Rule}
use Rattle.msg_depot.proofs.Totals.{within, elem_is}
use Rattle.msg_depot.proofs.KeeperMoves.{takes, checks}
use Rattle.msg_depot.proofs.steps.take_in.Goals as goal

pub join_seat-requires : goal.join_seat-requires
join_seat-requires c =
    let me = ap (λ m. m.0) c.requires.seat.1 in
    let him = ap (λ m. m.0) c.requires.other.1 in (
      c.requires.seat.0,
      c.requires.other.0,
      ap (λ m. m.1) c.requires.other.1,
      omega (arith, c.requires.slot),
      subst (λ (x : View × View). Joins Rule c.args.seat.now.id x.0 c.args.other.id x.1 (taking x.0 x.1) nobody) (λ k. (sym me k, sym him k))
          (takes c.args.seat.now.id c.args.seat.now.me.0.book c.args.other.id c.args.other.me.0.kind c.args.other.me.0.claim),
    )

pub load-requires : goal.load-requires
load-requires c =
    let slots = c.args.board.now.shared.table_id.slots in
    let id = c.join_seat.new.seat.id in
    let j = c.join_seat.ensures in
    let me : c.join_seat.new.seat.me ≡ (keeping c.args.seat.now.me.0.book c.args.other.me.0.kind c.args.other.me.0.claim, []) =
    j.2 ∙ (λ k. (taking (c.requires.seat.1 k).0 (c.requires.other.1 k).0, (c.requires.seat.1 k).1)) in (
      j.0 ∙ c.requires.seat.0,
      subst (λ (w : ℕ). w < c.args.board.now.shared.table_id.words) (sym c.word_at.ensures) c.requires.slot,
      subst (λ (m : Me (Unit {0}) View). Allows Rule slots id m c.word_at.result (λ n. n) (Checked (step slots c.word_at.result 0 0 none) m)) (sym me)
          (checks slots id c.word_at.result (keeping c.args.seat.now.me.0.book c.args.other.me.0.kind c.args.other.me.0.claim)),
    )

pub returns-clause-agrees : goal.returns-clause-agrees
returns-clause-agrees c =
    let j = c.join_seat.ensures in
    let me : c.join_seat.new.seat.me ≡ (keeping c.args.seat.now.me.0.book c.args.other.me.0.kind c.args.other.me.0.claim, []) =
    j.2 ∙ (λ k. (taking (c.requires.seat.1 k).0 (c.requires.other.1 k).0, (c.requires.seat.1 k).1)) in
    let fit : MatchesEntry c.args.seat.now.me.0.book (keeping c.args.seat.now.me.0.book c.args.other.me.0.kind c.args.other.me.0.claim) =
    (subst (λ (m : Me (Unit {0}) View). Checked (step 0 0 0 0 none) m 0 c.load.new.seat.me) me c.load.ensures.2).1 refl in
    λ some_kind. (
      within c.args.seat.now.me.0.book c.args.other.me.0.claim.slot _ (fit.0 some_kind),
      elem_is c.args.seat.now.me.0.book c.args.other.me.0.claim.slot empty_entry _ (fit.0 some_kind),
    )
