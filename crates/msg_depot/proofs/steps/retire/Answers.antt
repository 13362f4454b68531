use Rattle.std.proofs.Common.{ℕ, sym, subst, ap, ◌∙◌, ◌<◌}
use mathlib.Core.Option.{none}
use Rattle.atomic_table.specs.Table.{Allows, Me, step}
use Rattle.msg_depot.specs.declared.view.View.{View}
use Rattle.msg_depot.specs.Rules.{word_of}
use Rattle.msg_depot.specs.Moves.{RetiredNow}
use Rattle.msg_depot.proofs.Moves.{Rule}
use Rattle.msg_depot.proofs.KeeperMoves.{retires}
use Rattle.msg_depot.proofs.steps.retire.Goals as goal

pub load-requires : goal.load-requires
load-requires c =
    let slots = c.args.board.now.shared.table_id.slots in
    let id = c.args.seat.now.id in (
      c.requires.seat.0,
      subst (λ (w : ℕ). w < c.args.board.now.shared.table_id.words) (sym c.word_at.ensures) c.requires.slot.0,
      subst (λ (x : Me (Unit {0}) View × ℕ). Allows Rule slots id x.0 x.1 (λ n. n) (RetiredNow (step slots x.1 0 0 none) x.0))
          (λ k. (sym c.requires.seat.1 k, sym (c.word_at.ensures ∙ ap word_of c.requires.slot.1) k))
          (retires slots id c.args.seat.now.me.0.book c.args.seat.now.me.0.kind c.args.seat.now.me.0.claim c.requires.over),
    )
