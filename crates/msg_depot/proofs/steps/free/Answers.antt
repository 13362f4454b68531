use Rattle.std.proofs.Common.{◌+◌, ◌%◌, ◌^◌, ℕ, sym, subst, ap, ◌∙◌, ◌<◌}
use mathlib.Core.Option.{none}
use Rattle.atomic_table.specs.Table.{Allows, Me, step}
use Rattle.msg_depot.specs.declared.view.TheConstants.{GENERATION_UNIT}
use Rattle.msg_depot.specs.declared.view.View.{View}
use Rattle.msg_depot.specs.Rules.{word_of}
use Rattle.msg_depot.specs.Moves.{Freed}
use Rattle.msg_depot.proofs.Moves.{Rule}
use Rattle.msg_depot.proofs.KeeperMoves.{frees}
use Rattle.msg_depot.proofs.steps.free.Goals as goal

pub fetch_add-requires : goal.fetch_add-requires
fetch_add-requires c =
    let slots = c.args.board.now.shared.table_id.slots in
    let id = c.args.seat.now.id in (
      c.requires.seat.0,
      subst (λ (w : ℕ). w < c.args.board.now.shared.table_id.words) (sym c.word_at.ensures) c.requires.slot.0,
      subst (λ (x : Me (Unit {0}) View × ℕ). Allows Rule slots id x.0 x.1 (λ n. (n + GENERATION_UNIT) % 2 ^ 64)
          (Freed (step slots x.1 GENERATION_UNIT 0 none) x.0)) (λ k. (sym c.requires.seat.1 k, sym (c.word_at.ensures ∙ ap word_of c.requires.slot.1) k))
          (frees slots id c.args.seat.now.me.0.book c.args.seat.now.me.0.kind c.args.seat.now.me.0.claim c.requires.over c.requires.generation),
    )
