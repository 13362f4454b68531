use Rattle.std.proofs.Common.{◌+◌, ◌%◌, ◌^◌, ℕ, sym, subst, ap, ◌∙◌, ◌<◌}
use mathlib.Core.Option.{none}
use Rattle.atomic_table.specs.Table.{Allows, Me, step}
use Rattle.msg_depot.specs.declared.view.View.{View}
use Rattle.msg_depot.specs.Rules.{word_of}
use Rattle.msg_depot.specs.Moves.{SealedBy}
use Rattle.msg_depot.proofs.Moves.{Rule}
use Rattle.msg_depot.proofs.KeeperMoves.{seals}
use Rattle.msg_depot.proofs.steps.seal.Goals as goal

pub fetch_add-requires : goal.fetch_add-requires
fetch_add-requires c =
    let slots = c.args.board.now.shared.table_id.slots in
    let id = c.args.seat.now.id in
    let k = c.args.weight in (
      c.requires.seat.0,
      subst (λ (w : ℕ). w < c.args.board.now.shared.table_id.words) (sym c.word_at.ensures) c.requires.slot.0,
      subst (λ (x : Me (Unit {0}) View × ℕ). Allows Rule slots id x.0 x.1 (λ n. (n + k) % 2 ^ 64) (SealedBy (step slots x.1 k 0 none) x.0))
          (λ k. (sym c.requires.seat.1 k, sym (c.word_at.ensures ∙ ap word_of c.requires.slot.1) k))
          (seals slots id c.args.seat.now.me.0.book c.args.seat.now.me.0.claim k c.requires.weight.0 c.requires.weight.1),
    )
