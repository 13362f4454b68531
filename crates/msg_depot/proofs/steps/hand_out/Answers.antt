use Rattle.std.proofs.Common.{sym, ap, subst, arith}
use Rattle.atomic_table.specs.Table.{Splits}
use Rattle.msg_depot.specs.declared.view.View.{View}
use Rattle.msg_depot.specs.Moves.{emptied, handed}
use Rattle.msg_depot.proofs.Moves.{Rule}
use Rattle.msg_depot.proofs.KeeperMoves.{hands}
use Rattle.msg_depot.proofs.steps.hand_out.Goals as goal

pub split_seat-requires : goal.split_seat-requires
split_seat-requires c = (
  c.requires.seat.0,
  omega (arith, c.requires.slot),
  subst (λ (v : View). Splits Rule c.args.seat.now.id v (emptied v) (handed v)) (sym (ap (λ m. m.0) c.requires.seat.1))
      (hands c.args.seat.now.id c.args.seat.now.me.0.book c.args.seat.now.me.0.kind c.args.seat.now.me.0.claim),
)
