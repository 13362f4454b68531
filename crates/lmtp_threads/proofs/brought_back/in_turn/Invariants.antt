use Rattle.std.proofs.Common.{◌≡◌, map, vec_len, vec_items}
use Rattle.std.specs.Vec.Iter.{into_iter_items}
use Rattle.lmtp_threads.specs.Works.{spools_view}
use Rattle.lmtp_threads.proofs.InTurn.{HoldSome}
use Rattle.lmtp_threads.proofs.brought_back.in_turn.Given as goal

-- those below b came back
abbrev pub invariant-loop-b : goal.invariant-loop-b
invariant-loop-b g l =
    let view = spools_view g.S.Spool.state g.S.Spool.MayFind g.S.Spool.MayRefuse g.T.TurnObserver.told in record {
      threads : vec_len l.boxes ≡ l.threads;
      hold : HoldSome view l.count l.b (map into_iter_items (vec_items l.fn.boxes)) (map into_iter_items (vec_items l.boxes)) l.columns;
    }
