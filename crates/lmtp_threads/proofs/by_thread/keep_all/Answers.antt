use Rattle.std.proofs.Common.{rules, arith, ◌≡◌, [], ◌∷◌, ◌++◌, length, append-nil, sym, ◌∙◌, subst, ap, refl, vec_items}
use Rattle.std.proofs.lemmas.List.{nil_from_length}
use Rattle.std.specs.List.{AllZip}
use Rattle.std.specs.Vec.Iter.{into_iter_items}
use Rattle.lmtp_threads.specs.Works.{spools_view}
use Rattle.lmtp_threads.specs.ThreadWork.{IsKept}
use Rattle.lmtp_threads.proofs.Pairs.{AllZip-snoc}
use Rattle.lmtp_threads.proofs.MovedLists.{move_same}
use Rattle.lmtp_threads.proofs.by_thread.keep_all.Goals as goal

pub loop-own-preserved : goal.loop-own-preserved
loop-own-preserved g c =
    let was = c.loop-own.invariant in
    let steps = c.in-Some.ensures.steps in
    let own = c.in-Some.own in
    let kept = c.keep.result in
    let pushed = c.push_reserved.ensures in
    let Kept = IsKept (spools_view g.S.Spool.state g.S.Spool.MayFind g.S.Spool.MayRefuse g.T.TurnObserver.told) c.args.quotas.now in record {
      room = omega (arith, was.room, steps.1, pushed.len, pushed.capacity);
      done = (
        was.done.0 ++ own ∷ [],
        move_same was.done.0 (was.done.0 ++ own ∷ []) (vec_items c.args.boxes) (into_iter_items c.loop-own.own-iterator) (into_iter_items c.next.new.self) own
            was.done.1 steps.0 refl,
        rw pushed.items (AllZip-snoc Kept was.done.0 (vec_items c.loop-own.kept) own kept was.done.2 c.keep.ensures),
      );
    }

pub returns : goal.returns
returns g c =
    let was = c.loop-own.invariant in
    let Kept = IsKept (spools_view g.S.Spool.state g.S.Spool.MayFind g.S.Spool.MayRefuse g.T.TurnObserver.told) c.args.quotas.now in
    let rest : into_iter_items c.loop-own.own-iterator ≡ [] = nil_from_length (into_iter_items c.loop-own.own-iterator) (search rules) in
    let all : was.done.0 ≡ vec_items c.args.boxes = sym (append-nil was.done.0) ∙ (ap (λ l. was.done.0 ++ l) (sym rest) ∙ was.done.1) in
    subst (λ l. AllZip Kept l (vec_items c.loop-own.kept)) all was.done.2

pub loop-own-init : goal.loop-own-init
loop-own-init g c =
    let gives = c.into_iter-own-iterator.ensures.into_iter_gives in record {
      room = omega (arith, c.requires.room, c.args.kept.ok.0, ap length c.requires.empty, gives.1);
      done = ([], gives.0, rw c.requires.empty tt);
    }
