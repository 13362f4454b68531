use Rattle.std.proofs.Common.{rules, arith, ◌≡◌, ◌<◌, ◌+◌, ◌%◌, ℕ, List, length, map, ap, sym, ◌∙◌, subst, Some, vec_items, vec_len}
use Rattle.std.specs.Prelude.{slice_get}
use Rattle.std.specs.Vec.Iter.{into_iter_items}
use Rattle.std.proofs.lemmas.List.{length-map, map-set, nil_from_length}
use Rattle.std.proofs.lemmas.Nat.{mod_below}
use Rattle.std.proofs.lemmas.Option.{slice_get_read}
use Rattle.box_worker.specs.Shares.{KeptState}
use Rattle.lmtp_threads.specs.Works.{spools_view}
use Rattle.lmtp_threads.proofs.ChannelRows.{at_map}
use Rattle.lmtp_threads.proofs.InTurn.{HoldSome, none_yet, fits, none_missing, hold_more, hold_all}
use Rattle.lmtp_threads.proofs.brought_back.in_turn.Goals.{After-index_mut-own}
use Rattle.lmtp_threads.proofs.brought_back.in_turn.Goals as goal

pub loop-b-init : goal.loop-b-init
loop-b-init g c = record {
  threads = search rules;
  hold = none_yet _ c.args.count (map into_iter_items (vec_items c.args.boxes)) c.args.columns c.requires.dealt c.requires.room;
}

pub index_mut-own-requires : goal.index_mut-own-requires
index_mut-own-requires g c =
    let was = c.loop-b.invariant in
    let some = c.requires.some (omega (arith, c.loop-b-test.true)) in
    let turn : c.loop-b.b % c.len-threads.result < c.len-threads.result = mod_below c.loop-b.b c.len-threads.result (omega (arith, some, c.len-threads.ensures)) in
    omega (arith, turn, was.threads)

module _ (g : _) (c : After-index_mut-own g) where
  abbrev turn : ℕ
  turn = c.loop-b.b % c.len-threads.result

  abbrev all : List (List KeptState)
  all = map into_iter_items (vec_items c.loop-b.boxes)

  turn_is : turn ≡ c.loop-b.b % length all
  turn_is =
      let many : length all ≡ c.len-threads.result =
      length-map (vec_items c.loop-b.boxes) into_iter_items ∙ (sym c.loop-b.boxes.ok.0 ∙ c.loop-b.invariant.threads) in
      ap (λ n. c.loop-b.b % n) (sym many)

  own_is : slice_get all turn ≡ Some (into_iter_items c.index_mut-own.result.now)
  own_is =
      let some = c.requires.some (omega (arith, c.loop-b-test.true)) in
      let low : turn < c.len-threads.result = mod_below c.loop-b.b c.len-threads.result (omega (arith, some, c.len-threads.ensures)) in
      at_map into_iter_items (vec_items c.loop-b.boxes) turn c.index_mut-own.result.now
      (slice_get_read (vec_items c.loop-b.boxes) (vec_len c.loop-b.boxes) turn c.index_mut-own.result.now c.loop-b.boxes.ok.0
      (omega (arith, low, c.loop-b.invariant.threads)) c.index_mut-own.ensures.value)

pub unreachable-requires : goal.unreachable-requires
unreachable-requires g c =
    let e = (goal.at.unreachable-requires g c).After-index_mut-own in
    none_missing _ c.loop-b.invariant.hold c.loop-b-test.true (turn g e) (turn_is g e) (into_iter_items c.index_mut-own.result.now) (own_is g e)
    (nil_from_length (into_iter_items c.index_mut-own.result.now) (search rules))

pub push-requires : goal.push-requires
push-requires g c = fits _ c.loop-b.invariant.hold c.loop-b-test.true

pub loop-b-preserved : goal.loop-b-preserved
loop-b-preserved g c =
    let e = (goal.at.loop-b-preserved g c).After-index_mut-own in
    let view = spools_view g.S.Spool.state g.S.Spool.MayFind g.S.Spool.MayRefuse g.T.TurnObserver.told in
    let own = into_iter_items c.index_mut-own.result.now in
    let rest = into_iter_items c.next.new.self in
    let more = hold_more _ c.loop-b.invariant.hold c.loop-b-test.true (turn g e) (turn_is g e) own rest c.in-Some.kept c.push.new.self (own_is g e) c.in-Some.ensures.items
    c.push.ensures in record {
      threads = c.loop-b.invariant.threads;
      hold = subst (λ l. HoldSome view c.args.count (c.loop-b.b + 1) (map into_iter_items (vec_items c.args.boxes)) l c.push.new.self)
          (sym (map-set into_iter_items (vec_items c.loop-b.boxes) (turn g e) c.next.new.self)) more;
    }

pub returns : goal.returns
returns g c = hold_all _ c.loop-b.invariant.hold (omega (arith, c.loop-b.auto.b-end, c.loop-b-test.false))
