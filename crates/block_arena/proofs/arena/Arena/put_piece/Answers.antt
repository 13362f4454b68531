use Rattle.std.proofs.Common.{◌≡◌, ◌<◌, [], get_or, length, refl, ap, arith, rules}
use Rattle.block_arena.specs.declared.slot.Run.{Run}
use Rattle.block_arena.proofs.Pieced.{Knows, knows, slot_low, put_last, put_next, last_low, last_fits, free_some, free_low, free_fits, link_low, few}
use Rattle.block_arena.specs.ArenaParts.{fields_of}
use Rattle.block_arena.proofs.arena.Arena.put_piece.Goals as goal

pub fill-requires-clause-block : goal.fill-requires-clause-block
fill-requires-clause-block c =
    let k : Knows c.args.key c.args.self.now (fields_of c.self.inside) c.run_in-run.result c.min-n.result c.args.bytes.now =
    knows c.args.key c.args.self.now (fields_of c.self.inside) c.deref.result.now c.content_under.result c.run_in-run.result c.min-n.result c.args.bytes.now
    c.self.invariant c.self.view_is c.deref.ensures.value c.content_under.ensures c.requires.draft c.run_in-run.ensures c.requires.some c.requires.room
    c.min-n.ensures in
    last_low c.args.key c.args.self.now (fields_of c.self.inside) c.run_in-run.result c.min-n.result c.args.bytes.now k c.if-at-gt0.true

pub fill-requires-clause-fits : goal.fill-requires-clause-fits
fill-requires-clause-fits c =
    let k : Knows c.args.key c.args.self.now (fields_of c.self.inside) c.run_in-run.result c.min-n.result c.args.bytes.now =
    knows c.args.key c.args.self.now (fields_of c.self.inside) c.deref.result.now c.content_under.result c.run_in-run.result c.min-n.result c.args.bytes.now
    c.self.invariant c.self.view_is c.deref.ensures.value c.content_under.ensures c.requires.draft c.run_in-run.ensures c.requires.some c.requires.room
    c.min-n.ensures in
    last_fits c.args.key c.args.self.now (fields_of c.self.inside) c.run_in-run.result c.min-n.result c.args.bytes.now
    (get_or c.self.inside.data c.run_in-run.result.last []) [] k c.if-at-gt0.true refl

pub longer_draft-requires : goal.longer_draft-requires
longer_draft-requires c =
    let k : Knows c.args.key c.args.self.now (fields_of c.self.inside) c.run_in-run.result c.min-n.result c.args.bytes.now =
    knows c.args.key c.args.self.now (fields_of c.self.inside) c.deref.result.now c.content_under.result c.run_in-run.result c.min-n.result c.args.bytes.now
    c.self.invariant c.self.view_is c.deref.ensures.value c.content_under.ensures c.requires.draft c.run_in-run.ensures c.requires.some c.requires.room
    c.min-n.ensures in
    omega (arith, few c.args.key c.args.self.now (fields_of c.self.inside) c.run_in-run.result c.min-n.result c.args.bytes.now k)

pub index_mut-requires : goal.index_mut-requires
index_mut-requires c =
    let k : Knows c.args.key c.args.self.now (fields_of c.self.inside) c.run_in-run.result c.min-n.result c.args.bytes.now =
    knows c.args.key c.args.self.now (fields_of c.self.inside) c.deref.result.now c.content_under.result c.run_in-run.result c.min-n.result c.args.bytes.now
    c.self.invariant c.self.view_is c.deref.ensures.value c.content_under.ensures c.requires.draft c.run_in-run.ensures c.requires.some c.requires.room
    c.min-n.ensures in
    let h : c.args.key.slot < length c.self.inside.slots.items =
    slot_low c.args.key c.args.self.now (fields_of c.self.inside) c.run_in-run.result c.min-n.result c.args.bytes.now k in search (rules, h)

pub invariant_of-self : goal.invariant_of-self
invariant_of-self c =
    let k : Knows c.args.key c.args.self.now (fields_of c.self.inside) c.run_in-run.result c.min-n.result c.args.bytes.now =
    knows c.args.key c.args.self.now (fields_of c.self.inside) c.deref.result.now c.content_under.result c.run_in-run.result c.min-n.result c.args.bytes.now
    c.self.invariant c.self.view_is c.deref.ensures.value c.content_under.ensures c.requires.draft c.run_in-run.ensures c.requires.some c.requires.room
    c.min-n.ensures in
    (put_last c.args.key c.args.self.now (fields_of c.self.inside) c.run_in-run.result c.min-n.result c.args.bytes.now c.fill.new.self c.longer_draft.result k
    c.if-at-gt0.true c.fill.ensures c.longer_draft.ensures).arena

pub returns-then-at-gt0-clause-put : goal.returns-then-at-gt0-clause-put
returns-then-at-gt0-clause-put c =
    let k : Knows c.args.key c.args.self.now (fields_of c.self.inside) c.run_in-run.result c.min-n.result c.args.bytes.now =
    knows c.args.key c.args.self.now (fields_of c.self.inside) c.deref.result.now c.content_under.result c.run_in-run.result c.min-n.result c.args.bytes.now
    c.self.invariant c.self.view_is c.deref.ensures.value c.content_under.ensures c.requires.draft c.run_in-run.ensures c.requires.some c.requires.room
    c.min-n.ensures in
    (put_last c.args.key c.args.self.now (fields_of c.self.inside) c.run_in-run.result c.min-n.result c.args.bytes.now c.fill.new.self c.longer_draft.result k
    c.if-at-gt0.true c.fill.ensures c.longer_draft.ensures).put

pub returns-then-at-gt0-clause-room : goal.returns-then-at-gt0-clause-room
returns-then-at-gt0-clause-room c =
    let k : Knows c.args.key c.args.self.now (fields_of c.self.inside) c.run_in-run.result c.min-n.result c.args.bytes.now =
    knows c.args.key c.args.self.now (fields_of c.self.inside) c.deref.result.now c.content_under.result c.run_in-run.result c.min-n.result c.args.bytes.now
    c.self.invariant c.self.view_is c.deref.ensures.value c.content_under.ensures c.requires.draft c.run_in-run.ensures c.requires.some c.requires.room
    c.min-n.ensures in
    (put_last c.args.key c.args.self.now (fields_of c.self.inside) c.run_in-run.result c.min-n.result c.args.bytes.now c.fill.new.self c.longer_draft.result k
    c.if-at-gt0.true c.fill.ensures c.longer_draft.ensures).room

pub fill-requires-2-clause-block : goal.fill-requires-2-clause-block
fill-requires-2-clause-block c =
    let k : Knows c.args.key c.args.self.now (fields_of c.self.inside) c.run_in-run.result c.min-n.result c.args.bytes.now =
    knows c.args.key c.args.self.now (fields_of c.self.inside) c.deref.result.now c.content_under.result c.run_in-run.result c.min-n.result c.args.bytes.now
    c.self.invariant c.self.view_is c.deref.ensures.value c.content_under.ensures c.requires.draft c.run_in-run.ensures c.requires.some c.requires.room
    c.min-n.ensures in
    (free_low c.args.key c.args.self.now (fields_of c.self.inside) c.run_in-run.result c.min-n.result c.args.bytes.now k (omega (arith, c.if-at-gt0.false))).1

pub fill-requires-2-clause-fits : goal.fill-requires-2-clause-fits
fill-requires-2-clause-fits c =
    let k : Knows c.args.key c.args.self.now (fields_of c.self.inside) c.run_in-run.result c.min-n.result c.args.bytes.now =
    knows c.args.key c.args.self.now (fields_of c.self.inside) c.deref.result.now c.content_under.result c.run_in-run.result c.min-n.result c.args.bytes.now
    c.self.invariant c.self.view_is c.deref.ensures.value c.content_under.ensures c.requires.draft c.run_in-run.ensures c.requires.some c.requires.room
    c.min-n.ensures in
    free_fits c.args.key c.args.self.now (fields_of c.self.inside) c.run_in-run.result c.min-n.result c.args.bytes.now
    (get_or c.self.inside.data c.self.inside.free []) [] k (omega (arith, c.if-at-gt0.false)) refl

pub index_mut-requires-2 : goal.index_mut-requires-2
index_mut-requires-2 c =
    let k : Knows c.args.key c.args.self.now (fields_of c.self.inside) c.run_in-run.result c.min-n.result c.args.bytes.now =
    knows c.args.key c.args.self.now (fields_of c.self.inside) c.deref.result.now c.content_under.result c.run_in-run.result c.min-n.result c.args.bytes.now
    c.self.invariant c.self.view_is c.deref.ensures.value c.content_under.ensures c.requires.draft c.run_in-run.ensures c.requires.some c.requires.room
    c.min-n.ensures in
    let h : c.self.inside.free < length c.self.inside.stamps.items =
    (free_low c.args.key c.args.self.now (fields_of c.self.inside) c.run_in-run.result c.min-n.result c.args.bytes.now k
    (omega (arith, c.if-at-gt0.false))).2 in search (rules, h)

pub index-requires : goal.index-requires
index-requires c =
    let k : Knows c.args.key c.args.self.now (fields_of c.self.inside) c.run_in-run.result c.min-n.result c.args.bytes.now =
    knows c.args.key c.args.self.now (fields_of c.self.inside) c.deref.result.now c.content_under.result c.run_in-run.result c.min-n.result c.args.bytes.now
    c.self.invariant c.self.view_is c.deref.ensures.value c.content_under.ensures c.requires.draft c.run_in-run.ensures c.requires.some c.requires.room
    c.min-n.ensures in
    let h : c.self.inside.free < length c.self.inside.next.items =
    (free_low c.args.key c.args.self.now (fields_of c.self.inside) c.run_in-run.result c.min-n.result c.args.bytes.now k
    (omega (arith, c.if-at-gt0.false))).0 in search (rules, h)

pub overflow_sub-self : goal.overflow_sub-self
overflow_sub-self c =
    let k : Knows c.args.key c.args.self.now (fields_of c.self.inside) c.run_in-run.result c.min-n.result c.args.bytes.now =
    knows c.args.key c.args.self.now (fields_of c.self.inside) c.deref.result.now c.content_under.result c.run_in-run.result c.min-n.result c.args.bytes.now
    c.self.invariant c.self.view_is c.deref.ensures.value c.content_under.ensures c.requires.draft c.run_in-run.ensures c.requires.some c.requires.room
    c.min-n.ensures in
    free_some c.args.key c.args.self.now (fields_of c.self.inside) c.run_in-run.result c.min-n.result c.args.bytes.now k (omega (arith, c.if-at-gt0.false))

pub link-run-requires-clause-last : goal.link-run-requires-clause-last
link-run-requires-clause-last c =
    let k : Knows c.args.key c.args.self.now (fields_of c.self.inside) c.run_in-run.result c.min-n.result c.args.bytes.now =
    knows c.args.key c.args.self.now (fields_of c.self.inside) c.deref.result.now c.content_under.result c.run_in-run.result c.min-n.result c.args.bytes.now
    c.self.invariant c.self.view_is c.deref.ensures.value c.content_under.ensures c.requires.draft c.run_in-run.ensures c.requires.some c.requires.room
    c.min-n.ensures in
    λ some. omega (arith, link_low c.args.key c.args.self.now (fields_of c.self.inside) c.run_in-run.result c.min-n.result c.args.bytes.now k some)

pub link-run-requires-clause-few : goal.link-run-requires-clause-few
link-run-requires-clause-few c =
    let k : Knows c.args.key c.args.self.now (fields_of c.self.inside) c.run_in-run.result c.min-n.result c.args.bytes.now =
    knows c.args.key c.args.self.now (fields_of c.self.inside) c.deref.result.now c.content_under.result c.run_in-run.result c.min-n.result c.args.bytes.now
    c.self.invariant c.self.view_is c.deref.ensures.value c.content_under.ensures c.requires.draft c.run_in-run.ensures c.requires.some c.requires.room
    c.min-n.ensures in
    omega (
      arith,
      few c.args.key c.args.self.now (fields_of c.self.inside) c.run_in-run.result c.min-n.result c.args.bytes.now k,
      free_some c.args.key c.args.self.now (fields_of c.self.inside) c.run_in-run.result c.min-n.result c.args.bytes.now k (omega (arith, c.if-at-gt0.false)),
    )

pub longer_draft-requires-2 : goal.longer_draft-requires-2
longer_draft-requires-2 c =
    let k : Knows c.args.key c.args.self.now (fields_of c.self.inside) c.run_in-run.result c.min-n.result c.args.bytes.now =
    knows c.args.key c.args.self.now (fields_of c.self.inside) c.deref.result.now c.content_under.result c.run_in-run.result c.min-n.result c.args.bytes.now
    c.self.invariant c.self.view_is c.deref.ensures.value c.content_under.ensures c.requires.draft c.run_in-run.ensures c.requires.some c.requires.room
    c.min-n.ensures in
    let same : c.link-run.result.length ≡ c.run_in-run.result.length = ap (λ (r : Run). r.length) c.link-run.ensures.run in
    omega (arith, same, few c.args.key c.args.self.now (fields_of c.self.inside) c.run_in-run.result c.min-n.result c.args.bytes.now k)

pub index_mut-requires-3 : goal.index_mut-requires-3
index_mut-requires-3 c =
    let k : Knows c.args.key c.args.self.now (fields_of c.self.inside) c.run_in-run.result c.min-n.result c.args.bytes.now =
    knows c.args.key c.args.self.now (fields_of c.self.inside) c.deref.result.now c.content_under.result c.run_in-run.result c.min-n.result c.args.bytes.now
    c.self.invariant c.self.view_is c.deref.ensures.value c.content_under.ensures c.requires.draft c.run_in-run.ensures c.requires.some c.requires.room
    c.min-n.ensures in
    let h : c.args.key.slot < length c.self.inside.slots.items =
    slot_low c.args.key c.args.self.now (fields_of c.self.inside) c.run_in-run.result c.min-n.result c.args.bytes.now k in search (rules, h)

pub invariant_of-self-2 : goal.invariant_of-self-2
invariant_of-self-2 c =
    let k : Knows c.args.key c.args.self.now (fields_of c.self.inside) c.run_in-run.result c.min-n.result c.args.bytes.now =
    knows c.args.key c.args.self.now (fields_of c.self.inside) c.deref.result.now c.content_under.result c.run_in-run.result c.min-n.result c.args.bytes.now
    c.self.invariant c.self.view_is c.deref.ensures.value c.content_under.ensures c.requires.draft c.run_in-run.ensures c.requires.some c.requires.room
    c.min-n.ensures in
    (put_next c.args.key c.args.self.now (fields_of c.self.inside) c.run_in-run.result c.min-n.result c.args.bytes.now c.fill-2.new.self c.index.result.now _
    c.link-run.result c.link-run.new.next.items c.longer_draft-2.result k (omega (arith, c.if-at-gt0.false)) c.fill-2.ensures c.index.ensures
    c.link-run.ensures.run c.link-run.ensures.next c.longer_draft-2.ensures).arena

pub returns-clause-put : goal.returns-clause-put
returns-clause-put c =
    let k : Knows c.args.key c.args.self.now (fields_of c.self.inside) c.run_in-run.result c.min-n.result c.args.bytes.now =
    knows c.args.key c.args.self.now (fields_of c.self.inside) c.deref.result.now c.content_under.result c.run_in-run.result c.min-n.result c.args.bytes.now
    c.self.invariant c.self.view_is c.deref.ensures.value c.content_under.ensures c.requires.draft c.run_in-run.ensures c.requires.some c.requires.room
    c.min-n.ensures in
    (put_next c.args.key c.args.self.now (fields_of c.self.inside) c.run_in-run.result c.min-n.result c.args.bytes.now c.fill-2.new.self c.index.result.now _
    c.link-run.result c.link-run.new.next.items c.longer_draft-2.result k (omega (arith, c.if-at-gt0.false)) c.fill-2.ensures c.index.ensures
    c.link-run.ensures.run c.link-run.ensures.next c.longer_draft-2.ensures).put

pub returns-clause-room : goal.returns-clause-room
returns-clause-room c =
    let k : Knows c.args.key c.args.self.now (fields_of c.self.inside) c.run_in-run.result c.min-n.result c.args.bytes.now =
    knows c.args.key c.args.self.now (fields_of c.self.inside) c.deref.result.now c.content_under.result c.run_in-run.result c.min-n.result c.args.bytes.now
    c.self.invariant c.self.view_is c.deref.ensures.value c.content_under.ensures c.requires.draft c.run_in-run.ensures c.requires.some c.requires.room
    c.min-n.ensures in
    (put_next c.args.key c.args.self.now (fields_of c.self.inside) c.run_in-run.result c.min-n.result c.args.bytes.now c.fill-2.new.self c.index.result.now _
    c.link-run.result c.link-run.new.next.items c.longer_draft-2.result k (omega (arith, c.if-at-gt0.false)) c.fill-2.ensures c.index.ensures
    c.link-run.ensures.run c.link-run.ensures.next c.longer_draft-2.ensures).room
