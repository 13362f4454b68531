use Rattle.std.proofs.Common.{rules, arith, ◌≡◌, suc, List, [], ap, sym, ◌∙◌, length, vec_len, vec_capacity, vec_items}
use Rattle.std.specs.Vec.Iter.{into_iter_items, into_iter_len}
use Rattle.std.proofs.lemmas.List.{length-map, nil_from_length}
use Rattle.lmtp_threads.specs.Grid.{lists, push_all}
use Rattle.lmtp_threads.proofs.Grids.{turned, filled_more, room_for_push}
use Rattle.lmtp_threads.proofs.grid.transpose.Goals as goal

pub push_column-requires-clause-len : goal.push_column-requires-clause-len
push_column-requires-clause-len g c =
    let was = c.loop-column.invariant in
    let step = c.in-Some.ensures.steps in
    let wide = (rw step.0 at was.widths) 0 [] (omega arith) in
    omega (arith, wide, was.rows, c.in-Some.column.ok.0)

pub push_column-requires-clause-room : goal.push_column-requires-clause-room
push_column-requires-clause-room g c =
    let was = c.loop-column.invariant in
    let step = c.in-Some.ensures.steps in
    room_for_push (vec_items c.loop-column.rows) (vec_items c.args.rows) (into_iter_len c.next.new.self) (vec_len c.args.columns) (rw step.1 was.filled)
    was.capacity c.requires.room

pub loop-column-preserved : goal.loop-column-preserved
loop-column-preserved g c =
    let was = c.loop-column.invariant in
    let step = c.in-Some.ensures.steps in
    let rows = c.loop-column.rows in
    let new = c.push_column.new.rows in
    let pushed = c.push_column.ensures.items in
    let column = c.in-Some.column in
    let same : length (vec_items column) ≡ length (lists (vec_items rows)) =
    rw length-map (let wide = (rw step.0 at was.widths) 0 [] (omega arith) in omega (arith, wide, was.rows, rows.ok.0)) in
    let counts : length (vec_items new) ≡ length (vec_items rows) =
    sym (length-map (vec_items new) vec_capacity) ∙ (ap length c.push_column.ensures.capacity ∙ length-map (vec_items rows) vec_capacity) in record {
      leads = ap (λ (z : List (List _)). push_all z (lists (into_iter_items c.next.new.self))) pushed
          ∙ (ap (λ (z : List _). push_all (lists (vec_items rows)) (lists z)) (sym step.0) ∙ was.leads);
      rows = omega (arith, counts, new.ok.0, rows.ok.0, was.rows);
      widths = λ k d below. (rw step.0 at was.widths) (suc k) d (omega (arith, below));
      filled = filled_more (lists (vec_items rows)) (lists (vec_items new)) (vec_items column) (into_iter_len c.next.new.self) (vec_len c.args.columns) pushed
          same (rw step.1 was.filled);
      capacity = c.push_column.ensures.capacity ∙ was.capacity;
    }

pub returns-clause-turned : goal.returns-clause-turned
returns-clause-turned g c =
    let was = c.loop-column.invariant in
    let rest : into_iter_items c.loop-column.column-iterator ≡ [] = nil_from_length (into_iter_items c.loop-column.column-iterator) (search rules) in
    let grid_is : lists (vec_items c.loop-column.rows) ≡ push_all (lists (vec_items c.args.rows)) (lists (vec_items c.args.columns)) =
    ap (λ (z : List _). push_all (lists (vec_items c.loop-column.rows)) (lists z)) (sym rest) ∙ was.leads in
    rw grid_is (turned (lists (vec_items c.args.rows)) (lists (vec_items c.args.columns))
    (λ k d below. c.requires.widths k d below ∙ (c.args.rows.ok.0 ∙ sym (length-map (vec_items c.args.rows) (λ (v : _). v.items)))) c.requires.empty)
