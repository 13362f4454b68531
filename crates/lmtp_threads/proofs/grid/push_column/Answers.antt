use Rattle.std.proofs.Common.{rules, arith, ◌≡◌, ◌<◌, List, [], ◌∷◌, ◌++◌, ap, sym, ◌∙◌, length, vec_capacity, vec_items, get_or, drop, add-one}
use Rattle.std.proofs.Math.ListN.{set}
use Rattle.std.proofs.Math.Seq.{map-set_same}
use Rattle.std.proofs.lemmas.List.{map-set, get_or-map, get_or-set_other, take_all, length-map}
use Rattle.lmtp_threads.specs.Grid.{lists, zip_push}
use Rattle.lmtp_threads.proofs.Grids.{set-zip_push, drop-next}
use Rattle.lmtp_threads.proofs.grid.push_column.Goals as goal

pub loop-x-preserved : goal.loop-x-preserved
loop-x-preserved g c =
    let was = c.loop-x.invariant in
    let step = c.in-Some.ensures.steps in
    let k = c.loop-x.k in
    let row = c.index_mut-row.result.now in
    let old = vec_items c.args.rows.now in
    let column = vec_items c.args.column in
    let at : drop k column ≡ c.in-Some.x ∷ _ = sym was.rest ∙ step.0 in
    let same = c.index_mut-row.ensures.value in
    let below : k < length old = omega (arith, was.count, step.1, c.requires.len, c.args.rows.now.ok.0) in
    let row_is : row.items ≡ get_or (lists old) k [] =
    ap (λ (v : _). v.items) (same ∙ was.above k row (omega arith)) ∙ sym (get_or-map (λ (v : _). v.items) old k row [] below) in record {
      rest = rw add-one (drop-next column _ k c.in-Some.x at);
      count = omega (arith, step.1, was.count);
      rows = was.rows;
      pushed =
          map-set (λ (v : _). v.items) (vec_items c.loop-x.rows) k c.push_reserved.new.self
          ∙ (ap (λ (z : List _). set (lists (vec_items c.loop-x.rows)) k z) c.push_reserved.ensures.items
          ∙ (ap (λ (z : List (List _)). set z k (row.items ++ c.in-Some.x ∷ [])) was.pushed
          ∙ rw add-one (set-zip_push (lists old) column _ k c.in-Some.x row.items at (rw length-map below) row_is)));
      capacity = map-set_same vec_capacity (vec_items c.loop-x.rows) k c.push_reserved.new.self row (c.push_reserved.ensures.capacity ∙ ap vec_capacity same)
          ∙ was.capacity;
      above = λ j d after. get_or-set_other (vec_items c.loop-x.rows) k j c.push_reserved.new.self d (search rules) ∙ was.above j d (omega arith);
    }

pub returns-clause-items : goal.returns-clause-items
returns-clause-items g c =
    let was = c.loop-x.invariant in
    let column = vec_items c.args.column in
    was.pushed ∙ ap (λ (z : List _). zip_push (lists (vec_items c.args.rows.now)) z)
    (take_all c.loop-x.k column (omega (arith, was.count, c.in-None.ensures.steps.0, c.args.column.ok.0)))

pub returns-clause-capacity : goal.returns-clause-capacity
returns-clause-capacity g c = c.loop-x.invariant.capacity
