use Rattle.std.proofs.Common.{arith, ◌≡◌, ◌<◌, List, [], ◌∷◌, ◌++◌, ap, sym, ◌∙◌, length, vec_items, get_or, set}
use Rattle.std.proofs.lemmas.List.{map-set, get_or-map}
use Rattle.lmtp_threads.specs.Grid.{lists}
use Rattle.lmtp_threads.proofs.grid.push_at.Goals as goal

pub returns-clause-items : goal.returns-clause-items
returns-clause-items g c =
    let rows = vec_items c.args.rows.now in
    let row = c.index_mut-row.result.now in
    let below : c.args.at < length rows = omega (arith, c.requires, c.args.rows.now.ok.0) in
    let row_is : row.items ≡ get_or (lists rows) c.args.at [] =
    ap (λ (v : _). v.items) c.index_mut-row.ensures.value ∙ sym (get_or-map (λ (v : _). v.items) rows c.args.at row [] below) in
    map-set (λ (v : _). v.items) rows c.args.at c.push.new.self
    ∙ ap (λ (z : List _). set (lists rows) c.args.at z) (c.in_ok-push.ensures.items ∙ ap (λ (z : List _). z ++ c.args.x ∷ []) row_is)
