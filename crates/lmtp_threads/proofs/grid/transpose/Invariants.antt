use Rattle.std.proofs.Common.{◌≡◌, ◌+◌, length, map, vec_len, vec_items, vec_capacity}
use Rattle.std.specs.List.{All}
use Rattle.std.specs.Vec.Iter.{into_iter_items, into_iter_len}
use Rattle.lmtp_threads.specs.Grid.{lists, push_all}
use Rattle.lmtp_threads.proofs.grid.transpose.Given as goal

-- the columns that are left lead to the same rows
abbrev pub invariant-loop-column : goal.invariant-loop-column
invariant-loop-column g l = record {
  leads : push_all (lists (vec_items l.rows)) (lists (into_iter_items l.column-iterator))
      ≡ push_all (lists (vec_items l.initial.rows)) (lists (vec_items l.fn.columns));
  rows : vec_len l.rows ≡ vec_len l.initial.rows;
  widths : All (λ c. length c ≡ vec_len l.initial.rows) (lists (into_iter_items l.column-iterator));
  filled : All (λ r. length r + into_iter_len l.column-iterator ≡ vec_len l.fn.columns) (lists (vec_items l.rows));
  capacity : map vec_capacity (vec_items l.rows) ≡ map vec_capacity (vec_items l.initial.rows);
}
