use Rattle.std.proofs.Common.{◌≡◌, ◌≤◌, ◌+◌, ℕ, get_or, take, drop, map, vec_len, vec_items, vec_capacity}
use Rattle.std.specs.Vec.Iter.{into_iter_items, into_iter_len}
use Rattle.lmtp_threads.specs.Grid.{lists, zip_push}
use Rattle.lmtp_threads.proofs.grid.push_column.Given as goal

-- the first k rows have one more element
abbrev pub invariant-loop-x : goal.invariant-loop-x
invariant-loop-x g l = record {
  rest : into_iter_items l.x-iterator ≡ drop l.k (vec_items l.fn.column);
  count : l.k + into_iter_len l.x-iterator ≡ vec_len l.fn.column;
  rows : vec_len l.rows ≡ vec_len l.initial.rows;
  pushed : lists (vec_items l.rows) ≡ zip_push (lists (vec_items l.initial.rows)) (take l.k (vec_items l.fn.column));
  capacity : map vec_capacity (vec_items l.rows) ≡ map vec_capacity (vec_items l.initial.rows);
  above : (j : ℕ) (d : _) → l.k ≤ j → get_or (vec_items l.rows) j d ≡ get_or (vec_items l.initial.rows) j d;
}
