use Rattle.std.proofs.Common.{◌≡◌, ◌≤◌, [], map, vec_len, vec_items, vec_capacity}
use Rattle.std.specs.List.{All}
use Rattle.lmtp_threads.specs.Grid.{lists}
use Rattle.lmtp_threads.proofs.grid.empty_rows.Given as goal

abbrev pub invariant-loop : goal.invariant-loop
invariant-loop g l = record {
  count : vec_len l.all ≡ l.counter;
  empty : All (λ r. r ≡ []) (lists (vec_items l.all));
  room : All (λ n. l.room ≤ n) (map vec_capacity (vec_items l.all));
}
