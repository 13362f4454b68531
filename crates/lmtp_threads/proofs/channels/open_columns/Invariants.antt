use Rattle.std.proofs.Common.{◌≡◌, vec_len, vec_items}
use Rattle.std.specs.List.{AllZip}
use Rattle.lmtp_threads.specs.Grid.{lists}
use Rattle.lmtp_threads.specs.Channels.{IsNewChannel}
use Rattle.lmtp_threads.proofs.channels.open_columns.Given as goal

abbrev pub invariant-loop : goal.invariant-loop
invariant-loop g l = record {
  count : vec_len l.receivers ≡ l.counter;
  channels : AllZip (IsNewChannel l.capacity l.lanes) (lists (vec_items l.columns)) (vec_items l.receivers);
}
