use Rattle.std.proofs.Common.{◌≡◌, ◌+◌, ◌≤◌, ◌++◌, List, vec_len, vec_items, vec_capacity}
use Rattle.std.specs.List.{All, AllZip}
use Rattle.std.specs.Vec.Iter.{into_iter_items, into_iter_len}
use Rattle.mail_post.specs.Channel.{Sender, AreSenders}
use Rattle.lmtp_threads.specs.Grid.{lists}
use Rattle.lmtp_threads.specs.Channels.{IsShut}
use Rattle.lmtp_threads.proofs.channels.close_columns.Given as goal

-- the first channels are closed
abbrev pub invariant-loop-senders : goal.invariant-loop-senders
invariant-loop-senders g l = record {
  room : vec_len l.closed + into_iter_len l.senders-iterator ≤ vec_capacity l.closed;
  all : All AreSenders (lists (into_iter_items l.senders-iterator));
  done : (before : List (List (Sender _))) × (before ++ lists (into_iter_items l.senders-iterator) ≡ lists (vec_items l.fn.columns))
      × AllZip IsShut before (vec_items l.closed);
}
