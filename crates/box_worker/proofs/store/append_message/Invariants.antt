use Rattle.std.proofs.Common.{◌≡◌, ◌+◌, ◌-◌, ◌^◌, ◌<◌, min, length, take, drop}
use Rattle.mail_world.specs.declared.limits.TheConstants.{WORKER_BUFFER_SIZE}
use Rattle.mbox_record.specs.Writing.{WritesPiece}
use Rattle.box_worker.proofs.store.append_message.Given as goal

-- the writer has the message up to a place, and the next bytes are read
abbrev pub invariant-loop-n : goal.invariant-loop-n
invariant-loop-n g l = record {
  same : l.hold ≡ l.fn.hold;
  long : length l.bytes ≡ WORKER_BUFFER_SIZE;
  count : l.n ≡ min WORKER_BUFFER_SIZE (length l.fn.hold.bytes - l.at);
  next : take l.n l.bytes ≡ take l.n (drop l.at l.fn.hold.bytes);
  end : l.at + l.n < 2 ^ 64;
  written : WritesPiece (g.S.Spool.state l.fn.spool) (g.S.Spool.state l.spool) l.fn.begun l.writer (take l.at l.fn.hold.bytes);
}

abbrev pub decreases-loop-n : goal.decreases-loop-n
decreases-loop-n g l = length l.hold.bytes - l.at
