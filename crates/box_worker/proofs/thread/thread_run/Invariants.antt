use Rattle.std.proofs.Common.{◌≡◌, ℕ, length}
use Rattle.box_worker.specs.Turned.{manner_of}
use Rattle.box_worker.specs.Shares.{total_of, numbers_of, KeepsTimes, Start, AreInPlace, AreOfThread, AreNew, AreWorking, GaveForItsOwn}
use Rattle.box_worker.proofs.thread.thread_run.Given as goal

-- after all that the thread's ends know
abbrev pub ghosts-take_next : goal.ghosts-take_next
ghosts-take_next g a = record { after = total_of a._slips.now a.receiver.now }

-- all that the channel gave so far is handled, mailbox by mailbox
abbrev pub invariant-loop : goal.invariant-loop
invariant-loop g l = record {
  channel : l.receiver.channel ≡ l.fn.receiver.channel;
  lanes : l.receiver.lanes ≡ l.fn.receiver.lanes;
  capacity : l.receiver.capacity ≡ l.fn.receiver.capacity;
  as_many : length l.slips ≡ l.receiver.lanes;
  times : KeepsTimes l.slips l.receiver;
  places : AreInPlace l.boxes.items;
  numbered : AreOfThread l.boxes.items l.slips;
  numbers : numbers_of l.boxes.items ≡ numbers_of l.fn.boxes.items;
  only : GaveForItsOwn l.boxes.items l.slips;
  working : (starts : ℕ → Start) → AreNew l.site (manner_of g.S.Spool.MayFind g.S.Spool.MayRefuse) starts l.fn.boxes.items
      → AreWorking l.site (manner_of g.S.Spool.MayFind g.S.Spool.MayRefuse) starts (record { senders = l.fn.slips.items; inbox = l.fn.receiver })
      (record { senders = l.slips; inbox = l.receiver }) l.boxes.items;
}
