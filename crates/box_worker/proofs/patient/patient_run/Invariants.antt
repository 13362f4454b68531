use Rattle.std.proofs.Common.{◌≡◌, ◌≤◌, ◌<◌, ℕ, false, length}
use Rattle.std.specs.Prelude.{vec_capacity}
use Rattle.std.specs.List.{AllByRecursion}
use Rattle.mail_world.specs.declared.Note.{Note}
use Rattle.box_worker.specs.Turned.{manner_of}
use Rattle.mail_post.specs.Times.{HaveMoments}
use Rattle.mail_post.specs.Offered.{any_gone}
use Rattle.box_worker.specs.Shares.{moment_of, numbers_of, KeepsTimes, Start, AreInPlace, AreOfThread, AreNew, GaveForItsOwn}
use Rattle.box_worker.specs.PutOff.{ArePatient}
use Rattle.box_worker.proofs.patient.patient_run.Given as goal

-- after all that the thread's ends know
abbrev pub ghosts-next_copy : goal.ghosts-next_copy
ghosts-next_copy g a = record { after = moment_of a._slips.now a.receiver.now }

-- all that the channel gave so far is handled or waits, mailbox by mailbox
abbrev pub invariant-loop : goal.invariant-loop
invariant-loop g l = record {
  channel : l.receiver.channel ≡ l.fn.receiver.channel;
  lanes : l.receiver.lanes ≡ l.fn.receiver.lanes;
  capacity : l.receiver.capacity ≡ l.fn.receiver.capacity;
  room : vec_capacity l.waits ≡ vec_capacity l.fn.waits;
  few : length l.waits.items ≤ vec_capacity l.fn.waits;
  gone : l.receiver.gone ≡ l.ended;
  as_many : length l.slips ≡ l.receiver.lanes;
  of_lanes : AllByRecursion (λ (note : Note). note.txn.lane < l.receiver.lanes) l.waits.items;
  times : KeepsTimes l.slips l.receiver;
  moments : HaveMoments l.receiver.got_at l.receiver.took_at;
  places : AreInPlace l.boxes.items;
  numbered : AreOfThread l.boxes.items l.slips;
  numbers : numbers_of l.boxes.items ≡ numbers_of l.fn.boxes.items;
  only : GaveForItsOwn l.boxes.items l.slips;
  working : any_gone l.slips ≡ false → (starts : ℕ → Start)
      → AreNew l.site (manner_of g.S.Spool.MayFind g.S.Spool.MayRefuse) starts l.fn.boxes.items
      → ArePatient (vec_capacity l.fn.waits) l.site (manner_of g.S.Spool.MayFind g.S.Spool.MayRefuse) starts
      (record { senders = l.fn.slips.items; inbox = l.fn.receiver })
      (record { senders = l.slips; inbox = l.receiver }) l.waits.items l.boxes.items;
}
