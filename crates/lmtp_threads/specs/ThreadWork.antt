-- What one worker thread comes to: of each of its mailboxes what a worker of the mailbox's own would have.
use Rattle.std.specs.Prelude.{◌≡◌, ◌||◌, ℕ, false, List, slice_get, Option, Some}
use Rattle.mail_world.specs.declared.Note.{Note}
use Rattle.mail_world.specs.Quotas.{quota_at}
use Rattle.mail_world.specs.Site.{Site}
use Rattle.mail_post.specs.Channel.{Inbox}
use Rattle.mail_post.specs.Offered.{any_gone}
use Rattle.box_worker.specs.PutOff.{roomier}
use Rattle.box_worker.specs.Worked.{idle, is_lost, HasWorked}
use Rattle.box_worker.specs.Shares.{inbox_for, senders_for, Start, KeptState, numbers_of, worker_lost, AreOfThread, IsNew, GaveForItsOwn}
use Rattle.lmtp_threads.specs.OwnChannel.{IsOwnChannel}
use Rattle.lmtp_threads.specs.Works.{SpoolsView, setting_of}
use Rattle.lmtp_threads.specs.Reports.{ThreadBack}
use Rattle.lmtp_threads.specs.Tasks.{Numbered, ThreadTask}
use Rattle.lmtp_threads.specs.ByThread.{numbers_in}

module _ {S : Type 0} (view : SpoolsView S) where
  -- what a mailbox with that spool begins with
  abbrev pub start_of : Option ℕ → S → Start
  start_of quota spool = record { quota = quota; spool = view.state spool; told = view.told spool }

  -- what a thread keeps of a mailbox before its first copy, where these are the mailboxes' quotas
  pub record IsKept (quotas : List (Option ℕ)) (box : Numbered S) (kept : KeptState) : Type 0 where
    pub number : kept.number ≡ box.number
    pub new : (site : Site) → IsNew site view.manner (start_of (quota_at quotas box.number) box.spool) kept

  pub record IsThreadWork (task : ThreadTask S) (back : ThreadBack) : Type 0 where
    pub channel : (back.receiver.channel ≡ task.receiver.channel) × (back.receiver.lanes ≡ task.receiver.lanes)
        × (back.receiver.capacity ≡ task.receiver.capacity)
    pub lost : back.lost ≡ (any_gone back.slips || is_lost back.receiver.gone)
    pub numbers : numbers_of back.boxes ≡ numbers_in task.boxes
    pub numbered : AreOfThread back.boxes back.slips
    pub only : GaveForItsOwn back.boxes back.slips
    pub worked : any_gone back.slips ≡ false → (i : ℕ) (box : Numbered S) (kept : KeptState)
        → slice_get task.boxes i ≡ Some box → slice_get back.boxes i ≡ Some kept
        → (share : Inbox Note) × IsOwnChannel task.room box.number back.receiver share
        × HasWorked (setting_of task.share box.number) view.manner
        (roomier task.room (inbox_for box.number task.receiver)) share
        (idle (senders_for box.number task.slips) (view.state box.spool) (view.told box.spool))
        (worker_lost (senders_for box.number back.slips) kept back.lost)
