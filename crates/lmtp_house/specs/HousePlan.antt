-- A server before its threads start.
use Rattle.std.specs.Prelude.{◌≡◌, ℕ, ◌<◌, Bool, false, List, length}
use Rattle.std.specs.List.{AllByRecursion}
use Rattle.mail_world.specs.declared.Note.{Note}
use Rattle.mail_world.specs.declared.Slip.{Slip}
use Rattle.mail_world.specs.Site.{Site}
use Rattle.mail_post.specs.Channel.{Sender, Inbox}
use Rattle.mail_post.specs.declared.kinds.TheConstants.{SLIP_CAPACITY}
use Rattle.mail_post.specs.WorkerThreads.{threads_for}
use Rattle.lmtp_threads.specs.OwnChannel.{room_beside}
use Rattle.lmtp_threads.specs.Works.{VisitsView, SpoolsView, share_of}
use Rattle.lmtp_house.specs.Handed.{HandedIn, HandedBack}
use Rattle.lmtp_house.specs.House.{HasRun}
use Rattle.lmtp_threads.specs.Channels.{Shape, AreNewChannels}
use Rattle.lmtp_threads.specs.Tasks.{LaneTask, lane_tasks, ThreadTask, thread_tasks}

-- lanes and worker threads before they run, and the channels that are to be closed: of mail, and of slips
pub record PlanState (V S C : Type 0) : Type 0 where
  pub lanes : List (LaneTask V C)
  pub workers : List (ThreadTask S)
  pub mail : Shape
  pub slips : Shape

-- the same, part by part
abbrev pub plan_state : {V S C : Type 0} → List (LaneTask V C) → List (ThreadTask S) → Shape → Shape → PlanState V S C
plan_state lanes workers mail slips = record { lanes = lanes; workers = workers; mail = mail; slips = slips }

-- Lanes for these visits and worker threads for these spools, over new channels that nobody has used, those of mail of
-- the capacity that is handed in, and what closes the channels.
pub record IsPlanned {V S C : Type 0} (site : Site) (clock : C) (handed : HandedIn V S) (plan : PlanState V S C)
    : Type 0 where
  pub mail_rows : List (List (Sender Note))
  pub mail : List (Inbox Note)
  pub slip_rows : List (List (Sender Slip))
  pub slips : List (Inbox Slip)
  pub lanes_are : plan.lanes ≡ lane_tasks site clock 0 handed.visits mail_rows slips
  pub workers_are : plan.workers ≡ thread_tasks (share_of site handed.quotas)
      (room_beside (length handed.spools) (length handed.visits)) 0 mail slip_rows handed.spools
  pub mail_new : AreNewChannels handed.capacity (length handed.visits) (threads_for (length handed.spools)) mail_rows
      mail
  pub slips_new : AreNewChannels SLIP_CAPACITY (threads_for (length handed.spools)) (length handed.visits) slip_rows
      slips
  pub mail_closes : plan.mail ≡ record { lanes = length handed.visits; count = threads_for (length handed.spools) }
  pub slips_close : plan.slips ≡ record { lanes = threads_for (length handed.spools); count = length handed.visits }
  pub some_lanes : 0 < length handed.visits
  pub some_boxes : 0 < length handed.spools
  pub each_box : length handed.spools ≡ length site.boxes

-- the threads may start: no lane has a client out
pub record MayRun {V S C : Type 0} (out : V → Bool) (plan : PlanState V S C) : Type 0 where
  pub site : Site
  pub clock : C
  pub handed : HandedIn V S
  pub planned : IsPlanned site clock handed plan
  pub none_out : AllByRecursion (λ v. out v ≡ false) handed.visits

-- whatever was planned has been run
abbrev pub HasRunAll : {V S C : Type 0} → (C → ℕ → Type 0) → VisitsView V → SpoolsView S → PlanState V S C
    → HandedBack V S → Type 0
HasRunAll {V} {S} {C} May view spools plan back =
    (site : Site) (clock : C) (handed : HandedIn V S) → IsPlanned site clock handed plan
    → HasRun site (May clock) view spools handed back
