-- What the columns have of a lane's report and of a worker thread's, and what is told of a mailbox.
use Rattle.std.specs.Prelude.{◌≡◌, ℕ, Bool, List}
use Rattle.std.specs.Vec.Iter.{into_iter_items}
use Rattle.std.specs.declared.vec.IntoIter.{IntoIter}
use Rattle.mail_world.specs.declared.Note.{Note}
use Rattle.mail_world.specs.declared.Slip.{Slip}
use Rattle.mail_post.specs.Channel.{Sender, Inbox}
use Rattle.box_worker.specs.Shares.{KeptState}
use Rattle.box_worker.specs.declared.report.ThreadReport.{ThreadReport}
use Rattle.lmtp_lane.specs.LaneRun.{LaneBack}
use Rattle.lmtp_threads.specs.declared.tally.Tally.{Tally}
use Rattle.lmtp_threads.specs.Columns.{ColumnsState, ReportParts}
use Rattle.lmtp_threads.specs.Works.{VisitsView, SpoolsView}

-- the columns of lanes that serve clients of one kind
abbrev pub LaneColumns : Type 0 → Type 0
LaneColumns V = ColumnsState (Sender Note) (Inbox Slip) V ℕ

-- a lane tells of the clients which conversations have ended, whether no client is left, and what the observer was told
abbrev pub lane_parts : {V : Type 0} → VisitsView V → ReportParts LaneBack (Sender Note) (Inbox Slip) V ℕ
lane_parts view = record {
  row = λ report. report.senders;
  inbox = λ report. report.slips;
  TellsOf = λ report visits. (report.finished ≡ view.finished visits) × (report.over ≡ view.over visits)
      × (report.told ≡ view.told visits);
  tally = λ report. report.conversations;
  gone = λ report. report.gone;
}

-- the columns of worker threads whose mailboxes' spools are of one kind: their ends by thread, and by mailbox the
-- spools and what was counted there
abbrev pub WorkerColumns : Type 0 → Type 0
WorkerColumns S = ColumnsState (Sender Slip) (Inbox Note) S Tally

-- what is counted at a mailbox
abbrev pub tally_of : KeptState → Tally
tally_of kept = record {
  taken = kept.taken;
  stored = kept.mailbox.mailbox.stored;
  over = kept.mailbox.mailbox.over;
  in_use = kept.mailbox.in_use;
  faulty = kept.mailbox.mailbox.faulty;
}

-- a mailbox tells of its spool what contracts see of it, and what the observer was told
abbrev pub TellsOfSpool : {S : Type 0} → SpoolsView S → KeptState → S → Type 0
TellsOfSpool view kept spool = (kept.mailbox.mailbox.state ≡ view.state spool) × (kept.told ≡ view.told spool)

-- what a worker thread hands back: its ends of the channels, its mailboxes, and whether a channel was found gone
pub record ThreadBack : Type 0 where
  pub receiver : Inbox Note
  pub slips : List (Sender Slip)
  pub boxes : List KeptState
  pub lost : Bool

abbrev pub thread_back : {N S G O : Type 0} → ThreadReport N S G O → ThreadBack
thread_back report = record {
  receiver = report.receiver;
  slips = report.slips.items;
  boxes = report.boxes.items;
  lost = report.lost;
}

-- by thread, what it lends are its mailboxes, and it says nothing of itself
abbrev pub thread_parts : {N S G O A : Type 0}
    → ReportParts (ThreadReport N S G O) (Sender Slip) (Inbox Note) (IntoIter KeptState A) (Unit {0})
thread_parts = record {
  row = λ report. report.slips.items;
  inbox = λ report. report.receiver;
  TellsOf = λ report boxes. into_iter_items boxes ≡ report.boxes.items;
  tally = λ report. tt;
  gone = λ report. report.lost;
}
