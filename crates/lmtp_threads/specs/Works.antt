-- What one lane and one worker did, and what is told of it.
use Rattle.std.specs.Prelude.{◌≡◌, ℕ, Bool, false, List, length, Option}
use Rattle.std.specs.List.{count_by}
use Rattle.mail_world.specs.declared.Note.{Note}
use Rattle.mail_world.specs.declared.Slip.{Slip}
use Rattle.mail_world.specs.Site.{Site}
use Rattle.mail_world.specs.Counts.{counted}
use Rattle.mail_world.specs.Quotas.{quota_at}
use Rattle.mail_world.specs.Turns.{Standing, Told}
use Rattle.mail_runs.specs.Courses.{outcomes_in}
use Rattle.mail_writing.specs.Calendar.{civil_at}
use Rattle.mbox_spool.specs.Spool.{SpoolState}
use Rattle.box_worker.specs.declared.turn.TurnEnd.{TurnEnd}
use Rattle.box_worker.specs.Limits.{Setting}
use Rattle.box_worker.specs.Told.{is_stored, says_over_quota}
use Rattle.box_worker.specs.Turned.{Manner, manner_of, turned, HasTurned}
use Rattle.lmtp_talk.specs.Entries.{Entry}
use Rattle.lmtp_talk.specs.Peer.{PeerState}
use Rattle.lmtp_lane.specs.Visits.{VisitsTold, Visit}
use Rattle.lmtp_threads.specs.declared.tally.Tally.{Tally}
use Rattle.lmtp_threads.specs.declared.watched.Watched.{Watched}

-- what contracts see of one kind of clients: those that may come, the conversations that have ended, whether no client
-- is left, and what their observer was told
pub record VisitsView (V : Type 0) : Type 1 where
  pub MayGive : V → PeerState → Type 0
  pub finished : V → VisitsTold
  pub over : V → Bool
  pub told : V → Option (List Entry)

-- the same, part by part, of clients and an observer beside them
abbrev pub visits_view : {V O : Type 0} → (V → PeerState → Type 0) → (V → VisitsTold) → (V → Bool)
    → (O → Option (List Entry)) → VisitsView (Watched V O)
visits_view MayGive finished over told = record {
  MayGive = λ visits. MayGive visits.inner;
  finished = λ visits. finished visits.inner;
  over = λ visits. over visits.inner;
  told = λ visits. told visits.observer;
}

-- a client was handed out, and has not come back
abbrev pub is_out : {V O : Type 0} → (V → Bool) → Watched V O → Bool
is_out out visits = out visits.inner

-- what contracts see of one kind of spools: how each stands, how they change between two turns, and what their observer
-- was told
pub record SpoolsView (S : Type 0) : Type 1 where
  pub state : S → SpoolState
  pub manner : Manner
  pub told : S → Option (List TurnEnd)

-- the same, part by part, of spools and an observer beside each
abbrev pub spools_view : {S T : Type 0} → (S → SpoolState) → (Standing → Standing → Type 0) → (Bool → Bool → Type 0)
    → (T → Option (List TurnEnd)) → SpoolsView (Watched S T)
spools_view state MayFind MayRefuse told = record {
  state = λ spool. state spool.inner;
  manner = manner_of MayFind MayRefuse;
  told = λ spool. told spool.observer;
}

-- what a lane did: the clients that it served, and the slips that it heard
pub record LaneWork : Type 0 where
  pub visits : List Visit
  pub heard : List Slip

-- what all workers share: the site, and the quota of each mailbox, if it has one, by the mailboxes' numbers
pub record WorkerShare : Type 0 where
  pub site : Site
  pub quotas : List (Option ℕ)

abbrev pub share_of : Site → List (Option ℕ) → WorkerShare
share_of site quotas = record { site = site; quotas = quotas }

-- what stays while worker b runs, mailbox b's own quota among it
abbrev pub setting_of : WorkerShare → ℕ → Setting
setting_of share b = record {
  calendar = civil_at;
  site = share.site;
  quota = quota_at share.quotas b;
  worker = b;
}

-- what a worker did: the copies that it took, and their turns, with what it told of each
pub record BoxWork : Type 0 where
  pub taken : List Note
  pub turns : List Told

-- what is told of a lane's run: the conversations that had ended before it and after it, what its observer had been
-- told earlier and later, whether no client was left, and how many it held
pub record LaneTold : Type 0 where
  pub before : VisitsTold
  pub after : VisitsTold
  pub earlier : Option (List Entry)
  pub later : Option (List Entry)
  pub over : Bool
  pub count : ℕ

abbrev pub lane_told : {V : Type 0} → VisitsView V → V → V → ℕ → LaneTold
lane_told view before after count = record {
  before = view.finished before;
  after = view.finished after;
  earlier = view.told before;
  later = view.told after;
  over = view.over after;
  count = count;
}

-- A mailbox's worker took these copies, and each had its turn at the mailbox, in their order.
pub record IsBoxWork (at : Setting) (manner : Manner) (work : BoxWork) (old new : SpoolState) (tally : Tally)
    : Type 0 where
  pub taken_count : tally.taken ≡ counted (length work.taken)
  pub stored_count : tally.stored ≡ counted (count_by is_stored (outcomes_in work.turns))
  pub over_count : tally.over ≡ counted (count_by says_over_quota (outcomes_in work.turns))
  pub turned : HasTurned at manner work.taken work.turns (turned old false 0)
      (turned new tally.faulty tally.in_use)
