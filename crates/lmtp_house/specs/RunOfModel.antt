-- What a server's threads did is an orderly run of the model of `mail_world`: what holds of each run there, and what
-- `mail_progress` says of each orderly run, holds of this server.
use Rattle.std.specs.Prelude.{◌≡◌, ◌<◌, ℕ, ◌+◌, false, List, [], length, map, get_or}
use Rattle.mail_world.specs.declared.limits.TheConstants.{RECIPIENT_LIMIT}
use Rattle.mail_world.specs.Quotas.{quota_at}
use Rattle.mail_world.specs.Site.{Site}
use Rattle.mail_world.specs.Lists.{transactions, due}
use Rattle.mail_world.specs.Runs.{events_of, offers_by}
use Rattle.mail_world.specs.Turns.{Standing, Told, AreAlone, left_by}
use Rattle.mail_runs.specs.Courses.{Server, Course}
use Rattle.mail_runs.specs.Histories.{Threads}
use Rattle.mail_runs.specs.Ordered.{IsOrderlyRunOf}
use Rattle.mail_writing.specs.Calendar.{civil_at}
use Rattle.mbox_spool.specs.Spool.{SpoolState}
use Rattle.box_worker.specs.Turned.{Manner}
use Rattle.lmtp_lane.specs.Visits.{conversations_of}
use Rattle.lmtp_threads.specs.OwnChannel.{room_beside}
use Rattle.lmtp_threads.specs.Works.{LaneWork, BoxWork}
use Rattle.lmtp_house.specs.Handed.{HandedIn}

-- a mailbox's course: its own quota, what its spool held at first, the copies that its worker took, and their turns
abbrev pub courses_of : {V S : Type 0} → (S → SpoolState) → (ℕ → BoxWork) → HandedIn V S → ℕ → Course
courses_of state boxes old b = record {
  quota = quota_at old.quotas b;
  old = get_or (map (λ spool. (state spool).bytes) old.spools) b [];
  taken = (boxes b).taken;
  turns = (boxes b).turns;
}

-- the model's server: this site, its calendar, as many lanes and mailboxes
abbrev pub server_of : {V S : Type 0} → Site → HandedIn V S → Server
server_of site old = record {
  calendar = civil_at;
  site = site;
  lanes = length old.visits;
  boxes = length old.spools;
}

-- what its threads come to: each lane has the transactions of its conversations, and heard what this server's lane did
abbrev pub threads_of : Site → (ℕ → LaneWork) → (ℕ → Course) → Threads
threads_of site lanes courses = record {
  transactions = λ k. transactions site 0 (conversations_of (lanes k).visits);
  heard = λ k. (lanes k).heard;
  courses = courses;
}

-- how many copies may wait for a mailbox: in its thread's channel, and above 256 mailboxes in the list beside it too
abbrev pub capacity_of : {V S : Type 0} → HandedIn V S → ℕ
capacity_of old = old.capacity + room_beside (length old.spools) (length old.visits)

-- There is an orderly run of the model, from a start at which nothing has happened but that each mailbox holds what
-- this server's spool held, and has its quota, in which each lane offers each mailbox just the copies that its
-- conversations owe, and at whose end each mailbox and each lane has what this server's has, a mailbox the turns that
-- its worker had. Its mailboxes' channels have this server's capacity, and above 256 mailboxes with it that of the lists
-- beside its threads' channels; a lane's channel has room for the slips of a message to as many recipients as there may
-- be: no copy is offered and no slip given to a full channel, and a lane begins a message once each copy of its last
-- one is answered. The run has a depot that is large enough: of slots and blocks it says nothing.
pub record IsRunOfModel {V S : Type 0} (site : Site) (state : S → SpoolState) (lanes : ℕ → LaneWork)
    (boxes : ℕ → BoxWork) (old : HandedIn V S) : Type 0 where
  pub is : IsOrderlyRunOf RECIPIENT_LIMIT (capacity_of old) (server_of site old)
      (threads_of site lanes (courses_of state boxes old))
  pub offered : (k b : ℕ) → k < length old.visits → b < length old.spools
      → offers_by k b (events_of is.is.run) ≡ due site k b (conversations_of (lanes k).visits)

-- nobody else changes such a spool, which is between two turns
pub record IsNobodyElses (manner : Manner) (spool : SpoolState) : Type 0 where
  pub free : spool.turn.in_turn ≡ false
  pub same : (last now : Standing) → manner.MayFind last now → now.bytes ≡ last.bytes

-- these bytes were left alone before the turns, between them and after them
pub record IsLeftAlone (turns : List Told) (before after : List ℕ) : Type 0 where
  pub between : AreAlone before turns
  pub left : after ≡ left_by before turns
