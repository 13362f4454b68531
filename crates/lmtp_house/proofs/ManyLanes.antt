-- A server with any number of lanes: what its threads did, at times that rise, is an orderly run of the model.
use Rattle.std.proofs.Common.{◌≡◌, ℕ, ◌<◌, List, length, sym, ◌∙◌, subst, arith}
use Rattle.std.specs.Prelude.{flat_map}
use Rattle.std.specs.List.{AllByRecursion}
use Rattle.mail_world.specs.declared.Note.{Note}
use Rattle.mail_world.specs.declared.limits.TheConstants.{RECIPIENT_LIMIT}
use Rattle.mail_world.specs.Site.{Site}
use Rattle.mail_world.specs.Conversation.{Conversation}
use Rattle.mail_world.specs.Lists.{copies, copies_owed, of_lane, transactions}
use Rattle.mail_runs.specs.Deeds.{turns_of}
use Rattle.mail_runs.specs.Courses.{Server, outcomes_in}
use Rattle.mail_runs.specs.Histories.{Threads}
use Rattle.mail_runs.specs.Timed.{TimedDeed, whats, times, those, gives_to, tells_to}
use Rattle.mail_runs.specs.Known.{ComeOut, is_heard, is_taken, AreLaneDeeds, AreWorkerDeeds}
use Rattle.mail_runs.specs.Ordered.{AreExchanges}
use Rattle.mail_runs.proofs.Played.{an_orderly_history_plays}
use Rattle.mail_runs.proofs.Rising.{lane_rises}
use Rattle.mail_runs.proofs.Recipients.{lane_known}
use Rattle.box_worker.specs.Told.{owed_to}
use Rattle.lmtp_lane.specs.Visits.{conversations_of}
use Rattle.lmtp_threads.specs.Works.{SpoolsView, LaneWork, BoxWork}
use Rattle.lmtp_house.specs.Handed.{HandedIn, HandedBack}
use Rattle.lmtp_house.specs.RunOfModel.{capacity_of, courses_of, server_of, threads_of, IsRunOfModel}
use Rattle.lmtp_house.proofs.RunOfModel.{HaveExchanged, is_course}
use Rattle.lmtp_house.proofs.Bridge.{IsSettledAs, AreJoined, joined_in_order}

-- all that lanes and workers did, with its times, and what was settled of their channels
pub record HaveDeeds (site : Site) (n_lanes n_boxes capacity : ℕ) (lanes : ℕ → LaneWork) (boxes : ℕ → BoxWork) : Type 0 where
  pub lane_deeds : ℕ → List TimedDeed
  pub worker_deeds : ℕ → List TimedDeed
  pub of_lanes : (k : ℕ) → k < n_lanes
      → AreLaneDeeds (flat_map (copies k) (transactions site 0 (conversations_of (lanes k).visits))) (lanes k).heard (lane_deeds k)
  pub of_workers : (b : ℕ) → b < n_boxes → AreWorkerDeeds (turns_of b (boxes b).taken (outcomes_in (boxes b).turns)) (worker_deeds b)
  pub exchanges : (k : ℕ) → k < n_lanes
      → AreExchanges RECIPIENT_LIMIT k (transactions site 0 (conversations_of (lanes k).visits)) (whats (lane_deeds k))
  pub mail : (b : ℕ) → b < n_boxes → IsSettledAs (λ note. note.txn.lane) n_lanes capacity
      (λ k. copies_owed k b (transactions site 0 (conversations_of (lanes k).visits)))
      (λ k. times (those (gives_to b) (lane_deeds k))) (boxes b).taken (times (those is_taken (worker_deeds b)))
  pub took : (k b : ℕ) → k < n_lanes → b < n_boxes → of_lane k (boxes b).taken ≡ copies_owed k b (transactions site 0 (conversations_of (lanes k).visits))
  pub slip_room : ℕ → ℕ
  pub slips : (k : ℕ) → k < n_lanes → IsSettledAs (λ slip. slip.worker) n_boxes (slip_room k)
      (λ b. owed_to b (outcomes_in (boxes b).turns) k (boxes b).taken)
      (λ b. times (those (tells_to k) (worker_deeds b))) (lanes k).heard (times (those is_heard (lane_deeds k)))

module _ {V S : Type 0} (site : Site) (spools : SpoolsView S) (lanes : ℕ → LaneWork) (boxes : ℕ → BoxWork)
    (old : HandedIn V S) (new : HandedBack V S) (h : HaveExchanged site spools lanes boxes old new)
    (each_box : length old.spools ≡ length site.boxes) (some_boxes : 0 < length old.spools)
    (d : HaveDeeds site (length old.visits) (length old.spools) (capacity_of old) lanes boxes) where
  abbrev server : Server
  server = server_of site old

  abbrev threads : Threads
  threads = threads_of site lanes (courses_of spools.state boxes old)

  abbrev held_by : ℕ → List Conversation
  held_by k = conversations_of (lanes k).visits

  came_out : ComeOut server threads
  came_out = record {
    rise = λ k low. lane_rises site (held_by k);
    courses = is_course site spools lanes boxes old new h;
    for_boxes = λ k low.
        let P : ℕ → Type 0 = λ n. AllByRecursion (λ (note : Note). note.mailbox < n) (flat_map (copies k) (transactions site 0 (held_by k))) in
        subst P (sym each_box) (lane_known site (omega (arith, each_box, some_boxes)) k (held_by k));
    taken = d.took;
    taken_only = h.owed_only;
    heard = h.told;
    heard_only = h.told_only;
  }

  joined : AreJoined RECIPIENT_LIMIT (capacity_of old) server threads
  joined = record {
    came_out = came_out;
    lane_deeds = d.lane_deeds;
    worker_deeds = d.worker_deeds;
    lanes = d.of_lanes;
    workers = d.of_workers;
    exchanges = d.exchanges;
    mail = d.mail;
    slip_room = d.slip_room;
    slips = d.slips;
  }

  pub all_lanes_run : IsRunOfModel site spools.state lanes boxes old
  all_lanes_run =
      let order = joined_in_order RECIPIENT_LIMIT (capacity_of old) server threads joined in
      let run = an_orderly_history_plays RECIPIENT_LIMIT (capacity_of old) server threads order.0 order.1 in
      record { is = run; offered = λ k b low below. run.is.offered k b below ∙ h.owed k b low below }
