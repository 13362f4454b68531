-- A run whose only lane is sent a copy for anna, at either site, however her mailbox's turn ends.
use Rattle.std.proofs.Common.{◌≡◌, ℕ, zero, suc, ◌+◌, ◌<◌, ◌≤◌, List, [], ◌∷◌, length, map, Bool, true, false}
use Rattle.std.proofs.Common.{cond, Some, None, refl, sym, ◌∙◌, subst, inl, inr, lit<, lit≤, arith, take-append-drop}
use Rattle.std.specs.Prelude.{◌==◌, slice_get, count_by, flat_map, take, drop, ⊤}
use Rattle.std.specs.List.{AllByRecursion}
use Rattle.mail_world.specs.declared.Note.{Note}
use Rattle.mail_world.specs.declared.Slip.{Slip}
use Rattle.mail_world.specs.declared.Outcome.{Outcome}
use Rattle.mail_world.specs.declared.limits.TheConstants.{READ_LIMIT, RECIPIENT_LIMIT}
use Rattle.mail_world.specs.Counts.{counted}
use Rattle.mail_world.specs.Conversation.{IsAccount, inputs, replies}
use Rattle.mail_world.specs.Lists.{Transaction, transactions, copies, of_lane, due, VerdictsFit, OutcomesAreAnswers}
use Rattle.mail_world.specs.Reading.{Letter}
use Rattle.mail_world.specs.Slips.{slip_of, of_worker}
use Rattle.mail_world.specs.Turns.{Standing, Told, Had, IsTurn, KeepsInTurn, last_broke}
use Rattle.mail_world.proofs.Computed.{everything}
use Rattle.mail_runs.specs.Courses.{IsCourse, outcomes_in}
use Rattle.mail_runs.specs.Deeds.{Deed, Gave, Took, Told as Tells, Heard, given_by, given_to, taken_by, told_to}
use Rattle.mail_runs.specs.Deeds.{heard_by, worked_by, turns_of}
use Rattle.mail_runs.specs.Histories.{Threads, HearsTold}
use Rattle.mail_runs.specs.Ordered.{done_by, AreExchanges, FindsRoom, IsOrderlyHistory}
use Rattle.mail_runs.proofs.Rising.{lane_rises}
use Rattle.mail_runs.proofs.Played.{an_orderly_history_plays}
use Rattle.mail_lives.specs.Fates.{Untouched}
use Rattle.mail_lives.specs.Lives.{Gap}
use Rattle.mail_lives.proofs.Lists.{taken}
use Rattle.mbox_spool.specs.Spool.{SpoolState}
use Rattle.box_worker.specs.declared.turn.TurnEnd.{TurnEnd}
use Rattle.box_worker.specs.Told.{is_stored, says_over_quota, owed_to}
use Rattle.box_worker.specs.Turned.{IsFullWhereBroken}
use Rattle.box_worker.specs.TurnEnds.{IsEndOf, TellsTurns}
use Rattle.mail_writing.specs.Calendar.{civil_at}
use Rattle.lmtp_talk.specs.declared.ending.EndCause.TheVariants.{WriteFault}
use Rattle.lmtp_talk.specs.Entries.{Entry, with_entries}
use Rattle.lmtp_talk.specs.Peer.{PeerState}
use Rattle.lmtp_talk.specs.Served.{terms}
use Rattle.lmtp_lane.specs.Visits.{Visit, VisitsTold, IsVisit, lane_entries}
use Rattle.lmtp_threads.specs.Works.{LaneWork, BoxWork, lane_told, setting_of, share_of, IsBoxWork}
use Rattle.lmtp_threads.specs.declared.tally.Tally.{Tally}
use Rattle.lmtp_threads.specs.declared.watched.Watched.{Watched}
use Rattle.lmtp_house.specs.Handed.{HandedIn, HandedBack}
use Rattle.lmtp_house.specs.House.{HasRun, IsLaneWork}
use Rattle.lmtp_house.specs.RunOfModel.{capacity_of, courses_of, server_of, threads_of}
use Rattle.lmtp_lives.specs.Rows.{Run, Clients, Mailbox, view, spools, sent, note}
use Rattle.lmtp_lives.proofs.TwoSites.{only, site_of, place, each_of, two, each_box, place_low, at_each}

-- that many clients were served; a client that was read and failed that often
abbrev served : ℕ → VisitsTold
served n = record { each = None; count = n }

abbrev client : ℕ → PeerState
client n = record { read = None; unread = None; written = None; reads = n; failures = n; stops = 0; holds = [] }

-- a spool that stands so after these turns, and what its worker says of them
abbrev spool : Standing → List Told → SpoolState
spool at turns = record {
  bytes = at.bytes;
  failures = at.failures;
  limit = None;
  synced = at.synced;
  turn = record {
    in_turn = false;
    has_failed = last_broke false turns;
    is_unsynced = false;
    refusals = 0;
    began = None;
    turns = map (λ told. told.turn) turns;
  };
}

abbrev tally : List Note → List Told → Tally
tally notes turns = record {
  taken = counted (length notes);
  stored = counted (count_by is_stored (outcomes_in turns));
  over = counted (count_by says_over_quota (outcomes_in turns));
  in_use = 0;
  faulty = last_broke false turns;
}

-- something beside its observer
abbrev beside : {T O : Type 0} → T → O → Watched T O
beside inner observer = record { inner = inner; observer = observer }

-- the other mailbox, to which nothing comes
abbrev idle : Mailbox
idle = beside (spool (record { bytes = []; synced = 0; failures = 0 }) []) (Some [])

abbrev no_work : BoxWork
no_work = record { taken = []; turns = [] }

-- others leave all letters as they are
abbrev pub untouched : List Letter → Gap
untouched letters = record { fates = map (λ l. Untouched) letters; added = [] }

-- the turn ended so, and of the replies the client got that many bytes
module _ (outcome : Outcome) (end : TurnEnd) (lock unlock : Standing) (got : ℕ) where
  abbrev turns : List Told
  turns = record { outcome = outcome; turn = Had lock unlock } ∷ []

  abbrev visit : Visit
  visit = record { before = client 0; after = client 1; conversation = sent outcome; cause = WriteFault }

  -- what the lane's observer was told
  unfoldable pub entries : Bool → List Entry
  entries t = lane_entries (site_of t) 0 (visit ∷ [])

  abbrev came : Clients
  came = beside (served 0) (Some [])

  abbrev went : Bool → Clients
  went t = beside (served 1) (Some (entries t))

  abbrev before_turn : Mailbox
  before_turn = beside (spool lock []) (Some [])

  abbrev after_turn : Mailbox
  after_turn = beside (spool unlock turns) (Some (end ∷ []))

  abbrev handed : Bool → HandedIn Clients Mailbox
  handed t = record { visits = came ∷ []; spools = each_of t before_turn idle; capacity = 1; quotas = each_of t None None }

  abbrev tallied : Tally
  tallied = tally (note 0 ∷ []) turns

  abbrev back : Bool → HandedBack Clients Mailbox
  back t = record {
    visits = went t ∷ [];
    spools = each_of t after_turn idle;
    conversations = 1 ∷ [];
    tallies = each_of t tallied (tally [] []);
    blocks = 1;
    slots = 1;
  }

  abbrev slip : Bool → Slip
  slip t = slip_of (place t) (note (place t)) outcome

  abbrev lane : Bool → LaneWork
  lane t = record { visits = visit ∷ []; heard = slip t ∷ [] }

  abbrev box : Bool → BoxWork
  box t = record { taken = note (place t) ∷ []; turns = turns }

  abbrev boxes : Bool → ℕ → BoxWork
  boxes t b = cond (place t == b) (box t) no_work

  -- what holds of each mailbox, by the three that there are
  abbrev of_each : (P : Bool → ℕ → Type 0) → P false 0 → P true 0 → P true 1
      → (t : Bool) (b : ℕ) → b < length (handed t).spools → P t b
  of_each P = each_box before_turn idle P

  -- ---- by computation

  accounted : (t : Bool) → IsAccount (site_of t) (sent outcome)
  unfolding everything
  accounted false = record { outcomes = (refl, tt); none_left = refl; none_lacks = tt; none_busy = λ e. refl }
  accounted true = record { outcomes = (refl, tt); none_left = refl; none_lacks = tt; none_busy = λ e. refl }

  verdicts : (t : Bool) → VerdictsFit (site_of t) (sent outcome ∷ [])
  unfolding everything
  verdicts false = (
    record {
      too_large = (λ e. cc, λ h. absurd (omega (arith, h.0)));
      malformed = (λ e. cc, λ h. let wrong : false ≡ true = h.1 in cc);
      no_number = λ above. absurd (omega (arith, above));
    },
    tt,
  )
  verdicts true = (
    record {
      too_large = (λ e. cc, λ h. absurd (omega (arith, h.0)));
      malformed = (λ e. cc, λ h. let wrong : false ≡ true = h.1 in cc);
      no_number = λ above. absurd (omega (arith, above));
    },
    tt,
  )

  moments : (t : Bool) → AllByRecursion (λ (x : Transaction). ⊤) (transactions (site_of t) 0 (sent outcome ∷ []))
  unfolding everything
  moments false = (tt, tt)
  moments true = (tt, tt)

  answered : (t : Bool) → OutcomesAreAnswers (site_of t) 0 (slip t ∷ []) (sent outcome ∷ [])
  unfolding everything
  answered false = (refl, tt)
  answered true = (refl, tt)

  pub owed : (t : Bool) (k b : ℕ) → k < 1 → b < length (handed t).spools
      → of_lane k (boxes t b).taken ≡ due (site_of t) k b (sent outcome ∷ [])
  unfolding everything
  owed t k b low is =
      only (λ k. of_lane k (boxes t b).taken ≡ due (site_of t) k b (sent outcome ∷ []))
      (of_each (λ t b. of_lane 0 (boxes t b).taken ≡ due (site_of t) 0 b (sent outcome ∷ [])) refl refl refl t b is)
      k low

  pub told_of : (t : Bool) (k b : ℕ) → k < 1 → b < length (handed t).spools
      → of_worker b (slip t ∷ []) ≡ owed_to b (outcomes_in (boxes t b).turns) k (boxes t b).taken
  told_of t k b low is =
      only (λ k. of_worker b (slip t ∷ []) ≡ owed_to b (outcomes_in (boxes t b).turns) k (boxes t b).taken)
      (of_each (λ t b. of_worker b (slip t ∷ []) ≡ owed_to b (outcomes_in (boxes t b).turns) 0 (boxes t b).taken)
      refl refl refl t b is) k low

  -- ---- the lane

  is_visit : (t : Bool) → IsVisit (terms (site_of t) READ_LIMIT) (λ peer. ⊤) visit
  is_visit t =
      let text : List ℕ = replies (site_of t) (inputs (site_of t) (sent outcome)) in record {
        client = tt;
        reads = record { made = 1; counts = inl refl; within = lit≤ tt; read_bound = λ e. cc };
        said = take got text;
        moved = record { read = tt; unread = tt; written = tt; still = refl };
        accounted = accounted t;
        says = record {
          begins = record { rest = drop got text; whole = sym (take-append-drop got text) };
          whole = λ fails. absurd (fails refl);
        };
        causes = record {
          quit = λ e. cc;
          quits = λ e. inr refl;
          end_of_input = λ e. cc;
          read_bound = λ e. cc;
          stop = λ e. cc;
          stops = λ e. cc;
          rose = λ e. cc;
          kept = λ e. refl;
          read_fault = λ e. cc;
          write_fault = λ e. inl (lit< tt);
          sound = λ reads writes. absurd (writes refl);
        };
      }

  entries_told : (t : Bool) → Some (entries t) ≡ with_entries (Some []) (lane_entries (site_of t) 0 (visit ∷ []))
  unfolding entries
  entries_told t = refl

  lane_work : (t : Bool)
      → IsLaneWork (site_of t) (λ moment. ⊤) (λ peer. ⊤) 0 (lane t) (lane_told view came (went t) 1)
  lane_work t = record {
    visited = record { told = refl; counts = inl refl; each = (is_visit t, tt) };
    logged = entries_told t;
    ended = refl;
    counts = refl;
    verdicts = verdicts t;
    moments = moments t;
    answered = answered t;
  }

  pub lane_works : (t : Bool) (k count : ℕ) (before after : Clients) → slice_get (came ∷ []) k ≡ Some before
      → slice_get (went t ∷ []) k ≡ Some after → slice_get (1 ∷ []) k ≡ Some count
      → IsLaneWork (site_of t) (λ moment. ⊤) (λ peer. ⊤) k (lane t) (lane_told view before after count)
  lane_works t zero count before after x y z =
      let same : (came, went t, 1) ≡ (before, after, count) = cc in
      subst (λ (s : Clients × Clients × ℕ). IsLaneWork (site_of t) (λ moment. ⊤) (λ peer. ⊤) 0 (lane t)
      (lane_told view s.0 s.1 s.2)) same (lane_work t)
  lane_works t (suc k) count before after x y z = cc

  -- ---- the order of all that was done

  abbrev deeds : Bool → List Deed
  deeds t = Gave (note (place t)) ∷ Took (note (place t)) ∷ Tells (slip t) ∷ Heard (slip t) ∷ []

  abbrev threads : Bool → Threads
  threads t = threads_of (site_of t) (λ k. lane t) (courses_of spools.state (boxes t) (handed t))

  -- nothing is taken or heard before it was given or told
  abbrev Takes : ℕ → Bool → ℕ → Type 0
  Takes n t b = length (taken_by b (take n (deeds t))) ≤ 0 + length (given_to b (take n (deeds t)))

  takes : (n : ℕ) (t : Bool) (b : ℕ) → b < length (handed t).spools → Takes n t b
  takes zero = of_each (Takes 0) (lit≤ tt) (lit≤ tt) (lit≤ tt)
  takes (suc zero) = of_each (Takes 1) (lit≤ tt) (lit≤ tt) (lit≤ tt)
  takes (suc (suc zero)) = of_each (Takes 2) (lit≤ tt) (lit≤ tt) (lit≤ tt)
  takes (suc (suc (suc zero))) = of_each (Takes 3) (lit≤ tt) (lit≤ tt) (lit≤ tt)
  takes (suc (suc (suc (suc zero)))) = of_each (Takes 4) (lit≤ tt) (lit≤ tt) (lit≤ tt)
  takes (suc (suc (suc (suc (suc n))))) = of_each (Takes (suc (suc (suc (suc (suc n)))))) (lit≤ tt) (lit≤ tt) (lit≤ tt)

  abbrev Hears : ℕ → Bool → Type 0
  Hears n t = length (heard_by 0 (take n (deeds t))) ≤ 0 + length (told_to 0 (take n (deeds t)))

  hears : (n : ℕ) (t : Bool) → Hears n t
  hears zero t = lit≤ tt
  hears (suc zero) t = lit≤ tt
  hears (suc (suc zero)) t = lit≤ tt
  hears (suc (suc (suc zero))) t = lit≤ tt
  hears (suc (suc (suc (suc zero)))) t = lit≤ tt
  hears (suc (suc (suc (suc (suc n))))) t = lit≤ tt

  finds_room : (t : Bool) (b : ℕ) → FindsRoom 1 b 0 (deeds t)
  finds_room t b [] after n e is = lit< tt
  finds_room t b (x ∷ []) after n e is = cc
  finds_room t b (x ∷ y ∷ []) after n e is = cc
  finds_room t b (x ∷ y ∷ z ∷ []) after n e is = cc
  finds_room t b (x ∷ y ∷ z ∷ w ∷ []) after n e is = cc
  finds_room t b (x ∷ y ∷ z ∷ w ∷ v ∷ before) after n e is = cc

  given : (t : Bool) → given_by 0 (deeds t) ≡ flat_map (copies 0) ((threads t).transactions 0)
  unfolding everything
  given false = refl
  given true = refl

  exchanged : (t : Bool) → AreExchanges RECIPIENT_LIMIT 0 ((threads t).transactions 0) (done_by 0 (deeds t))
  unfolding everything
  exchanged false = (slip false ∷ [], [], refl, lit≤ tt, (tt, tt), refl)
  exchanged true = (slip true ∷ [], [], refl, lit≤ tt, (tt, tt), refl)

  module _ (ended : IsEndOf (record { outcome = outcome; turn = Had lock unlock }) end)
      (keeps : KeepsInTurn outcome (Had lock unlock)) (full : IsFullWhereBroken None outcome (Had lock unlock)) where
    abbrev HadIt : Bool → Type 0
    HadIt t = IsTurn civil_at (site_of t) None (note (place t)) outcome (Had lock unlock)

    abbrev IsCourseOf : Bool → ℕ → Type 0
    IsCourseOf t b = HadIt t → IsCourse (server_of (site_of t) (handed t)) ((threads t).courses b)

    courses : (t : Bool) (b : ℕ) → b < length (handed t).spools → IsCourseOf t b
    courses = of_each IsCourseOf (λ had. ((had, tt), (keeps, tt))) (λ had. (tt, tt)) (λ had. ((had, tt), (keeps, tt)))

    pub history : (t : Bool) → HadIt t
        → IsOrderlyHistory RECIPIENT_LIMIT 1 (server_of (site_of t) (handed t)) (threads t) (deeds t)
    history t had =
        let low = place_low before_turn idle t in record {
          history = record {
            within = ((lit< tt, low), ((lit< tt, low), ((lit< tt, low), ((lit< tt, low), tt))));
            lanes = only (λ k. given_by k (deeds t) ≡ flat_map (copies k) ((threads t).transactions k)) (given t);
            rise = λ k lane. lane_rises (site_of t) (sent outcome ∷ []);
            workers = of_each (λ t b. worked_by b (deeds t)
                ≡ turns_of b (boxes t b).taken (outcomes_in (boxes t b).turns)) refl refl refl t;
            courses = λ b is. courses t b is had;
            accepted = of_each (λ t b. given_to b (deeds t) ≡ (boxes t b).taken) refl refl refl t;
            told = only (λ k. told_to k (deeds t) ≡ slip t ∷ []) refl;
            heard = only (λ k. heard_by k (deeds t) ≡ slip t ∷ []) refl;
            taken_later = λ b is before after e.
                subst (λ (l : List Deed). length (taken_by b l) ≤ 0 + length (given_to b l))
                (taken (deeds t) before after e) (takes (length before) t b is);
            heard_later = only (λ k. HearsTold k 0 (deeds t)) (λ before after e.
                subst (λ (l : List Deed). length (heard_by 0 l) ≤ 0 + length (told_to 0 l))
                (taken (deeds t) before after e) (hears (length before) t));
          };
          exchanges = only (λ k. AreExchanges RECIPIENT_LIMIT k ((threads t).transactions k) (done_by k (deeds t)))
              (exchanged t);
          finds_room = λ b is. finds_room t b;
        }

    -- ---- the mailboxes

    -- one without a quota
    abbrev IsFreeWork : Bool → ℕ → BoxWork → SpoolState → SpoolState → Tally → Type 0
    IsFreeWork t b work before after tells =
        IsBoxWork (record { calendar = civil_at; site = site_of t; quota = None; worker = b }) spools.manner work before
        after tells

    abbrev IsWorkOf : Bool → ℕ → BoxWork → SpoolState → SpoolState → Tally → Type 0
    IsWorkOf t b work before after tells =
        IsBoxWork (setting_of (share_of (site_of t) (handed t).quotas) b) spools.manner work before after tells

    box_work : (t : Bool) (b : ℕ) → HadIt t → IsFreeWork t b (box t) (spool lock []) (spool unlock turns) tallied
    box_work t b had = record {
      taken_count = refl;
      stored_count = refl;
      over_count = refl;
      turned = record {
        are = (had, tt);
        keep = (keeps, tt);
        listed = refl;
        free = λ e. refl;
        found = λ e. (unlock, (tt, refl, refl), refl);
        refused = λ e. (tt, tt);
        limited = refl;
        full = (full, tt);
        failed = refl;
        broke = refl;
        missed = refl;
      };
    }

    idle_work : (t : Bool) (b : ℕ) → IsFreeWork t b no_work idle.inner idle.inner (tally [] [])
    idle_work t b = record {
      taken_count = refl;
      stored_count = refl;
      over_count = refl;
      turned = record {
        are = tt;
        keep = tt;
        listed = refl;
        free = λ e. refl;
        found = λ e. refl;
        refused = λ e. tt;
        limited = refl;
        full = tt;
        failed = refl;
        broke = refl;
        missed = refl;
      };
    }

    abbrev Works : Bool → ℕ → Mailbox → Mailbox → Tally → Type 0
    Works t b before after tells =
        HadIt t → IsWorkOf t b (boxes t b) (spools.state before) (spools.state after) tells

    pub box_works : (t : Bool) (b : ℕ) (before after : Mailbox) (tells : Tally)
        → slice_get (handed t).spools b ≡ Some before → slice_get (back t).spools b ≡ Some after
        → slice_get (back t).tallies b ≡ Some tells → Works t b before after tells
    box_works =
        at_each Works before_turn idle after_turn idle tallied (tally [] []) (box_work false 0)
        (λ had. idle_work true 0) (box_work true 1)

    abbrev TellsOf : Bool → ℕ → Mailbox → Mailbox → Mailbox → Type 0
    TellsOf t b before after again = TellsTurns (boxes t b).turns (spools.told before) (spools.told after)

    pub box_told : (t : Bool) (b : ℕ) (before after : Mailbox) → slice_get (handed t).spools b ≡ Some before
        → slice_get (back t).spools b ≡ Some after
        → TellsTurns (boxes t b).turns (spools.told before) (spools.told after)
    box_told t b before after x y =
        at_each TellsOf before_turn idle after_turn idle after_turn idle
        (record { ends = end ∷ []; are = (ended, tt); told = refl }) (record { ends = []; are = tt; told = refl })
        (record { ends = end ∷ []; are = (ended, tt); told = refl }) t b before after after x y y

    -- beside the channels of so few mailboxes none waits
    pub one_waits : (t : Bool) → 1 ≡ capacity_of (handed t)
    one_waits = two (λ t. 1 ≡ capacity_of (handed t)) refl refl

    unfoldable pub ran : (t : Bool) → HadIt t → HasRun (site_of t) (λ moment. ⊤) view spools (handed t) (back t)
    ran t had =
        let server = server_of (site_of t) (handed t) in
        let H : ℕ → Type 0 = λ m. IsOrderlyHistory RECIPIENT_LIMIT m server (threads t) (deeds t) in
        let plays = an_orderly_history_plays RECIPIENT_LIMIT (capacity_of (handed t)) server (threads t) (deeds t)
        (subst H (one_waits t) (history t had)) in record {
          lanes = λ k. lane t;
          boxes = boxes t;
          as_many_lanes = (refl, refl);
          as_many_boxes = (
            two (λ t. length (back t).spools ≡ length (handed t).spools) refl refl t,
            two (λ t. length (back t).tallies ≡ length (handed t).spools) refl refl t,
          );
          served = lane_works t;
          stored = λ b before after tells x y z. box_works t b before after tells x y z had;
          observed = box_told t;
          owed = owed t;
          owed_only = of_each (λ t b. AllByRecursion (λ (n : Note). n.txn.lane < 1) (boxes t b).taken)
              (lit< tt, tt) tt (lit< tt, tt) t;
          told = told_of t;
          told_only = λ k low. (place_low before_turn idle t, tt);
          is_run = record {
            is = plays;
            offered = λ k b low is. plays.is.offered k b is ∙ owed t k b low is;
          };
          alone = λ b before after x y own. absurd
              (let bad : 0 ∷ [] ≡ [] = own.same (record lock { bytes = [] }) (record lock { bytes = 0 ∷ [] }) tt in cc);
        }

    abbrev pub run : (t : Bool) → HadIt t → List Letter → Run
    run t had letters = record {
      site = site_of t;
      clock = 0;
      old = handed t;
      new = back t;
      ran = ran t had;
      each_box = two (λ t. length (handed t).spools ≡ length (site_of t).boxes) refl refl t;
      gaps = λ b. Some (untouched letters) ∷ [];
    }
