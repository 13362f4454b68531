-- A worker tells a slip: one event, by which the slip of its copy in hand goes to its lane.
use Rattle.std.proofs.Common.{◌≡◌, ℕ, ◌+◌, ◌-◌, ◌<◌, ◌≤◌, ◌==◌, List, [], ◌∷◌, ◌++◌, length, drop, true, Option, Some, None, refl, ap, sym, ◌∙◌, subst}
use Rattle.std.proofs.Common.{append_assoc, arith, length-append}
use Rattle.std.specs.Prelude.{flat_map, IfSome}
use Rattle.std.proofs.lemmas.List.{drop-append-le}
use Rattle.mail_world.specs.declared.Note.{Note}
use Rattle.mail_world.specs.declared.Slip.{Slip}
use Rattle.mail_world.specs.declared.Outcome.{Outcome}
use Rattle.mail_world.specs.declared.Event.TheVariants.{GiveSlip}
use Rattle.mail_world.specs.Slips.{slip_of}
use Rattle.mail_world.specs.House.{House, Lane, Box, Copy, with_box, with_lane}
use Rattle.mail_world.specs.Events.{Step, LaneIs, BoxIs, outcome_of}
use Rattle.mail_progress.specs.Orderly.{IsInOrder, OfLane, uncollected}
use Rattle.mail_progress.specs.OrderlyRuns.{SlipsFindRoom}
use Rattle.mail_runs.specs.Deeds.{Deed, Told, told_to, worked_by, turns_of, told_in, is_of_worker}
use Rattle.mail_runs.specs.Courses.{Server, Course, outcomes_in}
use Rattle.mail_runs.specs.Histories.{Threads}
use Rattle.mail_runs.proofs.Manners.{Manner}
use Rattle.mail_runs.proofs.Parts.{passes, same_number}
use Rattle.mail_runs.proofs.Story.{Story, goes_on, finds_room}
use Rattle.mail_runs.proofs.Stands.{BeginsCopy, BoxStands, LaneStands, Stands}
use Rattle.mail_runs.proofs.Frames.{flows_on, tells_on, depot_past, gives_still}
use Rattle.mail_runs.proofs.Changes.{one_box, one_lane, as_many_set, box_there, lane_there}
use Rattle.mail_runs.proofs.Next.{Next}

-- the copy in the hand of a worker that tells the slip next
record Telling (b : ℕ) (slip : Slip) (left turns : List Deed) (hand : Option Copy) : Type 0 where
  copy : Copy
  in_hand : hand ≡ Some copy
  let_go : copy.released ≡ true
  says : slip ≡ slip_of b copy.post.note (outcome_of copy)
  turns_left : left ≡ turns

-- a turn begins with a copy
no_turn : (b : ℕ) (slip : Slip) (left : List Deed) (notes : List Note) (outcomes : List Outcome) → Told slip ∷ left ≡ turns_of b notes outcomes → ⊥
no_turn b slip left [] outcomes e = cc
no_turn b slip left (note ∷ notes) [] e = cc
no_turn b slip left (note ∷ notes) (outcome ∷ outcomes) e = cc

telling : (b : ℕ) (slip : Slip) (left : List Deed) (notes : List Note) (outcomes : List Outcome) (hand : Option Copy)
    → BeginsCopy b (Told slip ∷ left) (turns_of b notes outcomes) hand
    → Telling b slip left (turns_of b notes outcomes) hand
telling b slip left notes outcomes None begins = absurd (no_turn b slip left notes outcomes begins)
telling b slip left notes outcomes (Some copy) begins =
    let e : Told slip ∷ left ≡ Told (slip_of b copy.post.note (outcome_of copy)) ∷ turns_of b notes outcomes = begins.1 in
    record { copy = copy; in_hand = refl; let_go = begins.0; says = cc; turns_left = cc }

of_box : (s : Server) (capacity : ℕ) (course : Course) (slip : Slip) (rest : List Deed) (box : Box)
    (stands : BoxStands s capacity slip.worker course (Told slip ∷ rest) box)
    → Telling slip.worker slip (worked_by slip.worker rest) (turns_of slip.worker stands.work.notes (outcomes_in stands.work.turns)) box.hand
of_box s capacity course slip rest box stands =
    let b : ℕ = slip.worker in
    let w = stands.work in
    let its : worked_by b (Told slip ∷ rest) ≡ Told slip ∷ worked_by b rest = passes (is_of_worker b) (Told slip) rest (same_number b b refl) in
    let begins = subst (λ l. BeginsCopy b l (turns_of b w.notes (outcomes_in w.turns)) box.hand) its w.program in
    telling b slip (worked_by b rest) w.notes (outcomes_in w.turns) box.hand begins

-- its hand is free then
abbrev freed : Box → Box
freed box = record box { hand = None }

box_after : (s : Server) (capacity : ℕ) (course : Course) (slip : Slip) (rest : List Deed) (box : Box)
    → BoxStands s capacity slip.worker course (Told slip ∷ rest) box
    → BoxStands s capacity slip.worker course rest (freed box)
box_after s capacity course slip rest box stands =
    record {
      quota = stands.quota;
      old = stands.old;
      still_open = stands.still_open;
      prefix = stands.prefix;
      all = stands.all;
      flows = flows_on capacity slip.worker (length box.accepted - box.taken) (length box.accepted - box.taken) (Told slip) rest refl stands.flows;
      work = record {
        notes = stands.work.notes;
        turns = stands.work.turns;
        program = (of_box s capacity course slip rest box stands).turns_left;
        queue = stands.work.queue;
        takes = stands.work.takes;
      };
    }

-- and its lane has one more slip
abbrev with_slip : Lane → Slip → Lane
with_slip lane slip = record lane { slips = lane.slips ++ slip ∷ [] }

lane_after : {m : Manner} (heard : List Slip) (slip : Slip) (rest : List Deed) (lane : Lane) → LaneStands m slip.txn.lane heard (Told slip ∷ rest) lane
    → LaneStands m slip.txn.lane heard rest (with_slip lane slip)
lane_after heard slip rest lane stands =
    let k : ℕ = slip.txn.lane in
    let its : told_to k (Told slip ∷ rest) ≡ slip ∷ told_to k rest =
    passes (λ (x : Slip). x.txn.lane == k) slip (flat_map told_in rest) (same_number k k refl) in
    let one : length (told_to k (Told slip ∷ [])) ≡ 1 = ap length (passes (λ (x : Slip). x.txn.lane == k) slip [] (same_number k k refl)) in
    let more : length (lane.slips ++ slip ∷ []) ≡ length lane.slips + 1 = length-append lane.slips (slip ∷ []) in
    let low : lane.collected ≤ length lane.slips = stands.within in
    record {
      no_draft = stands.no_draft;
      within = omega arith;
      queue =
          ap (λ l. l ++ told_to k rest) (drop-append-le lane.collected lane.slips (slip ∷ []) low)
          ∙ append_assoc (drop lane.collected lane.slips) (slip ∷ []) (told_to k rest)
          ∙ sym (ap (λ l. drop lane.collected lane.slips ++ l) its) ∙ stands.queue;
      all_told = append_assoc lane.slips (slip ∷ []) (told_to k rest) ∙ sym (ap (λ l. lane.slips ++ l) its) ∙ stands.all_told;
      all_heard = stands.all_heard;
      fed = tells_on k (length lane.slips - lane.collected) (length (lane.slips ++ slip ∷ []) - lane.collected) (Told slip) rest (omega arith) stands.fed;
      gives = gives_still k (Told slip ∷ rest) rest lane (with_slip lane slip) refl refl refl refl (λ o notes ts keeps. keeps) stands.gives;
    }

-- the house after the event
abbrev after_slip : House → Slip → Box → Lane → House
after_slip h slip box lane = with_lane (with_box h slip.worker (freed box)) slip.txn.lane (with_slip lane slip)

slip_step : (h : House) (slip : Slip) (box : Box) (lane : Lane) (copy : Copy) → BoxIs h slip.worker box → box.hand ≡ Some copy → copy.released ≡ true
    → slip ≡ slip_of slip.worker copy.post.note (outcome_of copy) → LaneIs h slip.txn.lane lane
    → Step h (GiveSlip slip.worker (outcome_of copy)) (after_slip h slip box lane)
slip_step h slip box lane copy is in_hand let_go says to =
    let k : slip.txn.lane ≡ copy.post.note.txn.lane = ap (λ x. x.txn.lane) says in
    record {
      box = box;
      copy = copy;
      lane = lane;
      is = is;
      in_hand = in_hand;
      let_go = let_go;
      says = refl;
      to = subst (λ n. LaneIs h n lane) k to;
      after =
          ap (λ n. with_lane (with_box h slip.worker (freed box)) n (with_slip lane slip)) k
          ∙ ap (λ x. with_lane (with_box h slip.worker (freed box)) copy.post.note.txn.lane (with_slip lane x)) says;
    }

-- in order the slip finds room
slip_in_order : (room : ℕ) (h : House) (slip : Slip) (box : Box) (lane : Lane) (copy : Copy) → BoxIs h slip.worker box → box.hand ≡ Some copy
    → copy.released ≡ true → slip ≡ slip_of slip.worker copy.post.note (outcome_of copy) → LaneIs h slip.txn.lane lane → SlipsFindRoom room h
    → IsInOrder room h (GiveSlip slip.worker (outcome_of copy))
slip_in_order room h slip box lane copy is in_hand let_go says to finds =
    let k : ℕ = copy.post.note.txn.lane in
    let there : LaneIs h k lane = subst (λ n. LaneIs h n lane) (ap (λ x. x.txn.lane) says) to in
    let low : uncollected lane < room = finds slip.worker box copy lane is in_hand let_go there in
    let of_lane : OfLane h k (λ l. uncollected l < room) = subst (λ (o : Option Lane). IfSome o (λ l. uncollected l < room)) (sym there) low in
    let of_hand : IfSome box.hand (λ c. OfLane h c.post.note.txn.lane (λ l. uncollected l < room)) =
    subst (λ (o : Option Copy). IfSome o (λ c. OfLane h c.post.note.txn.lane (λ l. uncollected l < room))) (sym in_hand) of_lane in
    subst (λ (o : Option Box). IfSome o (λ b. IfSome b.hand (λ c. OfLane h c.post.note.txn.lane (λ l. uncollected l < room)))) (sym is) of_hand

after_stands : {m : Manner} (s : Server) (t : Threads) (slip : Slip) (rest : List Deed) (h : House) (box : Box) (lane : Lane)
    → Stands m s t (Told slip ∷ rest) h
    → BoxIs h slip.worker box → LaneIs h slip.txn.lane lane → Stands m s t rest (after_slip h slip box lane)
after_stands s t slip rest h box lane stands is to = record {
  setting = stands.setting;
  as_many = (
    as_many_set h.boxes slip.worker s.boxes (freed box) stands.as_many.0,
    as_many_set h.lanes slip.txn.lane s.lanes (with_slip lane slip) stands.as_many.1,
  );
  within = stands.within.1;
  boxes =
      one_box s t h.capacity (Told slip) rest h.boxes slip.worker (freed box) (λ c other same. other (sym same))
      (box_after s h.capacity (t.courses slip.worker) slip rest box (stands.boxes slip.worker box is)) stands.boxes;
  lanes =
      one_lane t (Told slip) rest h.lanes slip.txn.lane (with_slip lane slip) (λ c other same. other (sym same))
      (lane_after (t.heard slip.txn.lane) slip rest lane (stands.lanes slip.txn.lane lane to)) stands.lanes;
  depot = depot_past (Told slip) rest h.depot stands.depot;
}

pub tells : {m : Manner} (s : Server) (t : Threads) (slip : Slip) (rest : List Deed) (h : House) → Stands m s t (Told slip ∷ rest) h → Story m h
    → Next m s t rest
tells {m} s t slip rest h stands story =
    let box = box_there h s.boxes slip.worker stands.as_many.0 stands.within.0.1 in
    let lane = lane_there h s.lanes slip.txn.lane stands.as_many.1 stands.within.0.0 in
    let telling = of_box s h.capacity (t.courses slip.worker) slip rest box.0 (stands.boxes slip.worker box.0 box.1) in
    let step = slip_step h slip box.0 lane.0 telling.copy box.1 telling.in_hand telling.let_go telling.says lane.1 in
    record {
      house = after_slip h slip box.0 lane.0;
      story = goes_on h (after_slip h slip box.0 lane.0) (GiveSlip slip.worker (outcome_of telling.copy)) story step
          (λ o. slip_in_order m.room h slip box.0 lane.0 telling.copy box.1 telling.in_hand telling.let_go telling.says lane.1 (finds_room h story o));
      stands = after_stands s t slip rest h box.0 lane.0 stands box.1 lane.1;
    }
