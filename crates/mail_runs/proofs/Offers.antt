-- A lane gives a copy that it has ready: it splits a hold off where more copies are left, and offers the copy.
use Rattle.std.proofs.Common.{◌≡◌, ℕ, ◌+◌, ◌-◌, ◌<◌, ◌≤◌, ◌==◌, List, [], ◌∷◌, ◌++◌, length, Option, Some, inl, inr, refl, ap, sym, ◌∙◌, subst, arith}
use Rattle.std.specs.Prelude.{◌⊎◌, IfSome, flat_map, remove, slice_get, slice_set}
use Rattle.mail_world.specs.declared.Note.{Note}
use Rattle.mail_world.specs.declared.Event.TheVariants.{Split, Offer}
use Rattle.mail_world.specs.Lists.{copies, copies_from}
use Rattle.mail_world.specs.Depot.{Key}
use Rattle.mail_world.specs.House.{House, Lane, Box, Hold, SealedMessage, with_lane, with_box}
use Rattle.mail_world.specs.Events.{BoxIs, SplitStep, OfferStep, sealed_up_to}
use Rattle.mail_world.proofs.Depots.{set_at}
use Rattle.mail_world.proofs.LastSeal.{length_set}
use Rattle.mail_progress.specs.Orderly.{IsInOrder, not_taken}
use Rattle.mail_runs.specs.Deeds.{Deed, Gave, given_in, given_by}
use Rattle.mail_runs.specs.Courses.{Server}
use Rattle.mail_runs.specs.Histories.{Threads}
use Rattle.mail_runs.specs.Timed.{is_of_lane}
use Rattle.mail_runs.specs.Ordered.{done_by}
use Rattle.mail_runs.proofs.Manners.{Manner, Owed}
use Rattle.mail_runs.proofs.Exchanges.{KeepsExchange, gives_on}
use Rattle.mail_runs.proofs.Parts.{passes, same_number, set_twice, same_first, same_rest}
use Rattle.mail_runs.proofs.Frames.{tells_on}
use Rattle.mail_runs.proofs.Changes.{one_box, one_lane, box_there}
use Rattle.mail_runs.proofs.Story.{Story, goes_on}
use Rattle.mail_runs.proofs.Stands.{LaneStands, IsIdle, IsGiving, Stands}
use Rattle.mail_runs.proofs.Next.{Next}
use Rattle.mail_runs.proofs.Gives.{given_here}
use Rattle.mail_runs.proofs.Opens.{MayOpen, opens}

-- the copy is the one that the lane gives next
record IsCopy (m : Manner) (k : ℕ) (note : Note) (rest : List Deed) (lane : Lane) (g : IsGiving m k (Gave note ∷ rest) lane) : Type 0 where
  number : note.txn.number ≡ g.t.number
  place : note.place ≡ g.place
  message : note.message ≡ g.t.message
  gives : given_by k rest ≡ copies_from k g.t (g.place + 1) g.boxes ++ flat_map (copies k) g.ts
  keeps : Owed m → KeepsExchange m.room k (copies_from k g.t (g.place + 1) g.boxes) g.ts lane.gather (done_by k rest)

copy_is : {m : Manner} (note : Note) (rest : List Deed) (lane : Lane) (g : IsGiving m note.txn.lane (Gave note ∷ rest) lane)
    → IsCopy m note.txn.lane note rest lane g
copy_is {m} note rest lane g =
    let k : ℕ = note.txn.lane in
    let e = sym (passes (λ (n : Note). n.txn.lane == k) note (flat_map given_in rest) (same_number k k refl)) ∙ g.gives in
    let same = same_first note _ (given_by k rest) _ e in
    record {
      number = ap (λ (n : Note). n.txn.number) same;
      place = ap (λ (n : Note). n.place) same;
      message = ap (λ (n : Note). n.message) same;
      gives = same_rest note _ (given_by k rest) _ e;
      keeps = λ o. gives_on m.room k note _ (copies_from k g.t (g.place + 1) g.boxes) g.ts lane.gather (done_by k (Gave note ∷ rest)) (done_by k rest)
          (passes (is_of_lane k) (Gave note) rest (same_number k k refl)) (g.keeps o);
    }

-- the lane once it has offered, where its only hold, or the second of two, went
abbrev lane_after : Lane → List Hold → ℕ → Key → Note → Lane
lane_after lane holds at key note = record lane {
  holds = holds;
  messages = slice_set lane.messages at (record (sealed_up_to key note.txn.number note.message note.place) { offered = note.place + 1 });
}

-- an offer from a lane, to a channel that is open and has room
record IsOffered (m : Manner) (s : Server) (t : Threads) (note : Note) (rest : List Deed) (r : MayOpen m s t note rest) (holds : List Hold) : Type 0 where
  box : Box
  box_is : BoxIs r.house note.mailbox box
  story : Story m (with_box (with_lane r.house note.txn.lane (lane_after r.lane holds r.giving.at r.giving.key note)) note.mailbox
      (record box { accepted = box.accepted ++ record { note = note; key = r.giving.key } ∷ [] }))

-- in order fewer wait in the channel than it has room for
offer_in_order : (room : ℕ) (h : House) (k : ℕ) (note : Note) (box : Box) → BoxIs h note.mailbox box
    → length box.accepted - box.taken + 0 < h.capacity + 0 → IsInOrder room h (Offer k note)
offer_in_order room h k note box is few = subst (λ (o : Option Box). IfSome o (λ b. not_taken b < h.capacity)) (sym is) (omega arith)

abbrev one_hold : Key → ℕ → Hold
one_hold key n = record { key = key; weight = n }

-- the last copy of a message goes with the lane's hold
offer_last : {m : Manner} (s : Server) (t : Threads) (note : Note) (rest : List Deed) (r : MayOpen m s t note rest) → r.giving.boxes ≡ []
    → IsOffered m s t note rest r []
offer_last {m} s t note rest r last =
    let k : ℕ = note.txn.lane in
    let h = r.house in
    let g = r.giving in
    let c = copy_is note rest r.lane g in
    let low : note.mailbox < s.boxes = r.within.0.1 in
    let b = box_there h s.boxes note.mailbox r.as_many.0 low in
    let stood = r.boxes note.mailbox b.0 b.1 in
    let room : length b.0.accepted - b.0.taken + 0 < h.capacity + 0 = stood.flows.finds_room [] rest note refl refl in
    let prefix : b.0.taken ≤ length b.0.accepted = stood.prefix in
    let hold : r.lane.holds ≡ one_hold g.key 1 ∷ [] = g.hold ∙ ap (λ bs. one_hold g.key (length bs + 1) ∷ []) last in
    let sealed : slice_get r.lane.messages g.at ≡ Some (sealed_up_to g.key note.txn.number note.message note.place) =
    rw (c.number, c.message, c.place) g.message in
    let new : House = with_box (with_lane h k (lane_after r.lane (remove r.lane.holds 0) g.at g.key note)) note.mailbox
    (record b.0 { accepted = b.0.accepted ++ record { note = note; key = g.key } ∷ [] }) in
    let step : OfferStep h k note new = record {
      lane = r.lane;
      box = b.0;
      at = 0;
      t = g.at;
      key = g.key;
      is = r.is;
      copy = record { hold = ap (λ hs. slice_get hs 0) hold; is = sealed };
      own = refl;
      channel = b.1;
      still_open = stood.still_open;
      room = omega arith;
      after = refl;
    } in
    let none : remove r.lane.holds 0 ≡ [] = ap (λ hs. remove hs 0) hold in
    record {
      box = b.0;
      box_is = b.1;
      story = subst (λ hs. Story m (with_box (with_lane h k (lane_after r.lane hs g.at g.key note)) note.mailbox
          (record b.0 { accepted = b.0.accepted ++ record { note = note; key = g.key } ∷ [] })))
          none (goes_on h new (Offer k note) r.story step (λ o. offer_in_order m.room h k note b.0 b.1 room));
    }

-- before that a hold of weight 1 is split off for each
offer_more : {m : Manner} (s : Server) (t : Threads) (note : Note) (rest : List Deed) (r : MayOpen m s t note rest) (box : ℕ) (boxes : List ℕ)
    → r.giving.boxes ≡ box ∷ boxes
    → IsOffered m s t note rest r (one_hold r.giving.key (length (box ∷ boxes)) ∷ [])
offer_more {m} s t note rest r box boxes more =
    let k : ℕ = note.txn.lane in
    let h = r.house in
    let g = r.giving in
    let n : ℕ = length (box ∷ boxes) in
    let c = copy_is note rest r.lane g in
    let low : note.mailbox < s.boxes = r.within.0.1 in
    let b = box_there h s.boxes note.mailbox r.as_many.0 low in
    let stood = r.boxes note.mailbox b.0 b.1 in
    let room : length b.0.accepted - b.0.taken + 0 < h.capacity + 0 = stood.flows.finds_room [] rest note refl refl in
    let prefix : b.0.taken ≤ length b.0.accepted = stood.prefix in
    let hold : r.lane.holds ≡ one_hold g.key (n + 1) ∷ [] = g.hold ∙ ap (λ bs. one_hold g.key (length bs + 1) ∷ []) more in
    let sealed : slice_get r.lane.messages g.at ≡ Some (sealed_up_to g.key note.txn.number note.message note.place) =
    rw (c.number, c.message, c.place) g.message in
    let holds : List Hold = slice_set r.lane.holds 0 (one_hold g.key n) ++ one_hold g.key 1 ∷ [] in
    let two : holds ≡ one_hold g.key n ∷ one_hold g.key 1 ∷ [] = ap (λ hs. slice_set hs 0 (one_hold g.key n) ++ one_hold g.key 1 ∷ []) hold in
    let split : Lane = record r.lane { holds = holds } in
    let between : House = with_lane h k split in
    let first : SplitStep h k 0 between =
    record { lane = r.lane; key = g.key; weight = n; is = r.is; hold = ap (λ hs. slice_get hs 0) hold; above = omega arith; after = refl } in
    let new : House = with_box (with_lane between k (lane_after split (remove holds 1) g.at g.key note)) note.mailbox
    (record b.0 { accepted = b.0.accepted ++ record { note = note; key = g.key } ∷ [] }) in
    let step : OfferStep between k note new = record {
      lane = split;
      box = b.0;
      at = 1;
      t = g.at;
      key = g.key;
      is = set_at h.lanes k split r.lane r.is;
      copy = record { hold = ap (λ hs. slice_get hs 1) two; is = sealed };
      own = refl;
      channel = b.1;
      still_open = stood.still_open;
      room = omega arith;
      after = refl;
    } in
    let one : remove holds 1 ≡ one_hold g.key n ∷ [] = ap (λ hs. remove hs 1) two in
    let there : Story m new = goes_on between new (Offer k note) (goes_on h between (Split k 0) r.story first (λ o. tt)) step
    (λ o. offer_in_order m.room between k note b.0 b.1 room) in
    let lanes : slice_set (slice_set h.lanes k split) k (lane_after split (remove holds 1) g.at g.key note)
    ≡ slice_set h.lanes k (lane_after r.lane (one_hold g.key n ∷ []) g.at g.key note) =
    set_twice h.lanes k split (lane_after split (remove holds 1) g.at g.key note) ∙ ap (λ hs. slice_set h.lanes k (lane_after r.lane hs g.at g.key note)) one in
    record {
      box = b.0;
      box_is = b.1;
      story = subst (λ ls. Story m (record h {
        lanes = ls;
        boxes = slice_set h.boxes note.mailbox (record b.0 { accepted = b.0.accepted ++ record { note = note; key = g.key } ∷ [] });
      })) lanes there;
    }

-- where all of it stands once the copy is offered
offered : {m : Manner} (s : Server) (t : Threads) (note : Note) (rest : List Deed) (r : MayOpen m s t note rest) (holds : List Hold)
    → IsOffered m s t note rest r holds
    → IsIdle m note.txn.lane rest (lane_after r.lane holds r.giving.at r.giving.key note)
    ⊎ IsGiving m note.txn.lane rest (lane_after r.lane holds r.giving.at r.giving.key note)
    → Next m s t rest
offered {m} s t note rest r holds o gives =
    let k : ℕ = note.txn.lane in
    let b : ℕ = note.mailbox in
    let h = r.house in
    let stood : LaneStands m k (t.heard k) (Gave note ∷ rest) r.lane = r.lanes k r.lane r.is in
    let now : Lane = lane_after r.lane holds r.giving.at r.giving.key note in
    let box : Box = record o.box { accepted = o.box.accepted ++ record { note = note; key = r.giving.key } ∷ [] } in
    let stands : LaneStands m k (t.heard k) rest now = record {
      no_draft = stood.no_draft;
      within = stood.within;
      queue = stood.queue;
      all_told = stood.all_told;
      all_heard = stood.all_heard;
      fed = tells_on k (length r.lane.slips - r.lane.collected) (length r.lane.slips - r.lane.collected) (Gave note) rest (omega arith) stood.fed;
      gives = gives;
    } in
    record {
      house = _;
      story = o.story;
      stands = record {
        setting = r.setting;
        as_many = (length_set h.boxes b box ∙ r.as_many.0, length_set h.lanes k now ∙ r.as_many.1);
        within = r.within.1;
        boxes = one_box s t h.capacity (Gave note) rest h.boxes b box (λ i differ e. differ (sym e))
            (given_here s h.capacity t note r.giving.key rest o.box (r.boxes b o.box o.box_is)) r.boxes;
        lanes = one_lane t (Gave note) rest h.lanes k now (λ i differ e. differ (sym e)) stands r.lanes;
        depot = r.depot;
      };
    }

given_by_boxes : {m : Manner} (s : Server) (t : Threads) (note : Note) (rest : List Deed) (r : MayOpen m s t note rest) (boxes : List ℕ)
    → r.giving.boxes ≡ boxes → Next m s t rest
given_by_boxes {m} s t note rest r [] last =
    let k : ℕ = note.txn.lane in
    let g = r.giving in
    let c = copy_is note rest r.lane g in
    offered s t note rest r [] (offer_last s t note rest r last)
    (inl (record {
      ts = g.ts;
      no_hold = refl;
      gives = c.gives ∙ ap (λ bs. copies_from k g.t (g.place + 1) bs ++ flat_map (copies k) g.ts) last;
      rise = g.rise;
      keeps = λ o. subst (λ bs. KeepsExchange m.room k (copies_from k g.t (g.place + 1) bs) g.ts r.lane.gather (done_by k rest)) last (c.keeps o);
    }))
given_by_boxes {m} s t note rest r (box ∷ boxes) more =
    let k : ℕ = note.txn.lane in
    let g = r.giving in
    let c = copy_is note rest r.lane g in
    let n : ℕ = length (box ∷ boxes) in
    let one_more : n ≡ length boxes + 1 = omega arith in
    let next : SealedMessage = record (sealed_up_to g.key note.txn.number note.message note.place) { offered = note.place + 1 } in
    let there : slice_get (slice_set r.lane.messages g.at next) g.at ≡ Some next =
    set_at r.lane.messages g.at next (sealed_up_to g.key g.t.number g.t.message g.place) g.message in
    offered s t note rest r (one_hold g.key n ∷ []) (offer_more s t note rest r box boxes more)
    (inr (record {
      key = g.key;
      t = g.t;
      place = g.place + 1;
      box = box;
      boxes = boxes;
      at = g.at;
      ts = g.ts;
      hold = ap (λ m. one_hold g.key m ∷ []) one_more;
      message = there ∙ rw (c.number, c.message, c.place) refl;
      gives = c.gives ∙ ap (λ bs. copies_from k g.t (g.place + 1) bs ++ flat_map (copies k) g.ts) more;
      rise = g.rise;
      keeps = λ o. subst (λ bs. KeepsExchange m.room k (copies_from k g.t (g.place + 1) bs) g.ts r.lane.gather (done_by k rest)) more (c.keeps o);
    }))

pub gives : {m : Manner} (s : Server) (t : Threads) (note : Note) (rest : List Deed) (h : House) → Stands m s t (Gave note ∷ rest) h → Story m h
    → Next m s t rest
gives s t note rest h stands story = let r = opens s t note rest h stands story in given_by_boxes s t note rest r r.giving.boxes refl
