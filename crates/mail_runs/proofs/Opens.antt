-- A lane seals its next message: it begins a draft, puts the bytes and seals it for all its copies.
use Rattle.std.proofs.Common.{◌≡◌, ℕ, ◌+◌, ◌-◌, ◌<◌, ◌≤◌, ◌==◌, List, [], ◌∷◌, ◌++◌, length, take, drop, Option, Some, None, inl, inr, refl, ap, sym, ◌∙◌}
use Rattle.std.proofs.Common.{subst, arith, length-drop}
use Rattle.std.specs.Prelude.{◌⊎◌, IfSome, flat_map, slice_get, slice_set, sum_by}
use Rattle.std.specs.List.{AllByRecursion}
use Rattle.std.proofs.lemmas.List.{take-append-drop, length-take-le}
use Rattle.std.proofs.lemmas.List.Sums.{sum_by-cons}
use Rattle.mail_world.specs.declared.Note.{Note}
use Rattle.mail_world.specs.declared.Event.TheVariants.{Begin, Put, Seal}
use Rattle.mail_world.specs.Slips.{gather_for, txn_of}
use Rattle.mail_world.specs.Lists.{Transaction, copies_from}
use Rattle.mail_world.specs.Depot.{Key, Slot, Depot, Free, Draft, Sealed, blocks_for, with_held, occurrences}
use Rattle.mail_world.specs.House.{House, Lane, Box, with_lane, with_depot}
use Rattle.mail_world.specs.Events.{LaneIs, BoxIs, BeginStep, PutStep, SealStep, sealed_up_to}
use Rattle.mail_world.proofs.Depots.{set_at, times-append}
use Rattle.mail_world.proofs.Holds.{sum_set}
use Rattle.mail_world.proofs.LastSeal.{length_set}
use Rattle.mail_progress.specs.Orderly.{OfLane, IsLaneDone}
use Rattle.mail_runs.specs.Deeds.{Deed, Gave, given_in, given_by}
use Rattle.mail_runs.specs.Courses.{Server}
use Rattle.mail_runs.specs.Histories.{Threads, IsWithin}
use Rattle.mail_runs.specs.Timed.{is_of_lane}
use Rattle.mail_runs.specs.Ordered.{done_by}
use Rattle.mail_runs.proofs.Manners.{Manner, Owed}
use Rattle.mail_runs.proofs.Exchanges.{AreAnswered, KeepsExchange, ExchangeIsOver, exchange_is_over}
use Rattle.mail_runs.proofs.Parts.{passes, same_number, each_set, set_twice}
use Rattle.mail_runs.proofs.Frames.{depot_past}
use Rattle.mail_runs.proofs.Changes.{lane_there}
use Rattle.mail_runs.proofs.Story.{Story, goes_on}
use Rattle.mail_runs.proofs.Stands.{BoxStands, LaneStands, IsIdle, IsGiving, DepotStands, Stands, free_slot, slots_for, blocks_to_give}
use Rattle.mail_runs.proofs.Gives.{IsOpening, IsPlaced, opening, message_is, placed, held_now}

-- a house whose lane has the copy ready to give
pub record MayOpen (m : Manner) (s : Server) (t : Threads) (note : Note) (rest : List Deed) : Type 0 where
  pub house : House
  pub story : Story m house
  pub setting : (house.calendar ≡ s.calendar) × (house.site ≡ s.site)
  pub as_many : (length house.boxes ≡ s.boxes) × (length house.lanes ≡ s.lanes)
  pub within : AllByRecursion (IsWithin s) (Gave note ∷ rest)
  pub boxes : (b : ℕ) (box : Box) → BoxIs house b box → BoxStands s house.capacity b (t.courses b) (Gave note ∷ rest) box
  pub lanes : (k : ℕ) (lane : Lane) → LaneIs house k lane → LaneStands m k (t.heard k) (Gave note ∷ rest) lane
  pub depot : DepotStands rest house.depot
  pub lane : Lane
  pub is : LaneIs house note.txn.lane lane
  pub giving : IsGiving m note.txn.lane (Gave note ∷ rest) lane

-- the depot after the three steps has a slot less that is free, and the blocks that were put
abbrev sealed_slot : Key → List ℕ → List ℕ → ℕ → Slot
sealed_slot key message blocks n = record { generation = key.generation; held = Sealed message blocks n }

depot_sealed : (d : Depot) (note : Note) (rest : List Deed) (key : Key) (message blocks : List ℕ) (n : ℕ) (slots : List Slot) (free : List ℕ)
    → DepotStands (Gave note ∷ rest) d
    → slice_get d.slots key.slot ≡ Some (record { generation = key.generation; held = Free }) → note.message ≡ message
    → slots ≡ slice_set d.slots key.slot (sealed_slot key message blocks n) → free ≡ drop (blocks_for (length message)) d.free
    → blocks_for (length message) ≤ length d.free
    → DepotStands rest (record { slots = slots; free = free })
depot_sealed d note rest key message blocks n slots free stands is same after left enough =
    let sum = sum_set free_slot d.slots key.slot (record { generation = key.generation; held = Free }) (sealed_slot key message blocks n) is in
    let now : sum_by free_slot slots ≡ sum_by free_slot (slice_set d.slots key.slot (sealed_slot key message blocks n)) =
    ap (λ xs. sum_by free_slot xs) after in
    let fewer : length free ≡ length d.free - blocks_for (length message) = ap length left ∙ length-drop (blocks_for (length message)) d.free in
    let size : blocks_for (length note.message) ≡ blocks_for (length message) = ap (λ m. blocks_for (length m)) same in
    let s = stands.slots in
    let b = stands.blocks in
    record {
      slots = omega (arith, sum_by-cons slots_for (Gave note) rest);
      blocks = omega (arith, sum_by-cons blocks_to_give (Gave note) rest);
    }

module _ (h : House) (k : ℕ) (lane : Lane) (x : Transaction) (key : Key) (n : ℕ) where
  abbrev need : ℕ
  need = blocks_for (length x.message)

  abbrev lane₁ : Lane
  lane₁ = record lane { number = x.number; draft = Some key }

  abbrev depot₁ : Depot
  depot₁ = with_held h.depot key (Draft [] []) h.depot.free

  abbrev house₁ : House
  house₁ = with_lane (with_depot h depot₁) k lane₁

  abbrev depot₂ : Depot
  depot₂ = with_held depot₁ key (Draft x.message (take need h.depot.free)) (drop need h.depot.free)

  abbrev house₂ : House
  house₂ = with_depot house₁ depot₂

  abbrev depot₃ : Depot
  depot₃ = with_held depot₂ key (Sealed x.message (take need h.depot.free) n) (drop need h.depot.free)

  abbrev lane₃ : Lane
  lane₃ = record lane {
    number = x.number;
    draft = None;
    messages = lane.messages ++ sealed_up_to key x.number x.message 0 ∷ [];
    holds = lane.holds ++ record { key = key; weight = n } ∷ [];
    gather = gather_for (txn_of k x.number) n;
  }

  abbrev house₃ : House
  house₃ = with_lane (with_depot house₂ depot₃) k lane₃

  begins : LaneIs h k lane → lane.draft ≡ None → lane.number < x.number
      → slice_get h.depot.slots key.slot ≡ Some (record { generation = key.generation; held = Free }) → BeginStep h k house₁
  begins is none later free = record {
    lane = lane;
    key = key;
    number = x.number;
    depot = depot₁;
    is = is;
    no_draft = none;
    later = later;
    begins = (free, refl);
    after = refl;
  }

  puts : LaneIs h k lane → slice_get h.depot.slots key.slot ≡ Some (record { generation = key.generation; held = Free }) → need ≤ length h.depot.free
      → PutStep house₁ k x.message house₂
  puts is free enough = record {
    lane = lane₁;
    key = key;
    depot = depot₂;
    is = set_at h.lanes k lane₁ lane is;
    draft = refl;
    puts = record {
      bytes = [];
      blocks = [];
      picked = take need h.depot.free;
      rest = drop need h.depot.free;
      draft = held_now h.depot key (record { generation = key.generation; held = Free }) (Draft [] []) h.depot.free free;
      enough = length-take-le need h.depot.free enough;
      taken = λ y. ap (occurrences y) (sym (take-append-drop need h.depot.free)) ∙ times-append y (take need h.depot.free) (drop need h.depot.free);
      after = refl;
    };
    after = refl;
  }

  there₁ : slice_get h.depot.slots key.slot ≡ Some (record { generation = key.generation; held = Free })
      → slice_get depot₁.slots key.slot ≡ Some (record { generation = key.generation; held = Draft [] [] })
  there₁ free = set_at h.depot.slots key.slot (record { generation = key.generation; held = Draft [] [] }) (record { generation = key.generation; held = Free })
      free

  seals : LaneIs h k lane → 1 ≤ n → slice_get h.depot.slots key.slot ≡ Some (record { generation = key.generation; held = Free }) → SealStep house₂ k n house₃
  seals is some free = record {
    lane = lane₁;
    key = key;
    depot = depot₃;
    is = set_at h.lanes k lane₁ lane is;
    draft = refl;
    some = some;
    seals = record {
      bytes = x.message;
      blocks = take need h.depot.free;
      draft = held_now depot₁ key (record { generation = key.generation; held = Draft [] [] }) (Draft x.message (take need h.depot.free))
          (drop need h.depot.free) (there₁ free);
      after = refl;
    };
    after = refl;
  }

  lanes_are : house₃.lanes ≡ slice_set h.lanes k lane₃
  lanes_are = set_twice h.lanes k lane₁ lane₃

  slots_are : depot₃.slots ≡ slice_set h.depot.slots key.slot (sealed_slot key x.message (take need h.depot.free) n)
  slots_are =
      set_twice (slice_set h.depot.slots key.slot (record { generation = key.generation; held = Draft [] [] })) key.slot
      (record { generation = key.generation; held = Draft x.message (take need h.depot.free) })
      (sealed_slot key x.message (take need h.depot.free) n)
      ∙ set_twice h.depot.slots key.slot (record { generation = key.generation; held = Draft [] [] }) (sealed_slot key x.message (take need h.depot.free) n)

-- what was put at a list's end
last_is : {A : Type 0} (xs : List A) (x : A) → slice_get (xs ++ x ∷ []) (length xs) ≡ Some x
last_is [] x = refl
last_is (y ∷ xs) x = last_is xs x

-- the lane as it has sealed the message has its first copy to give
lane_opened : {m : Manner} (k : ℕ) (note : Note) (rest : List Deed) (lane : Lane) (key : Key)
    (o : IsOpening m k lane.number note (given_by k rest) (done_by k rest)) → note.txn.lane ≡ k → lane.holds ≡ []
    → IsGiving m k (Gave note ∷ rest) (record lane {
      number = o.t.number;
      draft = None;
      messages = lane.messages ++ sealed_up_to key o.t.number o.t.message 0 ∷ [];
      holds = lane.holds ++ record { key = key; weight = length o.boxes + 1 } ∷ [];
      gather = gather_for (txn_of k o.t.number) (length o.boxes + 1);
    })
lane_opened {m} k note rest lane key o own none = record {
  key = key;
  t = o.t;
  place = 0;
  box = o.box;
  boxes = o.boxes;
  at = length lane.messages;
  ts = o.ts;
  hold = ap (λ hs. hs ++ record { key = key; weight = length o.boxes + 1 } ∷ []) none;
  message = last_is lane.messages (sealed_up_to key o.t.number o.t.message 0);
  gives = passes (λ (n : Note). n.txn.lane == k) note (flat_map given_in rest) (same_number note.txn.lane k own) ∙ o.gives;
  rise = o.rise;
  keeps = λ owed. subst (KeepsExchange m.room k (copies_from k o.t 0 (o.box ∷ o.boxes)) o.ts (gather_for (txn_of k o.t.number) (length o.boxes + 1)))
      (sym (passes (is_of_lane k) (Gave note) rest (same_number note.txn.lane k own))) (o.planned owed).keeps;
}

-- in order nothing is left of the last message where the next one begins
lane_done : (h : House) (k : ℕ) (lane : Lane) → LaneIs h k lane → lane.holds ≡ [] → AreAnswered lane.gather.places → OfLane h k IsLaneDone
lane_done h k lane is none answered = subst (λ (o : Option Lane). IfSome o IsLaneDone) (sym is) (record { given_away = none; answered = answered })

-- the other lanes stand, and so does the one that has sealed its message
opened : {m : Manner} (s : Server) (t : Threads) (note : Note) (rest : List Deed) (h : House) → Stands m s t (Gave note ∷ rest) h → Story m h → (lane : Lane)
    → LaneIs h note.txn.lane lane → lane.holds ≡ [] → (Owed m → AreAnswered lane.gather.places)
    → (o : IsOpening m note.txn.lane lane.number note (given_by note.txn.lane rest) (done_by note.txn.lane rest)) → MayOpen m s t note rest
opened {m} s t note rest h stands story lane is none answered o =
    let k : ℕ = note.txn.lane in
    let bytes : note.message ≡ o.t.message = message_is o in
    let p : IsPlaced h.depot note.message = placed h.depot note rest stands.depot in
    let enough : blocks_for (length o.t.message) ≤ length h.depot.free = subst (λ m. blocks_for (length m) ≤ length h.depot.free) bytes p.enough in
    let n : ℕ = length o.boxes + 1 in
    let stood : LaneStands m k (t.heard k) (Gave note ∷ rest) lane = stands.lanes k lane is in
    let new : House = house₃ h k lane o.t p.key n in
    let now : Lane = lane₃ h k lane o.t p.key n in
    let story₁ = goes_on h (house₁ h k lane o.t p.key n) (Begin k) story (begins h k lane o.t p.key n is stood.no_draft o.above p.is)
    (λ owed. lane_done h k lane is none (answered owed)) in
    let story₂ = goes_on (house₁ h k lane o.t p.key n) (house₂ h k lane o.t p.key n) (Put k o.t.message) story₁
    (puts h k lane o.t p.key n is p.is enough) (λ owed. tt) in
    let story₃ = goes_on (house₂ h k lane o.t p.key n) new (Seal k n) story₂ (seals h k lane o.t p.key n is (omega arith) p.is)
    (λ owed. (o.planned owed).fits) in
    let giving : IsGiving m k (Gave note ∷ rest) now = lane_opened k note rest lane p.key o refl none in
    let stands_now : LaneStands m k (t.heard k) (Gave note ∷ rest) now = record {
      no_draft = refl;
      within = stood.within;
      queue = stood.queue;
      all_told = stood.all_told;
      all_heard = stood.all_heard;
      fed = stood.fed;
      gives = inr giving;
    } in
    record {
      house = new;
      story = story₃;
      setting = stands.setting;
      as_many = (stands.as_many.0, ap length (lanes_are h k lane o.t p.key n) ∙ length_set h.lanes k now ∙ stands.as_many.1);
      within = stands.within;
      boxes = stands.boxes;
      lanes = λ j l at. each_set (λ i x. LaneStands m i (t.heard i) (Gave note ∷ rest) x) h.lanes k now (λ i x differ was. stands.lanes i x was) stands_now
          j l (ap (λ ls. slice_get ls j) (sym (lanes_are h k lane o.t p.key n)) ∙ at);
      depot = depot_sealed h.depot note rest p.key o.t.message (take (blocks_for (length o.t.message)) h.depot.free) n new.depot.slots new.depot.free
          stands.depot p.is bytes (slots_are h k lane o.t p.key n) refl enough;
      lane = now;
      is = ap (λ ls. slice_get ls k) (lanes_are h k lane o.t p.key n) ∙ set_at h.lanes k now lane is;
      giving = giving;
    }

by_state : {m : Manner} (s : Server) (t : Threads) (note : Note) (rest : List Deed) (h : House) → Stands m s t (Gave note ∷ rest) h → Story m h → (lane : Lane)
    → LaneIs h note.txn.lane lane → IsIdle m note.txn.lane (Gave note ∷ rest) lane ⊎ IsGiving m note.txn.lane (Gave note ∷ rest) lane
    → MayOpen m s t note rest
by_state {m} s t note rest h stands story lane is (inl idle) =
    let k : ℕ = note.txn.lane in
    let first : given_by k (Gave note ∷ rest) ≡ note ∷ given_by k rest =
    passes (λ (n : Note). n.txn.lane == k) note (flat_map given_in rest) (same_number k k refl) in
    let own : done_by k (Gave note ∷ rest) ≡ Gave note ∷ done_by k rest = passes (is_of_lane k) (Gave note) rest (same_number k k refl) in
    let over : Owed m → ExchangeIsOver m.room k idle.ts lane.gather (Gave note ∷ done_by k rest) =
    λ owed. exchange_is_over m.room k note idle.ts lane.gather (done_by k (Gave note ∷ rest)) (done_by k rest) own (idle.keeps owed) in
    opened s t note rest h stands story lane is idle.no_hold (λ owed. (over owed).answered)
    (opening m k lane.number note (given_by k rest) (done_by k rest) idle.ts idle.rise (sym first ∙ idle.gives) (λ owed. (over owed).goes))
by_state s t note rest h stands story lane is (inr giving) = record {
  house = h;
  story = story;
  setting = stands.setting;
  as_many = stands.as_many;
  within = stands.within;
  boxes = stands.boxes;
  lanes = stands.lanes;
  depot = depot_past (Gave note) rest h.depot stands.depot;
  lane = lane;
  is = is;
  giving = giving;
}

pub opens : {m : Manner} (s : Server) (t : Threads) (note : Note) (rest : List Deed) (h : House) → Stands m s t (Gave note ∷ rest) h → Story m h
    → MayOpen m s t note rest
opens s t note rest h stands story =
    let low : note.txn.lane < s.lanes = stands.within.0.0 in
    let l = lane_there h s.lanes note.txn.lane stands.as_many.1 low in
    by_state s t note rest h stands story l.0 l.1 (stands.lanes note.txn.lane l.0 l.1).gives
