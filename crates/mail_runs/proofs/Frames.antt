-- What a deed leaves alone: the mailboxes and the lanes that it isn't of.
use Rattle.std.proofs.Common.{◌≡◌, ◌≢◌, ℕ, ◌+◌, ◌-◌, ◌<◌, ◌≤◌, ◌==◌, List, [], ◌∷◌, ◌++◌, length, drop, inl, inr, refl, ap, sym, ◌∙◌, subst, arith}
use Rattle.std.proofs.Common.{length-append}
use Rattle.std.specs.Prelude.{⊤, ◌⊎◌, flat_map, slice_get}
use Rattle.std.proofs.lemmas.List.Elements.{filter-append}
use Rattle.std.proofs.lemmas.Grind.{flat_map-append}
use Rattle.std.proofs.lemmas.List.Sums.{sum_by-cons}
use Rattle.mail_world.specs.declared.Note.{Note}
use Rattle.mail_world.specs.declared.Slip.{Slip}
use Rattle.mail_world.specs.Lists.{Transaction, copies_from}
use Rattle.mail_world.specs.House.{Lane, Box, notes_of}
use Rattle.mail_world.specs.Depot.{Depot}
use Rattle.mail_runs.specs.Deeds.{Deed, Gave, Took, Told, Heard, turns_of, given_in, taken_in, told_in, heard_in, given_by, given_to, taken_by, told_to}
use Rattle.mail_runs.specs.Deeds.{heard_by, is_of_worker, worked_by, of_mailbox, slips_to}
use Rattle.mail_runs.specs.Courses.{Server, Course, outcomes_in}
use Rattle.mail_runs.specs.Histories.{HearsTold}
use Rattle.mail_runs.specs.Timed.{is_of_lane}
use Rattle.mail_runs.specs.Ordered.{done_by}
use Rattle.mail_runs.proofs.Manners.{Manner, Owed}
use Rattle.mail_runs.proofs.Exchanges.{KeepsExchange}
use Rattle.mail_runs.proofs.Parts.{fails, other_number}
use Rattle.mail_runs.proofs.Stands.{BeginsCopy, Flows, BoxStands, LaneStands, IsIdle, IsGiving, DepotStands, slots_for, blocks_to_give}

-- the deed isn't of the mailbox
abbrev pub IsPastBox : ℕ → Deed → Type 0
IsPastBox b (Gave note) = note.mailbox ≢ b
IsPastBox b (Took note) = note.mailbox ≢ b
IsPastBox b (Told slip) = slip.worker ≢ b
IsPastBox b (Heard slip) = ⊤

-- nor of the lane
abbrev pub IsPastLane : ℕ → Deed → Type 0
IsPastLane k (Gave note) = note.txn.lane ≢ k
IsPastLane k (Took note) = ⊤
IsPastLane k (Told slip) = slip.txn.lane ≢ k
IsPastLane k (Heard slip) = slip.txn.lane ≢ k

-- parts of two lists, one after the other
pub given_to-append : (b : ℕ) (xs ys : List Deed) → given_to b (xs ++ ys) ≡ given_to b xs ++ given_to b ys
given_to-append b xs ys = ap (of_mailbox b) (flat_map-append given_in xs ys)
    ∙ filter-append (λ note. note.mailbox == b) (flat_map given_in xs) (flat_map given_in ys)

pub taken_by-append : (b : ℕ) (xs ys : List Deed) → taken_by b (xs ++ ys) ≡ taken_by b xs ++ taken_by b ys
taken_by-append b xs ys = ap (of_mailbox b) (flat_map-append taken_in xs ys)
    ∙ filter-append (λ note. note.mailbox == b) (flat_map taken_in xs) (flat_map taken_in ys)

pub told_to-append : (k : ℕ) (xs ys : List Deed) → told_to k (xs ++ ys) ≡ told_to k xs ++ told_to k ys
told_to-append k xs ys = ap (slips_to k) (flat_map-append told_in xs ys)
    ∙ filter-append (λ slip. slip.txn.lane == k) (flat_map told_in xs) (flat_map told_in ys)

pub heard_by-append : (k : ℕ) (xs ys : List Deed) → heard_by k (xs ++ ys) ≡ heard_by k xs ++ heard_by k ys
heard_by-append k xs ys = ap (slips_to k) (flat_map-append heard_in xs ys)
    ∙ filter-append (λ slip. slip.txn.lane == k) (flat_map heard_in xs) (flat_map heard_in ys)

-- as many more wait after a deed that gives, and as many fewer after one that takes
pub flows_on : (capacity b w n : ℕ) (d : Deed) (rest : List Deed) → n + length (taken_by b (d ∷ [])) ≡ w + length (given_to b (d ∷ []))
    → Flows capacity b w (d ∷ rest) → Flows capacity b n rest
flows_on capacity b w n d rest e flows =
    let t : (ds : List Deed) → length (taken_by b (d ∷ ds)) ≡ length (taken_by b (d ∷ [])) + length (taken_by b ds) =
    λ ds. ap length (taken_by-append b (d ∷ []) ds) ∙ length-append (taken_by b (d ∷ [])) (taken_by b ds) in
    let g : (ds : List Deed) → length (given_to b (d ∷ ds)) ≡ length (given_to b (d ∷ [])) + length (given_to b ds) =
    λ ds. ap length (given_to-append b (d ∷ []) ds) ∙ length-append (given_to b (d ∷ [])) (given_to b ds) in
    record {
      taken_later = λ before after whole.
          let f : length (taken_by b (d ∷ before)) ≤ w + length (given_to b (d ∷ before)) = flows.taken_later (d ∷ before) after (ap (λ ds. d ∷ ds) whole) in
          let u = t before in
          let v = g before in
          omega arith;
      finds_room = λ before after note whole to.
          let f : w + length (given_to b (d ∷ before)) < capacity + length (taken_by b (d ∷ before)) =
          flows.finds_room (d ∷ before) after note (ap (λ ds. d ∷ ds) whole) to in
          let u = t before in
          let v = g before in
          omega arith;
    }

pub tells_on : (k w n : ℕ) (d : Deed) (rest : List Deed) → n + length (heard_by k (d ∷ [])) ≡ w + length (told_to k (d ∷ [])) → HearsTold k w (d ∷ rest)
    → HearsTold k n rest
tells_on k w n d rest e fed before after whole =
    let f : length (heard_by k (d ∷ before)) ≤ w + length (told_to k (d ∷ before)) = fed (d ∷ before) after (ap (λ ds. d ∷ ds) whole) in
    let t : length (heard_by k (d ∷ before)) ≡ length (heard_by k (d ∷ [])) + length (heard_by k before) =
    ap length (heard_by-append k (d ∷ []) before) ∙ length-append (heard_by k (d ∷ [])) (heard_by k before) in
    let g : length (told_to k (d ∷ before)) ≡ length (told_to k (d ∷ [])) + length (told_to k before) =
    ap length (told_to-append k (d ∷ []) before) ∙ length-append (told_to k (d ∷ [])) (told_to k before) in
    omega arith

-- what a deed that isn't of the mailbox leaves alone
record Beside (b : ℕ) (d : Deed) : Type 0 where
  given : (rest : List Deed) → given_to b (d ∷ rest) ≡ given_to b rest
  taken : (rest : List Deed) → taken_by b (d ∷ rest) ≡ taken_by b rest
  worked : (rest : List Deed) → worked_by b (d ∷ rest) ≡ worked_by b rest

past_box : (b : ℕ) (d : Deed) → IsPastBox b d → Beside b d
past_box b (Gave note) past = record {
  given = λ rest. fails (λ (n : Note). n.mailbox == b) note (flat_map given_in rest) (other_number note.mailbox b past);
  taken = λ rest. refl;
  worked = λ rest. refl;
}
past_box b (Took note) past = record {
  given = λ rest. refl;
  taken = λ rest. fails (λ (n : Note). n.mailbox == b) note (flat_map taken_in rest) (other_number note.mailbox b past);
  worked = λ rest. fails (is_of_worker b) (Took note) rest (other_number note.mailbox b past);
}
past_box b (Told slip) past = record {
  given = λ rest. refl;
  taken = λ rest. refl;
  worked = λ rest. fails (is_of_worker b) (Told slip) rest (other_number slip.worker b past);
}
past_box b (Heard slip) past = record { given = λ rest. refl; taken = λ rest. refl; worked = λ rest. refl }

pub box_past : (s : Server) (capacity b : ℕ) (course : Course) (d : Deed) (rest : List Deed) (box : Box) → IsPastBox b d
    → BoxStands s capacity b course (d ∷ rest) box → BoxStands s capacity b course rest box
box_past s capacity b course d rest box past stands =
    let p = past_box b d past in
    let none_taken : length (taken_by b (d ∷ [])) ≡ 0 = ap length (p.taken []) in
    let none_given : length (given_to b (d ∷ [])) ≡ 0 = ap length (p.given []) in
    record {
      quota = stands.quota;
      old = stands.old;
      still_open = stands.still_open;
      prefix = stands.prefix;
      all = sym (ap (λ l. notes_of box.accepted ++ l) (p.given rest)) ∙ stands.all;
      flows = flows_on capacity b (length box.accepted - box.taken) (length box.accepted - box.taken) d rest (omega arith) stands.flows;
      work = record {
        notes = stands.work.notes;
        turns = stands.work.turns;
        program = subst (λ l. BeginsCopy b l (turns_of b stands.work.notes (outcomes_in stands.work.turns)) box.hand) (p.worked rest) stands.work.program;
        queue = sym (ap (λ l. notes_of (drop box.taken box.accepted) ++ l) (p.given rest)) ∙ stands.work.queue;
        takes = stands.work.takes;
      };
    }

record BesideLane (k : ℕ) (d : Deed) : Type 0 where
  given : (rest : List Deed) → given_by k (d ∷ rest) ≡ given_by k rest
  told : (rest : List Deed) → told_to k (d ∷ rest) ≡ told_to k rest
  heard : (rest : List Deed) → heard_by k (d ∷ rest) ≡ heard_by k rest
  done : (rest : List Deed) → done_by k (d ∷ rest) ≡ done_by k rest

past_lane : (k : ℕ) (d : Deed) → IsPastLane k d → BesideLane k d
past_lane k (Gave note) past = record {
  given = λ rest. fails (λ (n : Note). n.txn.lane == k) note (flat_map given_in rest) (other_number note.txn.lane k past);
  told = λ rest. refl;
  heard = λ rest. refl;
  done = λ rest. fails (is_of_lane k) (Gave note) rest (other_number note.txn.lane k past);
}
past_lane k (Took note) past = record { given = λ rest. refl; told = λ rest. refl; heard = λ rest. refl; done = λ rest. refl }
past_lane k (Told slip) past = record {
  given = λ rest. refl;
  told = λ rest. fails (λ (x : Slip). x.txn.lane == k) slip (flat_map told_in rest) (other_number slip.txn.lane k past);
  heard = λ rest. refl;
  done = λ rest. refl;
}
past_lane k (Heard slip) past = record {
  given = λ rest. refl;
  told = λ rest. refl;
  heard = λ rest. fails (λ (x : Slip). x.txn.lane == k) slip (flat_map heard_in rest) (other_number slip.txn.lane k past);
  done = λ rest. fails (is_of_lane k) (Heard slip) rest (other_number slip.txn.lane k past);
}

-- a lane that went in order before a deed goes on so after it
abbrev pub KeepsOn : Manner → ℕ → List Deed → List Deed → Lane → Lane → Type 0
KeepsOn m k left rest lane new = Owed m → (notes : List Note) (ts : List Transaction) → KeepsExchange m.room k notes ts lane.gather (done_by k left)
    → KeepsExchange m.room k notes ts new.gather (done_by k rest)

-- a lane has as much to give where its messages, its holds and its number stay
pub gives_still : {m : Manner} (k : ℕ) (left rest : List Deed) (lane new : Lane) → given_by k left ≡ given_by k rest → new.holds ≡ lane.holds
    → new.messages ≡ lane.messages → new.number ≡ lane.number → KeepsOn m k left rest lane new
    → IsIdle m k left lane ⊎ IsGiving m k left lane → IsIdle m k rest new ⊎ IsGiving m k rest new
gives_still k left rest lane new same holds messages number keeps (inl idle) = inl (record {
  ts = idle.ts;
  no_hold = holds ∙ idle.no_hold;
  gives = sym same ∙ idle.gives;
  rise = rw number idle.rise;
  keeps = λ o. keeps o [] idle.ts (idle.keeps o);
})
gives_still k left rest lane new same holds messages number keeps (inr g) = inr (record {
  key = g.key;
  t = g.t;
  place = g.place;
  box = g.box;
  boxes = g.boxes;
  at = g.at;
  ts = g.ts;
  hold = holds ∙ g.hold;
  message = ap (λ ms. slice_get ms g.at) messages ∙ g.message;
  gives = sym same ∙ g.gives;
  rise = rw number g.rise;
  keeps = λ o. keeps o (copies_from k g.t g.place (g.box ∷ g.boxes)) g.ts (g.keeps o);
})

pub lane_past : {m : Manner} (k : ℕ) (heard : List Slip) (d : Deed) (rest : List Deed) (lane : Lane) → IsPastLane k d → LaneStands m k heard (d ∷ rest) lane
    → LaneStands m k heard rest lane
lane_past {m} k heard d rest lane past stands =
    let p = past_lane k d past in
    let none_heard : length (heard_by k (d ∷ [])) ≡ 0 = ap length (p.heard []) in
    let none_told : length (told_to k (d ∷ [])) ≡ 0 = ap length (p.told []) in
    record {
      no_draft = stands.no_draft;
      within = stands.within;
      queue = sym (ap (λ l. drop lane.collected lane.slips ++ l) (p.told rest)) ∙ stands.queue ∙ p.heard rest;
      all_told = sym (ap (λ l. lane.slips ++ l) (p.told rest)) ∙ stands.all_told;
      all_heard = sym (ap (λ l. lane.heard ++ l) (p.heard rest)) ∙ stands.all_heard;
      fed = tells_on k (length lane.slips - lane.collected) (length lane.slips - lane.collected) d rest (omega arith) stands.fed;
      gives = gives_still k (d ∷ rest) rest lane lane (p.given rest) refl refl refl
          (λ o notes ts keeps. subst (KeepsExchange m.room k notes ts lane.gather) (p.done rest) keeps) stands.gives;
    }

-- a depot has room for what is left once it has it for all
pub depot_past : (d : Deed) (rest : List Deed) (depot : Depot) → DepotStands (d ∷ rest) depot → DepotStands rest depot
depot_past d rest depot stands = record {
  slots = let h = stands.slots in omega (arith, sum_by-cons slots_for d rest);
  blocks = let h = stands.blocks in omega (arith, sum_by-cons blocks_to_give d rest);
}
