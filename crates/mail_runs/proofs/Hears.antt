-- A lane collects a slip.
use Rattle.std.proofs.Common.{◌≡◌, ℕ, suc, ◌+◌, ◌-◌, ◌<◌, ◌≤◌, ◌==◌, List, [], ◌∷◌, ◌++◌, length, drop, Option, Some, inl, inr, refl, ap, sym, ◌∙◌, subst}
use Rattle.std.proofs.Common.{append_assoc, arith}
use Rattle.std.specs.Prelude.{◌⊎◌, flat_map, IfSome}
use Rattle.mail_world.specs.declared.Note.{Note}
use Rattle.mail_world.specs.declared.Slip.{Slip}
use Rattle.mail_world.specs.declared.Event.TheVariants.{Collect}
use Rattle.mail_world.specs.Lists.{copies_from}
use Rattle.mail_world.specs.House.{House, Lane, with_lane}
use Rattle.mail_world.specs.Events.{CollectStep, with_heard}
use Rattle.mail_world.proofs.LastSeal.{length_set}
use Rattle.mail_world.proofs.Holds.{drop_get}
use Rattle.mail_world.proofs.OtherSteps.{there_is}
use Rattle.mail_runs.specs.Deeds.{Deed, Heard, heard_in, told_to, heard_by}
use Rattle.mail_runs.specs.Courses.{Server}
use Rattle.mail_runs.specs.Histories.{Threads}
use Rattle.mail_runs.specs.Timed.{is_of_lane}
use Rattle.mail_runs.specs.Ordered.{done_by}
use Rattle.mail_runs.proofs.Manners.{Manner, Owed}
use Rattle.mail_runs.proofs.Exchanges.{hears_on}
use Rattle.mail_runs.proofs.Parts.{passes, same_number, same_first, same_rest}
use Rattle.mail_runs.proofs.Frames.{tells_on, depot_past, gives_still}
use Rattle.mail_runs.proofs.Changes.{no_box, one_lane, lane_there}
use Rattle.mail_runs.proofs.Story.{Story, goes_on}
use Rattle.mail_runs.proofs.Stands.{LaneStands, IsIdle, IsGiving, Stands}
use Rattle.mail_runs.proofs.Next.{Next}

-- in order no copy is left to give where a slip is heard
no_holds : {m : Manner} (k : ℕ) (slip : Slip) (rest : List Deed) (lane : Lane) → done_by k (Heard slip ∷ rest) ≡ Heard slip ∷ done_by k rest
    → IsIdle m k (Heard slip ∷ rest) lane ⊎ IsGiving m k (Heard slip ∷ rest) lane → Owed m → lane.holds ≡ []
no_holds k slip rest lane its (inl idle) o = idle.no_hold
no_holds {m} k slip rest lane its (inr g) o =
    let notes : List Note = copies_from k g.t g.place (g.box ∷ g.boxes) in
    let wrong : notes ≡ [] = (hears_on m.room k slip notes g.ts lane.gather (done_by k (Heard slip ∷ rest)) (done_by k rest) its (g.keeps o)).0 in
    cc

pub hears : {m : Manner} (s : Server) (t : Threads) (slip : Slip) (rest : List Deed) (h : House) → Stands m s t (Heard slip ∷ rest) h → Story m h
    → Next m s t rest
hears {m} s t slip rest h stands story =
    let k : ℕ = slip.txn.lane in
    let low : k < s.lanes = stands.within.0.0 in
    let l = lane_there h s.lanes k stands.as_many.1 low in
    let lane : Lane = l.0 in
    let stood : LaneStands m k (t.heard k) (Heard slip ∷ rest) lane = stands.lanes k lane l.1 in
    let heard : (ds : List Deed) → heard_by k (Heard slip ∷ ds) ≡ slip ∷ heard_by k ds =
    λ ds. passes (λ (x : Slip). x.txn.lane == k) slip (flat_map heard_in ds) (same_number k k refl) in
    let one : length (heard_by k (Heard slip ∷ [])) ≡ 1 = ap length (heard []) in
    let waits : length (heard_by k (Heard slip ∷ [])) ≤ (length lane.slips - lane.collected) + 0 = stood.fed (Heard slip ∷ []) rest refl in
    let low_one : lane.collected < length lane.slips = omega arith in
    let oldest = there_is lane.slips lane.collected low_one in
    let queue : oldest.0 ∷ (drop (suc lane.collected) lane.slips ++ told_to k rest) ≡ slip ∷ heard_by k rest =
    ap (λ xs. xs ++ told_to k rest) (sym (drop_get lane.slips lane.collected oldest.0 oldest.1)) ∙ stood.queue ∙ heard rest in
    let same : oldest.0 ≡ slip = same_first _ _ _ _ queue in
    let its : done_by k (Heard slip ∷ rest) ≡ Heard slip ∷ done_by k rest = passes (is_of_lane k) (Heard slip) rest (same_number k k refl) in
    let one_more : lane.collected + 1 ≡ suc lane.collected = omega arith in
    let now : Lane = record (with_heard lane slip) { collected = lane.collected + 1 } in
    let new : House = with_lane h k now in
    let step : CollectStep h k new = record { lane = lane; slip = slip; is = l.1; oldest = oldest.1 ∙ ap (λ x. Some x) same; after = refl } in
    let stands_now : LaneStands m k (t.heard k) rest now = record {
      no_draft = stood.no_draft;
      within = omega arith;
      queue = ap (λ n. drop n lane.slips ++ told_to k rest) one_more ∙ same_rest _ _ _ _ queue;
      all_told = stood.all_told;
      all_heard = append_assoc lane.heard (slip ∷ []) (heard_by k rest) ∙ ap (λ xs. lane.heard ++ xs) (sym (heard rest)) ∙ stood.all_heard;
      fed = tells_on k (length lane.slips - lane.collected) (length lane.slips - (lane.collected + 1)) (Heard slip) rest (omega arith) stood.fed;
      gives = gives_still k (Heard slip ∷ rest) rest lane now refl refl refl refl
          (λ o notes ts keeps. (hears_on m.room k slip notes ts lane.gather (done_by k (Heard slip ∷ rest)) (done_by k rest) its keeps).1) stood.gives;
    } in
    record {
      house = new;
      story = goes_on h new (Collect k) story step
          (λ o. subst (λ (x : Option Lane). IfSome x (λ y. y.holds ≡ [])) (sym l.1) (no_holds k slip rest lane its stood.gives o));
      stands = record {
        setting = stands.setting;
        as_many = (stands.as_many.0, length_set h.lanes k now ∙ stands.as_many.1);
        within = stands.within.1;
        boxes = no_box s t h.capacity (Heard slip) rest h.boxes (λ b. tt) stands.boxes;
        lanes = one_lane t (Heard slip) rest h.lanes k now (λ i differ e. differ (sym e)) stands_now stands.lanes;
        depot = depot_past (Heard slip) rest h.depot stands.depot;
      };
    }
