-- In an orderly run no lane has more copies and slips under way than unanswered places, so that a released copy's slip finds room.
use Rattle.std.proofs.Common.{◌≡◌, ◌≢◌, ℕ, ◌+◌, ◌≤◌, List, [], ◌∷◌, ◌++◌, drop, Bool, true, false, cond, ◌==◌, Option, Some, None, inl, inr, refl, ap, sym, ◌∙◌}
use Rattle.std.proofs.Common.{subst, arith, add-one, length-append}
use Rattle.std.specs.Prelude.{slice_get, slice_set, flat_map, sum_by, replicate, IfSome}
use Rattle.std.specs.List.{AllByRecursion}
use Rattle.std.proofs.lemmas.Bool.{eq-eqb}
use Rattle.std.proofs.lemmas.List.Sums.{sum_by-append, sum_by-cons}
use Rattle.std.proofs.lemmas.Option.{slice_get_within}
use Rattle.mail_world.specs.declared.Outcome.{Outcome}
use Rattle.mail_world.specs.declared.Slip.{Slip}
use Rattle.mail_world.specs.declared.Event.{Event}
use Rattle.mail_world.specs.declared.Event.TheVariants.{Begin, Put, Cancel, Seal, Split, Offer, HandBack, Collect, Take}
use Rattle.mail_world.specs.declared.Event.TheVariants.{GiveSlip, Reclaim, Close}
use Rattle.mail_world.specs.Slips.{Gather, place_outcome, is_same_txn, gathered, own_slip, slip_of}
use Rattle.mail_world.specs.Depot.{Key}
use Rattle.mail_world.specs.House.{Hold, Post, Copy, Box, Lane, House, IsFreshBox, IsFreshLane, IsStart}
use Rattle.mail_world.specs.Events.{Step, LaneIs, BoxIs, outcome_of}
use Rattle.mail_world.specs.Runs.{Happened, Run, last_house}
use Rattle.mail_world.proofs.OneLine.{other_byte}
use Rattle.mail_world.proofs.Accepted.{get_set, each_at}
use Rattle.mail_world.proofs.Depots.{total_set}
use Rattle.mail_world.proofs.Holds.{drop_get}
use Rattle.mail_progress.specs.Orderly.{HasOutcome, IsLaneDone, uncollected, IsInOrder, IsOrderly, post_of, on_way}
use Rattle.mail_progress.specs.OrderlyRuns.{SlipsFindRoom}
use Rattle.mail_world.proofs.Holds.{sum_set, sum_remove}
use Rattle.mail_progress.proofs.Sums.{sum_last, sum_one_more, sum_replicate, sum_none}

-- the copies that a mailbox has of a lane, to take or in hand
abbrev pub one_of : ℕ → Post → ℕ
one_of k post = cond (post.note.txn.lane == k) 1 0

abbrev pub way_in : ℕ → Box → ℕ
way_in k box = sum_by (one_of k) (on_way box)

abbrev pub way : ℕ → List Box → ℕ
way k boxes = sum_by (one_of k) (flat_map on_way boxes)

-- the copies that a lane has still to give away, and all that is under way for its answers
abbrev pub to_give : List Hold → ℕ
to_give holds = sum_by (λ (hold : Hold). hold.weight) holds

abbrev pub pending : ℕ → Lane → List Box → ℕ
pending k lane boxes = to_give lane.holds + way k boxes + uncollected lane

abbrev pub unanswered_one : Option Outcome → ℕ
unanswered_one None = 1
unanswered_one (Some outcome) = 0

abbrev pub unanswered : List (Option Outcome) → ℕ
unanswered places = sum_by unanswered_one places

abbrev pub open_places : Lane → ℕ
open_places lane = unanswered lane.gather.places

-- what is kept
pub record LaneIsWithin (room k : ℕ) (lane : Lane) (boxes : List Box) : Type 0 where
  pub below : pending k lane boxes ≤ open_places lane
  pub bound : open_places lane ≤ room
  pub drafting : (key : Key) → lane.draft ≡ Some key → pending k lane boxes ≤ 0

abbrev pub AllWithin : ℕ → House → Type 0
AllWithin room h = (k : ℕ) (lane : Lane) → LaneIs h k lane → LaneIsWithin room k lane h.boxes

-- what is under way goes down at least as much as the open places
within_kept : (room k : ℕ) (lane next : Lane) (bs ms : List Box) → pending k next ms + open_places lane ≤ pending k lane bs + open_places next
    → pending k next ms ≤ pending k lane bs → open_places next ≤ open_places lane
    → ((key : Key) → next.draft ≡ Some key → lane.draft ≡ Some key) → LaneIsWithin room k lane bs → LaneIsWithin room k next ms
within_kept room k lane next bs ms both less fewer draft s = record {
  below = let a = s.below in omega arith;
  bound = let a = s.bound in omega arith;
  drafting = λ key e. let a = s.drafting key (draft key e) in omega arith;
}

-- the lane stays
within_same : (room k : ℕ) (lane : Lane) (bs ms : List Box) → way k ms ≤ way k bs → LaneIsWithin room k lane bs → LaneIsWithin room k lane ms
within_same room k lane bs ms le s = within_kept room k lane lane bs ms (omega arith) (omega arith) (omega arith) (λ key e. e) s

one_lane : (room : ℕ) (h new : House) (k : ℕ) (old changed : Lane) → new.lanes ≡ slice_set h.lanes k changed → LaneIs h k old
    → (LaneIsWithin room k old h.boxes → LaneIsWithin room k changed new.boxes)
    → ((v : ℕ) → v ≢ k → way v new.boxes ≤ way v h.boxes) → AllWithin room h → AllWithin room new
one_lane room h new k old changed lanes was here less all v lane is = elim (get_set h.lanes k v changed lane (ap (λ ls. slice_get ls v) (sym lanes) ∙ is)) [
  | inl at ↦ let P : Lane → Type 0 = λ x. LaneIsWithin room v x new.boxes in
      let Q : ℕ → Type 0 = λ n. LaneIsWithin room n changed new.boxes in
      subst P at.1 (subst Q (sym at.0) (here (all k old was)))
  | inr other ↦ within_same room v lane h.boxes new.boxes (less v other.0) (all v lane other.1)
]

lane_alone : (room : ℕ) (h new : House) (k : ℕ) (old changed : Lane) → new.boxes ≡ h.boxes → new.lanes ≡ slice_set h.lanes k changed → LaneIs h k old
    → (LaneIsWithin room k old h.boxes → LaneIsWithin room k changed h.boxes) → AllWithin room h → AllWithin room new
lane_alone room h new k old changed boxes lanes was here all =
    one_lane room h new k old changed lanes was (λ s. let P : List Box → Type 0 = λ bs. LaneIsWithin room k changed bs in subst P (sym boxes) (here s))
    (λ v ne. rw boxes (omega arith)) all

no_lane : (room : ℕ) (h new : House) → new.lanes ≡ h.lanes → ((v : ℕ) → way v new.boxes ≤ way v h.boxes) → AllWithin room h → AllWithin room new
no_lane room h new lanes less all k lane is = within_same room k lane h.boxes new.boxes (less k) (all k lane (ap (λ ls. slice_get ls k) (sym lanes) ∙ is))

way_set : (k : ℕ) (bs : List Box) (w : ℕ) (old new : Box) → slice_get bs w ≡ Some old → way k (slice_set bs w new) + way_in k old ≡ way k bs + way_in k new
way_set k bs w old new was = total_set (one_of k) on_way bs w old new was

box_alone : (room : ℕ) (h new : House) (w : ℕ) (old changed : Box) → new.boxes ≡ slice_set h.boxes w changed → new.lanes ≡ h.lanes → BoxIs h w old
    → on_way changed ≡ on_way old → AllWithin room h → AllWithin room new
box_alone room h new w old changed boxes lanes was same = no_lane room h new lanes (λ v.
    let e : way_in v changed ≡ way_in v old = ap (sum_by (one_of v)) same in
    let n : way v new.boxes ≡ way v (slice_set h.boxes w changed) = ap (way v) boxes in
    omega (arith, way_set v h.boxes w old changed was))

-- a gatherer that gets a slip has one open place less at most
placed_by : (places : List (Option Outcome)) (p : ℕ) (o : Outcome) (at : Option (Option Outcome)) → slice_get places p ≡ at
    → (unanswered places ≤ unanswered (place_outcome places p o at) + 1) × (unanswered (place_outcome places p o at) ≤ unanswered places)
placed_by places p o None e = (omega arith, omega arith)
placed_by places p o (Some None) e = let s = sum_set unanswered_one places p None (Some o) e in (omega arith, omega arith)
placed_by places p o (Some (Some x)) e = (omega arith, omega arith)

gathered_by : (g : Gather) (slip : Slip) (t : Bool) → let next : Gather =
    cond t (record { txn = g.txn; places = place_outcome g.places slip.place slip.outcome (slice_get g.places slip.place) }) g in
    (unanswered g.places ≤ unanswered next.places + 1) × (unanswered next.places ≤ unanswered g.places)
gathered_by g slip true = placed_by g.places slip.place slip.outcome (slice_get g.places slip.place) refl
gathered_by g slip false = (omega arith, omega arith)

pub one_less : (g : Gather) (slip : Slip)
    → (unanswered g.places ≤ unanswered (gathered g slip).places + 1) × (unanswered (gathered g slip).places ≤ unanswered g.places)
one_less g slip = gathered_by g slip (is_same_txn slip.txn g.txn)

all_answered : (places : List (Option Outcome)) → AllByRecursion HasOutcome places → unanswered places ≡ 0
all_answered [] h = refl
all_answered (None ∷ places) h = absurd h.0
all_answered (Some o ∷ places) h = omega (arith, all_answered places h.1, sum_by-cons unanswered_one (Some o) places)

-- each event
own_copy : (k : ℕ) (post : Post) → post.note.txn.lane ≡ k → one_of k post ≡ 1
own_copy k post e = ap (λ b. cond b 1 0) (eq-eqb post.note.txn.lane k e)

other_copy : (v k : ℕ) (post : Post) → post.note.txn.lane ≡ k → v ≢ k → one_of v post ≡ 0
other_copy v k post e ne = ap (λ b. cond b 1 0) (other_byte post.note.txn.lane v (λ same. ne (sym same ∙ e)))

way_offered : (v : ℕ) (bs : List Box) (b : ℕ) (old : Box) (post : Post) → slice_get bs b ≡ Some old
    → way v (slice_set bs b (record old { accepted = old.accepted ++ post ∷ [] })) ≤ way v bs + one_of v post
way_offered v bs b old post was =
    omega (
      arith,
      way_set v bs b old (record old { accepted = old.accepted ++ post ∷ [] }) was,
      sum_one_more (one_of v) old.taken old.accepted post,
      sum_by-append (one_of v) (post_of old.hand) (drop old.taken (old.accepted ++ post ∷ [])),
      sum_by-append (one_of v) (post_of old.hand) (drop old.taken old.accepted),
    )

way_given : (v : ℕ) (bs : List Box) (w : ℕ) (box : Box) (copy : Copy) → slice_get bs w ≡ Some box → box.hand ≡ Some copy
    → way v (slice_set bs w (record box { hand = None })) + one_of v copy.post ≡ way v bs
way_given v bs w box copy was hand =
    let e : way_in v box ≡ one_of v copy.post + sum_by (one_of v) (drop box.taken box.accepted) =
    ap (λ x. sum_by (one_of v) (post_of x ++ drop box.taken box.accepted)) hand ∙ sum_by-cons (one_of v) copy.post (drop box.taken box.accepted) in
    omega (arith, way_set v bs w box (record box { hand = None }) was)

seal_within : (room k n : ℕ) (lane next : Lane) (bs : List Box) (key its : Key) → lane.draft ≡ Some key → next.draft ≡ None
    → next.holds ≡ lane.holds ++ record { key = its; weight = n } ∷ [] → next.slips ≡ lane.slips → next.collected ≡ lane.collected
    → next.gather.places ≡ replicate n None → n ≤ room → LaneIsWithin room k lane bs → LaneIsWithin room k next bs
seal_within room k n lane next bs key its draft none holds slips count places le s =
    let idle = s.drafting key draft in
    let same : uncollected next ≡ uncollected lane = rw (slips, count) refl in
    let give : to_give next.holds ≡ to_give lane.holds + n =
    ap to_give holds ∙ sum_last (λ (hold : Hold). hold.weight) lane.holds (record { key = its; weight = n }) in
    let all : open_places next ≡ n = ap unanswered places ∙ sum_replicate unanswered_one n None refl in
    record { below = omega arith; bound = omega arith; drafting = λ other e. let bad : None ≡ Some other = sym none ∙ e in absurd (let f : ⊥ = cc in f) }

begin_within : (room k : ℕ) (lane next : Lane) (bs : List Box) → IsLaneDone lane → next.holds ≡ lane.holds → next.slips ≡ lane.slips
    → next.collected ≡ lane.collected → next.gather ≡ lane.gather → LaneIsWithin room k lane bs → LaneIsWithin room k next bs
begin_within room k lane next bs done holds slips count gather s =
    let same : pending k next bs ≡ pending k lane bs = rw (holds, slips, count) refl in
    let places : open_places next ≡ open_places lane = ap (λ (g : Gather). unanswered g.places) gather in
    let none : open_places lane ≡ 0 = all_answered lane.gather.places done.answered in
    let a = s.below in
    let b = s.bound in
    record { below = omega arith; bound = omega arith; drafting = λ key e. omega arith }

pub within_step : (room : ℕ) (h : House) (e : Event) (new : House) → AllWithin room h → Step h e new → IsInOrder room h e → AllWithin room new
within_step room h (Begin k) new s st o =
    let done : IsLaneDone st.lane = subst (λ p. IfSome p IsLaneDone) st.is o in
    lane_alone room h new k st.lane _ (ap (λ (x : House). x.boxes) st.after) (ap (λ (x : House). x.lanes) st.after) st.is
    (λ w. begin_within room k st.lane _ h.boxes done refl refl refl refl w) s
within_step room h (Put k bytes) new s st o = no_lane room h new (ap (λ (x : House). x.lanes) st.after) (λ v. rw (st.after) (omega arith)) s
within_step room h (Cancel k) new s st o =
    lane_alone room h new k st.lane _ (ap (λ (x : House). x.boxes) st.after) (ap (λ (x : House). x.lanes) st.after) st.is
    (λ w. within_kept room k st.lane (record st.lane { draft = None }) h.boxes h.boxes (omega arith) (omega arith) (omega arith) (λ key e. cc) w) s
within_step room h (Seal k n) new s st o =
    lane_alone room h new k st.lane _ (ap (λ (x : House). x.boxes) st.after) (ap (λ (x : House). x.lanes) st.after) st.is
    (λ w. seal_within room k n st.lane _ h.boxes st.key st.key st.draft refl refl refl refl refl o w) s
within_step room h (Split k i) new s st o =
    let rest : Hold = record { key = st.key; weight = st.weight } in
    let one : Hold = record { key = st.key; weight = 1 } in
    let next : Lane = record st.lane { holds = slice_set st.lane.holds i rest ++ one ∷ [] } in
    let give : to_give next.holds ≡ to_give st.lane.holds =
    omega (
      arith,
      sum_set (λ (hold : Hold). hold.weight) st.lane.holds i (record { key = st.key; weight = st.weight + 1 }) rest st.hold,
      sum_last (λ (hold : Hold). hold.weight) (slice_set st.lane.holds i rest) one,
    ) in
    lane_alone room h new k st.lane next (ap (λ (x : House). x.boxes) st.after) (ap (λ (x : House). x.lanes) st.after) st.is
    (λ w. within_kept room k st.lane next h.boxes h.boxes (omega arith) (omega arith) (omega arith) (λ key e. e) w) s
within_step room h (Offer k note) new s st o =
    let post : Post = record { note = note; key = st.key } in
    let boxes : new.boxes ≡ slice_set h.boxes note.mailbox (record st.box { accepted = st.box.accepted ++ post ∷ [] }) = ap (λ (x : House). x.boxes) st.after in
    let more : (v : ℕ) → way v new.boxes ≤ way v h.boxes + one_of v post = λ v. rw boxes (way_offered v h.boxes note.mailbox st.box post st.channel) in
    one_lane room h new k st.lane _ (ap (λ (x : House). x.lanes) st.after) st.is
    (λ w. let give = sum_remove (λ (hold : Hold). hold.weight) st.lane.holds st.at (record { key = st.key; weight = 1 }) st.copy.hold in
    let m = more k in let one : one_of k post ≡ 1 = own_copy k post st.own in
    within_kept room k st.lane _ h.boxes new.boxes (omega arith) (omega arith) (omega arith) (λ key e. e) w)
    (λ v ne. let m = more v in let none : one_of v post ≡ 0 = other_copy v k post st.own ne in omega arith) s
within_step room h (HandBack k i b) new s st o =
    let give = sum_remove (λ (hold : Hold). hold.weight) st.lane.holds i (record { key = st.sealed.key; weight = 1 }) st.copy.hold in
    let less = one_less st.lane.gather (own_slip k st.sealed.number st.sealed.offered b) in
    lane_alone room h new k st.lane _ (ap (λ (x : House). x.boxes) st.after) (ap (λ (x : House). x.lanes) st.after) st.is
    (λ w. within_kept room k st.lane _ h.boxes h.boxes (omega (arith, less.0)) (omega arith) (omega (arith, less.1)) (λ key e. e) w) s
within_step room h (Collect k) new s st o =
    let below = slice_get_within st.lane.slips st.lane.collected st.slip st.oldest in
    let less = one_less st.lane.gather st.slip in
    lane_alone room h new k st.lane _ (ap (λ (x : House). x.boxes) st.after) (ap (λ (x : House). x.lanes) st.after) st.is
    (λ w. within_kept room k st.lane _ h.boxes h.boxes (omega (arith, less.0)) (omega arith) (omega (arith, less.1)) (λ key e. e) w) s
within_step room h (Take w) new s st o =
    let posts : on_way st.box ≡ st.post ∷ drop (st.box.taken + 1) st.box.accepted =
    ap (λ hand. post_of hand ++ drop st.box.taken st.box.accepted) st.free_hand ∙ drop_get st.box.accepted st.box.taken st.post st.oldest
    ∙ ap (λ j. st.post ∷ drop j st.box.accepted) (sym (add-one st.box.taken)) in
    box_alone room h new w st.box _ (ap (λ (x : House). x.boxes) st.after) (ap (λ (x : House). x.lanes) st.after) st.is (sym posts) s
within_step room h (GiveSlip w outcome) new s st o =
    let boxes : new.boxes ≡ slice_set h.boxes w (record st.box { hand = None }) = ap (λ (x : House). x.boxes) st.after in
    let k = st.copy.post.note.txn.lane in
    let less : (v : ℕ) → way v new.boxes + one_of v st.copy.post ≡ way v h.boxes = λ v. rw boxes (way_given v h.boxes w st.box st.copy st.is st.in_hand) in
    one_lane room h new k st.lane _ (ap (λ (x : House). x.lanes) st.after) st.to
    (λ ok. let m = less k in let one : one_of k st.copy.post ≡ 1 = own_copy k st.copy.post refl in
    let len = length-append st.lane.slips (slip_of w st.copy.post.note (outcome_of st.copy) ∷ []) in
    within_kept room k st.lane _ h.boxes new.boxes (omega (arith, len)) (omega (arith, len)) (omega arith) (λ key e. e) ok)
    (λ v ne. let m = less v in omega arith) s
within_step room h (Reclaim slot generation) new s st o = no_lane room h new (ap (λ (x : House). x.lanes) st.2) (λ v. rw (st.2) (omega arith)) s
within_step room h (Close b) new s st o =
    box_alone room h new b st.0 _ (ap (λ (x : House). x.boxes) st.3) (ap (λ (x : House). x.lanes) st.3) st.1 refl s
within_step room h _ new s st o =
    box_alone room h new _ st.box _ (ap (λ (x : House). x.boxes) st.after) (ap (λ (x : House). x.lanes) st.after) st.is
    (ap (λ hand. post_of hand ++ drop st.box.taken st.box.accepted) (sym st.in_hand)) s

pub within_run : (room : ℕ) (h : House) (run : List Happened) → AllWithin room h → Run h run → IsOrderly room h run → AllWithin room (last_house h run)
within_run room h [] s r o = s
within_run room h (x ∷ xs) s r o = within_run room x.house xs (within_step room h x.event x.house s r.0 o.0) r.1 o.1

pub within_start : (room blocks : ℕ) (h : House) → IsStart blocks h → AllWithin room h
within_start room blocks h start k lane is =
    let f = each_at IsFreshLane h.lanes k lane start.lanes is in
    let none : way k h.boxes ≡ 0 =
    sum_none on_way (one_of k) h.boxes (λ b box at. let g = each_at IsFreshBox h.boxes b box start.boxes at in rw (g.hand, g.taken, g.accepted) refl) in
    let give : to_give lane.holds ≡ 0 = ap to_give f.holds in
    let slips : uncollected lane ≡ 0 = rw (f.slips, f.collected) refl in
    let places : open_places lane ≡ 0 = ap unanswered f.places in
    record { below = omega arith; bound = omega arith; drafting = λ key e. omega arith }

pub every_orderly_within : (room blocks : ℕ) (start : House) (run : List Happened) → IsStart blocks start → Run start run → IsOrderly room start run
    → AllWithin room (last_house start run)
every_orderly_within room blocks start run is r o = within_run room start run (within_start room blocks start is) r o

-- a copy on its way is one of those that count
way_of_hand : (k : ℕ) (bs : List Box) (w : ℕ) (box : Box) (copy : Copy) → slice_get bs w ≡ Some box → box.hand ≡ Some copy → copy.post.note.txn.lane ≡ k
    → 1 ≤ way k bs
way_of_hand k bs w box copy was hand own =
    let given = way_given k bs w box copy was hand in
    let one : one_of k copy.post ≡ 1 = own_copy k copy.post own in omega arith

pub slips_find_room : (room blocks : ℕ) (start : House) (run : List Happened) → IsStart blocks start → Run start run → IsOrderly room start run
    → SlipsFindRoom room (last_house start run)
slips_find_room room blocks start run is r o w box copy lane at hand released to =
    let h = last_house start run in
    let s = every_orderly_within room blocks start run is r o copy.post.note.txn.lane lane to in
    let a = s.below in
    let b = s.bound in
    let c = way_of_hand copy.post.note.txn.lane h.boxes w box copy at hand refl in
    omega arith
