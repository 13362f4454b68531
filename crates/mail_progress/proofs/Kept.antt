-- What the house keeps in every run, so that steps may be taken: the capacity, the lanes of the copies, weights of 1 or
-- more, and no more written than there is.
use Rattle.std.proofs.Common.{◌≡◌, ℕ, ◌+◌, ◌-◌, ◌≤◌, List, [], ◌∷◌, length, Option, Some, None, inl, inr, refl, ap, sym, ◌∙◌, subst, arith, length-append}
use Rattle.std.specs.Prelude.{slice_get, slice_set, drop, if◌then◌else◌, Bool, true, false, ◌++◌}
use Rattle.std.specs.List.{AllByRecursion}
use Rattle.std.proofs.lemmas.List.{length-drop}
use Rattle.std.proofs.lemmas.Option.{slice_get_within}
use Rattle.mail_world.specs.declared.Event.{Event}
use Rattle.mail_world.specs.declared.Event.TheVariants.{Begin, Put, Cancel, Seal, Split, Offer, HandBack, Collect, Take, Lock, Write}
use Rattle.mail_world.specs.declared.Event.TheVariants.{Release, GiveSlip, Reclaim, Close}
use Rattle.mail_world.specs.House.{Hold, Post, Progress, Going, Full, Copy, Box, Lane, House, IsFreshBox, IsFreshLane, IsStart}
use Rattle.mail_world.specs.Events.{Step, LaneIs, BoxIs, added, begun}
use Rattle.mail_world.specs.Turns.{Standing, has_room}
use Rattle.mail_world.specs.declared.Note.{Note}
use Rattle.mail_world.specs.Runs.{Happened, Run, last_house}
use Rattle.mail_world.proofs.Accepted.{each_at}
use Rattle.mail_world.proofs.Heard.{all_more, all_set, weaken}
use Rattle.mail_world.proofs.Holds.{all_remove}
use Rattle.mail_world.proofs.Merged.{same_or_not}
use Rattle.mail_world.proofs.Depots.{set_at, set_past}

-- the capacity
capacity_step : (h : House) (e : Event) (new : House) → Step h e new → new.capacity ≡ h.capacity
capacity_step h (Reclaim slot generation) new st = ap (λ (x : House). x.capacity) st.2
capacity_step h (Close b) new st = ap (λ (x : House). x.capacity) st.3
capacity_step h _ new st = ap (λ (x : House). x.capacity) st.after

pub capacity_run : (h : House) (run : List Happened) → Run h run → (last_house h run).capacity ≡ h.capacity
capacity_run h [] r = refl
capacity_run h (x ∷ xs) r = capacity_run x.house xs r.1 ∙ capacity_step h x.event x.house r.0

-- a lane that was there stays
abbrev pub LaneIsThere : List Lane → ℕ → Type 0
LaneIsThere lanes k = (lane : Lane) × (slice_get lanes k ≡ Some lane)

abbrev LanesStay : List Lane → List Lane → Type 0
LanesStay ls ms = (k : ℕ) → LaneIsThere ls k → LaneIsThere ms k

stay_same : (ls ms : List Lane) → ms ≡ ls → LanesStay ls ms
stay_same ls ms e k there = (there.0, ap (λ xs. slice_get xs k) e ∙ there.1)

stay_set : (ls ms : List Lane) (v : ℕ) (old new : Lane) → slice_get ls v ≡ Some old → ms ≡ slice_set ls v new → LanesStay ls ms
stay_set ls ms v old new was e k there = elim (same_or_not v k) [
  | inl same ↦ (new, ap (λ xs. slice_get xs k) e ∙ ap (slice_get (slice_set ls v new)) (sym same) ∙ set_at ls v new old was)
  | inr other ↦ (there.0, ap (λ xs. slice_get xs k) e ∙ set_past ls v k new other ∙ there.1)
]

-- the posts of a mailbox are of lanes, and no more of the copy in hand is written than there is
abbrev pub OfLanes : List Lane → Post → Type 0
OfLanes ls post = LaneIsThere ls post.note.txn.lane

abbrev pub IsPart : House → Note → Progress → Type 0
IsPart h note (Going lock written) = written ≤ length (added h note lock.bytes)
IsPart h note _ = Unit {0}

abbrev pub HandIsRight : House → Option Copy → Type 0
HandIsRight h None = Unit {0}
HandIsRight h (Some copy) = LaneIsThere h.lanes copy.post.note.txn.lane × IsPart h copy.post.note copy.progress

pub record IsBoxRight (h : House) (box : Box) : Type 0 where
  pub posts : AllByRecursion (OfLanes h.lanes) box.accepted
  pub hand : HandIsRight h box.hand
  pub prefix : box.taken ≤ length box.accepted

abbrev pub IsSome : Hold → Type 0
IsSome hold = 1 ≤ hold.weight

pub record KeptSoFar (h : House) : Type 0 where
  pub boxes : AllByRecursion (IsBoxRight h) h.boxes
  pub lanes : AllByRecursion (λ (lane : Lane). AllByRecursion IsSome lane.holds) h.lanes

-- what a turn appends is the same
abbrev SameAdditions : House → House → Type 0
SameAdditions h new = (note : Note) (bytes : List ℕ) → added new note bytes ≡ added h note bytes

-- how a house follows another: the same texts, and all lanes
record Follows (h new : House) : Type 0 where
  adds : SameAdditions h new
  stay : LanesStay h.lanes new.lanes

part_right : (h new : House) → SameAdditions h new → (note : Note) (progress : Progress) → IsPart h note progress → IsPart new note progress
part_right h new e note (Going lock written) r = let n = ap length (e note lock.bytes) in omega (arith, n, r)
part_right h new e note _ r = tt

hand_right : (h new : House) → Follows h new → (hand : Option Copy) → HandIsRight h hand → HandIsRight new hand
hand_right h new f None r = tt
hand_right h new f (Some copy) r = (f.stay copy.post.note.txn.lane r.0, part_right h new f.adds copy.post.note copy.progress r.1)

box_right : (h new : House) → Follows h new → (box : Box) → IsBoxRight h box → IsBoxRight new box
box_right h new f box r = record {
  posts = weaken (OfLanes h.lanes) (OfLanes new.lanes) (λ post there. f.stay post.note.txn.lane there) box.accepted r.posts;
  hand = hand_right h new f box.hand r.hand;
  prefix = r.prefix;
}

-- a lane changes, and perhaps a mailbox
kept_lane : (h new : House) (k : ℕ) (old next : Lane) → KeptSoFar h → SameAdditions h new → LaneIs h k old → new.boxes ≡ h.boxes
    → new.lanes ≡ slice_set h.lanes k next
    → (AllByRecursion IsSome old.holds → AllByRecursion IsSome next.holds) → KeptSoFar new
kept_lane h new k old next s adds was boxes lanes ok =
    let P : Lane → Type 0 = λ lane. AllByRecursion IsSome lane.holds in
    let f : Follows h new = record { adds = adds; stay = stay_set h.lanes new.lanes k old next was lanes } in
    record {
      boxes = subst (AllByRecursion (IsBoxRight new)) (sym boxes) (weaken (IsBoxRight h) (IsBoxRight new) (box_right h new f) h.boxes s.boxes);
      lanes = subst (AllByRecursion P) (sym lanes) (all_set P h.lanes k next s.lanes (ok (each_at P h.lanes k old s.lanes was)));
    }

kept_none : (h new : House) → KeptSoFar h → SameAdditions h new → new.boxes ≡ h.boxes → new.lanes ≡ h.lanes → KeptSoFar new
kept_none h new s adds boxes lanes =
    let P : Lane → Type 0 = λ lane. AllByRecursion IsSome lane.holds in
    let f : Follows h new = record { adds = adds; stay = stay_same h.lanes new.lanes lanes } in
    record {
      boxes = subst (AllByRecursion (IsBoxRight new)) (sym boxes) (weaken (IsBoxRight h) (IsBoxRight new) (box_right h new f) h.boxes s.boxes);
      lanes = subst (AllByRecursion P) (sym lanes) s.lanes;
    }

kept_box : (h new : House) (w : ℕ) (old next : Box) → KeptSoFar h → SameAdditions h new → BoxIs h w old → new.lanes ≡ h.lanes
    → new.boxes ≡ slice_set h.boxes w next → (IsBoxRight new old → IsBoxRight new next) → KeptSoFar new
kept_box h new w old next s adds was lanes boxes ok =
    let P : Lane → Type 0 = λ lane. AllByRecursion IsSome lane.holds in
    let f : Follows h new = record { adds = adds; stay = stay_same h.lanes new.lanes lanes } in
    record {
      boxes = subst (AllByRecursion (IsBoxRight new)) (sym boxes)
          (all_set (IsBoxRight new) h.boxes w next (weaken (IsBoxRight h) (IsBoxRight new) (box_right h new f) h.boxes s.boxes)
          (ok (box_right h new f old (each_at (IsBoxRight h) h.boxes w old s.boxes was))));
      lanes = subst (AllByRecursion P) (sym lanes) s.lanes;
    }

kept_both : (h new : House) (w : ℕ) (old next : Box) (k : ℕ) (was after : Lane) → KeptSoFar h → SameAdditions h new → BoxIs h w old
    → LaneIs h k was → new.boxes ≡ slice_set h.boxes w next → new.lanes ≡ slice_set h.lanes k after
    → (IsBoxRight new old → IsBoxRight new next) → (AllByRecursion IsSome was.holds → AllByRecursion IsSome after.holds) → KeptSoFar new
kept_both h new w old next k was after s adds there here boxes lanes ok fine =
    let P : Lane → Type 0 = λ lane. AllByRecursion IsSome lane.holds in
    let f : Follows h new = record { adds = adds; stay = stay_set h.lanes new.lanes k was after here lanes } in
    record {
      boxes = subst (AllByRecursion (IsBoxRight new)) (sym boxes)
          (all_set (IsBoxRight new) h.boxes w next (weaken (IsBoxRight h) (IsBoxRight new) (box_right h new f) h.boxes s.boxes)
          (ok (box_right h new f old (each_at (IsBoxRight h) h.boxes w old s.boxes there))));
      lanes = subst (AllByRecursion P) (sym lanes) (all_set P h.lanes k after s.lanes (fine (each_at P h.lanes k was s.lanes here)));
    }

hand_of : (h : House) (box : Box) (copy : Copy) → box.hand ≡ Some copy → HandIsRight h box.hand
    → LaneIsThere h.lanes copy.post.note.txn.lane × IsPart h copy.post.note copy.progress
hand_of h box copy e r = subst (HandIsRight h) e r

-- a turn that begins, and one that goes on
part_begun : (h : House) (quota : Option ℕ) (note : Note) (lock : Standing) → IsPart h note (begun h quota note lock)
part_begun h quota note lock = by (has_room h.calendar h.site quota note lock.bytes)
  where
    by : (t : Bool) → IsPart h note (if t then Going lock 0 else Full lock)
    by true = omega arith
    by false = tt

part_more : (h : House) (note : Note) (lock : Standing) (written : ℕ) (bytes more : List ℕ) → drop written (added h note lock.bytes) ≡ bytes ++ more
    → written ≤ length (added h note lock.bytes) → written + length bytes ≤ length (added h note lock.bytes)
part_more h note lock written bytes more next low =
    let len : length (added h note lock.bytes) - written ≡ length bytes + length more =
    sym (length-drop written (added h note lock.bytes)) ∙ ap length next ∙ length-append bytes more in omega (arith, len, low)

pub kept_step : (h : House) (e : Event) (new : House) → KeptSoFar h → Step h e new → KeptSoFar new
kept_step h (Begin k) new s st = subst KeptSoFar (sym st.after) (kept_lane h _ k st.lane _ s (λ note bytes. refl) st.is refl refl (λ ok. ok))
kept_step h (Put k bytes) new s st = subst KeptSoFar (sym st.after) (kept_none h _ s (λ note bytes. refl) refl refl)
kept_step h (Cancel k) new s st = subst KeptSoFar (sym st.after) (kept_lane h _ k st.lane _ s (λ note bytes. refl) st.is refl refl (λ ok. ok))
kept_step h (Seal k n) new s st =
    subst KeptSoFar (sym st.after) (kept_lane h _ k st.lane _ s (λ note bytes. refl) st.is refl refl
    (λ ok. all_more IsSome st.lane.holds (record { key = st.key; weight = n }) ok st.some))
kept_step h (Split k i) new s st =
    let rest : Hold = record { key = st.key; weight = st.weight } in
    let one : Hold = record { key = st.key; weight = 1 } in
    subst KeptSoFar (sym st.after) (kept_lane h _ k st.lane _ s (λ note bytes. refl) st.is refl refl
    (λ ok. all_more IsSome (slice_set st.lane.holds i rest) one (all_set IsSome st.lane.holds i rest ok st.above) (omega arith)))
kept_step h (Offer k note) new s st =
    subst KeptSoFar (sym st.after) (kept_both h _ note.mailbox st.box _ k st.lane _ s (λ note bytes. refl) st.channel st.is refl refl
    (λ ok. record {
      posts = all_more (OfLanes _) st.box.accepted (record { note = note; key = st.key }) ok.posts
          (subst (LaneIsThere _) (sym st.own) (_, set_at h.lanes k _ st.lane st.is));
      hand = ok.hand;
      prefix = let l = length-append st.box.accepted (record { note = note; key = st.key } ∷ []) in let low = ok.prefix in omega arith;
    })
    (λ ok. all_remove IsSome st.lane.holds st.at ok))
kept_step h (HandBack k i b) new s st =
    subst KeptSoFar (sym st.after) (kept_lane h _ k st.lane _ s (λ note bytes. refl) st.is refl refl (λ ok. all_remove IsSome st.lane.holds i ok))
kept_step h (Collect k) new s st = subst KeptSoFar (sym st.after) (kept_lane h _ k st.lane _ s (λ note bytes. refl) st.is refl refl (λ ok. ok))
kept_step h (Take w) new s st =
    subst KeptSoFar (sym st.after) (kept_box h _ w st.box _ s (λ note bytes. refl) st.is refl refl
    (λ ok. record {
      posts = ok.posts;
      hand = (each_at (OfLanes h.lanes) st.box.accepted st.box.taken st.post ok.posts st.oldest, tt);
      prefix = let below = slice_get_within st.box.accepted st.box.taken st.post st.oldest in omega arith;
    }))
kept_step h (Lock w bytes) new s st =
    let lock : Standing = record { bytes = bytes; synced = st.kept; failures = st.failures } in
    subst KeptSoFar (sym st.after) (kept_box h _ w st.box _ s (λ note bytes. refl) st.is refl refl
    (λ ok. let r = hand_of h st.box st.copy st.in_hand ok.hand in
    record { posts = ok.posts; hand = (r.0, part_begun h st.box.quota st.copy.post.note lock); prefix = ok.prefix }))
kept_step h (Write w bytes) new s st =
    subst KeptSoFar (sym st.after) (kept_box h _ w st.box _ s (λ note bytes. refl) st.is refl refl
    (λ ok. let r = hand_of h st.box st.copy st.in_hand ok.hand in
    let part = subst (IsPart h st.copy.post.note) st.going r.1 in
    record { posts = ok.posts; hand = (r.0, part_more h st.copy.post.note st.lock st.written bytes st.more st.next part); prefix = ok.prefix }))
kept_step h (Release w) new s st =
    subst KeptSoFar (sym st.after) (kept_box h _ w st.box _ s (λ note bytes. refl) st.is refl refl
    (λ ok. record { posts = ok.posts; hand = hand_of h st.box st.copy st.in_hand ok.hand; prefix = ok.prefix }))
kept_step h (GiveSlip w o) new s st =
    subst KeptSoFar (sym st.after) (kept_both h _ w st.box _ st.copy.post.note.txn.lane st.lane _ s (λ note bytes. refl) st.is st.to refl refl
    (λ ok. record { posts = ok.posts; hand = tt; prefix = ok.prefix }) (λ ok. ok))
kept_step h (Reclaim slot generation) new s st = subst KeptSoFar (sym st.2) (kept_none h _ s (λ note bytes. refl) refl refl)
kept_step h (Close b) new s st =
    subst KeptSoFar (sym st.3) (kept_box h _ b st.0 _ s (λ note bytes. refl) st.1 refl refl
    (λ ok. record { posts = ok.posts; hand = ok.hand; prefix = ok.prefix }))
kept_step h _ new s st =
    subst KeptSoFar (sym st.after) (kept_box h _ _ st.box _ s (λ note bytes. refl) st.is refl refl
    (λ ok. let r = hand_of h st.box st.copy st.in_hand ok.hand in record { posts = ok.posts; hand = (r.0, tt); prefix = ok.prefix }))

kept_run : (h : House) (run : List Happened) → KeptSoFar h → Run h run → KeptSoFar (last_house h run)
kept_run h [] s r = s
kept_run h (x ∷ xs) s r = kept_run x.house xs (kept_step h x.event x.house s r.0) r.1

pub kept_start : (blocks : ℕ) (h : House) → IsStart blocks h → KeptSoFar h
kept_start blocks h start = record {
  boxes = weaken IsFreshBox (IsBoxRight h)
      (λ box f. record {
        posts = subst (AllByRecursion (OfLanes h.lanes)) (sym f.accepted) tt;
        hand = subst (HandIsRight h) (sym f.hand) tt;
        prefix = let t = f.taken in omega arith;
      }) h.boxes start.boxes;
  lanes = weaken IsFreshLane (λ (lane : Lane). AllByRecursion IsSome lane.holds) (λ lane f. subst (AllByRecursion IsSome) (sym f.holds) tt) h.lanes start.lanes;
}

-- what follows of it
pub record FollowsOfKept (h : House) : Type 0 where
  pub lane_there : (w : ℕ) (box : Box) (copy : Copy) → BoxIs h w box → box.hand ≡ Some copy → LaneIsThere h.lanes copy.post.note.txn.lane
  pub part : (w : ℕ) (box : Box) (copy : Copy) → BoxIs h w box → box.hand ≡ Some copy → IsPart h copy.post.note copy.progress
  pub some : (k : ℕ) (lane : Lane) (i : ℕ) (hold : Hold) → LaneIs h k lane → slice_get lane.holds i ≡ Some hold → 1 ≤ hold.weight

pub every_run_keeps : (blocks : ℕ) (start : House) (run : List Happened) → IsStart blocks start → Run start run → FollowsOfKept (last_house start run)
every_run_keeps blocks start run is r =
    let h = last_house start run in
    let s = kept_run start run (kept_start blocks start is) r in
    record {
      lane_there = λ w box copy at e. (hand_of h box copy e (each_at (IsBoxRight h) h.boxes w box s.boxes at).hand).0;
      part = λ w box copy at e. (hand_of h box copy e (each_at (IsBoxRight h) h.boxes w box s.boxes at).hand).1;
      some = λ k lane i hold at e. each_at IsSome lane.holds i hold (each_at (λ (l : Lane). AllByRecursion IsSome l.holds) h.lanes k lane s.lanes at) e;
    }
