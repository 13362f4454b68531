-- What a lane heard is what it collected of its channel's slips, and between them its own slips, one for each copy that it handed back.
use Rattle.std.proofs.Common.{◌≡◌, ◌≢◌, ℕ, ◌+◌, ◌<◌, ◌≤◌, ◌⊎◌, List, [], ◌∷◌, ◌++◌, length, take, map, Bool, true, false, cond, ◌==◌, Some, None, inl, inr}
use Rattle.std.proofs.Common.{refl, ap, sym, ◌∙◌, subst, append_assoc, append-nil, arith, add-one, length-append}
use Rattle.std.specs.Prelude.{slice_get, slice_set, count_by}
use Rattle.std.specs.List.{AllByRecursion}
use Rattle.std.proofs.lemmas.Bool.{eq-eqb}
use Rattle.std.proofs.lemmas.List.{map-append, take-append-le}
use Rattle.std.proofs.lemmas.Option.{slice_get_within}
use Rattle.std.proofs.lemmas.Grind.{flat_map-append}
use Rattle.mail_world.specs.declared.Txn.{Txn}
use Rattle.mail_world.specs.declared.Slip.{Slip}
use Rattle.mail_world.specs.Slips.{names, times_named, gather_for, txn_of, own_slip, slip_of, IsMerged}
use Rattle.mail_world.specs.Depot.{Key}
use Rattle.mail_world.specs.House.{Post, Box, SealedMessage, Lane, House, IsFreshBox, IsFreshLane, IsStart}
use Rattle.mail_world.specs.declared.Event.{Event}
use Rattle.mail_world.specs.declared.Event.TheVariants.{Begin, Put, Cancel, Seal, Split, Offer, HandBack, Collect}
use Rattle.mail_world.specs.declared.Event.TheVariants.{GiveSlip, Reclaim, Close}
use Rattle.mail_world.specs.Events.{Step, LaneIs, BoxIs, without_copy, sealed_up_to, with_heard, outcome_of}
use Rattle.mail_world.specs.Runs.{Happened, Run, last_house, events_of, times_copied, is_collect, handed_back_by, handed_back, IsOfMessage, IsHandedBack}
use Rattle.mail_world.specs.Runs.{HasHeard}
use Rattle.mail_world.proofs.OneLine.{other_byte}
use Rattle.mail_world.proofs.Accepted.{get_set, each_at}
use Rattle.mail_world.proofs.Spools.{take_one_more, slice_get-append}
use Rattle.mail_world.proofs.Heard.{weaken, all_more}
use Rattle.mail_world.proofs.Depots.{set_at, set_past}
use Rattle.mail_world.proofs.WrongSteps.{same_some}
use Rattle.mail_world.proofs.Holds.{all_of}
use Rattle.mail_world.proofs.Once.{accepted_in, is_copy, times_same, times_offer, IsOnce, every_run_is_once}
use Rattle.mail_world.proofs.GivenAway.{count-append, count_some, AreGiven, given_fewer, given_none, given_seal, given_back, given_offer, given_elsewhere}
use Rattle.mail_world.proofs.GivenAway.{given_once}

pub same_or_not : (k at : ℕ) → (k ≡ at) ⊎ (k ≢ at)
same_or_not k at = grind arith

-- one more at the end of a merged list
pub merged_prefix : (prefix own heard : List Slip) (x : Slip) → IsMerged prefix own heard → IsMerged (prefix ++ x ∷ []) own (heard ++ x ∷ [])
merged_prefix prefix own [] x m = inl ([], ap (λ l. l ++ x ∷ []) m.0, (refl, m.1))
merged_prefix prefix own (y ∷ heard) x m = elim m [
  | inl first ↦ inl (first.0 ++ x ∷ [], ap (λ l. l ++ x ∷ []) first.1, merged_prefix first.0 own heard x first.2)
  | inr mine ↦ inr (mine.0, mine.1, merged_prefix prefix mine.0 heard x mine.2)
]

pub merged_own : (prefix own heard : List Slip) (x : Slip) → IsMerged prefix own heard → IsMerged prefix (own ++ x ∷ []) (heard ++ x ∷ [])
merged_own prefix own [] x m = inr ([], ap (λ l. l ++ x ∷ []) m.1, (m.0, refl))
merged_own prefix own (y ∷ heard) x m = elim m [
  | inl first ↦ inl (first.0, first.1, merged_own first.0 own heard x first.2)
  | inr mine ↦ inr (mine.0 ++ x ∷ [], ap (λ l. l ++ x ∷ []) mine.1, merged_own prefix mine.0 heard x mine.2)
]

-- what is kept of a lane
abbrev copied : Txn → ℕ → List Box → ℕ
copied txn p bs = times_copied txn p (accepted_in bs)

abbrev IsMade : ℕ → Slip → Type 0
IsMade k slip = slip ≡ own_slip k slip.txn.number slip.place slip.worker

record IsSoFar (events : List Event) (k : ℕ) (lane : Lane) (bs : List Box) : Type 0 where
  own : List Slip
  merged : IsMerged (take lane.collected lane.slips) own lane.heard
  prefix : lane.collected ≤ length lane.slips
  collected : count_by (is_collect k) events ≡ lane.collected
  handed : handed_back k events ≡ map (λ slip. slip.worker) own
  made : AllByRecursion (IsMade k) own
  sealed : AllByRecursion (IsOfMessage lane.messages) own
  given : (txn : Txn) (p : ℕ) → AreGiven k txn p (times_named txn p own) (copied txn p bs) lane.messages

abbrev AllSoFar : List Event → House → Type 0
AllSoFar events h = (k : ℕ) (lane : Lane) → LaneIs h k lane → IsSoFar events k lane h.boxes

-- the event is none of the lane's that are told
abbrev IsQuiet : ℕ → Event → Type 0
IsQuiet k e = (handed_back_by k e ≡ []) × (is_collect k e ≡ false)

count_more : (k : ℕ) (events : List Event) (e : Event) (t : Bool) → is_collect k e ≡ t
    → count_by (is_collect k) (events ++ e ∷ []) ≡ count_by (is_collect k) events + cond t 1 0
count_more k events e t is =
    let one : ◌≡◌ {A = ℕ} (cond (is_collect k e) 1 0) (cond t 1 0) = ap (λ b. cond b 1 0) is in
    omega (arith, one, count-append (is_collect k) events (e ∷ []))

handed_more : (k : ℕ) (events : List Event) (e : Event) (ms : List ℕ) → handed_back_by k e ≡ ms → handed_back k (events ++ e ∷ []) ≡ handed_back k events ++ ms
handed_more k events e ms is =
    flat_map-append (handed_back_by k) events (e ∷ []) ∙ ap (λ l. handed_back k events ++ l) (append-nil (handed_back_by k e) ∙ is)

-- what names one of the messages still does: one more was sealed, or one more copy of one is gone
of_more : (messages : List SealedMessage) (message : SealedMessage) (slip : Slip) → IsOfMessage messages slip → IsOfMessage (messages ++ message ∷ []) slip
of_more messages message slip x =
    record { at = x.at; message = x.message; is = slice_get-append messages (message ∷ []) x.at x.message x.is; number = x.number; place = x.place }

of_set : (messages : List SealedMessage) (t : ℕ) (old : SealedMessage) (slip : Slip) → slice_get messages t ≡ Some old → IsOfMessage messages slip
    → IsOfMessage (slice_set messages t (record old { offered = old.offered + 1 })) slip
of_set messages t old slip was x = elim (same_or_not x.at t) [
  | inl here ↦
      let same : x.message ≡ old = same_some (slice_get messages t) x.message old (ap (slice_get messages) (sym here) ∙ x.is) was in
      let below : slip.place < old.offered = subst (λ (m : SealedMessage). slip.place < m.offered) same x.place in record {
        at = t;
        message = record old { offered = old.offered + 1 };
        is = set_at messages t (record old { offered = old.offered + 1 }) old was;
        number = x.number ∙ ap (λ (m : SealedMessage). m.number) same;
        place = omega (arith, below);
      }
  | inr away ↦ record {
    at = x.at;
    message = x.message;
    is = set_past messages t x.at (record old { offered = old.offered + 1 }) (λ same. away (sym same))
        ∙ x.is;
    number = x.number;
    place = x.place;
  }
]

of_given : (messages : List SealedMessage) (t : ℕ) (old : SealedMessage) (slip : Slip) → slice_get messages t ≡ Some old → slip.txn.number ≡ old.number
    → slip.place ≡ old.offered
    → IsOfMessage (slice_set messages t (record old { offered = old.offered + 1 })) slip
of_given messages t old slip was number place = record {
  at = t;
  message = record old { offered = old.offered + 1 };
  is = set_at messages t (record old { offered = old.offered + 1 }) old was;
  number = number;
  place = omega (arith, place);
}

-- a lane that hears nothing
quiet_lane : (events : List Event) (e : Event) (k : ℕ) (lane next : Lane) (bs ms : List Box) (more : List Slip) → IsQuiet k e
    → next.heard ≡ lane.heard → next.collected ≡ lane.collected → next.slips ≡ lane.slips ++ more
    → ((slip : Slip) → IsOfMessage lane.messages slip → IsOfMessage next.messages slip)
    → ((txn : Txn) (p told : ℕ) → AreGiven k txn p told (copied txn p bs) lane.messages → AreGiven k txn p told (copied txn p ms) next.messages)
    → IsSoFar events k lane bs → IsSoFar (events ++ e ∷ []) k next ms
quiet_lane events e k lane next bs ms more q heard count slips of given s =
    let prefix : lane.collected ≤ length lane.slips = s.prefix in
    let same : take next.collected next.slips ≡ take lane.collected lane.slips = rw (count, slips) (take-append-le lane.collected lane.slips more prefix) in
    let P : List Slip → Type 0 = λ l. IsMerged l s.own next.heard in
    let Q : List Slip → Type 0 = λ l. IsMerged (take lane.collected lane.slips) s.own l in
    record {
      own = s.own;
      merged = subst P (sym same) (subst Q (sym heard) s.merged);
      prefix = let len : length next.slips ≡ length lane.slips + length more = ap length slips ∙ length-append lane.slips more in omega arith;
      collected = let was = s.collected in omega (arith, count_more k events e false q.1);
      handed = handed_more k events e [] q.0 ∙ append-nil (handed_back k events) ∙ s.handed;
      made = s.made;
      sealed = weaken (IsOfMessage lane.messages) (IsOfMessage next.messages) of s.own s.sealed;
      given = λ txn p. given txn p (times_named txn p s.own) (s.given txn p);
    }

same_lane : (events : List Event) (e : Event) (k : ℕ) (lane next : Lane) (bs ms : List Box) → IsQuiet k e
    → next.heard ≡ lane.heard → next.collected ≡ lane.collected → next.slips ≡ lane.slips → next.messages ≡ lane.messages
    → ((txn : Txn) (p : ℕ) → copied txn p ms ≤ copied txn p bs)
    → IsSoFar events k lane bs → IsSoFar (events ++ e ∷ []) k next ms
same_lane events e k lane next bs ms q heard count slips ts le s =
    quiet_lane events e k lane next bs ms [] q heard count (slips ∙ sym (append-nil lane.slips))
    (λ slip x. subst (λ ms. IsOfMessage ms slip) (sym ts) x)
    (λ txn p told g. rw (ts) (given_fewer k txn p told (copied txn p bs) (copied txn p ms) lane.messages (le txn p) g)) s

-- a lane that makes a slip itself
own_lane : (events : List Event) (k i m : ℕ) (lane next : Lane) (bs : List Box) (t : ℕ) (key : Key) (number place : ℕ) (message : List ℕ)
    → slice_get lane.messages t ≡ Some (record { number = number; key = key; message = message; offered = place })
    → next.slips ≡ lane.slips → next.collected ≡ lane.collected → next.heard ≡ lane.heard ++ own_slip k number place m ∷ []
    → next.messages ≡ slice_set lane.messages t (record { number = number; key = key; message = message; offered = place + 1 })
    → IsSoFar events k lane bs → IsSoFar (events ++ HandBack k i m ∷ []) k next bs
own_lane events k i m lane next bs t key number place message at slips count heard ts s =
    let slip : Slip = own_slip k number place m in
    let P : List Slip → Type 0 = λ l. IsMerged (take next.collected next.slips) (s.own ++ slip ∷ []) l in
    let same : take next.collected next.slips ≡ take lane.collected lane.slips = rw (count, slips) refl in
    let Q : List Slip → Type 0 = λ l. IsMerged l (s.own ++ slip ∷ []) (lane.heard ++ slip ∷ []) in
    record {
      own = s.own ++ slip ∷ [];
      merged = subst P (sym heard) (subst Q (sym same) (merged_own (take lane.collected lane.slips) s.own lane.heard slip s.merged));
      prefix = rw (count, slips) s.prefix;
      collected = let was = s.collected in omega (arith, count_more k events (HandBack k i m) false refl);
      handed = handed_more k events (HandBack k i m) (m ∷ []) (rw (eq-eqb k k refl) refl) ∙ ap (λ l. l ++ m ∷ []) s.handed
          ∙ sym (map-append (λ x. x.worker) s.own (slip ∷ []));
      made = all_more (IsMade k) s.own slip s.made refl;
      sealed = all_more (IsOfMessage next.messages) s.own slip
          (weaken (IsOfMessage lane.messages) (IsOfMessage next.messages) (λ x o. subst (λ ms. IsOfMessage ms x) (sym ts) (of_set lane.messages t _ x at o))
          s.own s.sealed)
          (subst (λ ms. IsOfMessage ms slip) (sym ts) (of_given lane.messages t _ slip at refl refl));
      given = λ txn p. rw (ts) (given_back k txn p (times_named txn p s.own) (times_named txn p (s.own ++ slip ∷ [])) (copied txn p bs) lane.messages t key
          number place m message at
          (omega (arith, count-append (names txn p) s.own (slip ∷ []))) (s.given txn p));
    }

-- a lane that collects a slip
collecting_lane : (events : List Event) (k : ℕ) (lane next : Lane) (bs : List Box) (slip : Slip) → slice_get lane.slips lane.collected ≡ Some slip
    → next.slips ≡ lane.slips → next.collected ≡ lane.collected + 1 → next.heard ≡ lane.heard ++ slip ∷ [] → next.messages ≡ lane.messages
    → IsSoFar events k lane bs → IsSoFar (events ++ Collect k ∷ []) k next bs
collecting_lane events k lane next bs slip at slips count heard ts s =
    let P : List Slip → Type 0 = λ l. IsMerged (take next.collected next.slips) s.own l in
    let more : take next.collected next.slips ≡ take lane.collected lane.slips ++ slip ∷ [] =
    rw (count, slips) (ap (λ n. take n lane.slips) (add-one lane.collected) ∙ take_one_more lane.slips lane.collected slip at) in
    let Q : List Slip → Type 0 = λ l. IsMerged l s.own (lane.heard ++ slip ∷ []) in
    record {
      own = s.own;
      merged = subst P (sym heard) (subst Q (sym more) (merged_prefix (take lane.collected lane.slips) s.own lane.heard slip s.merged));
      prefix = rw (count, slips) (let below = slice_get_within lane.slips lane.collected slip at in omega arith);
      collected = let was = s.collected in omega (arith, count_more k events (Collect k) true (eq-eqb k k refl));
      handed = handed_more k events (Collect k) [] refl ∙ append-nil (handed_back k events) ∙ s.handed;
      made = s.made;
      sealed = subst (λ ms. AllByRecursion (IsOfMessage ms) s.own) (sym ts) s.sealed;
      given = λ txn p. rw (ts) (s.given txn p);
    }

-- the lanes of a house
one_lane : (events : List Event) (e : Event) (h new : House) (k : ℕ) (old changed : Lane) → new.lanes ≡ slice_set h.lanes k changed → LaneIs h k old
    → (IsSoFar events k old h.boxes → IsSoFar (events ++ e ∷ []) k changed new.boxes)
    → ((v : ℕ) (lane : Lane) → v ≢ k → IsSoFar events v lane h.boxes → IsSoFar (events ++ e ∷ []) v lane new.boxes)
    → AllSoFar events h → AllSoFar (events ++ e ∷ []) new
one_lane events e h new k old changed lanes was here elsewhere all v lane is =
    elim (get_set h.lanes k v changed lane (ap (λ ls. slice_get ls v) (sym lanes) ∙ is)) [
      | inl at ↦ let P : Lane → Type 0 = λ x. IsSoFar (events ++ e ∷ []) v x new.boxes in
          let Q : ℕ → Type 0 = λ n. IsSoFar (events ++ e ∷ []) n changed new.boxes in
          subst P at.1 (subst Q (sym at.0) (here (all k old was)))
      | inr other ↦ elsewhere v lane other.0 (all v lane other.1)
    ]

abbrev NoCopy : House → House → Type 0
NoCopy h new = (txn : Txn) (p : ℕ) → copied txn p new.boxes ≤ copied txn p h.boxes

lane_alone : (events : List Event) (e : Event) (h new : House) (k : ℕ) (old changed : Lane) → new.lanes ≡ slice_set h.lanes k changed → LaneIs h k old
    → NoCopy h new
    → ((v : ℕ) → v ≢ k → IsQuiet v e) → (IsSoFar events k old h.boxes → IsSoFar (events ++ e ∷ []) k changed new.boxes) → AllSoFar events h
    → AllSoFar (events ++ e ∷ []) new
lane_alone events e h new k old changed lanes was le q here =
    one_lane events e h new k old changed lanes was here (λ v lane ne s. same_lane events e v lane lane h.boxes new.boxes (q v ne) refl refl refl refl le s)

no_lane : (events : List Event) (e : Event) (h new : House) → new.lanes ≡ h.lanes → NoCopy h new → ((v : ℕ) → IsQuiet v e) → AllSoFar events h
    → AllSoFar (events ++ e ∷ []) new
no_lane events e h new lanes le q all v lane is =
    same_lane events e v lane lane h.boxes new.boxes (q v) refl refl refl refl le (all v lane (ap (λ ls. slice_get ls v) (sym lanes) ∙ is))

no_box : (h new : House) → new.boxes ≡ h.boxes → NoCopy h new
no_box h new boxes txn p = rw (boxes) (omega arith)

one_box : (h new : House) (w : ℕ) (old changed : Box) → new.boxes ≡ slice_set h.boxes w changed → BoxIs h w old → changed.accepted ≡ old.accepted → NoCopy h new
one_box h new w old changed boxes was same txn p = rw (boxes) (let e = times_same txn p h.boxes w old changed was same in omega arith)

so_far_step : (events : List Event) (h : House) (e : Event) (new : House) → AllSoFar events h → Step h e new → AllSoFar (events ++ e ∷ []) new
so_far_step events h (Begin k) new all st =
    lane_alone events (Begin k) h new k st.lane _ (ap (λ (x : House). x.lanes) st.after) st.is (no_box h new (ap (λ (x : House). x.boxes) st.after))
    (λ v ne. (refl, refl))
    (same_lane events (Begin k) k st.lane _ h.boxes new.boxes (refl, refl) refl refl refl refl (no_box h new (ap (λ (x : House). x.boxes) st.after))) all
so_far_step events h (Put k bytes) new all st =
    no_lane events (Put k bytes) h new (ap (λ (x : House). x.lanes) st.after) (no_box h new (ap (λ (x : House). x.boxes) st.after)) (λ v. (refl, refl)) all
so_far_step events h (Cancel k) new all st =
    lane_alone events (Cancel k) h new k st.lane _ (ap (λ (x : House). x.lanes) st.after) st.is (no_box h new (ap (λ (x : House). x.boxes) st.after))
    (λ v ne. (refl, refl))
    (same_lane events (Cancel k) k st.lane _ h.boxes new.boxes (refl, refl) refl refl refl refl (no_box h new (ap (λ (x : House). x.boxes) st.after))) all
so_far_step events h (Seal k n) new all st =
    let le = no_box h new (ap (λ (x : House). x.boxes) st.after) in
    let next : Lane = record st.lane {
      draft = None;
      messages = st.lane.messages ++ record { number = st.lane.number; key = st.key; message = st.seals.bytes; offered = 0 } ∷ [];
      holds = st.lane.holds ++ record { key = st.key; weight = n } ∷ [];
      gather = gather_for (txn_of k st.lane.number) n;
    } in
    lane_alone events (Seal k n) h new k st.lane next (ap (λ (x : House). x.lanes) st.after) st.is le (λ v ne. (refl, refl))
    (quiet_lane events (Seal k n) k st.lane next h.boxes new.boxes [] (refl, refl) refl refl (sym (append-nil st.lane.slips))
    (λ slip x. of_more st.lane.messages _ slip x)
    (λ txn p told g. given_seal k txn p told (copied txn p new.boxes) st.lane.messages st.key st.lane.number st.seals.bytes
    (given_fewer k txn p told (copied txn p h.boxes) (copied txn p new.boxes) st.lane.messages (le txn p) g))) all
so_far_step events h (Split k i) new all st =
    lane_alone events (Split k i) h new k st.lane _ (ap (λ (x : House). x.lanes) st.after) st.is (no_box h new (ap (λ (x : House). x.boxes) st.after))
    (λ v ne. (refl, refl))
    (same_lane events (Split k i) k st.lane _ h.boxes new.boxes (refl, refl) refl refl refl refl (no_box h new (ap (λ (x : House). x.boxes) st.after))) all
so_far_step events h (HandBack k i m) new all st =
    let boxes : new.boxes ≡ h.boxes = ap (λ (x : House). x.boxes) st.after in
    let next : Lane = with_heard (without_copy st.lane i st.t st.sealed) (own_slip k st.sealed.number st.sealed.offered m) in
    let P : List Box → Type 0 = λ bs. IsSoFar (events ++ HandBack k i m ∷ []) k next bs in
    lane_alone events (HandBack k i m) h new k st.lane next (ap (λ (x : House). x.lanes) st.after) st.is (no_box h new boxes)
    (λ v ne. (rw (other_byte k v (λ same. ne (sym same))) refl, refl))
    (λ s. subst P (sym boxes) (own_lane events k i m st.lane next h.boxes st.t st.sealed.key st.sealed.number st.sealed.offered st.sealed.message st.copy.is
    refl refl refl refl s)) all
so_far_step events h (Collect k) new all st =
    let boxes : new.boxes ≡ h.boxes = ap (λ (x : House). x.boxes) st.after in
    let next : Lane = record (with_heard st.lane st.slip) { collected = st.lane.collected + 1 } in
    let P : List Box → Type 0 = λ bs. IsSoFar (events ++ Collect k ∷ []) k next bs in
    lane_alone events (Collect k) h new k st.lane next (ap (λ (x : House). x.lanes) st.after) st.is (no_box h new boxes)
    (λ v ne. (refl, other_byte k v (λ same. ne (sym same))))
    (λ s. subst P (sym boxes) (collecting_lane events k st.lane next h.boxes st.slip st.oldest refl refl refl refl s)) all
so_far_step events h (Offer k note) new all st =
    let post : Post = record { note = note; key = st.key } in
    let next : Lane = without_copy st.lane st.at st.t (sealed_up_to st.key note.txn.number note.message note.place) in
    let more : (txn : Txn) (p : ℕ) → copied txn p new.boxes ≤ copied txn p h.boxes + cond (is_copy txn p note) 1 0 =
    (λ txn p. rw (ap (λ (x : House). x.boxes) st.after)
    (omega (arith, times_offer txn p h.boxes note.mailbox st.box (record st.box { accepted = st.box.accepted ++ post ∷ [] }) post st.channel refl))) in
    one_lane events (Offer k note) h new k st.lane next (ap (λ (x : House). x.lanes) st.after) st.is
    (quiet_lane events (Offer k note) k st.lane next h.boxes new.boxes [] (refl, refl) refl refl (sym (append-nil st.lane.slips))
    (λ slip x. of_set st.lane.messages st.t _ slip st.copy.is x)
    (λ txn p told g. given_offer k txn p told (copied txn p h.boxes) (copied txn p new.boxes) st.lane.messages st.t st.key note st.own st.copy.is (more txn p)
    g))
    (λ v lane ne. quiet_lane events (Offer k note) v lane lane h.boxes new.boxes [] (refl, refl) refl refl (sym (append-nil lane.slips)) (λ slip x. x)
    (λ txn p told g. given_elsewhere k v txn p told (copied txn p h.boxes) (copied txn p new.boxes) lane.messages note st.own ne (more txn p) g)) all
so_far_step events h (GiveSlip w o) new all st =
    let k : ℕ = st.copy.post.note.txn.lane in
    let slip : Slip = slip_of w st.copy.post.note (outcome_of st.copy) in
    let next : Lane = record st.lane { slips = st.lane.slips ++ slip ∷ [] } in
    let le : NoCopy h new = one_box h new w st.box (record st.box { hand = None }) (ap (λ (x : House). x.boxes) st.after) st.is refl in
    lane_alone events (GiveSlip w o) h new k st.lane next (ap (λ (x : House). x.lanes) st.after) st.to le (λ v ne. (refl, refl))
    (quiet_lane events (GiveSlip w o) k st.lane next h.boxes new.boxes (slip ∷ []) (refl, refl) refl refl refl (λ x o. o)
    (λ txn p told g. given_fewer k txn p told (copied txn p h.boxes) (copied txn p new.boxes) st.lane.messages (le txn p) g)) all
so_far_step events h (Reclaim slot generation) new all st =
    no_lane events (Reclaim slot generation) h new (ap (λ (x : House). x.lanes) st.2) (no_box h new (ap (λ (x : House). x.boxes) st.2)) (λ v. (refl, refl)) all
so_far_step events h (Close m) new all st =
    no_lane events (Close m) h new (ap (λ (x : House). x.lanes) st.3) (one_box h new m st.0 _ (ap (λ (x : House). x.boxes) st.3) st.1 refl) (λ v. (refl, refl))
    all
so_far_step events h event new all st =
    no_lane events event h new (ap (λ (x : House). x.lanes) st.after) (one_box h new _ st.box _ (ap (λ (x : House). x.boxes) st.after) st.is refl)
    (λ v. (refl, refl)) all

so_far_run : (events : List Event) (h : House) (run : List Happened) → AllSoFar events h → Run h run → AllSoFar (events ++ events_of run) (last_house h run)
so_far_run events h [] all r = rw (append-nil events) all
so_far_run events h (x ∷ xs) all r =
    let P : List Event → Type 0 = λ es. AllSoFar es (last_house x.house xs) in
    subst P (append_assoc events (x.event ∷ []) (events_of xs))
    (so_far_run (events ++ x.event ∷ []) x.house xs (so_far_step events h x.event x.house all r.0) r.1)

none_copied : (txn : Txn) (p : ℕ) (bs : List Box) → AllByRecursion IsFreshBox bs → copied txn p bs ≡ 0
none_copied txn p [] f = refl
none_copied txn p (x ∷ bs) f = rw (f.0.accepted) (none_copied txn p bs f.1)

so_far_start : (blocks : ℕ) (h : House) → IsStart blocks h → AllSoFar [] h
so_far_start blocks h start k lane is =
    let f = each_at IsFreshLane h.lanes k lane start.lanes is in
    record {
      own = [];
      merged = rw (f.heard, f.slips, f.collected) (refl, refl);
      prefix = rw (f.collected) (omega arith);
      collected = sym f.collected;
      handed = refl;
      made = tt;
      sealed = tt;
      given = λ txn p. rw (f.messages, none_copied txn p h.boxes start.boxes) (given_none k txn p);
    }

-- no channel accepted a copy that was handed back
never_by : (t : Bool) (told way old : ℕ) → t ≡ true → 1 ≤ told → old ≤ 1 → told + cond t way 0 ≤ cond t old 0 → way ≡ 0
never_by true told way old e some most h = omega arith
never_by false told way old e some most h = cc

pub own_named : (slip : Slip) → names slip.txn slip.place slip ≡ true
own_named slip = rw (eq-eqb slip.txn.lane slip.txn.lane refl, eq-eqb slip.txn.number slip.txn.number refl, eq-eqb slip.place slip.place refl) refl

is_own : (h : House) (k : ℕ) (lane : Lane) (events : List Event) → LaneIs h k lane → IsOnce h → (s : IsSoFar events k lane h.boxes) → (i : ℕ) (slip : Slip)
    → slice_get s.own i ≡ Some slip → IsHandedBack k h lane slip
is_own h k lane events is once s i slip at =
    let made : IsMade k slip = each_at (IsMade k) s.own i slip s.made at in
    record {
      made = made;
      sealed = each_at (IsOfMessage lane.messages) s.own i slip s.sealed at;
      not_offered = never_by (k == slip.txn.lane) (times_named slip.txn slip.place s.own) (copied slip.txn slip.place h.boxes) _
          (eq-eqb k slip.txn.lane (sym (ap (λ (x : Slip). x.txn.lane) made)))
          (count_some (names slip.txn slip.place) s.own i slip at (own_named slip))
          (given_once k h lane is once slip.txn.number slip.place) (s.given slip.txn slip.place);
    }

pub every_run_hears_each : (blocks : ℕ) (start : House) (run : List Happened) → IsStart blocks start → Run start run
    → HasHeard (events_of run) (last_house start run)
every_run_hears_each blocks start run is r k lane at =
    let s = so_far_run [] start run (so_far_start blocks start is) r k lane at in
    record {
      own = s.own;
      merged = s.merged;
      prefix = s.prefix;
      collected = s.collected;
      handed = s.handed;
      each = all_of (IsHandedBack k (last_house start run) lane) s.own
          (is_own (last_house start run) k lane (events_of run) at (every_run_is_once blocks start run is r) s);
    }
