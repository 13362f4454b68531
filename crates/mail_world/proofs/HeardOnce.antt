-- What a lane heard names each transaction and place at most once: each copy that was given away is on its way to a
-- worker's slip, has its slip in the lane's channel, or was heard of.
use Rattle.std.proofs.Common.{◌≡◌, ◌≢◌, ℕ, suc, ◌+◌, ◌-◌, ◌≤◌, List, [], ◌∷◌, ◌++◌, drop, Bool, true, false, cond, ◌==◌, Some, None, inl, inr, refl, ap, sym}
use Rattle.std.proofs.Common.{◌∙◌, subst, arith, add-one}
use Rattle.std.specs.Prelude.{slice_get, slice_set, flat_map, count_by}
use Rattle.mail_world.specs.declared.Txn.{Txn}
use Rattle.mail_world.specs.declared.Slip.{Slip}
use Rattle.mail_world.specs.Slips.{names, times_named, gather_for, txn_of, own_slip, slip_of}
use Rattle.mail_world.specs.House.{Post, Copy, Box, Lane, House, IsFreshBox, IsFreshLane, IsStart}
use Rattle.mail_world.specs.declared.Event.{Event}
use Rattle.mail_world.specs.declared.Event.TheVariants.{Begin, Put, Cancel, Seal, Split, Offer, HandBack, Collect, Take}
use Rattle.mail_world.specs.declared.Event.TheVariants.{GiveSlip, Reclaim, Close}
use Rattle.mail_world.specs.Events.{Step, LaneIs, BoxIs, without_copy, sealed_up_to, with_heard, outcome_of}
use Rattle.mail_world.specs.Runs.{HaveTheirTurns, Happened, Run, last_house, finished_by, HearsOnce}
use Rattle.mail_world.proofs.Accepted.{get_set, each_at}
use Rattle.mail_world.proofs.Spools.{sound_step, sound_fresh, held}
use Rattle.mail_world.proofs.Depots.{total_set}
use Rattle.mail_world.proofs.Holds.{drop_get}
use Rattle.mail_world.proofs.Once.{is_copy, every_run_is_once}
use Rattle.mail_world.proofs.GivenAway.{count-append, count-cons, count_one_more, AreGiven, given_fewer, given_none, given_seal, given_back, given_offer}
use Rattle.mail_world.proofs.GivenAway.{given_elsewhere, given_once}

-- the copies on their way, in a mailbox and in all
abbrev on_way : Box → List Post
on_way box = drop (finished_by box.taken box.hand) box.accepted

abbrev is_of : Txn → ℕ → Post → Bool
is_of txn p post = is_copy txn p post.note

abbrev times_on_way : Txn → ℕ → List Box → ℕ
times_on_way txn p bs = count_by (is_of txn p) (flat_map on_way bs)

abbrev times_told : Txn → ℕ → Lane → ℕ
times_told txn p lane = times_named txn p lane.heard + times_named txn p (drop lane.collected lane.slips)

-- what is kept: the copies on their way, those with a slip in the lane's channel and those that the lane heard of are no more than it gave away
abbrev IsBounded : ℕ → Lane → List Box → Txn → ℕ → Type 0
IsBounded k lane bs txn p = AreGiven k txn p (times_told txn p lane) (times_on_way txn p bs) lane.messages

abbrev AllBounded : House → Type 0
AllBounded h = (k : ℕ) (lane : Lane) → LaneIs h k lane → (txn : Txn) (p : ℕ) → IsBounded k lane h.boxes txn p

-- where fewer copies are on their way, or as many
fewer : (k : ℕ) (lane : Lane) (bs ms : List Box) (txn : Txn) (p : ℕ) → times_on_way txn p ms ≤ times_on_way txn p bs → IsBounded k lane bs txn p
    → IsBounded k lane ms txn p
fewer k lane bs ms txn p le h = given_fewer k txn p (times_told txn p lane) (times_on_way txn p bs) (times_on_way txn p ms) lane.messages le h

one_lane : (h new : House) (k : ℕ) (old changed : Lane) → new.lanes ≡ slice_set h.lanes k changed → LaneIs h k old
    → ((txn : Txn) (p : ℕ) → IsBounded k old h.boxes txn p → IsBounded k changed new.boxes txn p)
    → ((v : ℕ) (lane : Lane) (txn : Txn) (p : ℕ) → v ≢ k → IsBounded v lane h.boxes txn p → IsBounded v lane new.boxes txn p)
    → AllBounded h → AllBounded new
one_lane h new k old changed lanes was here elsewhere all v lane is txn p =
    elim (get_set h.lanes k v changed lane (ap (λ ls. slice_get ls v) (sym lanes) ∙ is)) [
      | inl at ↦ let P : Lane → Type 0 = λ x. IsBounded v x new.boxes txn p in
          let Q : ℕ → Type 0 = λ n. IsBounded n changed new.boxes txn p in
          subst P at.1 (subst Q (sym at.0) (here txn p (all k old was txn p)))
      | inr other ↦ elsewhere v lane txn p other.0 (all v lane other.1 txn p)
    ]

lane_alone : (h new : House) (k : ℕ) (old changed : Lane) → new.boxes ≡ h.boxes → new.lanes ≡ slice_set h.lanes k changed → LaneIs h k old
    → ((txn : Txn) (p : ℕ) → IsBounded k old h.boxes txn p → IsBounded k changed h.boxes txn p) → AllBounded h → AllBounded new
lane_alone h new k old changed boxes lanes was here all =
    one_lane h new k old changed lanes was
    (λ txn p b. let P : List Box → Type 0 = λ bs. IsBounded k changed bs txn p in subst P (sym boxes) (here txn p b))
    (λ v lane txn p ne b. let P : List Box → Type 0 = λ bs. IsBounded v lane bs txn p in subst P (sym boxes) b) all

no_lane : (h new : House) → new.lanes ≡ h.lanes → ((txn : Txn) (p : ℕ) → times_on_way txn p new.boxes ≤ times_on_way txn p h.boxes) → AllBounded h
    → AllBounded new
no_lane h new lanes le all k lane is txn p = fewer k lane h.boxes new.boxes txn p (le txn p) (all k lane (ap (λ ls. slice_get ls k) (sym lanes) ∙ is) txn p)

way_set : (txn : Txn) (p : ℕ) (bs : List Box) (w : ℕ) (old new : Box) → slice_get bs w ≡ Some old
    → times_on_way txn p (slice_set bs w new) + count_by (is_of txn p) (on_way old) ≡ times_on_way txn p bs + count_by (is_of txn p) (on_way new)
way_set txn p bs w old new was = total_set (λ post. cond (is_of txn p post) 1 0) on_way bs w old new was

box_alone : (h new : House) (w : ℕ) (old changed : Box) → new.boxes ≡ slice_set h.boxes w changed → new.lanes ≡ h.lanes → BoxIs h w old
    → on_way changed ≡ on_way old → AllBounded h → AllBounded new
box_alone h new w old changed boxes lanes was same = no_lane h new lanes (λ txn p.
    let n : times_on_way txn p new.boxes ≡ times_on_way txn p (slice_set h.boxes w changed) = ap (times_on_way txn p) boxes in
    let e : count_by (is_of txn p) (on_way changed) ≡ count_by (is_of txn p) (on_way old) = ap (count_by (is_of txn p)) same in
    omega (arith, way_set txn p h.boxes w old changed was))

-- a slip is collected
collected : (k : ℕ) (lane next : Lane) (slip : Slip) (bs : List Box) (txn : Txn) (p : ℕ) → slice_get lane.slips lane.collected ≡ Some slip
    → next.slips ≡ lane.slips → next.collected ≡ lane.collected + 1 → next.heard ≡ lane.heard ++ slip ∷ [] → next.messages ≡ lane.messages
    → IsBounded k lane bs txn p → IsBounded k next bs txn p
collected k lane next slip bs txn p oldest slips count heard ts h =
    let was : times_named txn p (drop lane.collected lane.slips) ≡ cond (names txn p slip) 1 0 + times_named txn p (drop (lane.collected + 1) lane.slips) =
    ap (times_named txn p) (drop_get lane.slips lane.collected slip oldest ∙ ap (λ n. slip ∷ drop n lane.slips) (sym (add-one lane.collected)))
    ∙ count-cons (names txn p) slip (drop (lane.collected + 1) lane.slips) in
    let same : times_told txn p next ≡ times_told txn p lane =
    rw (slips, count, heard) (omega (arith, was, count-append (names txn p) lane.heard (slip ∷ []))) in
    rw (same, ts) h

way_offered : (txn : Txn) (p : ℕ) (bs : List Box) (b : ℕ) (old new : Box) (post : Post) → slice_get bs b ≡ Some old → new.accepted ≡ old.accepted ++ post ∷ []
    → new.taken ≡ old.taken → new.hand ≡ old.hand
    → times_on_way txn p (slice_set bs b new) ≤ times_on_way txn p bs + cond (is_of txn p post) 1 0
way_offered txn p bs b old new post was accepted taken hand =
    let same : count_by (is_of txn p) (on_way new) ≡ count_by (is_of txn p) (drop (finished_by old.taken old.hand) (old.accepted ++ post ∷ [])) =
    rw (accepted, taken, hand) refl in
    omega (arith, way_set txn p bs b old new was, count_one_more (is_of txn p) (finished_by old.taken old.hand) old.accepted post)

-- a slip is given
gave_by : (w : Bool) (told told' way way' old : ℕ) → (t : Bool) → (t ≡ false → w ≡ false) → told' ≤ told + cond w 1 0 → way ≡ way' + cond w 1 0
    → told + cond t way 0 ≤ cond t old 0 → told' + cond t way' 0 ≤ cond t old 0
gave_by w told told' way way' old true f a b h = omega arith
gave_by true told told' way way' old false f a b h = let bad : true ≡ false = f refl in cc
gave_by false told told' way way' old false f a b h = omega arith

gave : (lane next : Lane) (w : ℕ) (copy : Copy) (bs ms : List Box) (txn : Txn) (p : ℕ)
    → next.heard ≡ lane.heard → next.collected ≡ lane.collected → next.messages ≡ lane.messages
    → next.slips ≡ lane.slips ++ slip_of w copy.post.note (outcome_of copy) ∷ []
    → times_on_way txn p bs ≡ times_on_way txn p ms + cond (is_of txn p copy.post) 1 0
    → IsBounded copy.post.note.txn.lane lane bs txn p → IsBounded copy.post.note.txn.lane next ms txn p
gave lane next w copy bs ms txn p heard count ts slips way h =
    let slip : Slip = slip_of w copy.post.note (outcome_of copy) in
    let more : times_told txn p next ≤ times_told txn p lane + cond (is_of txn p copy.post) 1 0 =
    rw (heard, count, slips) (omega (arith, count_one_more (names txn p) lane.collected lane.slips slip)) in
    rw (ts) (gave_by (is_of txn p copy.post) (times_told txn p lane) (times_told txn p next) (times_on_way txn p bs) (times_on_way txn p ms) _
    (copy.post.note.txn.lane == txn.lane) (λ e. rw e refl) more way h)

way_gave : (txn : Txn) (p : ℕ) (bs : List Box) (w : ℕ) (box : Box) (copy : Copy) (before : ℕ) → slice_get bs w ≡ Some box → box.hand ≡ Some copy
    → box.taken ≡ suc before → slice_get box.accepted before ≡ Some copy.post
    → times_on_way txn p bs ≡ times_on_way txn p (slice_set bs w (record box { hand = None })) + cond (is_of txn p copy.post) 1 0
way_gave txn p bs w box copy before was in_hand last at =
    let one : box.taken - 1 ≡ before = omega arith in
    let list : on_way box ≡ copy.post ∷ drop box.taken box.accepted =
    ap (λ n. drop n box.accepted) (ap (finished_by box.taken) in_hand ∙ one) ∙ drop_get box.accepted before copy.post at
    ∙ ap (λ n. copy.post ∷ drop n box.accepted) (sym last) in
    let counts : count_by (is_of txn p) (on_way box) ≡ cond (is_of txn p copy.post) 1 0 + count_by (is_of txn p) (drop box.taken box.accepted) =
    ap (count_by (is_of txn p)) list ∙ count-cons (is_of txn p) copy.post (drop box.taken box.accepted) in
    omega (arith, way_set txn p bs w box (record box { hand = None }) was)

bounded_step : (h : House) (e : Event) (new : House) → HaveTheirTurns h → AllBounded h → Step h e new → AllBounded new
bounded_step h (Begin k) new sound all st =
    lane_alone h new k st.lane _ (ap (λ (x : House). x.boxes) st.after) (ap (λ (x : House). x.lanes) st.after) st.is (λ txn p b. b) all
bounded_step h (Put k bytes) new sound all st = no_lane h new (ap (λ (x : House). x.lanes) st.after) (λ txn p. rw (st.after) (omega arith)) all
bounded_step h (Cancel k) new sound all st =
    lane_alone h new k st.lane _ (ap (λ (x : House). x.boxes) st.after) (ap (λ (x : House). x.lanes) st.after) st.is (λ txn p b. b) all
bounded_step h (Seal k n) new sound all st =
    let next : Lane = record st.lane {
      draft = None;
      messages = st.lane.messages ++ record { number = st.lane.number; key = st.key; message = st.seals.bytes; offered = 0 } ∷ [];
      holds = st.lane.holds ++ record { key = st.key; weight = n } ∷ [];
      gather = gather_for (txn_of k st.lane.number) n;
    } in
    lane_alone h new k st.lane next (ap (λ (x : House). x.boxes) st.after) (ap (λ (x : House). x.lanes) st.after) st.is
    (λ txn p b. given_seal k txn p (times_told txn p st.lane) (times_on_way txn p h.boxes) st.lane.messages st.key st.lane.number st.seals.bytes b) all
bounded_step h (Split k i) new sound all st =
    lane_alone h new k st.lane _ (ap (λ (x : House). x.boxes) st.after) (ap (λ (x : House). x.lanes) st.after) st.is (λ txn p b. b) all
bounded_step h (HandBack k i m) new sound all st =
    let next : Lane = with_heard (without_copy st.lane i st.t st.sealed) (own_slip k st.sealed.number st.sealed.offered m) in
    lane_alone h new k st.lane next (ap (λ (x : House). x.boxes) st.after) (ap (λ (x : House). x.lanes) st.after) st.is
    (λ txn p b. given_back k txn p (times_told txn p st.lane) (times_told txn p next) (times_on_way txn p h.boxes) st.lane.messages st.t st.sealed.key
    st.sealed.number st.sealed.offered m st.sealed.message st.copy.is
    (omega (arith, count-append (names txn p) st.lane.heard (own_slip k st.sealed.number st.sealed.offered m ∷ []))) b) all
bounded_step h (Collect k) new sound all st =
    let next : Lane = record (with_heard st.lane st.slip) { collected = st.lane.collected + 1 } in
    lane_alone h new k st.lane next (ap (λ (x : House). x.boxes) st.after) (ap (λ (x : House). x.lanes) st.after) st.is
    (λ txn p b. collected k st.lane next st.slip h.boxes txn p st.oldest refl refl refl refl b) all
bounded_step h (Offer k note) new sound all st =
    let post : Post = record { note = note; key = st.key } in
    let next : Lane = without_copy st.lane st.at st.t (sealed_up_to st.key note.txn.number note.message note.place) in
    let changed : Box = record st.box { accepted = st.box.accepted ++ post ∷ [] } in
    let boxes : new.boxes ≡ slice_set h.boxes note.mailbox changed = ap (λ (x : House). x.boxes) st.after in
    let way : (txn : Txn) (p : ℕ) → times_on_way txn p new.boxes ≤ times_on_way txn p h.boxes + cond (is_of txn p post) 1 0 =
    (λ txn p. rw (boxes) (way_offered txn p h.boxes note.mailbox st.box changed post st.channel refl refl refl)) in
    one_lane h new k st.lane next (ap (λ (x : House). x.lanes) st.after) st.is
    (λ txn p b. given_offer k txn p (times_told txn p st.lane) (times_on_way txn p h.boxes) (times_on_way txn p new.boxes) st.lane.messages st.t st.key note
    st.own st.copy.is (way txn p) b)
    (λ v lane txn p ne b. given_elsewhere k v txn p (times_told txn p lane) (times_on_way txn p h.boxes) (times_on_way txn p new.boxes) lane.messages note
    st.own ne (way txn p) b) all
bounded_step h (Take w) new sound all st =
    let one : st.box.taken + 1 - 1 ≡ st.box.taken = omega arith in
    box_alone h new w st.box _ (ap (λ (x : House). x.boxes) st.after) (ap (λ (x : House). x.lanes) st.after) st.is
    (ap (λ n. drop n st.box.accepted) (one ∙ ap (finished_by st.box.taken) (sym st.free_hand))) all
bounded_step h (GiveSlip w o) new sound all st =
    let hand = held h st.box st.copy st.in_hand (sound w st.box st.is) in
    let next : Lane = record st.lane { slips = st.lane.slips ++ slip_of w st.copy.post.note (outcome_of st.copy) ∷ [] } in
    let boxes : new.boxes ≡ slice_set h.boxes w (record st.box { hand = None }) = ap (λ (x : House). x.boxes) st.after in
    let way : (txn : Txn) (p : ℕ) → times_on_way txn p h.boxes ≡ times_on_way txn p new.boxes + cond (is_of txn p st.copy.post) 1 0 =
    (λ txn p. rw (boxes) (way_gave txn p h.boxes w st.box st.copy hand.before st.is st.in_hand hand.last hand.at)) in
    one_lane h new st.copy.post.note.txn.lane st.lane next (ap (λ (x : House). x.lanes) st.after) st.to
    (λ txn p b. gave st.lane next w st.copy h.boxes new.boxes txn p refl refl refl refl (way txn p) b)
    (λ v lane txn p ne b. fewer v lane h.boxes new.boxes txn p (let e = way txn p in omega arith) b) all
bounded_step h (Reclaim slot generation) new sound all st = no_lane h new (ap (λ (x : House). x.lanes) st.2) (λ txn p. rw (st.2) (omega arith)) all
bounded_step h (Close m) new sound all st = box_alone h new m st.0 _ (ap (λ (x : House). x.boxes) st.3) (ap (λ (x : House). x.lanes) st.3) st.1 refl all
bounded_step h _ new sound all st =
    box_alone h new _ st.box _ (ap (λ (x : House). x.boxes) st.after) (ap (λ (x : House). x.lanes) st.after) st.is
    (ap (λ hand. drop (finished_by st.box.taken hand) st.box.accepted) (sym st.in_hand)) all

bounded_run : (h : House) (run : List Happened) → HaveTheirTurns h → AllBounded h → Run h run → AllBounded (last_house h run)
bounded_run h [] sound all r = all
bounded_run h (x ∷ xs) sound all r = bounded_run x.house xs (sound_step h x.event x.house sound r.0) (bounded_step h x.event x.house sound all r.0) r.1

none_on_way : (txn : Txn) (p : ℕ) (bs : List Box) → ((b : ℕ) (box : Box) → slice_get bs b ≡ Some box → on_way box ≡ []) → times_on_way txn p bs ≡ 0
none_on_way txn p [] f = refl
none_on_way txn p (x ∷ bs) f = rw (f 0 x refl) (none_on_way txn p bs (λ b box at. f (suc b) box at))

bounded_start : (blocks : ℕ) (h : House) → IsStart blocks h → AllBounded h
bounded_start blocks h start k lane is txn p =
    let f = each_at IsFreshLane h.lanes k lane start.lanes is in
    let none : times_on_way txn p h.boxes ≡ 0 =
    none_on_way txn p h.boxes (λ b box at. let g = each_at IsFreshBox h.boxes b box start.boxes at in rw (g.hand, g.taken, g.accepted) refl) in
    rw (f.heard, f.slips, f.collected, f.messages, none) (given_none k txn p)

once_by : (t : Bool) (a b way old : ℕ) → old ≤ 1 → a + b + cond t way 0 ≤ cond t old 0 → a ≤ 1
once_by true a b way old le h = omega arith
once_by false a b way old le h = omega arith

pub every_run_hears_once : (blocks : ℕ) (start : House) (run : List Happened) → IsStart blocks start → Run start run → HearsOnce (last_house start run)
every_run_hears_once blocks start run is r k lane at txn p =
    let all = bounded_run start run (λ b box here. sound_fresh start box (each_at IsFreshBox start.boxes b box is.boxes here))
    (bounded_start blocks start is) r in
    once_by (k == txn.lane) (times_named txn p lane.heard) (times_named txn p (drop lane.collected lane.slips)) _ _
    (given_once k (last_house start run) lane at (every_run_is_once blocks start run is r) txn.number p) (all k lane at txn p)
