-- Each event but Begin, and a Put or Write of no bytes, lowers the number of the steps that are left.
use Rattle.std.proofs.Common.{◌≡◌, ℕ, ◌+◌, ◌-◌, ◌*◌, ◌<◌, ◌≤◌, List, [], ◌∷◌, ◌++◌, length, drop, Bool, true, false, cond, ◌==◌, Some, None, refl}
use Rattle.std.proofs.Common.{ap, sym, ◌∙◌, subst, arith, add-one, length-append}
use Rattle.std.specs.Prelude.{slice_get, slice_set, sum_by, remove, nat_lt, if◌then◌else◌}
use Rattle.std.proofs.lemmas.List.Sums.{sum_by-cons}
use Rattle.std.proofs.lemmas.Option.{slice_get_within}
use Rattle.std.proofs.Math.Nat.{mul-le-mul_right}
use Rattle.mail_world.specs.declared.limits.TheConstants.{BLOCK_SIZE}
use Rattle.mail_world.specs.declared.Outcome.TheVariants.{Failed}
use Rattle.mail_world.specs.declared.Event.{Event}
use Rattle.mail_world.specs.declared.Event.TheVariants.{Begin, Put, Cancel, Seal, Split, Offer, HandBack, Collect, Take, Lock, Miss, Write, Sync, Cut}
use Rattle.mail_world.specs.declared.Event.TheVariants.{Unlock, Release, GiveSlip, Reclaim, Close}
use Rattle.mail_world.specs.Slips.{slip_of, own_slip, txn_of, gather_for}
use Rattle.mail_world.specs.Depot.{Key, Slot, Draft, Sealed, Depot, blocks_for, occurrences, blocks_of, blocks_in_use, HasEachBlockOnce, Puts}
use Rattle.mail_world.specs.House.{Hold, Post, Progress, Going, Synced, CutBack, Done, Copy, Box, House, with_box, IsStart}
use Rattle.mail_world.specs.Turns.{Standing, Told}
use Rattle.mail_world.specs.Events.{Step, BoxIs, outcome_of, with_progress, begun, without_copy, sealed_up_to, with_heard, with_taken}
use Rattle.mail_world.specs.Runs.{Happened, Run, last_house, open_by, HaveTheirTurns}
use Rattle.mail_world.proofs.Spools.{in_hand, open_ending, sound_step, every_run_has_turns}
use Rattle.mail_world.proofs.Depots.{set_at, used, times-append, begins_turn, puts_turn, seals_turn, releases_turn, drops_turn}
use Rattle.mail_world.proofs.Holds.{drop_get}
use Rattle.mail_progress.specs.Orderly.{IsInOrder, IsOrderly}
use Rattle.mail_progress.specs.StepsLeft.{size, steps_of_copy, steps_of_turn, steps_in_hand, steps_of_one, steps_of_hold, steps_of_lane, steps_of_box}
use Rattle.mail_progress.specs.StepsLeft.{steps_of_slot, steps_left, IsBounded, AreBounded, EachLowers, EveryRunEnds}
use Rattle.mail_world.proofs.Holds.{sum_set, sum_remove, part_le}
use Rattle.mail_progress.proofs.Sums.{sum_last, sum_one_more}
use Rattle.mail_progress.proofs.Slots.{held_changes, held_goes}
use Rattle.mail_progress.proofs.Pigeons.{few}
use Rattle.mail_progress.proofs.Lowers.{lock_lowers, write_lowers, sync_lowers, unlock_lowers}

-- each block stays in one place
pub each_step : (n : ℕ) (h : House) (e : Event) (new : House) → HasEachBlockOnce n h.depot → Step h e new → HasEachBlockOnce n new.depot
each_step n h (Begin k) new s st = subst (λ (x : House). HasEachBlockOnce n x.depot) (sym st.after) ((begins_turn h.depot st.key st.depot st.begins).blocks n s)
each_step n h (Put k bytes) new s st =
    subst (λ (x : House). HasEachBlockOnce n x.depot) (sym st.after) ((puts_turn h.depot st.key bytes st.depot st.puts).blocks n s)
each_step n h (Cancel k) new s st =
    subst (λ (x : House). HasEachBlockOnce n x.depot) (sym st.after)
    ((drops_turn h.depot st.key Draft st.depot (λ b blocks. refl) (λ b blocks. refl) (λ b blocks e. cc) st.cancels).blocks n s)
each_step n h (Seal k m) new s st =
    subst (λ (x : House). HasEachBlockOnce n x.depot) (sym st.after) ((seals_turn h.depot st.key m st.depot st.seals).blocks n s)
each_step n h (HandBack k i m) new s st =
    subst (λ (x : House). HasEachBlockOnce n x.depot) (sym st.after) ((releases_turn h.depot st.sealed.key st.depot st.releases).blocks n s)
each_step n h (Release w) new s st =
    subst (λ (x : House). HasEachBlockOnce n x.depot) (sym st.after) ((releases_turn h.depot st.copy.post.key st.depot st.releases).blocks n s)
each_step n h (Reclaim slot generation) new s st =
    subst (λ (x : House). HasEachBlockOnce n x.depot) (sym st.2)
    ((drops_turn h.depot (record { slot = slot; generation = generation }) (λ b blocks. Sealed b blocks 0) st.0 (λ b blocks. refl) (λ b blocks. refl)
    (λ b blocks e. cc) st.1).blocks n s)
each_step n h (Close b) new s st = subst (λ (x : House). HasEachBlockOnce n x.depot) (sym st.3) s
each_step n h _ new s st = subst (λ (x : House). HasEachBlockOnce n x.depot) (sym st.after) s

-- and each copy that was taken has its turn
pub record IsSoundSoFar (n : ℕ) (h : House) : Type 0 where
  pub each : HasEachBlockOnce n h.depot
  pub turns : HaveTheirTurns h

pub sound_so_far_step : (n : ℕ) (h : House) (e : Event) (new : House) → IsSoundSoFar n h → Step h e new → IsSoundSoFar n new
sound_so_far_step n h e new s st = record { each = each_step n h e new s.each st; turns = sound_step h e new s.turns st }

pub each_run : (n : ℕ) (h : House) (run : List Happened) → HasEachBlockOnce n h.depot → Run h run → HasEachBlockOnce n (last_house h run).depot
each_run n h [] s r = s
each_run n h (x ∷ xs) s r = each_run n x.house xs (each_step n h x.event x.house s r.0) r.1

pub sound_so_far : (n : ℕ) (start : House) (run : List Happened) → IsStart n start → Run start run → IsSoundSoFar n (last_house start run)
sound_so_far n start run is r = record { each = each_run n start run is.free r; turns = every_run_has_turns n start run is r }

-- a draft's bytes fit in the blocks
few_blocks : (n : ℕ) (d : Depot) (i : ℕ) (slot : Slot) → HasEachBlockOnce n d → slice_get d.slots i ≡ Some slot → length (blocks_of slot.held) ≤ n
few_blocks n d i slot each at = few n (blocks_of slot.held) (λ x.
    let one : occurrences x (d.free ++ blocks_in_use d) ≡ (if nat_lt x n then 1 else 0) = each x in
    let p = part_le (λ y. cond (y == x) 1 0) (λ (s : Slot). blocks_of s.held) d.slots i slot at in
    omega (arith, times-append x d.free (blocks_in_use d)))

fits_blocks : (n len blocks : ℕ) → blocks ≡ blocks_for len → blocks ≤ n → len ≤ n * BLOCK_SIZE
fits_blocks n len blocks e le = omega (arith, e, le)

put_fits : (n : ℕ) (d : Depot) (key : Key) (more : List ℕ) (new : Depot) (p : Puts d key more new) → HasEachBlockOnce n new
    → length (p.bytes ++ more) ≤ n * BLOCK_SIZE
put_fits n d key more new p each =
    let slot : Slot = record { generation = key.generation; held = Draft (p.bytes ++ more) (p.blocks ++ p.picked) } in
    let there : slice_get new.slots key.slot ≡ Some slot =
    ap (λ (x : Depot). slice_get x.slots key.slot) p.after ∙ set_at d.slots key.slot slot _ (used d key _ p.draft (λ e. cc)) in
    fits_blocks n (length (p.bytes ++ more)) (length (p.blocks ++ p.picked)) p.enough (few_blocks n new key.slot slot each there)

-- a hold that is split, and one whose copy goes
some_weight : (w c : ℕ) → 1 ≤ w → c ≤ w * c
some_weight w c le = let m = mul-le-mul_right {m = 1} {n = w} c le in omega (arith, m)

one_more_weight : (w c : ℕ) → (w + 1) * c ≡ w * c + c
one_more_weight w c = omega arith

holds_split : (bound : ℕ) (holds : List Hold) (i w : ℕ) (key : Key) → slice_get holds i ≡ Some (record { key = key; weight = w + 1 }) → 1 ≤ w
    → sum_by (steps_of_hold bound) (slice_set holds i (record { key = key; weight = w }) ++ record { key = key; weight = 1 } ∷ [])
    < sum_by (steps_of_hold bound) holds
holds_split bound holds i w key at some =
    let rest : Hold = record { key = key; weight = w } in
    let one : Hold = record { key = key; weight = 1 } in
    let c = steps_of_one bound in
    let e : steps_of_hold bound (record { key = key; weight = w + 1 }) ≡ w * c + c - 1 = ap (λ n. n - 1) (one_more_weight w c) in
    let high : c ≤ w * c = some_weight w c some in
    omega (
      arith,
      sum_set (steps_of_hold bound) holds i (record { key = key; weight = w + 1 }) rest at,
      sum_last (steps_of_hold bound) (slice_set holds i rest) one,
      e,
      high,
    )

holds_fewer : (bound : ℕ) (holds : List Hold) (i : ℕ) (key : Key) → slice_get holds i ≡ Some (record { key = key; weight = 1 })
    → sum_by (steps_of_hold bound) (remove holds i) + (bound + 52) ≡ sum_by (steps_of_hold bound) holds
holds_fewer bound holds i key at = omega (arith, sum_remove (steps_of_hold bound) holds i (record { key = key; weight = 1 }) at)

-- the copies that a mailbox has in its channel
abbrev waiting : House → Box → ℕ
waiting h box = sum_by (λ (post : Post). steps_of_copy (size h post.note)) (drop box.taken box.accepted)

waiting_offer : (h : House) (box : Box) (post : Post)
    → sum_by (λ (p : Post). steps_of_copy (size h p.note)) (drop box.taken (box.accepted ++ post ∷ [])) ≤ waiting h box + steps_of_copy (size h post.note)
waiting_offer h box post = sum_one_more (λ (p : Post). steps_of_copy (size h p.note)) box.taken box.accepted post

waiting_take : (h : House) (box : Box) (post : Post) → slice_get box.accepted box.taken ≡ Some post
    → waiting h box ≡ steps_of_copy (size h post.note) + sum_by (λ (p : Post). steps_of_copy (size h p.note)) (drop (box.taken + 1) box.accepted)
waiting_take h box post at =
    let f : Post → ℕ = λ p. steps_of_copy (size h p.note) in
    ap (sum_by f) (drop_get box.accepted box.taken post at ∙ ap (λ j. post ∷ drop j box.accepted) (sym (add-one box.taken)))
    ∙ sum_by-cons f post (drop (box.taken + 1) box.accepted)

-- a copy in hand
in_hand_by : (h : House) (box : Box) (copy : Copy) → box.hand ≡ Some copy
    → steps_of_box h box ≡ waiting h box + steps_in_hand h (Some copy) + (if box.closed then 0 else 1)
in_hand_by h box copy e = ap (λ hand. waiting h box + steps_in_hand h hand + (if box.closed then 0 else 1)) e

free_hand_by : (h : House) (box : Box) → box.hand ≡ None → steps_of_box h box ≡ waiting h box + (if box.closed then 0 else 1)
free_hand_by h box e = ap (λ hand. waiting h box + steps_in_hand h hand + (if box.closed then 0 else 1)) e ∙ (omega arith)

held_steps : (h : House) (copy : Copy) (progress : Progress) → copy.released ≡ false
    → steps_in_hand h (with_progress copy progress) ≡ steps_of_turn h copy.post.note progress
held_steps h copy progress held = rw held refl

released_steps : (h : House) (copy : Copy) → copy.released ≡ true → steps_in_hand h (Some copy) ≡ 2
released_steps h copy e = rw e refl

-- a copy whose turn goes on wasn't let go
still_held : (h : House) (w : ℕ) (box : Box) (copy : Copy) → HaveTheirTurns h → BoxIs h w box → box.hand ≡ Some copy → open_by copy.progress ≡ 1
    → copy.released ≡ false
still_held h w box copy all is hand open' = by copy.released refl
  where
    by : (t : Bool) → copy.released ≡ t → t ≡ false
    by false e = refl
    by true e = let done = (in_hand h box copy hand (all w box is)).2 e in absurd (omega arith)

-- each event
abbrev Left : ℕ → ℕ → ℕ → House → House → Type 0
Left blocks room bound h new = steps_left blocks room bound new < steps_left blocks room bound h

-- the turn of a copy in hand comes further
turn_lowers : (blocks room bound : ℕ) (h : House) (w : ℕ) (box : Box) (copy : Copy) (spool : List ℕ) (kept : ℕ) (turns : List Told) (progress : Progress)
    → HaveTheirTurns h → BoxIs h w box → box.hand ≡ Some copy → open_by copy.progress ≡ 1
    → steps_of_turn h copy.post.note progress < steps_of_turn h copy.post.note copy.progress
    → Left blocks room bound h (with_box h w (record box { spool = spool; kept = kept; turns = turns; hand = with_progress copy progress }))
turn_lowers blocks room bound h w box copy spool kept turns progress all is hand open' less =
    let held = still_held h w box copy all is hand open' in
    let boxes = sum_set (steps_of_box h) h.boxes w box (record box { spool = spool; kept = kept; turns = turns; hand = with_progress copy progress }) is in
    omega (arith, boxes, in_hand_by h box copy hand, held_steps h copy copy.progress held, held_steps h copy progress held, less)

pub lowers : (blocks room bound : ℕ) (h : House) (e : Event) (new : House) → IsSoundSoFar blocks h → Step h e new → IsInOrder room h e
    → IsBounded bound h e → Left blocks room bound h new
lowers blocks room bound h (Begin k) new s st o b = absurd b
lowers blocks room bound h (Put k bytes) new s st o b =
    let each = (puts_turn h.depot st.key bytes st.depot st.puts).blocks blocks s.each in
    let p = st.puts in
    let fits = put_fits blocks h.depot st.key bytes st.depot p each in
    let len = length-append p.bytes bytes in
    let slots = held_changes (steps_of_slot blocks room bound) h.depot st.depot st.key (Draft p.bytes p.blocks)
    (Draft (p.bytes ++ bytes) (p.blocks ++ p.picked)) p.rest p.draft (λ e. cc) p.after in
    subst (Left blocks room bound h) (sym st.after) (omega (arith, slots, len, fits, b))
lowers blocks room bound h (Cancel k) new s st o b =
    let slots = held_goes (steps_of_slot blocks room bound) refl refl h.depot st.key Draft st.depot st.cancels (λ x y e. cc) in
    let lanes = sum_set (steps_of_lane bound) h.lanes k st.lane (record st.lane { draft = None }) st.is in
    subst (Left blocks room bound h) (sym st.after) (omega (arith, slots, lanes))
lowers blocks room bound h (Seal k n) new s st o b =
    let p = st.seals in
    let slots = held_changes (steps_of_slot blocks room bound) h.depot st.depot st.key (Draft p.bytes p.blocks) (Sealed p.bytes p.blocks n) h.depot.free p.draft
    (λ e. cc) p.after in
    let hold : Hold = record { key = st.key; weight = n } in
    let more = sum_last (steps_of_hold bound) st.lane.holds hold in
    let most : n * steps_of_one bound ≤ room * steps_of_one bound = mul-le-mul_right (steps_of_one bound) o in
    let lanes = sum_set (steps_of_lane bound) h.lanes k st.lane (record st.lane {
      draft = None;
      messages = st.lane.messages ++ record { number = st.lane.number; key = st.key; message = p.bytes; offered = 0 } ∷ [];
      holds = st.lane.holds ++ hold ∷ [];
      gather = gather_for (txn_of k st.lane.number) n;
    }) st.is in
    subst (Left blocks room bound h) (sym st.after) (omega (arith, slots, more, most, lanes))
lowers blocks room bound h (Split k i) new s st o b =
    let less = holds_split bound st.lane.holds i st.weight st.key st.hold st.above in
    let lanes = sum_set (steps_of_lane bound) h.lanes k st.lane
    (record st.lane { holds = slice_set st.lane.holds i (record { key = st.key; weight = st.weight }) ++ record { key = st.key; weight = 1 } ∷ [] })
    st.is in
    subst (Left blocks room bound h) (sym st.after) (omega (arith, less, lanes))
lowers blocks room bound h (Offer k note) new s st o b =
    let post : Post = record { note = note; key = st.key } in
    let less = holds_fewer bound st.lane.holds st.at st.key st.copy.hold in
    let lanes = sum_set (steps_of_lane bound) h.lanes k st.lane (without_copy st.lane st.at st.t (sealed_up_to st.key note.txn.number note.message note.place))
    st.is in
    let boxes = sum_set (steps_of_box h) h.boxes note.mailbox st.box (record st.box { accepted = st.box.accepted ++ post ∷ [] }) st.channel in
    subst (Left blocks room bound h) (sym st.after) (omega (arith, less, lanes, boxes, waiting_offer h st.box post, b))
lowers blocks room bound h (HandBack k i m) new s st o b =
    let r = st.releases in
    let slots = held_changes (steps_of_slot blocks room bound) h.depot st.depot st.sealed.key (Sealed r.bytes r.blocks (r.weight + 1))
    (Sealed r.bytes r.blocks r.weight) h.depot.free r.message (λ e. cc) r.after in
    let less = holds_fewer bound st.lane.holds i st.sealed.key st.copy.hold in
    let lanes = sum_set (steps_of_lane bound) h.lanes k st.lane
    (with_heard (without_copy st.lane i st.t st.sealed) (own_slip k st.sealed.number st.sealed.offered m)) st.is in
    subst (Left blocks room bound h) (sym st.after) (omega (arith, slots, less, lanes))
lowers blocks room bound h (Collect k) new s st o b =
    let below = slice_get_within st.lane.slips st.lane.collected st.slip st.oldest in
    let lanes = sum_set (steps_of_lane bound) h.lanes k st.lane (record (with_heard st.lane st.slip) { collected = st.lane.collected + 1 }) st.is in
    subst (Left blocks room bound h) (sym st.after) (omega (arith, below, lanes))
lowers blocks room bound h (Take w) new s st o b =
    let boxes = sum_set (steps_of_box h) h.boxes w st.box (with_taken st.box st.post) st.is in
    subst (Left blocks room bound h) (sym st.after)
    (omega (arith, boxes, free_hand_by h st.box st.free_hand, waiting_take h st.box st.post st.oldest))
lowers blocks room bound h (Lock w bytes) new s st o b =
    let lock : Standing = record { bytes = bytes; synced = st.kept; failures = st.failures } in
    let note = st.copy.post.note in
    let quota = st.box.quota in
    subst (Left blocks room bound h) (sym st.after)
    (turn_lowers blocks room bound h w st.box st.copy bytes st.kept st.box.turns (begun h quota note lock) s.turns st.is st.in_hand (ap open_by st.first)
    (subst (λ p. steps_of_turn h note (begun h quota note lock) < steps_of_turn h note p) (sym st.first) (lock_lowers h quota note lock)))
lowers blocks room bound h (Miss w) new s st o b =
    let note = st.copy.post.note in
    subst (Left blocks room bound h) (sym st.after)
    (turn_lowers blocks room bound h w st.box st.copy st.box.spool st.box.kept _ (Done Failed) s.turns st.is st.in_hand (ap open_by st.first)
    (subst (λ p. 3 < steps_of_turn h note p) (sym st.first) (omega arith)))
lowers blocks room bound h (Write w bytes) new s st o b =
    let note = st.copy.post.note in
    let next : Progress = Going st.lock (st.written + length bytes) in
    subst (Left blocks room bound h) (sym st.after)
    (turn_lowers blocks room bound h w st.box st.copy (st.box.spool ++ bytes) st.box.kept st.box.turns next s.turns st.is st.in_hand (ap open_by st.going)
    (subst (λ p. steps_of_turn h note next < steps_of_turn h note p) (sym st.going)
    (write_lowers h note st.lock st.written bytes st.more b st.next)))
lowers blocks room bound h (Sync w) new s st o b =
    let note = st.copy.post.note in
    subst (Left blocks room bound h) (sym st.after)
    (turn_lowers blocks room bound h w st.box st.copy st.box.spool (length st.box.spool) st.box.turns (Synced st.lock) s.turns st.is st.in_hand
    (ap open_by st.going)
    (subst (λ p. 4 < steps_of_turn h note p) (sym st.going) (sync_lowers h note st.lock st.written)))
lowers blocks room bound h (Cut w) new s st o b =
    let note = st.copy.post.note in
    subst (Left blocks room bound h) (sym st.after)
    (turn_lowers blocks room bound h w st.box st.copy st.lock.bytes st.box.kept st.box.turns (CutBack st.lock) s.turns st.is st.in_hand
    (ap open_by st.going)
    (subst (λ p. 4 < steps_of_turn h note p) (sym st.going) (sync_lowers h note st.lock st.written)))
lowers blocks room bound h (Unlock w) new s st o b =
    subst (Left blocks room bound h) (sym st.after)
    (turn_lowers blocks room bound h w st.box st.copy st.box.spool st.kept _ (Done st.end.outcome) s.turns st.is st.in_hand
    (open_ending st.copy.progress st.end st.in_turn) (unlock_lowers h st.copy.post.note st.copy.progress st.end st.in_turn))
lowers blocks room bound h (Release w) new s st o b =
    let r = st.releases in
    let slots = held_changes (steps_of_slot blocks room bound) h.depot st.depot st.copy.post.key (Sealed r.bytes r.blocks (r.weight + 1))
    (Sealed r.bytes r.blocks r.weight) h.depot.free r.message (λ e. cc) r.after in
    let boxes = sum_set (steps_of_box h) h.boxes w st.box (record st.box { hand = Some (record st.copy { released = true }) }) st.is in
    let was : steps_in_hand h (Some st.copy) ≡ 3 = held_steps h st.copy st.copy.progress st.held ∙ ap (steps_of_turn h st.copy.post.note) st.done in
    subst (Left blocks room bound h) (sym st.after) (omega (arith, slots, boxes, in_hand_by h st.box st.copy st.in_hand, was))
lowers blocks room bound h (GiveSlip w outcome) new s st o b =
    let len = length-append st.lane.slips (slip_of w st.copy.post.note (outcome_of st.copy) ∷ []) in
    let lanes = sum_set (steps_of_lane bound) h.lanes st.copy.post.note.txn.lane st.lane
    (record st.lane { slips = st.lane.slips ++ slip_of w st.copy.post.note (outcome_of st.copy) ∷ [] }) st.to in
    let boxes = sum_set (steps_of_box h) h.boxes w st.box (record st.box { hand = None }) st.is in
    subst (Left blocks room bound h) (sym st.after)
    (omega (arith, len, lanes, boxes, in_hand_by h st.box st.copy st.in_hand, released_steps h st.copy st.let_go))
lowers blocks room bound h (Reclaim slot generation) new s st o b =
    let slots = held_goes (steps_of_slot blocks room bound) refl refl h.depot (record { slot = slot; generation = generation }) (λ x y. Sealed x y 0) st.0 st.1
    (λ x y e. cc) in
    subst (Left blocks room bound h) (sym st.2) (omega (arith, slots))
lowers blocks room bound h (Close m) new s st o b =
    let open' : ◌≡◌ {A = ℕ} (if st.0.closed then 0 else 1) 1 = rw (st.2) refl in
    let boxes = sum_set (steps_of_box h) h.boxes m st.0 (record st.0 { closed = true }) st.1 in
    subst (Left blocks room bound h) (sym st.3) (omega (arith, boxes, open'))

pub run_parts : (room : ℕ) (h : House) (before after : List Happened) → Run h (before ++ after) → IsOrderly room h (before ++ after)
    → (Run h before) × (IsOrderly room h before) × (Run (last_house h before) after) × (IsOrderly room (last_house h before) after)
run_parts room h [] after r o = (tt, tt, r, o)
run_parts room h (x ∷ xs) after r o = let p = run_parts room x.house xs after r.1 o.1 in ((r.0, p.0), (o.0, p.1), p.2, p.3)

ends_from : (room blocks bound : ℕ) (h : House) (after : List Happened) → IsSoundSoFar blocks h → Run h after → IsOrderly room h after
    → AreBounded bound h after
    → length after + steps_left blocks room bound (last_house h after) ≤ steps_left blocks room bound h
ends_from room blocks bound h [] s r o b = omega arith
ends_from room blocks bound h (x ∷ xs) s r o b =
    let rest = ends_from room blocks bound x.house xs (sound_so_far_step blocks h x.event x.house s r.0) r.1 o.1 b.1 in
    let first = lowers blocks room bound h x.event x.house s r.0 o.0 b.0 in
    omega (arith, rest, first)

pub each_lowers : EachLowers
each_lowers room blocks bound start run event new is r o st order b =
    lowers blocks room bound (last_house start run) event new (sound_so_far blocks start run is r) st order b

pub it_ends : EveryRunEnds
it_ends room blocks bound start before after is r o b =
    let p = run_parts room start before after r o in
    ends_from room blocks bound (last_house start before) after (sound_so_far blocks start before is p.0) p.2 p.3 b
