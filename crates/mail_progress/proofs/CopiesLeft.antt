-- How many copies may still be given away before a lane begins another message: no step that goes on adds to them, and each offer takes one.
use Rattle.std.proofs.Common.{◌⊎◌, ℕ, ◌+◌, ◌<◌, ◌≤◌, [], ◌∷◌, ◌++◌, None, inl, inr, refl, sym, subst, arith}
use Rattle.std.specs.Prelude.{slice_set, sum_by}
use Rattle.mail_world.specs.declared.Event.{Event}
use Rattle.mail_world.specs.declared.Event.TheVariants.{Begin, Put, Cancel, Seal, Split, Offer, HandBack, Collect, Miss, Write, Cut, Release, GiveSlip}
use Rattle.mail_world.specs.declared.Event.TheVariants.{Reclaim, Close}
use Rattle.mail_world.specs.declared.Note.{Note}
use Rattle.mail_world.specs.Depot.{Held, Draft, Sealed}
use Rattle.mail_world.specs.House.{Hold, Lane, House}
use Rattle.mail_world.specs.Slips.{slip_of, own_slip, txn_of, gather_for}
use Rattle.mail_world.specs.Events.{Step, SealStep, OfferStep, HandBackStep, outcome_of, without_copy, sealed_up_to, with_heard}
use Rattle.mail_progress.specs.Orderly.{IsInOrder}
use Rattle.mail_progress.specs.GoingOn.{GoesOn}
use Rattle.mail_progress.specs.StepsLeft.{steps_left}
use Rattle.mail_world.proofs.Holds.{sum_set, sum_remove}
use Rattle.mail_progress.proofs.Sums.{sum_last}
use Rattle.mail_progress.proofs.Slots.{in_slots, held_changes, held_goes}
use Rattle.mail_progress.proofs.Within.{to_give}
use Rattle.mail_progress.proofs.Lowered.{IsSoundSoFar, lowers}

-- a draft is sealed with no more copies than there is room for slips
abbrev pub copies_of_held : ℕ → Held → ℕ
copies_of_held room (Draft bytes blocks) = room
copies_of_held room _ = 0

abbrev pub copies_of_lane : Lane → ℕ
copies_of_lane lane = to_give lane.holds

abbrev pub copies_left : ℕ → House → ℕ
copies_left room h = in_slots (copies_of_held room) h.depot + sum_by copies_of_lane h.lanes

-- there are fewer copies, or as many and less is left of the other steps, whatever the records' sizes
abbrev pub IsLess : ℕ → ℕ → House → House → Type 0
IsLess room blocks h new = (copies_left room new < copies_left room h)
    ⊎ ((copies_left room new ≤ copies_left room h) × (steps_left blocks room 0 new < steps_left blocks room 0 h))

abbrev NoMore : ℕ → House → House → Type 0
NoMore room h new = copies_left room new ≤ copies_left room h

abbrev weight : Hold → ℕ
weight hold = hold.weight

offer_less : (room : ℕ) (h : House) (k : ℕ) (note : Note) (new : House) → OfferStep h k note new → copies_left room new < copies_left room h
offer_less room h k note new st =
    let give = sum_remove weight st.lane.holds st.at (record { key = st.key; weight = 1 }) st.copy.hold in
    let lanes = sum_set copies_of_lane h.lanes k st.lane (without_copy st.lane st.at st.t (sealed_up_to st.key note.txn.number note.message note.place))
    st.is in
    subst (λ (x : House). copies_left room x < copies_left room h) (sym st.after) (omega (arith, give, lanes))

seal_fewer : (room : ℕ) (h : House) (k n : ℕ) (new : House) → n ≤ room → SealStep h k n new → NoMore room h new
seal_fewer room h k n new o st =
    let p = st.seals in
    let slots = held_changes (copies_of_held room) h.depot st.depot st.key (Draft p.bytes p.blocks) (Sealed p.bytes p.blocks n) h.depot.free p.draft (λ e. cc)
    p.after in
    let hold : Hold = record { key = st.key; weight = n } in
    let more = sum_last weight st.lane.holds hold in
    let lanes = sum_set copies_of_lane h.lanes k st.lane (record st.lane {
      draft = None;
      messages = st.lane.messages ++ record { number = st.lane.number; key = st.key; message = p.bytes; offered = 0 } ∷ [];
      holds = st.lane.holds ++ hold ∷ [];
      gather = gather_for (txn_of k st.lane.number) n;
    }) st.is in
    subst (NoMore room h) (sym st.after) (omega (arith, slots, more, lanes, o))

back_fewer : (room : ℕ) (h : House) (k i m : ℕ) (new : House) → HandBackStep h k i m new → NoMore room h new
back_fewer room h k i m new st =
    let r = st.releases in
    let slots = held_changes (copies_of_held room) h.depot st.depot st.sealed.key (Sealed r.bytes r.blocks (r.weight + 1)) (Sealed r.bytes r.blocks r.weight)
    h.depot.free r.message (λ e. cc) r.after in
    let give = sum_remove weight st.lane.holds i (record { key = st.sealed.key; weight = 1 }) st.copy.hold in
    let lanes = sum_set copies_of_lane h.lanes k st.lane (with_heard (without_copy st.lane i st.t st.sealed) (own_slip k st.sealed.number st.sealed.offered m))
    st.is in
    subst (NoMore room h) (sym st.after) (omega (arith, slots, give, lanes))

fewer : (room : ℕ) (next : ℕ → ℕ) (h : House) (event : Event) (new : House) → GoesOn next h event → IsInOrder room h event → Step h event new
    → NoMore room h new
fewer room next h (Cancel k) new g o st =
    let slots = held_goes (copies_of_held room) refl refl h.depot st.key Draft st.depot st.cancels (λ x y e. cc) in
    let lanes = sum_set copies_of_lane h.lanes k st.lane (record st.lane { draft = None }) st.is in
    subst (NoMore room h) (sym st.after) (omega (arith, slots, lanes))
fewer room next h (Seal k n) new g o st = seal_fewer room h k n new o st
fewer room next h (Split k i) new g o st =
    let rest : Hold = record { key = st.key; weight = st.weight } in
    let one : Hold = record { key = st.key; weight = 1 } in
    let give = sum_set weight st.lane.holds i (record { key = st.key; weight = st.weight + 1 }) rest st.hold in
    let last = sum_last weight (slice_set st.lane.holds i rest) one in
    let lanes = sum_set copies_of_lane h.lanes k st.lane (record st.lane { holds = slice_set st.lane.holds i rest ++ one ∷ [] }) st.is in
    subst (NoMore room h) (sym st.after) (omega (arith, give, last, lanes))
fewer room next h (Offer k note) new g o st = let less = offer_less room h k note new st in omega arith
fewer room next h (HandBack k i m) new g o st = back_fewer room h k i m new st
fewer room next h (Collect k) new g o st =
    let lanes = sum_set copies_of_lane h.lanes k st.lane (record (with_heard st.lane st.slip) { collected = st.lane.collected + 1 }) st.is in
    subst (NoMore room h) (sym st.after) (omega (arith, lanes))
fewer room next h (Release w) new g o st =
    let r = st.releases in
    let slots = held_changes (copies_of_held room) h.depot st.depot st.copy.post.key (Sealed r.bytes r.blocks (r.weight + 1)) (Sealed r.bytes r.blocks r.weight)
    h.depot.free r.message (λ e. cc) r.after in
    subst (NoMore room h) (sym st.after) (omega (arith, slots))
fewer room next h (GiveSlip w outcome) new g o st =
    let k = st.copy.post.note.txn.lane in
    let lanes = sum_set copies_of_lane h.lanes k st.lane (record st.lane { slips = st.lane.slips ++ slip_of w st.copy.post.note (outcome_of st.copy) ∷ [] })
    st.to in
    subst (NoMore room h) (sym st.after) (omega (arith, lanes))
fewer room next h (Reclaim slot generation) new g o st =
    let slots = held_goes (copies_of_held room) refl refl h.depot (record { slot = slot; generation = generation }) (λ x y. Sealed x y 0) st.0 st.1
    (λ x y e. cc) in
    subst (NoMore room h) (sym st.2) (omega (arith, slots))
fewer room next h (Begin k) new g o st = absurd g
fewer room next h (Put k bytes) new g o st = absurd g
fewer room next h (Close b) new g o st = absurd g
fewer room next h (Miss w) new g o st = absurd g
fewer room next h (Cut w) new g o st = absurd g
fewer room next h event new g o st = subst (NoMore room h) (sym st.after) (omega arith)

pub goes_less : (room blocks : ℕ) (next : ℕ → ℕ) (h : House) (event : Event) (new : House) → IsSoundSoFar blocks h → GoesOn next h event
    → IsInOrder room h event → Step h event new → IsLess room blocks h new
goes_less room blocks next h (Begin k) new sound g o st = absurd g
goes_less room blocks next h (Put k bytes) new sound g o st = absurd g
goes_less room blocks next h (Close b) new sound g o st = absurd g
goes_less room blocks next h (Miss w) new sound g o st = absurd g
goes_less room blocks next h (Cut w) new sound g o st = absurd g
goes_less room blocks next h (Offer k note) new sound g o st = inl (offer_less room h k note new st)
goes_less room blocks next h (Write w bytes) new sound g o st =
    inr (fewer room next h (Write w bytes) new g o st, lowers blocks room 0 h (Write w bytes) new sound st o g.0)
goes_less room blocks next h event new sound g o st = inr (fewer room next h event new g o st, lowers blocks room 0 h event new sound st o tt)
