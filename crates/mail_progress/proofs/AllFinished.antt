-- Where nothing goes on, all is finished.
use Rattle.std.proofs.Common.{◌≡◌, ◌≢◌, ℕ, zero, suc, ◌+◌, ◌<◌, ◌≤◌, List, [], ◌∷◌, ◌++◌, length, drop, map, Option, Some, None, inl, inr, refl, ap, sym, ◌∙◌}
use Rattle.std.proofs.Common.{subst, arith, append-nil}
use Rattle.std.specs.Prelude.{slice_get, sum_by}
use Rattle.std.specs.List.{AllByRecursion, range_with_len}
use Rattle.mail_world.specs.declared.Outcome.{Outcome}
use Rattle.mail_world.specs.Depot.{Key, occurrences, blocks_in_use, HasEachBlockOnce}
use Rattle.mail_world.specs.House.{Hold, Copy, Box, SealedMessage, Lane, House}
use Rattle.mail_world.specs.Events.{LaneIs, BoxIs}
use Rattle.mail_world.specs.Runs.{last_house, events_of}
use Rattle.mail_world.proofs.Accepted.{every_run_accepts}
use Rattle.mail_progress.specs.Orderly.{HasOutcome, on_way}
use Rattle.mail_progress.specs.GoingOn.{MayGoOn}
use Rattle.mail_progress.specs.NothingStuck.{Mover, IsMovedBy, TheLane, TheWorker, LaneOrWorker, NothingStuck}
use Rattle.mail_progress.specs.Finished.{copies_sealed, IsFinished, EndsFinished}
use Rattle.mail_world.specs.declared.Event.{Event}
use Rattle.mail_world.specs.declared.Slip.{Slip}
use Rattle.mail_world.specs.declared.Txn.{Txn}
use Rattle.mail_world.specs.Slips.{txn_of, names, times_named, answer}
use Rattle.mail_world.proofs.GivenAway.{is_given, count_some}
use Rattle.std.proofs.lemmas.List.{drop_all}
use Rattle.mail_progress.proofs.Within.{to_give}
use Rattle.mail_progress.proofs.Search.{search_list}
use Rattle.mail_progress.proofs.Sums.{sum_none}
use Rattle.mail_progress.proofs.CopiesGiven.{AreSealedFor, AllSealedFor, every_orderly_sealed_for, all_given}
use Rattle.mail_progress.proofs.Tracked.{copy_at, way_at, AllTracked}
use Rattle.mail_progress.proofs.Owners.{AllOwned, every_run_owns, none_in_use}
use Rattle.mail_progress.proofs.Reached.{reached}
use Rattle.mail_progress.proofs.Movers.{low_or_full, IsBusy, busy_way, none_found, given_there, nothing_is_stuck, nothing_is_stuck_when_closed}

abbrev pub goes_on : (P : Mover → Type 0) (room : ℕ) (next : ℕ → ℕ) (h : House) → IsMovedBy P room next h → MayGoOn room next h
goes_on P room next h m = record { event = m.event; goes_on = m.goes_on; in_order = m.in_order; happens = m.happens }

no_key : (draft : Option Key) → ((key : Key) → draft ≡ Some key → ⊥) → draft ≡ None
no_key None f = refl
no_key (Some key) f = absurd (f key refl)

no_copy : (hand : Option Copy) → ((copy : Copy) → hand ≡ Some copy → ⊥) → hand ≡ None
no_copy None f = refl
no_copy (Some copy) f = absurd (f copy refl)

no_holds : (holds : List Hold) → (holds ≢ [] → ⊥) → holds ≡ []
no_holds [] f = refl
no_holds (x ∷ holds) f = absurd (f (λ e. cc))

all_answered : (places : List (Option Outcome)) → ((p : ℕ) → slice_get places p ≡ Some None → ⊥) → AllByRecursion HasOutcome places
all_answered [] f = tt
all_answered (None ∷ places) f = absurd (f 0 refl)
all_answered (Some o ∷ places) f = (tt, all_answered places (λ p e. f (suc p) e))

-- each place of a transaction is answered, where a slip for it was heard
found_named : (txn : Txn) (heard : List Slip) (p : ℕ) → 1 ≤ times_named txn p heard → HasOutcome (answer txn heard p)
found_named txn heard p some = by (answer txn heard p) refl
  where
    by : (got : Option Outcome) → answer txn heard p ≡ got → HasOutcome got
    by None e = let none = none_found (names txn p) heard e in absurd (omega arith)
    by (Some o) e = tt

all_named : (txn : Txn) (heard : List Slip) (a n : ℕ) → ((p : ℕ) → p < a + n → 1 ≤ times_named txn p heard)
    → AllByRecursion HasOutcome (map (answer txn heard) (range_with_len a n))
all_named txn heard a zero f = tt
all_named txn heard a (suc n) f = (found_named txn heard a (f a (omega arith)), all_named txn heard (a + 1) n (λ p low. f p (omega arith)))

-- what is known of a house where nothing goes on
record IsStill (Movers : ℕ → Mover → Type 0) (room blocks : ℕ) (next : ℕ → ℕ) (events : List Event) (h : House) : Type 0 where
  each : HasEachBlockOnce blocks h.depot
  owned : AllOwned h
  tracked : AllTracked h
  given : AllSealedFor (λ k. copies_sealed k events) h
  prefixes : (b : ℕ) (box : Box) → BoxIs h b box → box.taken ≤ length box.accepted
  moved : NothingStuck Movers room next h
  still : MayGoOn room next h → ⊥

idle_lane : (Movers : ℕ → Mover → Type 0) (room blocks : ℕ) (next : ℕ → ℕ) (events : List Event) (h : House) → IsStill Movers room blocks next events h
    → (k : ℕ) (lane : Lane) → LaneIs h k lane → lane.holds ≡ []
idle_lane Movers room blocks next events h s k lane at =
    no_holds lane.holds (λ some. s.still (goes_on (Movers k) room next h (s.moved.to_offer k lane at some)))

all_collected : (Movers : ℕ → Mover → Type 0) (room blocks : ℕ) (next : ℕ → ℕ) (events : List Event) (h : House) → IsStill Movers room blocks next events h
    → (k : ℕ) (lane : Lane) → LaneIs h k lane → length lane.slips ≤ lane.collected
all_collected Movers room blocks next events h s k lane at = elim (low_or_full lane.collected (length lane.slips)) [
  | inl less ↦ absurd (s.still (goes_on (Movers k) room next h (s.moved.to_collect k lane at less)))
  | inr all ↦ all
]

none_on_way : (Movers : ℕ → Mover → Type 0) (room blocks : ℕ) (next : ℕ → ℕ) (events : List Event) (h : House) → IsStill Movers room blocks next events h
    → (k number p : ℕ) → way_at k number p h.boxes ≡ 0
none_on_way Movers room blocks next events h s k number p =
    elim (search_list (λ w box. IsBusy box) (λ w box. on_way box ≡ []) h.boxes (λ w box is. busy_way box)) [
      | inl there ↦ absurd (busy there.0 there.1 there.2 there.3)
      | inr none ↦ sum_none on_way (copy_at k number p) h.boxes (λ w box is. ap (sum_by (copy_at k number p)) (none w box is))
    ]
  where
    busy : (w : ℕ) (box : Box) → BoxIs h w box → IsBusy box → ⊥
    busy w box at (inl low) = s.still (goes_on (TheWorker w) room next h (s.moved.accepted w box at low))
    busy w box at (inr hand) = s.still (goes_on (TheWorker w) room next h (s.moved.in_hand w box hand.0 at hand.1))

-- each copy that was given away was heard of
heard_of : (Movers : ℕ → Mover → Type 0) (room blocks : ℕ) (next : ℕ → ℕ) (events : List Event) (h : House) → IsStill Movers room blocks next events h
    → (k : ℕ) (lane : Lane) (i place : ℕ) (t : SealedMessage) → LaneIs h k lane → slice_get lane.messages i ≡ Some t
    → place < t.offered → 1 ≤ times_named (txn_of k t.number) place lane.heard
heard_of Movers room blocks next events h s k lane i place t at is low =
    let number = t.number in
    let given = (s.tracked k lane at).given number place in
    let some = count_some (is_given number place) lane.messages i t is (given_there t place low) in
    let no_slips : times_named (txn_of k number) place (drop lane.collected lane.slips) ≡ 0 =
    ap (times_named (txn_of k number) place) (drop_all lane.collected lane.slips (all_collected Movers room blocks next events h s k lane at)) in
    let no_way = none_on_way Movers room blocks next events h s k number place in
    omega arith

finished_by : (Movers : ℕ → Mover → Type 0) (room blocks : ℕ) (next : ℕ → ℕ) (events : List Event) (h : House) → IsStill Movers room blocks next events h
    → IsFinished blocks events h
finished_by Movers room blocks next events h s = record {
  no_draft = λ k lane at. no_key lane.draft (λ key e. s.still (goes_on (TheLane k) room next h (s.moved.draft k lane key at e)));
  none_to_offer = λ k lane at. idle_lane Movers room blocks next events h s k lane at;
  drained = λ w box at. elim (low_or_full box.taken (length box.accepted)) [
    | inl low ↦ absurd (s.still (goes_on (TheWorker w) room next h (s.moved.accepted w box at low)))
    | inr all ↦ let prefix = s.prefixes w box at in omega arith
  ];
  free_hand = λ w box at. no_copy box.hand (λ copy e. s.still (goes_on (TheWorker w) room next h (s.moved.in_hand w box copy at e)));
  collected = λ k lane at. let all = all_collected Movers room blocks next events h s k lane at in let prefix = (s.tracked k lane at).prefix in omega arith;
  given_away = λ k lane at.
      let idle : to_give lane.holds ≡ 0 = ap to_give (idle_lane Movers room blocks next events h s k lane at) in
      all_given lane.messages (copies_sealed k events) (subst (λ w. AreSealedFor lane.messages w (copies_sealed k events)) idle (s.given k lane at));
  answered = λ k lane i t at is. all_named (txn_of k t.number) lane.heard 0 t.offered
      (λ p low. heard_of Movers room blocks next events h s k lane i p t at is (omega arith));
  gathered = λ k lane at. all_answered lane.gather.places (λ p e. s.still (goes_on _ room next h (s.moved.unanswered k lane p at e)));
  reclaimed = λ i slot bytes its weight at e. s.still (goes_on _ room next h (s.moved.sealed i slot bytes its weight at e));
  all_free = λ x.
      let none : blocks_in_use h.depot ≡ [] = none_in_use h.depot.slots
      (λ i slot bytes its at e. let o = s.owned i slot bytes its at e in s.still (goes_on (TheLane o.0) room next h (s.moved.draft o.0 o.1 _ o.2 o.3)))
      (λ i slot bytes its weight at e. s.still (goes_on _ room next h (s.moved.sealed i slot bytes its weight at e))) in
      ap (occurrences x) (sym (append-nil h.depot.free) ∙ ap (λ used'. h.depot.free ++ used') (sym none)) ∙ s.each x;
}

pub ends_finished : EndsFinished
ends_finished room blocks start run is r o some capable next all still = let h = last_house start run in elim capable [
  | inl capacity ↦ finished_by (LaneOrWorker next h) room blocks next (events_of run) h
      (known (LaneOrWorker next h) (nothing_is_stuck room blocks start run is r o some capacity next all))
  | inr shut ↦ finished_by TheLane room blocks next (events_of run) (last_house start run)
      (known TheLane (nothing_is_stuck_when_closed room blocks start run is r o some next all shut))
]
  where
    known : (Movers : ℕ → Mover → Type 0) → NothingStuck Movers room next (last_house start run)
        → IsStill Movers room blocks next (events_of run) (last_house start run)
    known Movers moved =
        let f = reached room blocks start run is r o some in
        record {
          each = f.holds.each_block;
          owned = every_run_owns blocks start run is r;
          tracked = f.tracked;
          given = every_orderly_sealed_for room blocks start run is r o;
          prefixes = (every_run_accepts blocks start run is r).prefix;
          moved = moved;
          still = still;
        }
