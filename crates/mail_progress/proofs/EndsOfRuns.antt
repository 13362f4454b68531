-- In the last houses of the computed runs all is finished.
use Rattle.std.proofs.Common.{◌≡◌, ℕ, zero, suc, List, [], ◌∷◌, length, map, Some, None, refl, ap, sym, ◌∙◌, subst}
use Rattle.std.specs.Prelude.{slice_get, nat_lt, if◌then◌else◌}
use Rattle.std.specs.List.{AllByRecursion}
use Rattle.mail_world.specs.declared.Event.{Event}
use Rattle.mail_world.specs.Depot.{Slot, Free, Sealed, occurrences}
use Rattle.mail_world.specs.House.{Box, SealedMessage, Lane, House}
use Rattle.mail_world.specs.Slips.{answers, txn_of}
use Rattle.mail_world.specs.Runs.{events_of, last_house}
use Rattle.mail_world.proofs.Accepted.{each_at}
use Rattle.mail_world.proofs.OneHouse.{each_once}
use Rattle.mail_world.proofs.Moves.{computed}
use Rattle.mail_world.proofs.ComputedRuns.{healing_start, healing, refusing_start, refusing}
use Rattle.mail_progress.specs.Orderly.{HasOutcome}
use Rattle.mail_progress.specs.Finished.{copies_sealed, IsFinished}

-- what holds of the only element holds of each
of_only : {A : Type 0} (P : ℕ → A → Type 0) (xs : List A) (x : A) → xs ≡ x ∷ [] → P 0 x → (k : ℕ) (y : A) → slice_get xs k ≡ Some y → P k y
of_only P xs x one holds zero y at = let its : slice_get (x ∷ []) 0 ≡ Some y = ap (λ zs. slice_get zs 0) (sym one) ∙ at in let same : x ≡ y =
    cc in subst (P 0) same holds
of_only P xs x one holds (suc k) y at = let bad : slice_get (x ∷ []) (suc k) ≡ Some y = ap (λ zs. slice_get zs (suc k)) (sym one) ∙ at in cc

-- one lane and one mailbox that have finished
all_finished : (blocks : ℕ) (events : List Event) (h : House) (lane : Lane) (box : Box) → h.lanes ≡ lane ∷ [] → h.boxes ≡ box ∷ []
    → AllByRecursion (λ (slot : Slot). slot.held ≡ Free) h.depot.slots
    → ((x : ℕ) → occurrences x h.depot.free ≡ (if nat_lt x blocks then 1 else 0)) → lane.draft ≡ None → lane.holds ≡ []
    → lane.collected ≡ length lane.slips → map (λ (t : SealedMessage). t.offered) lane.messages ≡ copies_sealed 0 events
    → AllByRecursion (λ (t : SealedMessage). AllByRecursion HasOutcome (answers (txn_of 0 t.number) t.offered lane.heard)) lane.messages
    → AllByRecursion HasOutcome lane.gather.places → box.taken ≡ length box.accepted → box.hand ≡ None → IsFinished blocks events h
all_finished blocks events h lane box lanes boxes slots free draft holds collected given answered gathered drained hand = record {
  no_draft = of_only (λ k (x : Lane). x.draft ≡ None) h.lanes lane lanes draft;
  none_to_offer = of_only (λ k (x : Lane). x.holds ≡ []) h.lanes lane lanes holds;
  drained = of_only (λ w (x : Box). x.taken ≡ length x.accepted) h.boxes box boxes drained;
  free_hand = of_only (λ w (x : Box). x.hand ≡ None) h.boxes box boxes hand;
  collected = of_only (λ k (x : Lane). x.collected ≡ length x.slips) h.lanes lane lanes collected;
  given_away = of_only (λ k (x : Lane). map (λ (t : SealedMessage). t.offered) x.messages ≡ copies_sealed k events) h.lanes lane lanes given;
  answered = λ k x i t at is.
      each_at (λ (u : SealedMessage). AllByRecursion HasOutcome (answers (txn_of k u.number) u.offered x.heard)) x.messages i t
      (of_only (λ v (y : Lane). AllByRecursion (λ (u : SealedMessage). AllByRecursion HasOutcome (answers (txn_of v u.number) u.offered y.heard)) y.messages)
      h.lanes lane lanes answered k x at) is;
  gathered = of_only (λ k (x : Lane). AllByRecursion HasOutcome x.gather.places) h.lanes lane lanes gathered;
  reclaimed = λ i slot bytes its weight at e. let bad : Free ≡ Sealed bytes its weight =
      sym (each_at (λ (s : Slot). s.held ≡ Free) h.depot.slots i slot slots at) ∙ e in cc;
  all_free = free;
}

pub heals_all : IsFinished 2 (events_of healing.0) (last_house healing_start healing.0)
unfolding computed healing
heals_all =
    all_finished 2 (events_of healing.0) (last_house healing_start healing.0) _ _ refl refl (refl, tt) each_once
    refl refl refl refl ((tt, (tt, tt)), tt) (tt, (tt, tt)) refl refl

pub refuses_all : IsFinished 2 (events_of refusing.0) (last_house refusing_start refusing.0)
unfolding computed refusing
refuses_all =
    all_finished 2 (events_of refusing.0) (last_house refusing_start refusing.0) _ _ refl refl (refl, tt) each_once
    refl refl refl refl ((tt, (tt, (tt, (tt, (tt, tt))))), tt) (tt, (tt, (tt, (tt, (tt, tt))))) refl refl
