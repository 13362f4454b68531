-- Which runs are orderly is computed; the computed runs of mail_world are.
use Rattle.std.proofs.Common.{◌≡◌, ℕ, suc, List, [], ◌∷◌, true, Option, Some, None, refl}
use Rattle.std.specs.Prelude.{IfSome, is_some, option_map, option_and_then, slice_get}
use Rattle.std.specs.List.{AllByRecursion}
use Rattle.mail_world.specs.declared.Event.{Event}
use Rattle.mail_world.specs.declared.Event.TheVariants.{Begin, Seal, Offer, Collect, GiveSlip}
use Rattle.mail_world.specs.declared.Outcome.{Outcome}
use Rattle.mail_world.specs.House.{Hold, House}
use Rattle.mail_world.specs.Runs.{Happened}
use Rattle.mail_world.proofs.Moves.{computed, if_at_most}
use Rattle.mail_world.proofs.ComputedRuns.{healing_start, healing, refusing_start, refusing}
use Rattle.mail_progress.specs.Orderly.{HasOutcome, IsInOrder, IsOrderly, not_taken, uncollected}

abbrev each : {A : Type 0} (P : A → Type 0) (o : Option A) → ((x : A) → Option (P x)) → Option (IfSome o P)
each P None f = Some tt
each P (Some x) f = f x

abbrev all_given : (holds : List Hold) → Option (holds ≡ [])
all_given [] = Some refl
all_given _ = None

abbrev all_answered : (places : List (Option Outcome)) → Option (AllByRecursion HasOutcome places)
all_answered [] = Some tt
all_answered (None ∷ places) = None
all_answered (Some outcome ∷ places) = option_map (λ answered. (tt, answered)) (all_answered places)

abbrev in_order : (room : ℕ) (h : House) (event : Event) → Option (IsInOrder room h event)
in_order room h (Offer k note) =
    each _ (slice_get h.boxes note.mailbox) (λ box. if_at_most (suc (not_taken box)) h.capacity Some)
in_order room h (GiveSlip w outcome) = each _ (slice_get h.boxes w) (λ box. each _ box.hand (λ copy.
    each _ (slice_get h.lanes copy.post.note.txn.lane) (λ lane. if_at_most (suc (uncollected lane)) room Some)))
in_order room h (Seal k n) = if_at_most n room Some
in_order room h (Begin k) = each _ (slice_get h.lanes k) (λ lane. option_and_then (λ given. option_map
    (λ answered. record { given_away = given; answered = answered }) (all_answered lane.gather.places))
    (all_given lane.holds))
in_order room h (Collect k) = each _ (slice_get h.lanes k) (λ lane. all_given lane.holds)
in_order room h _ = Some tt

abbrev pub orderly : (room : ℕ) (h : House) (run : List Happened) → Option (IsOrderly room h run)
orderly room h [] = Some tt
orderly room h (x ∷ xs) = option_and_then
    (λ first. option_map (λ others. (first, others)) (orderly room x.house xs)) (in_order room h x.event)

pub found : {A : Type 0} (o : Option A) → is_some o ≡ true → A
found None e = cc
found (Some x) e = x

pub heals : IsOrderly 2 healing_start healing.0
unfolding computed healing
heals = found (orderly 2 healing_start healing.0) refl

pub refuses : IsOrderly 5 refusing_start refusing.0
unfolding computed refusing
refuses = found (orderly 5 refusing_start refusing.0) refl
