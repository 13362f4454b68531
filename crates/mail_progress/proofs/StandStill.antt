-- Two runs after which nothing goes on: a channel has no capacity; there are more copies than room for slips.
use Rattle.std.proofs.Common.{List, [], ◌∷◌, ◌++◌, None, inl, inr, refl, lit≤}
use Rattle.mail_world.specs.House.{House}
use Rattle.mail_world.specs.Runs.{Happened, Run, last_house}
use Rattle.mail_world.proofs.OneHouse.{start}
use Rattle.mail_world.proofs.Moves.{computed, moved, offers, takes, misses, releases, gives_slip}
use Rattle.mail_world.proofs.ComputedRuns.{with_message}
use Rattle.mail_progress.specs.Orderly.{IsOrderly}
use Rattle.mail_progress.specs.GoingOn.{StandsStill}
use Rattle.mail_progress.specs.Remaining.{Remains, HasReleased}
use Rattle.mail_progress.proofs.Started.{orderly, found}
use Rattle.mail_progress.proofs.Still.{stands}

unfoldable pub shut : (run : List Happened) × Run (start 0 None) run
unfolding computed
shut = moved (start 0 None) (with_message 0)

abbrev pub shut_house : House
shut_house = last_house (start 0 None) shut.0

pub shut_is_orderly : IsOrderly 1 (start 0 None) shut.0
unfolding computed shut
shut_is_orderly = found (orderly 1 (start 0 None) shut.0) refl

pub shut_stands : StandsStill 1 shut_house
unfolding computed shut
shut_stands = stands 1 shut_house _ _ _ _ _ _ 0 refl refl refl refl refl refl refl (inl (refl, refl))

pub shut_remains : Remains shut_house 0 0 1
unfolding computed shut
shut_remains =
    record { lane = _; box = _; lane_is = refl; box_is = refl; to_collect = refl; to_take = refl; to_offer = refl }

unfoldable pub crowded : (run : List Happened) × Run (start 1 None) run
unfolding computed
crowded = moved (start 1 None)
    (with_message 3 ++ offers ∷ takes ∷ misses ∷ releases ∷ gives_slip
    ∷ offers ∷ takes ∷ misses ∷ releases ∷ offers ∷ [])

abbrev pub crowded_house : House
crowded_house = last_house (start 1 None) crowded.0

pub crowded_is_orderly : IsOrderly 4 (start 1 None) crowded.0
unfolding computed crowded
crowded_is_orderly = found (orderly 4 (start 1 None) crowded.0) refl

pub crowded_stands : StandsStill 1 crowded_house
unfolding computed crowded
crowded_stands = stands 1 crowded_house _ _ _ _ _ _ 1 refl refl refl refl refl refl refl
    (inr (_, refl, refl, refl, refl, lit≤ tt))

pub crowded_remains : Remains crowded_house 1 1 1
unfolding computed crowded
crowded_remains =
    record { lane = _; box = _; lane_is = refl; box_is = refl; to_collect = refl; to_take = refl; to_offer = refl }

pub crowded_has_released : HasReleased crowded_house
unfolding computed crowded
crowded_has_released = record { box = _; copy = _; box_is = refl; in_hand = refl; released = refl }
