-- A gatherer's fields, and what is true of them.
use Rattle.std.specs.Prelude.{◌≡◌, ◌≤◌, Bool, not, List, [], ◌∷◌, length, take, count_by, if◌then◌else◌, Option, Some}
use Rattle.std.specs.Prelude.{None}
use Rattle.mail_world.specs.declared.Outcome.{Outcome}
use Rattle.mail_post.specs.Gathering.{Gathering}
use Rattle.mail_post.specs.declared.gather.Gather.TheInside.{Inside}

-- the outcome of each place whose slip was heard
abbrev pub places_of : List Bool → List Outcome → List (Option Outcome)
places_of [] outcomes = []
places_of (heard ∷ more) [] = []
places_of (heard ∷ more) (outcome ∷ outcomes) = (if heard then Some outcome else None) ∷ places_of more outcomes

abbrev pub gathering_of : Inside → Gathering
gathering_of a = record {
  gather = record { txn = a.txn; places = places_of (take a.places a.heard.items) a.outcomes.items };
  limit = length a.heard.items;
}

-- the places lie within the room, and the missing ones are counted
pub record IsGather (a : Inside) : Type 0 where
  pub room : length a.outcomes.items ≡ length a.heard.items
  pub within : a.places ≤ length a.heard.items
  pub counted : a.missing ≡ count_by (λ heard. not heard) (take a.places a.heard.items)
