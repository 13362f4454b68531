-- How the threads whose deeds are played went about them.
use Rattle.std.specs.Prelude.{◌≡◌, ℕ, Bool, true}

-- whether each lane went in order, for how many slips its channel has room, and for how many copies a mailbox's has
pub record Manner : Type 0 where
  pub in_order : Bool
  pub room : ℕ
  pub capacity : ℕ

-- what is owed only of a run in order
abbrev pub Owed : Manner → Type 0
Owed m = m.in_order ≡ true
