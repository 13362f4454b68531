-- From one rank to the next: the first event is found, or none is of the rank.
use Rattle.std.proofs.Common.{◌≡◌, ◌⊎◌, ℕ, ◌+◌, ◌≤◌, inl, inr, arith}
use Rattle.mail_world.specs.declared.Event.{Event}
use Rattle.mail_world.specs.declared.Event.TheVariants.{Begin, Put, Miss, Cut, Close}
use Rattle.mail_world.specs.House.{House}
use Rattle.mail_progress.specs.GoingOn.{GoesOn, MayGoOn}
use Rattle.mail_progress.specs.InTurn.{rank, IsFirst}
use Rattle.mail_progress.proofs.Movers.{low_or_full}

-- an event of the rank goes on
abbrev pub HasRank : ℕ → (ℕ → ℕ) → House → ℕ → Type 0
HasRank room next h r = (m : MayGoOn room next h) × (rank m.event ≡ r)

abbrev pub NoRank : ℕ → (ℕ → ℕ) → House → ℕ → Type 0
NoRank room next h r = (m : MayGoOn room next h) → rank m.event ≡ r → ⊥

abbrev pub IsDecided : ℕ → (ℕ → ℕ) → House → ℕ → Type 0
IsDecided room next h r = HasRank room next h r ⊎ NoRank room next h r

-- none of a lower rank goes on
abbrev pub NoneBelow : ℕ → (ℕ → ℕ) → House → ℕ → Type 0
NoneBelow room next h r = (m : MayGoOn room next h) → r ≤ rank m.event

abbrev pub HasFirst : ℕ → (ℕ → ℕ) → House → Type 0
HasFirst room next h = (event : Event) × IsFirst room next h event

is_first : (room : ℕ) (next : ℕ → ℕ) (h : House) (r : ℕ) → NoneBelow room next h r → HasRank room next h r → HasFirst room next h
is_first room next h r below has =
    let m = has.0 in
    let same = has.1 in
    (m.event, record { goes_on = m.goes_on; in_order = m.in_order; happens = m.happens; first = λ other. let low = below other in omega arith })

none_of_rank : (room : ℕ) (next : ℕ → ℕ) (h : House) (r : ℕ) → NoneBelow room next h r → NoRank room next h r → NoneBelow room next h (r + 1)
none_of_rank room next h r below none m = elim (low_or_full (r + 1) (rank m.event + 1)) [
  | inl low ↦ omega arith
  | inr full ↦ let low = below m in absurd (none m (omega arith))
]

pub next_rank : (room : ℕ) (next : ℕ → ℕ) (h : House) (r : ℕ) → HasFirst room next h ⊎ NoneBelow room next h r
    → (NoneBelow room next h r → IsDecided room next h r) → HasFirst room next h ⊎ NoneBelow room next h (r + 1)
next_rank room next h r (inl first) decide = inl first
next_rank room next h r (inr below) decide = elim (decide below) [
  | inl has ↦ inl (is_first room next h r below has)
  | inr none ↦ inr (none_of_rank room next h r below none)
]

-- what goes on has one of the twelve ranks
pub within_twelve : (next : ℕ → ℕ) (h : House) (event : Event) → GoesOn next h event → rank event ≤ 11
within_twelve next h (Begin k) g = absurd g
within_twelve next h (Put k bytes) g = absurd g
within_twelve next h (Miss w) g = absurd g
within_twelve next h (Cut w) g = absurd g
within_twelve next h (Close b) g = absurd g
within_twelve next h event g = omega arith
