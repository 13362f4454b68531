-- What the depot's slots count, after one of them changed.
use Rattle.std.proofs.Common.{◌≡◌, ℕ, ◌+◌, List, Bool, true, false, cond, ap, ◌∙◌, arith}
use Rattle.std.specs.Prelude.{slice_set, sum_by, nat_lt}
use Rattle.mail_world.specs.Depot.{Key, Slot, Held, Free, Retired, Depot, held_under, with_held, last_generation, GivesBack}
use Rattle.mail_world.proofs.Depots.{used}
use Rattle.mail_world.proofs.Holds.{sum_set}

abbrev pub in_slots : (Held → ℕ) → Depot → ℕ
in_slots f d = sum_by (λ (slot : Slot). f slot.held) d.slots

pub held_changes : (f : Held → ℕ) (d new : Depot) (key : Key) (old held : Held) (free : List ℕ) → held_under d key ≡ old → ((old ≡ Free) → ⊥)
    → new ≡ with_held d key held free → in_slots f new + f old ≡ in_slots f d + f held
held_changes f d new key old held free is filled after =
    let s = sum_set (λ (slot : Slot). f slot.held) d.slots key.slot (record { generation = key.generation; held = old })
    (record { generation = key.generation; held = held }) (used d key old is filled) in
    ap (λ (x : Depot). in_slots f x + f old) after ∙ s

given_back_by : (f : Held → ℕ) → f Free ≡ 0 → f Retired ≡ 0 → (d : Depot) (key : Key) (old : Held) (free : List ℕ) (t : Bool) → held_under d key ≡ old
    → ((old ≡ Free) → ⊥)
    → in_slots f (cond t (record { slots = slice_set d.slots key.slot (record { generation = key.generation + 1; held = Free }); free = free })
    (with_held d key Retired free)) + f old ≡ in_slots f d
given_back_by f no_free no_retired d key old free true is filled =
    omega (
      arith,
      sum_set (λ (slot : Slot). f slot.held) d.slots key.slot (record { generation = key.generation; held = old })
          (record { generation = key.generation + 1; held = Free }) (used d key old is filled),
    )
given_back_by f no_free no_retired d key old free false is filled =
    omega (
      arith,
      sum_set (λ (slot : Slot). f slot.held) d.slots key.slot (record { generation = key.generation; held = old })
          (record { generation = key.generation; held = Retired }) (used d key old is filled),
    )

pub held_goes : (f : Held → ℕ) → f Free ≡ 0 → f Retired ≡ 0
    → (d : Depot) (key : Key) (held : List ℕ → List ℕ → Held) (new : Depot) (r : GivesBack d key held new) → ((b bl : List ℕ) → (held b bl ≡ Free) → ⊥)
    → in_slots f new + f (held r.bytes r.blocks) ≡ in_slots f d
held_goes f no_free no_retired d key held new r filled =
    ap (λ (x : Depot). in_slots f x + f (held r.bytes r.blocks)) r.after
    ∙ given_back_by f no_free no_retired d key (held r.bytes r.blocks) r.free (nat_lt key.generation last_generation) r.message (filled r.bytes r.blocks)
