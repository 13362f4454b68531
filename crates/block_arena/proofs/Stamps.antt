-- Stamps: what a step of one slot, and a new stamp, leave of what they say.
use Rattle.std.proofs.Common.{◌≡◌, ℕ, ◌+◌, ◌≤◌, ◌≢◌, inl, inr, List, Bool, true, false, cond, Some, ap, sym, ◌∙◌, subst, arith}
use Rattle.std.specs.Prelude.{slice_get, slice_set}
use Rattle.mail_world.proofs.Accepted.{get_set}
use Rattle.block_arena.specs.declared.slot.Content.{Content}
use Rattle.block_arena.specs.declared.slot.Content.TheVariants.{Free, Retired}
use Rattle.block_arena.specs.declared.slot.Slot.{Slot}
use Rattle.block_arena.specs.declared.slot.Stamp.{Stamp}
use Rattle.block_arena.specs.Fields.{IsAt, IsStamped, AreStamped}

-- blocks that a slot has by the old links lie there by the new ones
abbrev pub Stays : List ℕ → Content → List ℕ → Content → Type 0
Stays next old next' new = (index block : ℕ) → IsAt next old index block → IsAt next' new index block

abbrev pub Goes : List ℕ → Slot → List ℕ → Slot → Type 0
Goes next old next' s = (block : ℕ) (stamp : Stamp) → IsStamped next old block stamp → IsStamped next' s block stamp

-- a step of one slot: the others keep their blocks
pub stamped_on : (next next' : List ℕ) (slots : List Slot) (stamps : List Stamp) (i : ℕ) (old s : Slot) → AreStamped next slots stamps
    → slice_get slots i ≡ Some old
    → ((j : ℕ) (x : Slot) → (j ≢ i) → slice_get slots j ≡ Some x → Stays next x.content next' x.content)
    → Goes next old next' s → AreStamped next' (slice_set slots i s) stamps
stamped_on next next' slots stamps i old s all was others this block stamp slot at named =
    elim (get_set slots i stamp.slot s slot named) [
      | inl own ↦ let P : Slot → Type 0 = λ x. IsStamped next' x block stamp in
          subst P own.1 (this block stamp (all block stamp old at (ap (slice_get slots) own.0 ∙ was)))
      | inr other ↦ let h : IsStamped next slot block stamp = all block stamp slot at other.1 in record {
        past = h.past;
        here = λ same. others stamp.slot slot other.0 other.1 stamp.index block (h.here same);
      }
    ]

-- the slot's message stays, or gets another block
pub goes_on : (next next' : List ℕ) (g : ℕ) (old new : Content) → Stays next old next' new
    → Goes next (record { generation = g; content = old }) next' (record { generation = g; content = new })
goes_on next next' g old new stays block stamp h = record {
  past = h.past;
  here = λ same. stays stamp.index block (h.here same);
}

-- the slot's message goes
pub goes_past : (t : Bool) (next next' : List ℕ) (g : ℕ) (old : Content)
    → Goes next (record { generation = g; content = old }) next'
    (cond t (record { generation = g + 1; content = Free }) (record { generation = g; content = Retired }))
goes_past true next next' g old block stamp h = let past : stamp.generation ≤ g = h.past in record {
  past = omega (arith, past);
  here = λ same. absurd (omega (arith, past, same));
}
goes_past false next next' g old block stamp h = record { past = h.past; here = λ same. tt }

-- a block is stamped again
pub stamped_new : (next : List ℕ) (slots : List Slot) (stamps : List Stamp) (b : ℕ) (v : Stamp) → AreStamped next slots stamps
    → ((slot : Slot) → slice_get slots v.slot ≡ Some slot → IsStamped next slot b v) → AreStamped next slots (slice_set stamps b v)
stamped_new next slots stamps b v all new block stamp slot at named =
    elim (get_set stamps b block v stamp at) [
      | inl own ↦
          let P : ℕ → Type 0 = λ k. IsStamped next slot k stamp in
          let Q : Stamp → Type 0 = λ k. IsStamped next slot b k in
          subst P (sym own.0) (subst Q own.1 (new slot (ap (λ (k : Stamp). slice_get slots k.slot) own.1 ∙ named)))
      | inr other ↦ all block stamp slot other.1 named
    ]
