-- Holds that go, and drafts that are dropped, by what freeing a slot gives.
use Rattle.std.proofs.Common.{◌≡◌, ℕ, zero, ◌+◌, ◌-◌, ◌<◌, ◌≤◌, List, Bool, true, false, cond, Some, ap, sym, ◌∙◌, subst, arith}
use Rattle.std.specs.Prelude.{slice_get, slice_set, nat_lt}
use Rattle.mail_world.specs.Depot as d
use Rattle.mail_world.proofs.Depots.{set_at}
use Rattle.block_arena.specs.declared.key.Key.{Key}
use Rattle.block_arena.specs.declared.slot.Run.{Run}
use Rattle.block_arena.specs.declared.slot.Content.{Content}
use Rattle.block_arena.specs.declared.slot.Content.TheVariants.{Free, Sealed}
use Rattle.block_arena.specs.Fields.{ArenaFields, held, slot_of, depot_of, blocks_in, bytes_in}
use Rattle.block_arena.specs.Calls.{depot_key, Frees, IsGivenBack, MayGiveBack}
use Rattle.block_arena.proofs.Slots.{slot_at, get_map}
use Rattle.block_arena.proofs.Seen.{Sees, under, stands}
use Rattle.block_arena.proofs.Labels.{depot_slot, set_twice, held_there, releases, held_after}

pub cancels : (old : d.Depot) (key : d.Key) (new : d.Depot) (bytes blocks : List ℕ) → d.held_under old key ≡ d.Draft bytes blocks → Frees old key new
    → d.Cancels old key new
cancels old key new bytes blocks e f = record {
  bytes = bytes;
  blocks = blocks;
  free = f.free;
  message = e;
  given = λ x. f.given x ∙ ap (λ h. d.occurrences x (d.blocks_of h) + d.occurrences x old.free) e;
  after = f.after;
}

abbrev made : List d.Slot → List ℕ → d.Depot
made slots free = record { slots = slots; free = free }

again_by : (t : Bool) (slots : List d.Slot) (i g : ℕ) (h : d.Held) (free : List ℕ)
    → cond t (made (slice_set slots i (depot_slot (g + 1) d.Free)) free) (made (slice_set slots i (depot_slot g d.Retired)) free)
    ≡ cond t (made (slice_set (slice_set slots i (depot_slot g h)) i (depot_slot (g + 1) d.Free)) free)
    (made (slice_set (slice_set slots i (depot_slot g h)) i (depot_slot g d.Retired)) free)
again_by true slots i g h free = ap (λ ss. made ss free) (sym (set_twice slots i (depot_slot g h) (depot_slot (g + 1) d.Free)))
again_by false slots i g h free = ap (λ ss. made ss free) (sym (set_twice slots i (depot_slot g h) (depot_slot g d.Retired)))

pub given_last : (k : ℕ) (old : d.Depot) (key : d.Key) (new : d.Depot) (bytes blocks : List ℕ)
    → slice_get old.slots key.slot ≡ Some (depot_slot key.generation (d.Sealed bytes blocks k)) → Frees old key new
    → IsGivenBack k old key new true
given_last k old key new bytes blocks was f =
    let all : zero + k ≡ k = omega arith in
    let there : slice_get old.slots key.slot ≡ Some (depot_slot key.generation (d.Sealed bytes blocks (zero + k))) =
    was ∙ ap (λ (x : d.Slot). Some x) (ap (λ n. depot_slot key.generation (d.Sealed bytes blocks n)) (sym all)) in
    let here : d.held_under old key ≡ d.Sealed bytes blocks k = held_there old key (d.Sealed bytes blocks k) was in (
      d.with_held old key (d.Sealed bytes blocks zero) old.free,
      releases k zero old key bytes blocks there,
      record {
        bytes = bytes;
        blocks = blocks;
        free = f.free;
        message = held_there (d.with_held old key (d.Sealed bytes blocks zero) old.free) key (d.Sealed bytes blocks zero)
            (set_at old.slots key.slot (depot_slot key.generation (d.Sealed bytes blocks zero)) (depot_slot key.generation (d.Sealed bytes blocks k)) was);
        given = λ x. f.given x ∙ ap (λ h. d.occurrences x (d.blocks_of h) + d.occurrences x old.free) here;
        after = f.after ∙ again_by (nat_lt key.generation d.last_generation) old.slots key.slot key.generation (d.Sealed bytes blocks zero) f.free;
      },
    )

pub given_some : (k w : ℕ) (old : d.Depot) (key : d.Key) (new : d.Depot) (bytes blocks : List ℕ)
    → slice_get old.slots key.slot ≡ Some (depot_slot key.generation (d.Sealed bytes blocks (w + k))) → 0 < w
    → new ≡ d.with_held old key (d.Sealed bytes blocks w) old.free → IsGivenBack k old key new false
given_some k w old key new bytes blocks was some e =
    let here : d.held_under (d.with_held old key (d.Sealed bytes blocks w) old.free) key ≡ d.Sealed bytes blocks w =
    held_there (d.with_held old key (d.Sealed bytes blocks w) old.free) key (d.Sealed bytes blocks w)
    (set_at old.slots key.slot (depot_slot key.generation (d.Sealed bytes blocks w)) (depot_slot key.generation (d.Sealed bytes blocks (w + k))) was) in
    let weight : d.weight_under (d.with_held old key (d.Sealed bytes blocks w) old.free) key ≡ w = ap d.weight_held here in
    subst (λ (x : d.Depot). IsGivenBack k old key x false) (sym e) (releases k w old key bytes blocks was, omega (arith, weight, some))

pub depot_there : (key : Key) (depot : d.Depot) (a : ArenaFields) (content : Content)
    → Sees key depot a content → ((content ≡ Free) → ⊥) → slice_get depot.slots key.slot ≡ Some (depot_slot key.generation (held a.store a.next content))
depot_there key depot a content s filled =
    ap (λ (e : d.Depot). slice_get e.slots key.slot) (sym s.view)
    ∙ get_map (slot_of a.store a.next) a.slots key.slot (slot_at key.generation content) (stands key depot a content s filled)

pub gives_some : (key : Key) (depot : d.Depot) (a : ArenaFields) (run : Run) (holds k : ℕ)
    → Sees key depot a (Sealed run holds) → k < holds
    → IsGivenBack k depot (depot_key key) (depot_of (record a { slots = slice_set a.slots key.slot (slot_at key.generation (Sealed run (holds - k))) })) false
gives_some key depot a run holds k s few =
    let sum : holds ≡ (holds - k) + k = omega (arith, few) in
    given_some k (holds - k) depot (depot_key key)
    (depot_of (record a { slots = slice_set a.slots key.slot (slot_at key.generation (Sealed run (holds - k))) })) (bytes_in a.store a.next run)
    (blocks_in a.next run)
    (depot_there key depot a (Sealed run holds) s (λ e. cc)
    ∙ ap (λ (x : d.Slot). Some x) (ap (λ n. depot_slot key.generation (d.Sealed (bytes_in a.store a.next run) (blocks_in a.next run) n)) sum))
    (omega (arith, few))
    (held_after key depot a (Sealed run holds) (Sealed run (holds - k)) s)

pub gives_last : (key : Key) (depot : d.Depot) (a : ArenaFields) (run : Run) (holds k : ℕ) (new : d.Depot)
    → Sees key depot a (Sealed run holds) → holds ≤ k → MayGiveBack k (d.held_under depot (depot_key key)) → Frees depot (depot_key key) new
    → IsGivenBack k depot (depot_key key) new true
gives_last key depot a run holds k new s most may f =
    let within : k ≤ holds = subst (λ (h : d.Held). MayGiveBack k h) (under key depot a (Sealed run holds) s) may in
    let same : holds ≡ k = omega (arith, most, within) in
    given_last k depot (depot_key key) new (bytes_in a.store a.next run) (blocks_in a.next run)
    (depot_there key depot a (Sealed run holds) s (λ e. cc)
    ∙ ap (λ (x : d.Slot). Some x) (ap (λ n. depot_slot key.generation (d.Sealed (bytes_in a.store a.next run) (blocks_in a.next run) n)) same))
    f
