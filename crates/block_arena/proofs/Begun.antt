-- The first slot that is free, and a draft begun in it; an arena of free slots.
use Rattle.std.proofs.Common.{◌≡◌, ℕ, zero, suc, ◌+◌, List, [], ◌∷◌, cond, Option, Some, None, get_or, map, refl, ap, sym, ◌∙◌, subst, arith}
use Rattle.std.specs.Prelude.{slice_get, slice_set}
use Rattle.std.specs.List.{AllByRecursion, position, position_from}
use Rattle.std.proofs.lemmas.Option.{get_or_from_slice_get}
use Rattle.std.proofs.lemmas.Iterator.Adapters.{position_from-zero}
use Rattle.mail_world.specs.Depot as d
use Rattle.mail_world.specs.Depot.{occurrences}
use Rattle.block_arena.specs.declared.slot.Run.{Run}
use Rattle.block_arena.specs.declared.slot.Content.{Content}
use Rattle.block_arena.specs.declared.slot.Content.TheVariants.{Free, Draft, Sealed, Retired}
use Rattle.block_arena.specs.declared.slot.Slot.{Slot}
use Rattle.block_arena.specs.Fields.{ArenaFields, is_free, chain, held, slot_of, depot_of, IsArena}
use Rattle.block_arena.specs.Calls.{depot_key, IsUsed}
use Rattle.block_arena.proofs.Slots.{slot_at, relabelled, map_set, get_map}

abbrev free_from : ℕ → List Slot → Option ℕ
free_from i slots = position_from (λ (slot : Slot). is_free slot.content) i slots

taken_by : (store : List (List ℕ)) (next : List ℕ) (c : Content) (i : ℕ) (o : Option ℕ) → cond (is_free c) (Some i) o ≡ None
    → IsUsed (held store next c) × (o ≡ None)
taken_by store next Free i o e = cc
taken_by store next (Draft run) i o e = (tt, e)
taken_by store next (Sealed run holds) i o e = (tt, e)
taken_by store next Retired i o e = (tt, e)

none_from : (store : List (List ℕ)) (next : List ℕ) (slots : List Slot) (i : ℕ) → free_from i slots ≡ None
    → AllByRecursion (λ (slot : d.Slot). IsUsed slot.held) (map (slot_of store next) slots)
none_from store next [] i e = tt
none_from store next (slot ∷ slots) i e =
    let p : IsUsed (held store next slot.content) × (free_from (i + 1) slots ≡ None) = taken_by store next slot.content i (free_from (i + 1) slots) e in
    (p.0, none_from store next slots (i + 1) p.1)

pub none_free : (depot : d.Depot) (a : ArenaFields) (items : List Slot) (result : Option ℕ)
    → depot_of a ≡ depot → items ≡ a.slots → result ≡ position (λ (slot : Slot). is_free slot.content) items → result ≡ None
    → AllByRecursion (λ (slot : d.Slot). IsUsed slot.held) depot.slots
none_free depot a items result view same is none =
    let at : free_from 0 a.slots ≡ None =
    sym (position_from-zero (λ (slot : Slot). is_free slot.content) a.slots)
    ∙ ap (λ (xs : List Slot). position (λ (slot : Slot). is_free slot.content) xs) (sym same) ∙ sym is ∙ none in
    subst (λ (e : d.Depot). AllByRecursion (λ (slot : d.Slot). IsUsed slot.held) e.slots) view (none_from a.store a.next a.slots 0 at)

record Found (slots : List Slot) (i k : ℕ) : Type 0 where
  j : ℕ
  is : k ≡ i + j
  slot : Slot
  get : slice_get slots j ≡ Some slot
  free : slot.content ≡ Free

later : (slot : Slot) (slots : List Slot) (i k : ℕ) → Found slots (i + 1) k → Found (slot ∷ slots) i k
later slot slots i k f = record { j = suc f.j; is = omega (arith, f.is); slot = f.slot; get = f.get; free = f.free }

found_by : (g : ℕ) (c : Content) (slots : List Slot) (i k : ℕ) → (free_from (i + 1) slots ≡ Some k → Found slots (i + 1) k)
    → cond (is_free c) (Some i) (free_from (i + 1) slots) ≡ Some k → Found (slot_at g c ∷ slots) i k
found_by g Free slots i k rest e = let same : i ≡ k = cc in record { j = zero; is = omega (arith, same); slot = slot_at g Free; get = refl; free = refl }
found_by g (Draft run) slots i k rest e = later (slot_at g (Draft run)) slots i k (rest e)
found_by g (Sealed run holds) slots i k rest e = later (slot_at g (Sealed run holds)) slots i k (rest e)
found_by g Retired slots i k rest e = later (slot_at g Retired) slots i k (rest e)

some_from : (slots : List Slot) (i k : ℕ) → free_from i slots ≡ Some k → Found slots i k
some_from [] i k e = cc
some_from (slot ∷ slots) i k e = found_by slot.generation slot.content slots i k (λ h. some_from slots (i + 1) k h) e

free_as : (slot : Slot) (g : ℕ) → slot.generation ≡ g → slot.content ≡ Free → slot_at slot.generation slot.content ≡ slot_at g Free
free_as slot g e h = ap (λ n. slot_at n slot.content) e ∙ ap (slot_at g) h

pub free_there : (slots items : List Slot) (result : Option ℕ) (k : ℕ) (at d' : Slot) → items ≡ slots
    → result ≡ position (λ (slot : Slot). is_free slot.content) items → result ≡ Some k → at ≡ get_or slots k d'
    → slice_get slots k ≡ Some (slot_at at.generation Free)
free_there slots items result k at d' same is some here =
    let place : free_from 0 slots ≡ Some k =
    sym (position_from-zero (λ (slot : Slot). is_free slot.content) slots)
    ∙ ap (λ (xs : List Slot). position (λ (slot : Slot). is_free slot.content) xs) (sym same) ∙ sym is ∙ some in
    let f : Found slots 0 k = some_from slots 0 k place in
    let e : f.j ≡ k = omega (arith, f.is) in
    let get : slice_get slots k ≡ Some f.slot = ap (slice_get slots) (sym e) ∙ f.get in
    let same' : f.slot ≡ at = sym (get_or_from_slice_get slots k f.slot d' get) ∙ sym here in
    get ∙ ap (λ (x : Slot). Some x) (free_as f.slot at.generation (ap (λ (x : Slot). x.generation) same') f.free)

abbrev empty : Run
empty = record { first = 0; last = 0; blocks = 0; length = 0 }

pub begun_arena : (a : ArenaFields) (k g : ℕ) → IsArena a → slice_get a.slots k ≡ Some (slot_at g Free)
    → IsArena (record a { slots = slice_set a.slots k (slot_at g (Draft (record { first = 0; last = 0; blocks = 0; length = 0 }))) })
begun_arena a k g arena was = relabelled a k g Free (Draft empty) arena was
    (record { enough = refl; last = λ h. absurd (omega (arith, h)) }) refl refl (λ index block h. absurd h)

pub begins : (depot : d.Depot) (a : ArenaFields) (k g : ℕ) → depot_of a ≡ depot → slice_get a.slots k ≡ Some (slot_at g Free)
    → d.Begins depot (depot_key (record { slot = k; generation = g }))
    (depot_of (record a { slots = slice_set a.slots k (slot_at g (Draft (record { first = 0; last = 0; blocks = 0; length = 0 }))) }))
begins depot a k g view was =
    subst (λ (e : d.Depot). d.Begins e (depot_key (record { slot = k; generation = g }))
    (depot_of (record a { slots = slice_set a.slots k (slot_at g (Draft (record { first = 0; last = 0; blocks = 0; length = 0 }))) }))) view (
      get_map (slot_of a.store a.next) a.slots k (slot_at g Free) was,
      ap (λ (ss : List d.Slot). record { slots = ss; free = chain a.free_count a.next a.free })
          (map_set (slot_of a.store a.next) a.slots k (slot_at g (Draft empty))),
    )
