-- A link or a block changes that the other slots don't hold.
use Rattle.std.proofs.Common.{◌≡◌, ℕ, zero, suc, ◌+◌, ◌-◌, ◌<◌, ◌≤◌, ◌≢◌, List, [], ◌∷◌, ◌++◌, Bool, true, false, cond, ◌==◌, Some, get_or, length, take, set}
use Rattle.std.proofs.Common.{map, refl, ap, sym, ◌∙◌, arith}
use Rattle.std.specs.Prelude.{slice_get, slice_set, flat_map, nat_lt}
use Rattle.std.specs.List.{AllByRecursion}
use Rattle.mail_world.specs.Depot as d
use Rattle.mail_world.specs.Depot.{occurrences}
use Rattle.mail_world.proofs.Accepted.{each_at}
use Rattle.mail_world.proofs.Depots.{times-append, set_past, total_set}
use Rattle.block_arena.specs.declared.slot.Run.{Run}
use Rattle.block_arena.specs.declared.slot.Content.{Content}
use Rattle.block_arena.specs.declared.slot.Content.TheVariants.{Free, Draft, Sealed, Retired}
use Rattle.block_arena.specs.declared.slot.Slot.{Slot}
use Rattle.block_arena.specs.Fields.{ArenaFields, chain, node, held, slot_of, IsContent, IsRun, IsArena}
use Rattle.block_arena.proofs.Chains.{times_cons, chain_keeps, node_keeps, times_less}
use Rattle.block_arena.proofs.Stamps.{Stays}
use Rattle.block_arena.proofs.Slots.{slot_at, get_map, map_set}

abbrev pub Without : List (List ℕ) → List ℕ → ℕ → Slot → Type 0
Without store next b slot = occurrences b (d.blocks_of (held store next slot.content)) ≡ 0

pub none_by : (store : List (List ℕ)) (next : List ℕ) (b : ℕ) (xs : List Slot)
    → occurrences b (flat_map (λ (slot : d.Slot). d.blocks_of slot.held) (map (slot_of store next) xs)) ≡ 0 → AllByRecursion (Without store next b) xs
none_by store next b [] h = tt
none_by store next b (x ∷ xs) h =
    let sum : occurrences b (d.blocks_of (held store next x.content) ++ flat_map (λ (slot : d.Slot). d.blocks_of slot.held) (map (slot_of store next) xs))
    ≡ occurrences b (d.blocks_of (held store next x.content))
    + occurrences b (flat_map (λ (slot : d.Slot). d.blocks_of slot.held) (map (slot_of store next) xs)) =
    times-append b (d.blocks_of (held store next x.content)) (flat_map (λ (slot : d.Slot). d.blocks_of slot.held) (map (slot_of store next) xs)) in
    (omega (arith, sum, h), none_by store next b xs (omega (arith, sum, h)))

pub at_most : (t : Bool) → cond t 1 0 ≤ 1
at_most true = omega arith
at_most false = omega arith

pub none_else : (a : ArenaFields) (i : ℕ) (old : Slot) (b : ℕ) → IsArena a → slice_get a.slots i ≡ Some old
    → 1 ≤ occurrences b (chain a.free_count a.next a.free) + occurrences b (d.blocks_of (held a.store a.next old.content))
    → AllByRecursion (Without a.store a.next b) (slice_set a.slots i (slot_at 0 Free))
none_else a i old b arena was here =
    let total : occurrences b (flat_map (λ (slot : d.Slot). d.blocks_of slot.held)
    (slice_set (map (slot_of a.store a.next) a.slots) i (record { generation = 0; held = d.Free })))
    + occurrences b (d.blocks_of (held a.store a.next old.content))
    ≡ occurrences b (flat_map (λ (slot : d.Slot). d.blocks_of slot.held) (map (slot_of a.store a.next) a.slots)) + 0 =
    total_set (λ y. cond (y == b) 1 0) (λ (slot : d.Slot). d.blocks_of slot.held) (map (slot_of a.store a.next) a.slots) i (slot_of a.store a.next old)
    (record { generation = 0; held = d.Free }) (get_map (slot_of a.store a.next) a.slots i old was) in
    let once : occurrences b (chain a.free_count a.next a.free ++ flat_map (λ (slot : d.Slot). d.blocks_of slot.held) (map (slot_of a.store a.next) a.slots))
    ≡ cond (nat_lt b (length a.next)) 1 0 = arena.once b in
    let none : occurrences b (flat_map (λ (slot : d.Slot). d.blocks_of slot.held)
    (slice_set (map (slot_of a.store a.next) a.slots) i (record { generation = 0; held = d.Free }))) ≡ 0 =
    omega (
      arith,
      total,
      once,
      at_most (nat_lt b (length a.next)),
      here,
      times-append b (chain a.free_count a.next a.free) (flat_map (λ (slot : d.Slot). d.blocks_of slot.held) (map (slot_of a.store a.next) a.slots)),
    ) in
    none_by a.store a.next b (slice_set a.slots i (slot_at 0 Free))
    (ap (λ (ss : List d.Slot). occurrences b (flat_map (λ (slot : d.Slot). d.blocks_of slot.held) ss))
    (map_set (slot_of a.store a.next) a.slots i (slot_at 0 Free)) ∙ none)

pub map_same : {A B : Type 0} (f f' : A → B) (P : A → Type 0) (xs : List A) → AllByRecursion P xs → ((x : A) → P x → f' x ≡ f x) → map f' xs ≡ map f xs
map_same f f' P [] h e = refl
map_same f f' P (x ∷ xs) h e = ap (λ y. y ∷ map f' xs) (e x h.0) ∙ ap (λ t. f x ∷ t) (map_same f f' P xs h.1 e)

pub map_kept : {A B : Type 0} (f f' : A → B) (P : A → Type 0) (xs : List A) (i : ℕ) (s dummy : A) → AllByRecursion P (slice_set xs i dummy)
    → ((x : A) → P x → f' x ≡ f x) → map f' (slice_set xs i s) ≡ slice_set (map f xs) i (f' s)
map_kept f f' P [] i s dummy h e = refl
map_kept f f' P (x ∷ xs) zero s dummy h e = ap (λ t. f' s ∷ t) (map_same f f' P xs h.1 e)
map_kept f f' P (x ∷ xs) (suc i) s dummy h e = ap (λ y. y ∷ map f' (slice_set xs i s)) (e x h.0) ∙ ap (λ t. f x ∷ t) (map_kept f f' P xs i s dummy h.1 e)

all_same : {A : Type 0} (P Q Q' : A → Type 0) (xs : List A) → AllByRecursion P xs → AllByRecursion Q xs → ((x : A) → P x → Q x → Q' x) → AllByRecursion Q' xs
all_same P Q Q' [] h q e = tt
all_same P Q Q' (x ∷ xs) h q e = (e x h.0 q.0, all_same P Q Q' xs h.1 q.1 e)

pub all_kept : {A : Type 0} (P Q Q' : A → Type 0) (xs : List A) (i : ℕ) (s dummy : A) → AllByRecursion P (slice_set xs i dummy) → AllByRecursion Q xs
    → ((x : A) → P x → Q x → Q' x) → Q' s → AllByRecursion Q' (slice_set xs i s)
all_kept P Q Q' [] i s dummy h q e new = tt
all_kept P Q Q' (x ∷ xs) zero s dummy h q e new = (new, all_same P Q Q' xs h.1 q.1 e)
all_kept P Q Q' (x ∷ xs) (suc i) s dummy h q e new = (e x h.0 q.0, all_kept P Q Q' xs i s dummy h.1 q.1 e new)

pub held_keeps : (store : List (List ℕ)) (next : List ℕ) (b v : ℕ) (c : Content) → occurrences b (d.blocks_of (held store next c)) ≡ 0
    → held store (set next b v) c ≡ held store next c
held_keeps store next b v Free h = refl
held_keeps store next b v (Draft run) h =
    ap (λ bs. d.Draft (take run.length (flat_map (λ block. get_or store block []) bs)) bs) (chain_keeps run.blocks next b v run.first h)
held_keeps store next b v (Sealed run holds) h =
    ap (λ bs. d.Sealed (take run.length (flat_map (λ block. get_or store block []) bs)) bs holds) (chain_keeps run.blocks next b v run.first h)
held_keeps store next b v Retired h = refl

pub slot_keeps : (store : List (List ℕ)) (next : List ℕ) (b v : ℕ) (slot : Slot) → Without store next b slot
    → slot_of store (set next b v) slot ≡ slot_of store next slot
slot_keeps store next b v slot h = ap (λ (x : d.Held). record { generation = slot.generation; held = x }) (held_keeps store next b v slot.content h)

chain_less : (n : ℕ) (next : List ℕ) (b f : ℕ) → 0 < n → occurrences b (chain (n - 1) next f) ≤ occurrences b (chain n next f)
chain_less zero next b f h = absurd (omega (arith, h))
chain_less (suc n) next b f h =
    let e : suc n - 1 ≡ n = omega arith in
    let same : occurrences b (chain (suc n - 1) next f) ≡ occurrences b (chain n next f) = ap (λ k. occurrences b (chain k next f)) e in
    omega (arith, same, times_less n next b f)

pub times_part : (i n : ℕ) (next : List ℕ) (b f : ℕ) → i ≤ n → occurrences b (chain i next f) ≤ occurrences b (chain n next f)
times_part zero n next b f h = omega arith
times_part (suc i) zero next b f h = absurd (omega (arith, h))
times_part (suc i) (suc n) next b f h =
    omega (
      arith,
      times_part i n next b (get_or next f 0) (omega (arith, h)),
      times_cons b f (chain i next (get_or next f 0)),
      times_cons b f (chain n next (get_or next f 0)),
    )

run_keeps : (next : List ℕ) (b v : ℕ) (run : Run) → occurrences b (chain run.blocks next run.first) ≡ 0 → IsRun next run → IsRun (set next b v) run
run_keeps next b v run h is = record {
  enough = is.enough;
  last = λ some. node_keeps (run.blocks - 1) next b v run.first (omega (arith, h, chain_less run.blocks next b run.first some)) ∙ is.last some;
}

pub content_keeps : (store : List (List ℕ)) (next : List ℕ) (b v : ℕ) (c : Content) → occurrences b (d.blocks_of (held store next c)) ≡ 0 → IsContent next c
    → IsContent (set next b v) c
content_keeps store next b v Free h is = tt
content_keeps store next b v (Draft run) h is = run_keeps next b v run h is
content_keeps store next b v (Sealed run holds) h is = run_keeps next b v run h is
content_keeps store next b v Retired h is = tt

-- the blocks of a chain lie where they lay
at_keeps : (n : ℕ) (next : List ℕ) (b v f index block : ℕ) → occurrences b (chain n next f) ≡ 0 → (index < n) × (node index next f ≡ block)
    → (index < n) × (node index (set next b v) f ≡ block)
at_keeps n next b v f index block h is =
    let low : index < n = is.0 in
    (low, node_keeps index next b v f (omega (arith, h, times_part index n next b f (omega (arith, low)))) ∙ is.1)

pub content_stays : (store : List (List ℕ)) (next : List ℕ) (b v : ℕ) (c : Content) → occurrences b (d.blocks_of (held store next c)) ≡ 0
    → Stays next c (set next b v) c
content_stays store next b v Free h index block is = is
content_stays store next b v (Draft run) h index block is = at_keeps run.blocks next b v run.first index block h is
content_stays store next b v (Sealed run holds) h index block is = at_keeps run.blocks next b v run.first index block h is
content_stays store next b v Retired h index block is = tt

pub others_stay : (store : List (List ℕ)) (next : List ℕ) (slots : List Slot) (i b v : ℕ) (dummy : Slot)
    → AllByRecursion (Without store next b) (slice_set slots i dummy)
    → (j : ℕ) (x : Slot) → (j ≢ i) → slice_get slots j ≡ Some x → Stays next x.content (set next b v) x.content
others_stay store next slots i b v dummy none j x apart was =
    content_stays store next b v x.content
    (each_at (Without store next b) (slice_set slots i dummy) j x none (set_past slots i j dummy (λ same. apart (sym same)) ∙ was))
