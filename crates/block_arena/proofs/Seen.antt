-- What the depot says under a key, from what lies in the slot.
use Rattle.std.proofs.Common.{◌≡◌, ℕ, zero, suc, ◌+◌, ◌*◌, ◌<◌, ◌≤◌, List, [], ◌∷◌, ◌++◌, Bool, true, false, cond, ◌==◌, ◌⊎◌, inl, inr, Option, Some, None}
use Rattle.std.proofs.Common.{get_or, length, map, refl, ap, sym, ◌∙◌, subst, arith, length-append, length-take}
use Rattle.std.specs.Prelude.{slice_get, slice_set, flat_map, nat_lt, option_map}
use Rattle.std.specs.List.{All, AllByRecursion}
use Rattle.std.proofs.lemmas.Bool.{eq-eqb, ltb-true}
use Rattle.mail_world.specs.Depot as d
use Rattle.mail_world.specs.Depot.{occurrences}
use Rattle.mail_world.specs.declared.limits.TheConstants.{BLOCK_SIZE}
use Rattle.mail_world.proofs.Depots.{times-append, total_set}
use Rattle.block_arena.specs.declared.fault.ArenaFault.TheVariants as fault
use Rattle.block_arena.specs.declared.key.Key.{Key}
use Rattle.block_arena.specs.declared.slot.Run.{Run}
use Rattle.block_arena.specs.declared.slot.Content.{Content}
use Rattle.block_arena.specs.declared.slot.Content.TheVariants.{Free, Draft, Sealed, Retired}
use Rattle.block_arena.specs.declared.slot.Slot.{Slot}
use Rattle.block_arena.specs.Fields.{ArenaFields, content_at, chain, blocks_in, bytes_in, held, slot_of, depot_of, IsContent, IsRun, IsArena, IsReadable}
use Rattle.block_arena.specs.Calls.{depot_key, RefusesDraft, RefusesMessage}
use Rattle.block_arena.proofs.Chains.{times_cons, chain_length}
use Rattle.mail_world.proofs.Accepted.{each_at}
use Rattle.block_arena.proofs.Slots.{get_map, found}

get_mapped : {A B : Type 0} (f : A → B) (xs : List A) (i : ℕ) → slice_get (map f xs) i ≡ option_map f (slice_get xs i)
get_mapped f [] i = refl
get_mapped f (x ∷ xs) zero = refl
get_mapped f (x ∷ xs) (suc i) = get_mapped f xs i

held_if : (store : List (List ℕ)) (next : List ℕ) (t : Bool) (c : Content) → cond t (held store next c) d.Free ≡ held store next (cond t c Free)
held_if store next true c = refl
held_if store next false c = refl

held_in : (store : List (List ℕ)) (next : List ℕ) (key : d.Key) (o : Option Slot)
    → d.held_at key (option_map (slot_of store next) o) ≡ held store next (content_at o key.generation)
held_in store next key None = refl
held_in store next key (Some slot) = held_if store next (slot.generation == key.generation) slot.content

-- what lies in the key's slot, in an arena that a depot stands for
pub record Sees (key : Key) (depot : d.Depot) (a : ArenaFields) (content : Content) : Type 0 where
  pub arena : IsArena a
  pub view : depot_of a ≡ depot
  pub at : content_at (slice_get a.slots key.slot) key.generation ≡ content

pub sees : (key : Key) (depot : d.Depot) (a : ArenaFields) (items : List Slot) (result content : Content)
    → IsArena a → depot_of a ≡ depot → items ≡ a.slots → result ≡ content_at (slice_get items key.slot) key.generation → result ≡ content
    → Sees key depot a content
sees key depot a items result content arena view same is what = record {
  arena = arena;
  view = view;
  at = ap (λ (xs : List Slot). content_at (slice_get xs key.slot) key.generation) (sym same) ∙ sym is ∙ what;
}

pub under : (key : Key) (depot : d.Depot) (a : ArenaFields) (content : Content)
    → Sees key depot a content → d.held_under depot (depot_key key) ≡ held a.store a.next content
under key depot a content s =
    ap (λ (e : d.Depot). d.held_under e (depot_key key)) (sym s.view)
    ∙ ap (λ o. d.held_at (depot_key key) o) (get_mapped (slot_of a.store a.next) a.slots key.slot)
    ∙ held_in a.store a.next (depot_key key) (slice_get a.slots key.slot)
    ∙ ap (held a.store a.next) s.at

pub stands : (key : Key) (depot : d.Depot) (a : ArenaFields) (content : Content)
    → Sees key depot a content → ((content ≡ Free) → ⊥) → slice_get a.slots key.slot ≡ Some (record { generation = key.generation; content = content })
stands key depot a content s filled = found (slice_get a.slots key.slot) key.generation content s.at filled

-- no block of a list is past the last
once_low : (k x n : ℕ) (t : Bool) → nat_lt x k ≡ t → suc n ≤ cond t 1 0 → x < k
once_low k x n true e h = ltb-true x k e
once_low k x n false e h = absurd (omega (arith, h))

self_once : (x n : ℕ) (t : Bool) → (x == x) ≡ t → cond t 1 0 + n ≡ suc n
self_once x n true e = omega arith
self_once x n false e = let yes' : (x == x) ≡ true = eq-eqb x x refl in cc

pub low_by : (k : ℕ) (xs : List ℕ) → ((x : ℕ) → occurrences x xs ≤ cond (nat_lt x k) 1 0) → AllByRecursion (λ b. b < k) xs
low_by k [] h = tt
low_by k (x ∷ xs) h =
    let one : suc (occurrences x xs) ≤ cond (nat_lt x k) 1 0 = omega (arith, h x, times_cons x x xs, self_once x (occurrences x xs) (x == x) refl) in
    (once_low k x (occurrences x xs) (nat_lt x k) refl one, low_by k xs (λ y. omega (arith, h y, times_cons y x xs)))

pub run_times : (a : ArenaFields) (i : ℕ) (s : Slot) → IsArena a → slice_get a.slots i ≡ Some s
    → (x : ℕ) → occurrences x (chain a.free_count a.next a.free) + occurrences x (d.blocks_of (held a.store a.next s.content))
    ≤ cond (nat_lt x (length a.next)) 1 0
run_times a i s arena was x =
    let total : occurrences x (flat_map (λ (slot : d.Slot). d.blocks_of slot.held)
    (slice_set (map (slot_of a.store a.next) a.slots) i (record { generation = 0; held = d.Free })))
    + occurrences x (d.blocks_of (held a.store a.next s.content))
    ≡ occurrences x (flat_map (λ (slot : d.Slot). d.blocks_of slot.held) (map (slot_of a.store a.next) a.slots)) + 0 =
    total_set (λ y. cond (y == x) 1 0) (λ (slot : d.Slot). d.blocks_of slot.held) (map (slot_of a.store a.next) a.slots) i (slot_of a.store a.next s)
    (record { generation = 0; held = d.Free }) (get_map (slot_of a.store a.next) a.slots i s was) in
    let once : occurrences x (chain a.free_count a.next a.free ++ flat_map (λ (slot : d.Slot). d.blocks_of slot.held) (map (slot_of a.store a.next) a.slots))
    ≡ cond (nat_lt x (length a.next)) 1 0 = arena.once x in
    omega (
      arith,
      total,
      once,
      times-append x (chain a.free_count a.next a.free)
          (flat_map (λ (slot : d.Slot). d.blocks_of slot.held) (map (slot_of a.store a.next) a.slots)),
    )

pub run_low : (a : ArenaFields) (i : ℕ) (s : Slot) → IsArena a → slice_get a.slots i ≡ Some s
    → AllByRecursion (λ b. b < length a.next) (d.blocks_of (held a.store a.next s.content))
run_low a i s arena was = low_by (length a.next) (d.blocks_of (held a.store a.next s.content)) (λ x. omega (arith, run_times a i s arena was x))

pub free_low : (a : ArenaFields) → IsArena a → AllByRecursion (λ b. b < length a.next) (chain a.free_count a.next a.free)
free_low a arena = low_by (length a.next) (chain a.free_count a.next a.free) (λ x.
    let once : occurrences x (chain a.free_count a.next a.free ++ flat_map (λ (slot : d.Slot). d.blocks_of slot.held) (map (slot_of a.store a.next) a.slots))
    ≡ cond (nat_lt x (length a.next)) 1 0 = arena.once x in
    omega (
      arith,
      once,
      times-append x (chain a.free_count a.next a.free)
          (flat_map (λ (slot : d.Slot). d.blocks_of slot.held) (map (slot_of a.store a.next) a.slots)),
    ))

pub full_length : (store : List (List ℕ)) (k : ℕ) (bs : List ℕ) → length store ≡ k → All (λ (bytes : List ℕ). length bytes ≡ BLOCK_SIZE) store
    → AllByRecursion (λ b. b < k) bs
    → length (flat_map (λ b. get_or store b []) bs) ≡ BLOCK_SIZE * length bs
full_length store k [] same sizes low = omega arith
full_length store k (b ∷ bs) same sizes low =
    let here : length (get_or store b []) ≡ BLOCK_SIZE = sizes b [] (omega (arith, low.0, same)) in
    omega (arith, here, full_length store k bs same sizes low.1, length-append (get_or store b []) (flat_map (λ b. get_or store b []) bs))

pub enough_room : (n blocks : ℕ) → blocks ≡ d.blocks_for n → n ≤ BLOCK_SIZE * blocks
enough_room n blocks e = omega (arith, e)

pub run_length : (store : List (List ℕ)) (next : List ℕ) (run : Run) → length store ≡ length next → All (λ (bytes : List ℕ). length bytes ≡ BLOCK_SIZE) store
    → IsRun next run
    → AllByRecursion (λ b. b < length next) (blocks_in next run) → run.length ≡ length (bytes_in store next run)
run_length store next run same sizes is low =
    omega (
      arith,
      enough_room run.length run.blocks is.enough,
      chain_length run.blocks next run.first,
      full_length store (length next) (blocks_in next run) same sizes low,
      length-take run.length (flat_map (λ b. get_or store b []) (blocks_in next run)),
    )

pub draft_length : (key : Key) (depot : d.Depot) (a : ArenaFields) (run : Run)
    → Sees key depot a (Draft run) → run.length ≡ length (d.bytes_of (d.held_under depot (depot_key key)))
draft_length key depot a run s =
    let was : slice_get a.slots key.slot ≡ Some (record { generation = key.generation; content = Draft run }) = stands key depot a (Draft run) s (λ e. cc) in
    run_length a.store a.next run s.arena.count s.arena.sizes
    (each_at (λ (slot : Slot). IsContent a.next slot.content) a.slots key.slot (record { generation = key.generation; content = Draft run }) s.arena.runs
    was) (run_low a key.slot (record { generation = key.generation; content = Draft run }) s.arena was)
    ∙ ap (λ h. length (d.bytes_of h)) (sym (under key depot a (Draft run) s))

pub sealed_length : (key : Key) (depot : d.Depot) (a : ArenaFields) (run : Run) (holds : ℕ)
    → Sees key depot a (Sealed run holds) → run.length ≡ length (d.bytes_of (d.held_under depot (depot_key key)))
sealed_length key depot a run holds s =
    let was : slice_get a.slots key.slot ≡ Some (record { generation = key.generation; content = Sealed run holds }) =
    stands key depot a (Sealed run holds) s (λ e. cc) in
    run_length a.store a.next run s.arena.count s.arena.sizes
    (each_at (λ (slot : Slot). IsContent a.next slot.content) a.slots key.slot (record { generation = key.generation; content = Sealed run holds })
    s.arena.runs was) (run_low a key.slot (record { generation = key.generation; content = Sealed run holds }) s.arena was)
    ∙ ap (λ h. length (d.bytes_of h)) (sym (under key depot a (Sealed run holds) s))

pub stale : (IsFull : Type 0) (key : Key) (depot : d.Depot) (a : ArenaFields) (items : List Slot) (result : Content)
    → IsArena a → depot_of a ≡ depot → items ≡ a.slots → result ≡ content_at (slice_get items key.slot) key.generation → (result ≡ Free) ⊎ (result ≡ Retired)
    → RefusesDraft IsFull (d.held_under depot (depot_key key)) fault.Stale × RefusesMessage (d.held_under depot (depot_key key)) fault.Stale
stale IsFull key depot a items result arena view same is (inl e) =
    let h : d.held_under depot (depot_key key) ≡ d.Free = under key depot a Free (sees key depot a items result Free arena view same is e) in
    subst (λ (x : d.Held). RefusesDraft IsFull x fault.Stale × RefusesMessage x fault.Stale) (sym h) (refl, refl)
stale IsFull key depot a items result arena view same is (inr e) =
    let h : d.held_under depot (depot_key key) ≡ d.Retired = under key depot a Retired (sees key depot a items result Retired arena view same is e) in
    subst (λ (x : d.Held). RefusesDraft IsFull x fault.Stale × RefusesMessage x fault.Stale) (sym h) (refl, refl)

pub readable : (key : Key) (depot : d.Depot) (a : ArenaFields) (run : Run) (holds : ℕ)
    → Sees key depot a (Sealed run holds) → IsReadable a.store a.next run
readable key depot a run holds s =
    let was : slice_get a.slots key.slot ≡ Some (record { generation = key.generation; content = Sealed run holds }) =
    stands key depot a (Sealed run holds) s (λ e. cc) in
    let is : IsRun a.next run = each_at (λ (slot : Slot). IsContent a.next slot.content) a.slots key.slot
    (record { generation = key.generation; content = Sealed run holds }) s.arena.runs was in
    record {
      sizes = s.arena.sizes;
      count = s.arena.count;
      low = run_low a key.slot (record { generation = key.generation; content = Sealed run holds }) s.arena was;
      enough = enough_room run.length run.blocks is.enough;
    }

pub readable_as : (store store' : List (List ℕ)) (next next' : List ℕ) (run : Run) → store' ≡ store → next' ≡ next → IsReadable store next run
    → IsReadable store' next' run
readable_as store store' next next' run e h r = subst (λ n. IsReadable store' n run) (sym h) (subst (λ s. IsReadable s next run) (sym e) r)

pub bytes_seen : (store store' : List (List ℕ)) (next next' : List ℕ) (run : Run) (holds : ℕ) (held' : d.Held) → store' ≡ store → next' ≡ next
    → held' ≡ held store next (Sealed run holds) → bytes_in store' next' run ≡ d.bytes_of held'
bytes_seen store store' next next' run holds held' e h u = ap (λ s. bytes_in s next' run) e ∙ ap (λ n. bytes_in store n run) h ∙ ap d.bytes_of (sym u)
