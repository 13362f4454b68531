-- What an event on the arena does to the entries that the keeper's seat knows.
use Rattle.std.proofs.Common.{◌≡◌, ℕ, zero, suc, ◌+◌, ◌<◌, ◌≤◌, List, [], ◌∷◌, ◌++◌, Bool, true, false, cond, ◌==◌, Some, length, map, get_or, sym, ap, ◌∙◌}
use Rattle.std.proofs.Common.{subst, refl, arith, length-set}
use Rattle.std.specs.Prelude.{slice_get, slice_set, nat_lt, replicate}
use Rattle.std.proofs.lemmas.List.{map-set, get_or-map, set-set, length-map}
use Rattle.std.proofs.lemmas.Option.{slice_get_within, slice_get-get_or, get_or_from_slice_get, same_Some}
use Rattle.std.proofs.lemmas.Bool.{eq-eqb}
use Rattle.atomic_table.specs.Table.{Me}
use Rattle.atomic_table.specs.Seated.{TableId}
use Rattle.mail_world.specs.Depot as d
use Rattle.mail_world.specs.Depot.{Depot, Slot, Key, Held, held_under, last_generation, HasEachBlockOnce, Begins, Puts, Seals, GivesBack, Reclaims, Releases}
use Rattle.mail_world.specs.Depot.{weight_held, weight_under, blocks_of}
use Rattle.mail_world.proofs.Depots.{used, begins_turn, puts_turn, seals_turn, drops_turn, releases_turn}
use Rattle.mail_world.proofs.Holds.{part_own}
use Rattle.block_arena.specs.Calls.{ReleasesAll, IsGivenBack}
use Rattle.msg_depot.specs.declared.view.View.{View}
use Rattle.msg_depot.specs.declared.view.Entry.{Entry}
use Rattle.msg_depot.specs.declared.view.Phase.TheVariants.{Free, Sealed}
use Rattle.msg_depot.specs.Rules.{entry, free_slots, resting, word_of}
use Rattle.msg_depot.specs.Moves.{entry_at, empty_entry, entered}
use Rattle.msg_depot.specs.Entries.{entry_of, slot_entries, phase_held, slot_given_back, HasCount, IsKeeper}

-- the entry of a slot that is there
pub entry_there : (depot : Depot) (i : ℕ) (slot : Slot) → slice_get depot.slots i ≡ Some slot → entry_at (slot_entries depot) i ≡ entry_of slot
entry_there depot i slot is = get_or-map entry_of depot.slots i slot empty_entry (slice_get_within depot.slots i slot is)
    ∙ ap entry_of (get_or_from_slice_get depot.slots i slot slot is)

-- a joined token's entry is the slot's
pub agreed : (depot : Depot) (book : List Entry) (i j : ℕ) (e : Entry) (slot : Slot) → book ≡ slot_entries depot → j ≡ i → entry_at book j ≡ e
    → slice_get depot.slots i ≡ Some slot → e ≡ entry_of slot
agreed depot book i j e slot same place found is = sym found ∙ (λ k. entry_at (same k) (place k)) ∙ entry_there depot i slot is

-- a message lies under the key, and has a weight
pub record IsSealed (depot : Depot) (key : Key) (bytes : List ℕ) : Type 0 where
  pub blocks : List ℕ
  pub weight : ℕ
  pub is : held_under depot key ≡ d.Sealed bytes blocks weight
  pub some : 1 ≤ weight

sealed_if : (depot : Depot) (key : Key) (bytes : List ℕ) (held : Held) → held_under depot key ≡ held → phase_held held ≡ Sealed → d.bytes_of held ≡ bytes
    → HasCount held → IsSealed depot key bytes
sealed_if depot key bytes d.Free is p b count = absurd (cc)
sealed_if depot key bytes (d.Draft x blocks) is p b count = absurd (cc)
sealed_if depot key bytes (d.Sealed x blocks weight) is p b count =
    record { blocks = blocks; weight = weight; is = is ∙ ap (λ (l : List ℕ). d.Sealed l blocks weight) b; some = count }
sealed_if depot key bytes d.Retired is p b count = absurd (cc)

-- the message that the keeper's entry of a slot tells of
pub sealed_under : (depot : Depot) (key : Key) (bytes : List ℕ) (book : List Entry) → book ≡ slot_entries depot → {i : ℕ} → key.slot ≡ i → i < length book
    → entry_at book key.slot ≡ entry Sealed key.generation bytes
    → ((i : ℕ) (slot : Slot) → slice_get depot.slots i ≡ Some slot → HasCount slot.held) → IsSealed depot key bytes
sealed_under depot key bytes book same {i} place within found counts =
    let slot : Slot = get_or depot.slots key.slot (record { generation = 0; held = d.Free }) in
    let long : length book ≡ length depot.slots = ap (λ (l : List Entry). length l) same ∙ length-map depot.slots entry_of in
    let there : slice_get depot.slots key.slot ≡ Some slot = slice_get-get_or depot.slots key.slot _ (omega arith) in
    let is : entry_of slot ≡ entry Sealed key.generation bytes = sym (entry_there depot key.slot slot there) ∙ (λ n. entry_at (sym same n) key.slot) ∙ found in
    let now : (slot.generation == key.generation) ≡ true = eq-eqb slot.generation key.generation (ap (λ (x : Entry). x.generation) is) in
    sealed_if depot key bytes slot.held (ap (d.held_at key) there ∙ ap (λ (t : Bool). cond t slot.held d.Free) now) (ap (λ (x : Entry). x.phase) is)
    (ap (λ (x : Entry). x.bytes) is) (counts key.slot slot there)

-- one slot changes, and no block is lost or stands twice
pub record Turned (old new : Depot) (i : ℕ) (next : Slot) : Type 0 where
  pub within : i < length old.slots
  pub slots : new.slots ≡ slice_set old.slots i next
  pub count : HasCount next.held
  pub once : (n : ℕ) → HasEachBlockOnce n old → HasEachBlockOnce n new

counts_on : (slots : List Slot) (i : ℕ) (next : Slot) → HasCount next.held → ((j : ℕ) (slot : Slot) → slice_get slots j ≡ Some slot → HasCount slot.held)
    → (j : ℕ) (slot : Slot) → slice_get (slice_set slots i next) j ≡ Some slot → HasCount slot.held
counts_on [] i next count all j slot is = all j slot is
counts_on (x ∷ xs) zero next count all zero slot is = subst (λ (s : Slot). HasCount s.held) (same_Some next slot is) count
counts_on (x ∷ xs) zero next count all (suc j) slot is = all (suc j) slot is
counts_on (x ∷ xs) (suc i) next count all zero slot is = all zero slot is
counts_on (x ∷ xs) (suc i) next count all (suc j) slot is = counts_on xs i next count (λ k s e. all (suc k) s e) j slot is

-- the keeper knows the arena's messages after such a change, if its entry of that slot changes alike
pub kept_on : (named t0 table : TableId) (m0 me : Me (Unit {0}) View) (old new : Depot) (i : ℕ) (next : Slot) (book : List Entry) (j : ℕ) (e : Entry)
    → IsKeeper named t0 m0 old → Turned old new i next → table ≡ t0 → me ≡ (resting (entered book j e), []) → book ≡ m0.0.book → j ≡ i → e ≡ entry_of next
    → IsKeeper named table me new
kept_on named t0 table m0 me old new i next book j e k t same is has place this = record {
  same_table = same ∙ k.same_table;
  knows = is ∙ ap (λ (l : List Entry). (resting l, []))
      ((λ n. entered ((has ∙ ap (λ (m : Me (Unit {0}) View). m.0.book) k.knows) n) (place n) (this n)) ∙ sym (map-set entry_of old.slots i next)
      ∙ ap (λ (l : List Slot). map entry_of l) (sym t.slots));
  long = k.long ∙ ap word_of (sym (ap (λ (l : List Slot). length l) t.slots ∙ length-set old.slots i next));
  blocks = k.blocks;
  once = t.once k.blocks k.once;
  counts = λ n slot at. counts_on old.slots i next t.count k.counts n slot (subst (λ (l : List Slot). slice_get l n ≡ Some slot) t.slots at);
}

pub begins_turned : (old : Depot) (key : Key) (new : Depot) → Begins old key new
    → Turned old new key.slot (record { generation = key.generation; held = d.Draft [] [] })
begins_turned old key new b = record {
  within = slice_get_within old.slots key.slot _ b.0;
  slots = ap (λ (x : Depot). x.slots) b.1;
  count = tt;
  once = (begins_turn old key new b).blocks;
}

pub puts_turned : (old : Depot) (key : Key) (more : List ℕ) (new : Depot) → (p : Puts old key more new)
    → Turned old new key.slot (record { generation = key.generation; held = d.Draft (p.bytes ++ more) (p.blocks ++ p.picked) })
puts_turned old key more new p = record {
  within = slice_get_within old.slots key.slot _ (used old key _ p.draft (λ e. cc));
  slots = ap (λ (x : Depot). x.slots) p.after;
  count = tt;
  once = (puts_turn old key more new p).blocks;
}

pub seals_turned : (old : Depot) (key : Key) (weight : ℕ) (new : Depot) → 1 ≤ weight → (s : Seals old key weight new)
    → Turned old new key.slot (record { generation = key.generation; held = d.Sealed s.bytes s.blocks weight })
seals_turned old key weight new more s = record {
  within = slice_get_within old.slots key.slot _ (used old key _ s.draft (λ e. cc));
  slots = ap (λ (x : Depot). x.slots) s.after;
  count = more;
  once = (seals_turn old key weight new s).blocks;
}

count_after : (generation : ℕ) → HasCount (slot_given_back generation).held
count_after generation = by (nat_lt generation last_generation)
  where
    by : (t : Bool) → HasCount (cond {A = Slot} t (record { generation = generation + 1; held = d.Free })
        (record { generation = generation; held = d.Retired })).held
    by true = tt
    by false = tt

after_slots : (depot : Depot) (key : Key) (free : List ℕ)
    → (d.given_back depot key free).slots ≡ slice_set depot.slots key.slot (slot_given_back key.generation)
after_slots depot key free = by (nat_lt key.generation last_generation)
  where
    by : (t : Bool) → (cond {A = Depot} t
        (record { slots = slice_set depot.slots key.slot (record { generation = key.generation + 1; held = d.Free }); free = free })
        (d.with_held depot key d.Retired free)).slots
        ≡ slice_set depot.slots key.slot
        (cond {A = Slot} t (record { generation = key.generation + 1; held = d.Free }) (record { generation = key.generation; held = d.Retired }))
    by true = refl
    by false = refl

drops_turned : (old : Depot) (key : Key) (held : List ℕ → List ℕ → Held) (new : Depot) → ((b blocks : List ℕ) → weight_held (held b blocks) ≡ 0)
    → ((b blocks : List ℕ) → blocks_of (held b blocks) ≡ blocks)
    → ((b blocks : List ℕ) → (held b blocks ≡ d.Free) → ⊥) → GivesBack old key held new → Turned old new key.slot (slot_given_back key.generation)
drops_turned old key held new light has filled p = record {
  within = slice_get_within old.slots key.slot _ (used old key _ p.message (filled p.bytes p.blocks));
  slots = ap (λ (x : Depot). x.slots) p.after ∙ after_slots old key p.free;
  count = count_after key.generation;
  once = (drops_turn old key held new light has filled p).blocks;
}

pub cancels_turned : (old : Depot) (key : Key) (new : Depot) → d.Cancels old key new → Turned old new key.slot (slot_given_back key.generation)
cancels_turned old key new p = drops_turned old key d.Draft new (λ b blocks. refl) (λ b blocks. refl) (λ b blocks e. cc) p

-- holds that are given up change the slot alone
record Lighter (old new : Depot) (i : ℕ) : Type 0 where
  pub slots : (next : Slot) → slice_set new.slots i next ≡ slice_set old.slots i next
  pub long : length new.slots ≡ length old.slots
  pub once : (n : ℕ) → HasEachBlockOnce n old → HasEachBlockOnce n new

lighter : (k : ℕ) (old : Depot) (key : Key) (new : Depot) → ReleasesAll k old key new → Lighter old new key.slot
lighter zero old key new r = record {
  slots = λ next. ap (λ (x : Depot). slice_set x.slots key.slot next) r;
  long = ap (λ (x : Depot). length x.slots) r;
  once = λ n e. subst (λ (x : Depot). HasEachBlockOnce n x) (sym r) e;
}
lighter (suc k) old key new r =
    let between : Depot = r.0 in
    let one = r.1 in
    let rest = lighter k between key new r.2 in
    let changed : between.slots ≡ slice_set old.slots key.slot (record { generation = key.generation; held = d.Sealed one.bytes one.blocks one.weight }) =
    ap (λ (x : Depot). x.slots) one.after in
    record {
      slots = λ next. rest.slots next ∙ ap (λ (l : List Slot). slice_set l key.slot next) changed
          ∙ set-set old.slots key.slot (record { generation = key.generation; held = d.Sealed one.bytes one.blocks one.weight }) next;
      long = rest.long ∙ ap (λ (l : List Slot). length l) changed ∙ length-set old.slots key.slot _;
      once = λ n e. rest.once n ((releases_turn old key between one).blocks n e);
    }

pub given_turned : (k : ℕ) (old : Depot) (key : Key) (new : Depot) → IsGivenBack k old key new true → Turned old new key.slot (slot_given_back key.generation)
given_turned k old key new g =
    let l = lighter k old key g.0 g.1 in
    let t = drops_turned g.0 key (λ b blocks. d.Sealed b blocks 0) new (λ b blocks. refl) (λ b blocks. refl) (λ b blocks e. cc) g.2 in
    record {
      within = subst (λ (n : ℕ). key.slot < n) l.long t.within;
      slots = t.slots ∙ l.slots (slot_given_back key.generation);
      count = t.count;
      once = λ n e. t.once n (l.once n e);
    }

-- what is left of the weight once holds are given up
weight_left : (k : ℕ) (old : Depot) (key : Key) (new : Depot) → ReleasesAll k old key new → weight_under new key + k ≡ weight_under old key
weight_left zero old key new r = let same : weight_under new key ≡ weight_under old key = ap (λ (x : Depot). weight_under x key) r in omega arith
weight_left (suc k) old key new r = omega (arith, weight_left k r.0 key new r.2, (releases_turn old key r.0 r.1).weight key, part_own key 1)

-- where all holds are given up, the message goes
pub none_left : (k : ℕ) (old : Depot) (key : Key) (new : Depot) → k ≡ weight_under old key → IsGivenBack k old key new false → ⊥
none_left k old key new all g = let left = weight_left k old key new g.0 in let some_left = g.1 in absurd (omega arith)

-- slots that have had no message
abbrev unused : ℕ → ℕ → List Slot
unused n g = replicate n (record { generation = g; held = d.Free })

unused_entries : (n g : ℕ) → map entry_of (unused n g) ≡ free_slots n g
unused_entries zero g = refl
unused_entries (suc n) g = ap (λ (l : List Entry). entry Free g [] ∷ l) (unused_entries n g)

pub new_entries : (n g : ℕ) (slots : List Slot) → slots ≡ replicate n (record { generation = g; held = d.Free }) → map entry_of slots ≡ free_slots n g
new_entries n g slots is = ap (λ (l : List Slot). map entry_of l) is ∙ unused_entries n g

unused_counts : (n g i : ℕ) (slot : Slot) → slice_get (unused n g) i ≡ Some slot → HasCount slot.held
unused_counts zero g i slot is = cc
unused_counts (suc n) g zero slot is = subst (λ (s : Slot). HasCount s.held) (same_Some (record { generation = g; held = d.Free }) slot is) tt
unused_counts (suc n) g (suc i) slot is = unused_counts n g i slot is

pub new_counts : (n g : ℕ) (slots : List Slot) → slots ≡ replicate n (record { generation = g; held = d.Free }) → (i : ℕ) (slot : Slot)
    → slice_get slots i ≡ Some slot → HasCount slot.held
new_counts n g slots is i slot at = unused_counts n g i slot (subst (λ (l : List Slot). slice_get l i ≡ Some slot) is at)
