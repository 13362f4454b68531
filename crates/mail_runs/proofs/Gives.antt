-- A lane gives a copy: it seals the message first where this is its first copy.
use Rattle.std.proofs.Common.{◌≡◌, ℕ, ◌+◌, ◌-◌, ◌<◌, ◌≤◌, ◌==◌, List, [], ◌∷◌, ◌++◌, length, drop, Some, refl, ap, sym, ◌∙◌, append_assoc, arith, length-append}
use Rattle.std.specs.Prelude.{flat_map, slice_get, slice_set, sum_by}
use Rattle.std.proofs.lemmas.List.{map-append, drop-append-le}
use Rattle.std.proofs.lemmas.List.Sums.{sum_by-cons}
use Rattle.mail_world.specs.declared.Note.{Note}
use Rattle.mail_world.specs.declared.Verdict.{Verdict}
use Rattle.mail_world.specs.declared.Verdict.TheVariants.{Whole, TooLarge, Malformed, NoRoom}
use Rattle.mail_world.specs.Lists.{Transaction, copies, copies_if, copies_from}
use Rattle.mail_world.specs.Depot.{Key, Held, Slot, Depot, Free, Draft, Sealed, Retired, blocks_for, held_at, held_under, with_held}
use Rattle.mail_world.specs.House.{Box, Post, notes_of}
use Rattle.mail_world.proofs.Depots.{set_at}
use Rattle.mail_runs.specs.Deeds.{Deed, Gave, given_in, given_to}
use Rattle.mail_runs.specs.Courses.{Server}
use Rattle.mail_runs.specs.Histories.{Threads, RiseAbove}
use Rattle.mail_runs.proofs.Parts.{passes, same_number, same_first, one_counts}
use Rattle.mail_runs.proofs.Manners.{Manner, Owed}
use Rattle.mail_runs.proofs.Exchanges.{GoOn, OffersPlanned, goes_past, planned}
use Rattle.mail_runs.proofs.Frames.{flows_on}
use Rattle.mail_runs.proofs.Stands.{BoxStands, DepotStands, free_slot, one_if_free, slots_for, blocks_to_give}

rise_lower : (m n : ℕ) (ts : List Transaction) → m ≤ n → RiseAbove n ts → RiseAbove m ts
rise_lower m n [] le rise = tt
rise_lower m n (t ∷ ts) le rise = let low : n < t.number = rise.0 in (omega arith, rise.1)

-- the next message of a lane, of which this is the first copy
pub record IsOpening (m : Manner) (k lo : ℕ) (note : Note) (more : List Note) (left : List Deed) : Type 0 where
  pub t : Transaction
  pub box : ℕ
  pub boxes : List ℕ
  pub ts : List Transaction
  pub above : lo < t.number
  pub rise : RiseAbove t.number ts
  pub gives : note ∷ more ≡ copies_from k t 0 (box ∷ boxes) ++ flat_map (copies k) ts
  pub planned : Owed m → OffersPlanned m.room k t box boxes ts (Gave note ∷ left)

module _ (m : Manner) (k lo : ℕ) (note : Note) (more : List Note) (left : List Deed) where
  opening_by : (t : Transaction) (ts : List Transaction) → RiseAbove lo (t ∷ ts) → note ∷ more ≡ copies k t ++ flat_map (copies k) ts
      → (Owed m → GoOn m.room k (t ∷ ts) (Gave note ∷ left)) → (copies k t ≡ [] → IsOpening m k lo note more left)
      → (boxes : List ℕ) → copies k t ≡ copies_from k t 0 boxes → IsOpening m k lo note more left
  opening_by t ts rise e goes later [] same = later same
  opening_by t ts rise e goes later (box ∷ boxes) same = record {
    t = t;
    box = box;
    boxes = boxes;
    ts = ts;
    above = rise.0;
    rise = rise.1;
    gives = e ∙ ap (λ cs. cs ++ flat_map (copies k) ts) same;
    planned = λ o. planned m.room k t box boxes ts (Gave note ∷ left) same (goes o);
  }

  opening_of : (t : Transaction) (ts : List Transaction) → RiseAbove lo (t ∷ ts) → note ∷ more ≡ copies k t ++ flat_map (copies k) ts
      → (Owed m → GoOn m.room k (t ∷ ts) (Gave note ∷ left)) → (copies k t ≡ [] → IsOpening m k lo note more left)
      → (v : Verdict) → t.disposition.verdict ≡ v → IsOpening m k lo note more left
  opening_of t ts rise e goes later Whole is = opening_by t ts rise e goes later t.session.recipients (ap (copies_if k t) is)
  opening_of t ts rise e goes later TooLarge is = later (ap (copies_if k t) is)
  opening_of t ts rise e goes later Malformed is = later (ap (copies_if k t) is)
  opening_of t ts rise e goes later NoRoom is = later (ap (copies_if k t) is)

  pub opening : (ts : List Transaction) → RiseAbove lo ts → note ∷ more ≡ flat_map (copies k) ts → (Owed m → GoOn m.room k ts (Gave note ∷ left))
      → IsOpening m k lo note more left
  opening [] rise e goes = cc
  opening (t ∷ ts) rise e goes =
      let above : lo < t.number = rise.0 in
      opening_of t ts rise e goes
      (λ none. opening ts (rise_lower lo t.number ts (omega arith) rise.1) (e ∙ ap (λ cs. cs ++ flat_map (copies k) ts) none)
      (λ o. goes_past m.room k note t ts left none (goes o)))
      t.disposition.verdict refl

pub message_is : {m : Manner} {k lo : ℕ} {note : Note} {more : List Note} {left : List Deed} (o : IsOpening m k lo note more left) → note.message ≡ o.t.message
message_is o = ap (λ (n : Note). n.message) (same_first _ _ _ _ o.gives)

-- what is held under a key that was just written
pub held_now : (d : Depot) (key : Key) (slot : Slot) (held : Held) (free : List ℕ) → slice_get d.slots key.slot ≡ Some slot
    → held_under (with_held d key held free) key ≡ held
held_now d key slot held free is =
    let now : slice_get (slice_set d.slots key.slot (record { generation = key.generation; held = held })) key.slot
    ≡ Some (record { generation = key.generation; held = held }) =
    set_at d.slots key.slot (record { generation = key.generation; held = held }) slot is in
    ap (held_at key) now ∙ rw (same_number key.generation key.generation refl) refl

is_free : (slot : Slot) → 1 ≤ free_slot slot → slot.held ≡ Free
is_free slot some = by_held slot.held refl
  where
    by_held : (held : Held) → slot.held ≡ held → slot.held ≡ Free
    by_held Free e = e
    by_held (Draft bytes blocks) e = let n : free_slot slot ≡ 0 = ap one_if_free e in absurd (omega arith)
    by_held (Sealed bytes blocks weight) e = let n : free_slot slot ≡ 0 = ap one_if_free e in absurd (omega arith)
    by_held Retired e = let n : free_slot slot ≡ 0 = ap one_if_free e in absurd (omega arith)

-- a slot and blocks for a message
pub record IsPlaced (d : Depot) (message : List ℕ) : Type 0 where
  pub key : Key
  pub is : slice_get d.slots key.slot ≡ Some (record { generation = key.generation; held = Free })
  pub enough : blocks_for (length message) ≤ length d.free

pub placed : (d : Depot) (note : Note) (rest : List Deed) → DepotStands (Gave note ∷ rest) d → IsPlaced d note.message
placed d note rest stands =
    let slots : 1 + sum_by slots_for rest ≤ sum_by free_slot d.slots = let h = stands.slots in omega (arith, sum_by-cons slots_for (Gave note) rest) in
    let blocks : blocks_for (length note.message) + sum_by blocks_to_give rest ≤ length d.free = let h = stands.blocks in
    omega (arith, sum_by-cons blocks_to_give (Gave note) rest) in
    let found = one_counts free_slot d.slots (omega arith) in
    let slot : Slot = found.1 in
    let some : 1 ≤ free_slot slot = found.3 in
    let free : slot.held ≡ Free = is_free slot some in
    record {
      key = record { slot = found.0; generation = slot.generation };
      is = found.2 ∙ ap (λ (held : Held). let x : Slot = record { generation = slot.generation; held = held } in Some x) free;
      enough = omega arith;
    }

-- the mailbox's channel accepts the copy
pub given_here : (s : Server) (capacity : ℕ) (t : Threads) (note : Note) (key : Key) (rest : List Deed) (box : Box)
    → BoxStands s capacity note.mailbox (t.courses note.mailbox) (Gave note ∷ rest) box
    → BoxStands s capacity note.mailbox (t.courses note.mailbox) rest (record box { accepted = box.accepted ++ record { note = note; key = key } ∷ [] })
given_here s capacity t note key rest box stands =
    let b : ℕ = note.mailbox in
    let post : Post = record { note = note; key = key } in
    let given : (ds : List Deed) → given_to b (Gave note ∷ ds) ≡ note ∷ given_to b ds =
    λ ds. passes (λ (n : Note). n.mailbox == b) note (flat_map given_in ds) (same_number b b refl) in
    let longer : length (box.accepted ++ post ∷ []) ≡ length box.accepted + 1 = length-append box.accepted (post ∷ []) in
    let one : length (given_to b (Gave note ∷ [])) ≡ 1 = ap length (given []) in
    let notes : notes_of (box.accepted ++ post ∷ []) ≡ notes_of box.accepted ++ note ∷ [] = map-append (λ (p : Post). p.note) box.accepted (post ∷ []) in
    let waiting : notes_of (drop box.taken (box.accepted ++ post ∷ [])) ≡ notes_of (drop box.taken box.accepted) ++ note ∷ [] =
    ap notes_of (drop-append-le box.taken box.accepted (post ∷ []) stands.prefix)
    ∙ map-append (λ (p : Post). p.note) (drop box.taken box.accepted) (post ∷ []) in
    let low = stands.prefix in
    record {
      quota = stands.quota;
      old = stands.old;
      still_open = stands.still_open;
      prefix = omega arith;
      all = ap (λ l. l ++ given_to b rest) notes ∙ append_assoc (notes_of box.accepted) (note ∷ []) (given_to b rest)
          ∙ ap (λ l. notes_of box.accepted ++ l) (sym (given rest)) ∙ stands.all;
      flows = flows_on capacity b (length box.accepted - box.taken) (length (box.accepted ++ post ∷ []) - box.taken) (Gave note) rest (omega arith)
          stands.flows;
      work = record {
        notes = stands.work.notes;
        turns = stands.work.turns;
        program = stands.work.program;
        queue = ap (λ l. l ++ given_to b rest) waiting ∙ append_assoc (notes_of (drop box.taken box.accepted)) (note ∷ []) (given_to b rest)
            ∙ ap (λ l. notes_of (drop box.taken box.accepted) ++ l) (sym (given rest)) ∙ stands.work.queue;
        takes = stands.work.takes;
      };
    }
