-- What a critical section makes of what the keeper's type keeps: its seat joins a token, steps, and splits off what is left.
use Rattle.std.proofs.Common.{◌≡◌, ◌≢◌, ℕ, ◌<◌, ◌≤◌, List, [], ◌++◌, length, sym, ap, ◌∙◌, subst, refl, arith}
use Rattle.std.proofs.lemmas.List.{length-map}
use Rattle.std.proofs.lemmas.Option.{slice_get_within}
use Rattle.atomic_table.specs.Table.{Me}
use Rattle.atomic_table.specs.Seated.{TableId}
use Rattle.mail_world.specs.Depot.{Depot, Key, Begins, Puts, Seals}
use Rattle.mail_world.proofs.Depots.{used}
use Rattle.msg_depot.specs.declared.view.View.{View}
use Rattle.msg_depot.specs.declared.view.Entry.{Entry}
use Rattle.msg_depot.specs.declared.view.Claim.{Claim}
use Rattle.msg_depot.specs.declared.view.Kind.{Kind}
use Rattle.msg_depot.specs.declared.view.Kind.TheVariants.{Nothing, Draft}
use Rattle.msg_depot.specs.declared.view.Phase.TheVariants.{Free, Drafted, Sealed}
use Rattle.msg_depot.specs.Rules.{token, keeping, resting, entry, phase_of, word_of}
use Rattle.msg_depot.specs.Moves.{entry_at, generation_at, entered, begun, put, sealed}
use Rattle.msg_depot.specs.Entries.{entry_of, slot_entries, slot_given_back, IsKeeper}
use Rattle.msg_depot.proofs.Entries.{entry_there, agreed, kept_on, Turned, begins_turned, puts_turned, seals_turned, IsSealed, sealed_under}

abbrev pub Seen : Type 0
Seen = Me (Unit {0}) View

-- what joining tells of a seat that claims something
abbrev pub MatchesSeen : List Entry → Seen → Type 0
MatchesSeen book him = him.0.kind ≢ Nothing
    → (him.0.claim.slot < length book) × (entry_at book him.0.claim.slot ≡ entry (phase_of him.0.kind) him.0.claim.generation him.0.claim.bytes)

claims_entry : (book : List Entry) (him : Seen) (k : Kind) (c : Claim) → k ≢ Nothing → him ≡ (token k c, []) → MatchesSeen book him
    → (c.slot < length book) × (entry_at book c.slot ≡ entry (phase_of k) c.generation c.bytes)
claims_entry book him k c some_kind is agrees = subst (MatchesSeen book) is agrees some_kind

module _ (named t0 : TableId) (m0 : Seen) (old : Depot) (keeper : IsKeeper named t0 m0 old) (key : Key) where
  knows : m0.0.book ≡ slot_entries old
  knows = ap (λ (m : Seen). m.0.book) keeper.knows

  pub generation_there : (new : Depot) → Begins old key new → generation_at m0.0.book key.slot ≡ key.generation
  generation_there new b = ap (λ (x : Entry). x.generation) ((λ n. entry_at (knows n) key.slot) ∙ entry_there old key.slot _ b.0)

  pub slot_there : (new : Depot) → Begins old key new
      → (word_of key.slot < named.words) × (key.slot < length m0.0.book) × ((entry_at m0.0.book key.slot).phase ≡ Free)
  slot_there new b =
      let within : key.slot < length old.slots = slice_get_within old.slots key.slot _ b.0 in
      let size : length m0.0.book ≡ length old.slots = ap length knows ∙ length-map old.slots entry_of in (
        omega (arith, within, keeper.long),
        omega (arith, within, size),
        ap (λ (x : Entry). x.phase) ((λ n. entry_at (knows n) key.slot) ∙ entry_there old key.slot _ b.0),
      )

  pub draft_kept : (new : Depot) → Begins old key new → (t1 t2 : TableId) (m1 m2 : Seen) → t1 ≡ t0 → m1 ≡ (begun m0.0 key.slot, []) → t2 ≡ t1
      → m2 ≡ (resting m1.0.book, []) → IsKeeper named t2 m2 new
  draft_kept new b t1 t2 m1 m2 same1 is1 same2 is2 =
      kept_on named t0 t2 m0 m2 old new key.slot _ m0.0.book key.slot (entry Drafted (generation_at m0.0.book key.slot) []) keeper (begins_turned old key new b)
      (same2 ∙ same1) (is2 ∙ ap (λ (m : Seen). (resting m.0.book, [])) is1) refl refl (ap (λ (g : ℕ). entry Drafted g []) (generation_there new b))

  pub put_kept : (new : Depot) (more : List ℕ) → Puts old key more new → (him : Seen) (c : Claim) → him ≡ (token Draft c, []) → key.slot ≡ c.slot
      → MatchesSeen m0.0.book him
      → (t1 t2 t3 : TableId) (m1 m2 m3 : Seen) → t1 ≡ t0 → m1 ≡ (keeping m0.0.book him.0.kind him.0.claim, []) → t2 ≡ t1 → m2 ≡ (put m1.0 more, []) → t3 ≡ t2
      → m3 ≡ (resting m2.0.book, []) → IsKeeper named t3 m3 new
  put_kept new more p him c is place agrees t1 t2 t3 m1 m2 m3 same1 is1 same2 is2 same3 is3 =
      let there = claims_entry m0.0.book him Draft c (λ e. absurd (cc)) is agrees in
      let now : m1 ≡ (keeping m0.0.book Draft c, []) = is1 ∙ ap (λ (m : Seen). (keeping m0.0.book m.0.kind m.0.claim, [])) is in
      let e = agreed old m0.0.book key.slot c.slot _ _ knows (sym place) there.1 (used old key _ p.draft (λ q. cc)) in
      kept_on named t0 t3 m0 m3 old new key.slot _ m0.0.book c.slot (entry Drafted c.generation (c.bytes ++ more)) keeper (puts_turned old key more new p)
      (same3 ∙ same2 ∙ same1) (is3 ∙ ap (λ (m : Seen). (resting m.0.book, [])) is2 ∙ ap (λ (m : Seen). (resting (put m.0 more).book, [])) now) refl (sym place)
      (ap (λ (x : Entry). entry Drafted x.generation (x.bytes ++ more)) e)

  pub seal_kept : (new : Depot) (n : ℕ) → 1 ≤ n → Seals old key n new → (him : Seen) (c : Claim) → him ≡ (token Draft c, []) → key.slot ≡ c.slot
      → MatchesSeen m0.0.book him
      → (w : ℕ) (t1 t2 t3 : TableId) (m1 m2 m3 : Seen) → t1 ≡ t0 → m1 ≡ (keeping m0.0.book him.0.kind him.0.claim, []) → t2 ≡ t1 → m2 ≡ (sealed m1.0 w, [])
      → t3 ≡ t2 → m3 ≡ (resting m2.0.book, []) → IsKeeper named t3 m3 new
  seal_kept new n some s him c is place agrees w t1 t2 t3 m1 m2 m3 same1 is1 same2 is2 same3 is3 =
      let there = claims_entry m0.0.book him Draft c (λ e. absurd (cc)) is agrees in
      let now : m1 ≡ (keeping m0.0.book Draft c, []) = is1 ∙ ap (λ (m : Seen). (keeping m0.0.book m.0.kind m.0.claim, [])) is in
      let e = agreed old m0.0.book key.slot c.slot _ _ knows (sym place) there.1 (used old key _ s.draft (λ q. cc)) in
      kept_on named t0 t3 m0 m3 old new key.slot _ m0.0.book c.slot (entry Sealed c.generation c.bytes) keeper (seals_turned old key n new some s)
      (same3 ∙ same2 ∙ same1) (is3 ∙ ap (λ (m : Seen). (resting m.0.book, [])) is2 ∙ ap (λ (m : Seen). (resting (sealed m.0 w).book, [])) now) refl (sym place)
      (ap (λ (x : Entry). entry Sealed x.generation x.bytes) e)

  pub free_kept : (new : Depot) → Turned old new key.slot (slot_given_back key.generation) → (him : Seen) (t1 t2 : TableId) (m1 m2 : Seen) → t1 ≡ t0
      → m1 ≡ (keeping m0.0.book him.0.kind him.0.claim, [])
      → t2 ≡ t1 → m2 ≡ (resting (entered m1.0.book key.slot (entry_of (slot_given_back key.generation))), []) → IsKeeper named t2 m2 new
  free_kept new t him t1 t2 m1 m2 same1 is1 same2 is2 =
      let e : Entry = entry_of (slot_given_back key.generation) in
      kept_on named t0 t2 m0 m2 old new key.slot _ m0.0.book key.slot e keeper t (same2 ∙ same1)
      (is2 ∙ ap (λ (m : Seen). (resting (entered m.0.book key.slot e), [])) is1) refl refl refl

  -- the arena holds a joined hold's or Spent's message
  pub sealed_joined : (him : Seen) (k : Kind) (c : Claim) → k ≢ Nothing → phase_of k ≡ Sealed → him ≡ (token k c, []) → key.slot ≡ c.slot
      → key.generation ≡ c.generation → MatchesSeen m0.0.book him → IsSealed old key c.bytes
  sealed_joined him k c some_kind phase is place generation agrees =
      let there = claims_entry m0.0.book him k c some_kind is agrees in
      sealed_under old key c.bytes m0.0.book knows place there.0
      ((λ n. entry_at m0.0.book (place n)) ∙ there.1 ∙ (λ n. entry (phase n) (sym generation n) c.bytes)) keeper.counts
