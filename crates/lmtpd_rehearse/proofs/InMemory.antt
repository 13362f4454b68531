-- Turns at a mailbox in memory that was empty: nobody else changes it, and a lock is refused just where a call failed
-- before. So up to the first turn that broke none was missed, and after it each was.
use Rattle.std.proofs.Common.{◌≡◌, ℕ, zero, suc, ◌+◌, ◌≤◌, List, [], ◌∷◌, ◌++◌, length, take, drop, Bool, true, false, Option, Some, refl, ap, sym, ◌∙◌, subst}
use Rattle.std.proofs.Common.{append_assoc, append-nil, arith, length-append}
use Rattle.std.specs.Prelude.{flat_map, nat_lt, slice_get, if◌then◌else◌}
use Rattle.std.specs.List.{AllByRecursion}
use Rattle.std.proofs.lemmas.Bool.Decides.{nat_tests}
use Rattle.mail_world.specs.declared.Note.{Note}
use Rattle.mail_world.specs.declared.Outcome.{Outcome}
use Rattle.mail_world.specs.declared.Outcome.TheVariants.{Stored, Failed, NoRoom, TooLarge, Malformed, OverQuota}
use Rattle.mail_world.specs.Prefixes.{IsPrefix}
use Rattle.mail_world.specs.Site.{Site}
use Rattle.mail_world.specs.Records.{Calendar, record_of, mailbox}
use Rattle.mail_world.specs.Endings.{mended}
use Rattle.mail_world.specs.Quotas.{fits, are_kept_after, are_kept, kept, marked, outcomes_settled}
use Rattle.mail_world.specs.Deliveries.{IsTorn}
use Rattle.mail_world.specs.Turns.{Turn, NotHad, Had, Told, addition, has_room, IsTurn, HaveTurns, left_after, left_by, BeginsAt, AreAlone, breaks_last, last_broke}
use Rattle.mail_world.proofs.MendedRecords.{mended_record}
use Rattle.mail_runs.specs.Courses.{outcomes_in}
use Rattle.mbox_spool.specs.Spool.{IsFull}
use Rattle.box_worker.specs.Turned.{is_not_had, AreRefused, IsFullWhereBroken}
use Rattle.lmtpd_rehearse.specs.Copies.{HoldsCopies}

abbrev pub RefusesAfterFault : Bool → Bool → Type 0
RefusesAfterFault broke refused = refused ≡ broke

abbrev missed : Told
missed = record { outcome = Failed; turn = NotHad }

module _ (calendar : Calendar) (site : Site) (quota limit : Option ℕ) where
  abbrev text_of : Note → List ℕ
  text_of note = record_of calendar site note

  abbrev marks_of : List ℕ → List Note → List Bool
  marks_of bytes notes = are_kept_after calendar site quota (length bytes) notes

  -- What copies come to of which those with a mark fit: the first were settled, and after their records there is a
  -- prefix of the next one at most.
  record HoldsFrom (bytes : List ℕ) (marks : List Bool) (notes : List Note) (outcomes : List Outcome) (left : List ℕ) (failed : Bool) : Type 0 where
    settled : ℕ
    torn : List ℕ
    within : settled ≤ length notes
    told : outcomes ≡ outcomes_settled settled marks
    held : left ≡ bytes ++ (flat_map text_of (marked (take settled marks) (take settled notes)) ++ torn)
    tears : IsTorn calendar site (marked (drop settled marks) (drop settled notes)) torn
    fails : failed ≡ nat_lt settled (length notes)
    next : failed ≡ true → slice_get marks settled ≡ Some true
    full : failed ≡ true → IsFull limit left

  -- ---- once a turn broke

  is_missed : (note : Note) (outcome : Outcome) (turn : Turn) → IsTurn calendar site quota note outcome turn → is_not_had turn ≡ true
      → record { outcome = outcome; turn = turn } ≡ missed
  is_missed note outcome (Had lock unlock) is e = cc
  is_missed note Failed NotHad is e = refl
  is_missed note Stored NotHad is e = absurd is
  is_missed note OverQuota NotHad is e = absurd is
  is_missed note NoRoom NotHad is e = absurd is
  is_missed note TooLarge NotHad is e = absurd is
  is_missed note Malformed NotHad is e = absurd is

  record AllMissed (len : ℕ) (notes : List Note) (turns : List Told) : Type 0 where
    told : outcomes_in turns ≡ outcomes_settled 0 (are_kept_after calendar site quota len notes)
    broke : last_broke true turns ≡ true
    left : (bytes : List ℕ) → left_by bytes turns ≡ bytes

  all_missed : (len : ℕ) (notes : List Note) (turns : List Told) → HaveTurns calendar site quota notes turns → AreRefused RefusesAfterFault true turns
      → AllMissed len notes turns
  all_missed len [] [] have refused = record { told = refl; broke = refl; left = λ bytes. refl }
  all_missed len [] (told ∷ turns) have refused = absurd have
  all_missed len (x ∷ notes) [] have refused = absurd have
  all_missed len (x ∷ notes) (told ∷ turns) have refused =
      let size = length (text_of x) in
      let is : told ≡ missed = is_missed x told.outcome told.turn have.0 refused.0 in
      let more = all_missed (if fits quota len size then len + size else len) notes turns have.1
      (subst (λ (d : Told). AreRefused RefusesAfterFault (breaks_last true d.outcome d.turn) turns) is refused.1) in
      record {
        told = ap (λ (d : Told). d.outcome ∷ outcomes_in turns) is ∙ ap (λ l. Failed ∷ l) more.told;
        broke = ap (λ (d : Told). last_broke (breaks_last true d.outcome d.turn) turns) is ∙ more.broke;
        left = λ bytes. ap (λ (d : Told). left_by (left_after bytes d.turn) turns) is ∙ more.left bytes;
      }

  -- ---- one copy, after bytes of which nothing is to be mended

  -- what is there at the lock is measured alone
  measured : (note : Note) (lock bytes : List ℕ) (t : Bool) → has_room calendar site quota note lock ≡ t → lock ≡ bytes → mended bytes ≡ []
      → fits quota (length bytes) (length (text_of note)) ≡ t
  measured note lock bytes t room at clean =
      let fits_after : List ℕ → Bool = λ l. fits quota (length l) (length (text_of note)) in
      sym (ap (λ m. fits_after (bytes ++ m)) clean ∙ ap fits_after (append-nil bytes)) ∙ ap (has_room calendar site quota note) (sym at) ∙ room

  -- and the record is appended alone
  appends : (note : Note) (lock bytes : List ℕ) → lock ≡ bytes → mended bytes ≡ [] → addition calendar site note lock ≡ text_of note
  appends note lock bytes at clean = ap (addition calendar site note) at ∙ ap (λ m. m ++ text_of note) clean

  abbrev marked_by : Bool → ℕ → Note → List Note → List Bool
  marked_by t len note notes = t ∷ are_kept_after calendar site quota (if t then len + length (text_of note) else len) notes

  abbrev added : Bool → Note → List ℕ
  added t note = if t then text_of note else []

  length-added : (t : Bool) (bytes : List ℕ) (note : Note)
      → (if t then length bytes + length (text_of note) else length bytes) ≡ length (bytes ++ added t note)
  length-added true bytes note = sym (length-append bytes (text_of note))
  length-added false bytes note = ap length (sym (append-nil bytes))

  held_more : (t : Bool) (note : Note) (bytes left torn : List ℕ) (marks : List Bool) (notes : List Note)
      → left ≡ (bytes ++ added t note) ++ (flat_map text_of (marked marks notes) ++ torn)
      → left ≡ bytes ++ (flat_map text_of (marked (t ∷ marks) (note ∷ notes)) ++ torn)
  held_more true note bytes left torn marks notes e =
      let more : List ℕ = flat_map text_of (marked marks notes) in
      e ∙ append_assoc bytes (text_of note) (more ++ torn) ∙ ap (λ l. bytes ++ l) (sym (append_assoc (text_of note) more torn))
  held_more false note bytes left torn marks notes e = e ∙ ap (λ l. l ++ (flat_map text_of (marked marks notes) ++ torn)) (append-nil bytes)

  one_settled : (t : Bool) (note : Note) (notes : List Note) (lock after bytes : List ℕ) (outcomes : List Outcome) (left : List ℕ) (failed : Bool)
      → has_room calendar site quota note lock ≡ t → lock ≡ bytes → mended bytes ≡ [] → after ≡ bytes ++ added t note
      → HoldsFrom after (marks_of after notes) notes outcomes left failed
      → HoldsFrom bytes (marks_of bytes (note ∷ notes)) (note ∷ notes) ((if t then Stored else OverQuota) ∷ outcomes) left failed
  one_settled t note notes lock after bytes outcomes left failed room at clean is h =
      let marks : marks_of bytes (note ∷ notes) ≡ t ∷ marks_of after notes =
      ap (λ b. marked_by b (length bytes) note notes) (measured note lock bytes t room at clean)
      ∙ ap (λ n. t ∷ are_kept_after calendar site quota n notes) (length-added t bytes note ∙ ap length (sym is)) in
      let M : List Bool → Type 0 = λ ms. HoldsFrom bytes ms (note ∷ notes) ((if t then Stored else OverQuota) ∷ outcomes) left failed in
      let within = h.within in
      let first : List Bool = take h.settled (marks_of after notes) in
      subst M (sym marks) (record {
        settled = suc h.settled;
        torn = h.torn;
        within = omega (arith, within);
        told = ap (λ l. (if t then Stored else OverQuota) ∷ l) h.told;
        held = held_more t note bytes left h.torn first (take h.settled notes)
            (h.held ∙ ap (λ b. b ++ (flat_map text_of (marked first (take h.settled notes)) ++ h.torn)) is);
        tears = h.tears;
        fails = h.fails ∙ later h.settled (length notes);
        next = h.next;
        full = h.full;
      })
    where
      later : (n m : ℕ) → nat_lt n m ≡ nat_lt (suc n) (suc m)
      later n m = grind (arith, nat_tests)

  one_turn : (bytes : List ℕ) (note : Note) (notes : List Note) (outcome : Outcome) (turn : Turn) (turns : List Told) → mended bytes ≡ []
      → IsTurn calendar site quota note outcome turn → HaveTurns calendar site quota notes turns → BeginsAt bytes turn → is_not_had turn ≡ false
      → AreRefused RefusesAfterFault (breaks_last false outcome turn) turns → IsFullWhereBroken limit outcome turn
      → (let after : List ℕ = left_after bytes turn in mended after ≡ [] → AreRefused RefusesAfterFault false turns
      → HoldsFrom after (marks_of after notes) notes (outcomes_in turns) (left_by after turns) (last_broke false turns))
      → HoldsFrom bytes (marks_of bytes (note ∷ notes)) (note ∷ notes) (outcome ∷ outcomes_in turns) (left_by (left_after bytes turn) turns)
      (last_broke (breaks_last false outcome turn) turns)
  one_turn bytes note notes outcome NotHad turns clean is have at e refused full more = cc
  one_turn bytes note notes NoRoom (Had lock unlock) turns clean is have at e refused full more = absurd is
  one_turn bytes note notes TooLarge (Had lock unlock) turns clean is have at e refused full more = absurd is
  one_turn bytes note notes Malformed (Had lock unlock) turns clean is have at e refused full more = absurd is
  one_turn bytes note notes Stored (Had lock unlock) turns clean is have at e refused full more =
      let whole : unlock.bytes ≡ bytes ++ text_of note =
      is.whole ∙ ap (λ b. b ++ addition calendar site note lock.bytes) at ∙ ap (λ l. bytes ++ l) (appends note lock.bytes bytes at clean) in
      one_settled true note notes lock.bytes unlock.bytes bytes _ _ _ is.room at clean whole (more (ap mended whole ∙ mended_record calendar site note bytes) refused)
  one_turn bytes note notes OverQuota (Had lock unlock) turns clean is have at e refused full more =
      let same : unlock.bytes ≡ bytes = is.same ∙ at in
      one_settled false note notes lock.bytes unlock.bytes bytes _ _ _ is.room at clean (same ∙ sym (append-nil bytes)) (more (ap mended same ∙ clean) refused)
  one_turn bytes note notes Failed (Had lock unlock) turns clean is have at e refused full more =
      let len : ℕ = length bytes + length (text_of note) in
      let rest = all_missed len notes turns have refused in
      let stays : left_by unlock.bytes turns ≡ unlock.bytes = rest.left unlock.bytes in
      let marks : marks_of bytes (note ∷ notes) ≡ true ∷ are_kept_after calendar site quota len notes =
      ap (λ t. marked_by t (length bytes) note notes) (measured note lock.bytes bytes true is.room at clean) in
      let M : List Bool → Type 0 = λ ms.
      HoldsFrom bytes ms (note ∷ notes) (Failed ∷ outcomes_in turns) (left_by unlock.bytes turns) (last_broke true turns) in
      subst M (sym marks) (record {
        settled = 0;
        torn = is.prefix;
        within = omega arith;
        told = ap (λ l. Failed ∷ l) rest.told;
        held = stays ∙ is.left ∙ ap (λ b. b ++ is.prefix) at;
        tears = subst (λ text. IsPrefix is.prefix text) (appends note lock.bytes bytes at clean) is.part;
        fails = rest.broke ∙ grind (arith, nat_tests);
        next = λ broke. refl;
        full = λ broke. subst (λ b. IsFull limit b) (sym stays) full;
      })

  comes_to : (bytes : List ℕ) (notes : List Note) (turns : List Told) → mended bytes ≡ [] → HaveTurns calendar site quota notes turns → AreAlone bytes turns
      → AreRefused RefusesAfterFault false turns → AllByRecursion (λ (d : Told). IsFullWhereBroken limit d.outcome d.turn) turns
      → HoldsFrom bytes (marks_of bytes notes) notes (outcomes_in turns) (left_by bytes turns) (last_broke false turns)
  comes_to bytes [] (told ∷ turns) clean have alone refused full = absurd have
  comes_to bytes (note ∷ notes) [] clean have alone refused full = absurd have
  comes_to bytes (note ∷ notes) (told ∷ turns) clean have alone refused full =
      one_turn bytes note notes told.outcome told.turn turns clean have.0 have.1 alone.0 refused.0 refused.1 full.0
      (λ again so. comes_to (left_after bytes told.turn) notes turns again have.1 alone.1 so full.1)
  comes_to bytes [] [] clean have alone refused full = record {
    settled = 0;
    torn = [];
    within = omega arith;
    told = refl;
    held = sym (append-nil bytes);
    tears = refl;
    fails = grind (arith, nat_tests);
    next = λ e. cc;
    full = λ e. cc;
  }

  -- ---- a mailbox that was empty

  mailbox_empty : (notes : List Note) → mailbox calendar site [] notes ≡ flat_map text_of notes
  mailbox_empty [] = refl
  mailbox_empty (note ∷ notes) = refl

  -- the marks of the first copies are the first marks
  marks_prefix : (n len : ℕ) (notes : List Note) → are_kept_after calendar site quota len (take n notes) ≡ take n (are_kept_after calendar site quota len notes)
  marks_prefix zero len notes = refl
  marks_prefix (suc n) len [] = refl
  marks_prefix (suc n) len (x ∷ notes) =
      let size = length (text_of x) in let t = fits quota len size in ap (λ l. t ∷ l) (marks_prefix n (if t then len + size else len) notes)

  -- what a spool in memory comes to that held nothing at first, by its turns
  pub in_memory : (copies : List Note) (turns : List Told) → HaveTurns calendar site quota copies turns → AreAlone [] turns
      → AreRefused RefusesAfterFault false turns → AllByRecursion (λ (d : Told). IsFullWhereBroken limit d.outcome d.turn) turns
      → HoldsCopies calendar site quota copies (outcomes_in turns) (left_by [] turns) (last_broke false turns)
      × (last_broke false turns ≡ true → IsFull limit (left_by [] turns))
  unfolding are_kept
  in_memory copies turns have alone refused full =
      let h = comes_to [] copies turns refl have alone refused full in
      let first : List Note = take h.settled copies in
      let holds : mailbox calendar site [] (kept calendar site quota [] first) ≡ flat_map text_of (marked (take h.settled (marks_of [] copies)) first) =
      mailbox_empty (kept calendar site quota [] first) ∙ ap (λ ms. flat_map text_of (marked ms first)) (marks_prefix h.settled 0 copies) in (
        record {
          settled = h.settled;
          torn = h.torn;
          within = h.within;
          told = h.told;
          held = h.held ∙ ap (λ l. l ++ h.torn) (sym holds);
          tears = h.tears;
          fails = h.fails;
          next = h.next;
        },
        h.full,
      )
