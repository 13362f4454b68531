-- What a mailbox with a quota keeps.
use Rattle.std.proofs.Common.{◌≡◌, ℕ, ◌+◌, ◌≤◌, arith, Bool, true, false, List, [], ◌∷◌, ◌++◌, length, Option, Some, None, refl, sym, ap, ◌∙◌, subst}
use Rattle.std.specs.List.{AllByRecursion}
use Rattle.std.specs.Prelude.{if◌then◌else◌, flat_map, nat_le}
use Rattle.std.proofs.lemmas.Bool.{leb-true}
use Rattle.std.proofs.lemmas.List.{length-append}
use Rattle.mail_world.specs.declared.Note.{Note}
use Rattle.mail_world.specs.Records.{Calendar, record_of, mailbox}
use Rattle.mail_world.specs.Endings.{mended}
use Rattle.mail_world.proofs.MendedRecords.{mailbox_mended}
use Rattle.mail_world.specs.Quotas.{fits, are_kept_after, are_kept, marked, kept}
use Rattle.mail_world.specs.Site.{Site}

-- what holds of all holds of those that are marked
pub all_marked : {A : Type 0} (P : A → Type 0) (marks : List Bool) (xs : List A) → AllByRecursion P xs → AllByRecursion P (marked marks xs)
all_marked P [] xs all = tt
all_marked P (true ∷ marks) [] all = tt
all_marked P (false ∷ marks) [] all = tt
all_marked P (true ∷ marks) (x ∷ xs) all = (all.0, all_marked P marks xs all.1)
all_marked P (false ∷ marks) (x ∷ xs) all = all_marked P marks xs all.1

module _ (calendar : Calendar) (site : Site) where
  abbrev size : Note → ℕ
  size note = length (record_of calendar site note)

  abbrev pub total : List Note → ℕ
  total notes = length (flat_map (record_of calendar site) notes)

  -- a note with its mark, and those after it
  pub grows_by : (t : Bool) (len : ℕ) (note : Note) (notes : List Note) (marks : List Bool)
      → (if t then len + size note else len) + total (marked marks notes) ≡ len + total (marked (t ∷ marks) (note ∷ notes))
  grows_by true len note notes marks =
      let e = length-append (record_of calendar site note) (flat_map (record_of calendar site) (marked marks notes)) in omega (arith, e)
  grows_by false len note notes marks = refl

  -- the bytes that stand there after these notes
  abbrev pub length_after : Option ℕ → ℕ → List Note → ℕ
  length_after quota len notes = len + total (marked (are_kept_after calendar site quota len notes) notes)

  pub next_after : (quota : Option ℕ) (len : ℕ) (notes : List Note) (note : Note)
      → are_kept_after calendar site quota len (notes ++ note ∷ []) ≡ are_kept_after calendar site quota len notes
      ++ fits quota (length_after quota len notes) (size note) ∷ []
  next_after quota len [] note = let e : len ≡ len + 0 = omega arith in ap (λ n. fits quota n (size note) ∷ []) e
  next_after quota len (x ∷ notes) note =
      let t = fits quota len (size x) in
      let after = if t then len + size x else len in
      ap (λ l. t ∷ l) (
      next_after quota after notes note
      ∙ ap (λ n. are_kept_after calendar site quota after notes ++ fits quota n (size note) ∷ [])
      (grows_by t len x notes (are_kept_after calendar site quota after notes))
      )

  pub all_after : (len : ℕ) (notes : List Note) → marked (are_kept_after calendar site None len notes) notes ≡ notes
  all_after len [] = refl
  all_after len (note ∷ notes) = ap (λ l. note ∷ l) (all_after (len + size note) notes)

  within_by : (t : Bool) (quota len size : ℕ) → nat_le (len + size) quota ≡ t → len ≤ quota → (if t then len + size else len) ≤ quota
  within_by true quota len size e h = leb-true (len + size) quota e
  within_by false quota len size e h = h

  within_after : (quota len : ℕ) (notes : List Note) → len ≤ quota → length_after (Some quota) len notes ≤ quota
  within_after quota len [] h = omega (arith, h)
  within_after quota len (note ∷ notes) h =
      let t = nat_le (len + size note) quota in
      let after = if t then len + size note else len in
      let rest = within_after quota after notes (within_by t quota len (size note) refl h) in
      subst (λ n. n ≤ quota) (grows_by t len note notes (are_kept_after calendar site (Some quota) after notes)) rest

  -- a mailbox with what mends it
  abbrev closed : List ℕ → List Note → List ℕ
  closed old notes = mailbox calendar site old notes ++ mended (mailbox calendar site old notes)

  long : (old : List ℕ) (notes : List Note) → length (old ++ mended old) + total notes ≡ length (closed old notes)
  long old notes =
      sym (ap length (mailbox_mended calendar site old notes) ∙ length-append (old ++ mended old) (flat_map (record_of calendar site) notes))

  pub all_kept : (old : List ℕ) (notes : List Note) → kept calendar site None old notes ≡ notes
  unfolding are_kept
  all_kept old notes = all_after (length (old ++ mended old)) notes

  pub kept_next : (quota : Option ℕ) (old : List ℕ) (notes : List Note) (note : Note)
      → are_kept calendar site quota old (notes ++ note ∷ [])
      ≡ are_kept calendar site quota old notes
      ++ fits quota (length (closed old (kept calendar site quota old notes))) (length (record_of calendar site note)) ∷ []
  unfolding are_kept
  kept_next quota old notes note =
      next_after quota (length (old ++ mended old)) notes note
      ∙ ap (λ n. are_kept calendar site quota old notes ++ fits quota n (size note) ∷ []) (long old (kept calendar site quota old notes))

  pub kept_within : (quota : ℕ) (old : List ℕ) (notes : List Note) → length (old ++ mended old) ≤ quota
      → length (mailbox calendar site old (kept calendar site (Some quota) old notes)) ≤ quota
  unfolding are_kept
  kept_within quota old notes h =
      let held : List ℕ = mailbox calendar site old (kept calendar site (Some quota) old notes) in
      let all : length (closed old (kept calendar site (Some quota) old notes)) ≤ quota =
      subst (λ n. n ≤ quota) (long old (kept calendar site (Some quota) old notes)) (within_after quota (length (old ++ mended old)) notes h) in
      omega (arith, length-append held (mended held))
