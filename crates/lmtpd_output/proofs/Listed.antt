-- Texts that belong to names, written one after the other.
use Rattle.std.proofs.Common.{◌≡◌, ℕ, ◌+◌, ◌<◌, List, [], ◌∷◌, ◌++◌, length, Option, drop, get_or, sym, ap, ◌∙◌, refl, subst, arith}
use Rattle.std.proofs.lemmas.List.{drop_more}
use Rattle.std.proofs.lemmas.Option.{unwrap_or-slice_get}
use Rattle.std.specs.Io.KnownBytes.{Appends}
use Rattle.mail_world.specs.Site.{Site, box_name}
use Rattle.lmtpd_output.specs.Output.{IsCutOff, pair_texts}
use Rattle.lmtpd_output.proofs.Written.{WritesUpTo, writes_next, breaks_next}

-- the name at this place of the site's mailboxes, and what belongs to it
pub record IsPairAt {X : Type 0} (site : Site) (xs : List X) (k : ℕ) (name : List ℕ) (x : X) : Type 0 where
  pub within : k < length site.boxes
  pub count : length xs ≡ length site.boxes
  pub named : name ≡ box_name site k
  pub other : X
  pub is : x ≡ get_or xs k other

pub pair_at : {X : Type 0} → (site : Site) (xs : List X) (k : ℕ) (name : List ℕ) (d : X) → k < length site.boxes → length xs ≡ length site.boxes
    → name ≡ box_name site k
    → IsPairAt site xs k name (get_or xs k d)
pair_at site xs k name d within count named = record { within = within; count = count; named = named; other = d; is = refl }

module _ {X : Type 0} (f : List ℕ → X → List ℕ) where
  pairs_split : (names : List (List ℕ)) (xs : List X) (k : ℕ) (d : X) → k < length names → length xs ≡ length names
      → pair_texts f (drop k names) (drop k xs) ≡ f (get_or names k []) (get_or xs k d) ++ pair_texts f (drop (k + 1) names) (drop (k + 1) xs)
  pairs_split names xs k d h e =
      ap (λ l. pair_texts f l (drop k xs)) (drop_more names k [] h)
      ∙ ap (λ l. pair_texts f (get_or names k [] ∷ drop (k + 1) names) l) (drop_more xs k d (omega arith))

  text_is : (site : Site) (xs : List X) (k : ℕ) (name : List ℕ) (x : X) → IsPairAt site xs k name x
      → pair_texts f (drop k site.boxes) (drop k xs) ≡ f name x ++ pair_texts f (drop (k + 1) site.boxes) (drop (k + 1) xs)
  text_is site xs k name x h =
      let rest = pair_texts f (drop (k + 1) site.boxes) (drop (k + 1) xs) in
      pairs_split site.boxes xs k h.other h.within h.count
      ∙ ap (λ n. f n (get_or xs k h.other) ++ rest) (sym (h.named ∙ unwrap_or-slice_get site.boxes k []))
      ∙ ap (λ y. f name y ++ rest) (sym h.is)

  pub pair_written : (site : Site) (xs : List X) (k : ℕ) (name : List ℕ) (x : X) (u v w : Option (List ℕ)) (text : List ℕ) → IsPairAt site xs k name x
      → WritesUpTo u v text (pair_texts f (drop k site.boxes) (drop k xs)) → Appends v w (f name x)
      → WritesUpTo u w text (pair_texts f (drop (k + 1) site.boxes) (drop (k + 1) xs))
  pair_written site xs k name x u v w text h before taken =
      let P : List ℕ → Type 0 = λ l. WritesUpTo u v text l in
      writes_next u v w text (f name x) _ (subst P (text_is site xs k name x h) before) taken

  pub pair_broken : (site : Site) (xs : List X) (k : ℕ) (name : List ℕ) (x : X) (u v w : Option (List ℕ)) (text : List ℕ) → IsPairAt site xs k name x
      → WritesUpTo u v text (pair_texts f (drop k site.boxes) (drop k xs)) → IsCutOff v w (f name x)
      → IsCutOff u w text
  pair_broken site xs k name x u v w text h before broken =
      let P : List ℕ → Type 0 = λ l. WritesUpTo u v text l in
      breaks_next u v w text (f name x) _ (subst P (text_is site xs k name x h) before) broken
