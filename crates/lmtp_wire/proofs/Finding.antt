-- A search for a needle finds the place of the definitions.
use Rattle.std.proofs.Common.{◌≡◌, ℕ, ◌+◌, ◌<◌, ◌≤◌, List, ◌∷◌, ◌++◌, length, take, drop, get_or, Option, Some, None, refl, sym, ap, ◌∙◌, arith, append_assoc}
use Rattle.std.proofs.Common.{length-append, get_or-append-add, take-append-drop}
use Rattle.std.proofs.lemmas.List.{get_or_append_left, length-take-le}
use Rattle.memchr.specs.Find.{OccursAt, FindsNeedle}
use Rattle.memchr.proofs.lemmas.MatchLemmas.{OccursAt-part}
use Rattle.mail_world.specs.Text.{place_of, StandsAt}
use Rattle.mail_world.proofs.Places.{place_of_stands, place_of_least}

stands_occurs : (part text : List ℕ) (n : ℕ) → StandsAt part text n → OccursAt text part n
stands_occurs part text n at =
    let whole : text ≡ at.prefix ++ (part ++ at.rest) = at.whole ∙ append_assoc at.prefix part at.rest in
    let fits : n + length part ≤ length text =
    omega (arith, at.place, ap length whole, length-append at.prefix (part ++ at.rest), length-append part at.rest) in
    record {
      fits = fits;
      reads = λ j h. ap (λ (l : List ℕ). get_or l (n + j) 0) whole
          ∙ ap (λ k. get_or (at.prefix ++ (part ++ at.rest)) (k + j) 0) (sym at.place)
          ∙ get_or-append-add at.prefix (part ++ at.rest) j 0
          ∙ get_or_append_left part at.rest 0 j h;
    }

occurs_stands : (part text : List ℕ) (n : ℕ) → OccursAt text part n → StandsAt part text n
occurs_stands part text n h =
    let fits = h.fits in
    record {
      prefix = take n text;
      rest = drop (length part) (drop n text);
      whole = sym (take-append-drop n text)
          ∙ ap (λ l. take n text ++ l) (sym (take-append-drop (length part) (drop n text))
          ∙ ap (λ l. l ++ drop (length part) (drop n text)) (OccursAt-part text part n h)) ∙ sym (append_assoc (take n text) part _);
      place = length-take-le n text (omega arith);
    }

by_order : (k m : ℕ) → m ≤ k → (m < k → ⊥) → k ≡ m
by_order k m le higher = omega (arith, higher)

found_by : (p : ℕ) (part text : List ℕ) (r o : Option ℕ) → place_of (p ∷ part) text ≡ o → FindsNeedle text (p ∷ part) 0 r → r ≡ o
found_by p part text None None e h = refl
found_by p part text None (Some m) e h =
    let at = stands_occurs (p ∷ part) text m (place_of_stands (p ∷ part) text m e) in
    let fits = at.fits in absurd (h m (omega arith) (omega arith) at)
found_by p part text (Some k) None e h =
    let by = place_of_least p part text k (occurs_stands (p ∷ part) text k h.1) in
    let found = by.found in cc
found_by p part text (Some k) (Some m) e h =
    let by = place_of_least p part text k (occurs_stands (p ∷ part) text k h.1) in
    let same : ◌≡◌ {A = Option ℕ} (Some by.place) (Some m) = sym by.found ∙ e in
    let is : by.place ≡ m = cc in
    let least = by.least in
    let none : k ≡ m = by_order k m (omega arith)
    (λ lt. h.0.before m (omega arith) lt (stands_occurs (p ∷ part) text m (place_of_stands (p ∷ part) text m e))) in
    ap (λ x. Some x) none

pub finds_place : (p : ℕ) (part text : List ℕ) (r : Option ℕ) → FindsNeedle text (p ∷ part) 0 r → r ≡ place_of (p ∷ part) text
finds_place p part text r h = found_by p part text r (place_of (p ∷ part) text) refl h
