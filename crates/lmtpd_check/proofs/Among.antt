-- Names that are picked from others, one after another.
use Rattle.std.proofs.Common.{◌≡◌, ◌<◌, ◌≤◌, ◌+◌, ◌++◌, ◌∷◌, [], ℕ, List, Bool, true, false, cond, length, length-append, take, get_or, inl, inr, sym, ap}
use Rattle.std.proofs.Common.{◌∙◌, refl, subst, arith}
use Rattle.std.specs.Borrow.{Bor}
use Rattle.std.proofs.lemmas.List.{get_or-map, length-map, map-append, take_more}
use Rattle.lmtp_text.specs.Sites.{texts}
use Rattle.lmtpd_check.specs.Checked.{AreAmong}

none_among : (names : List (List ℕ)) → AreAmong names []
none_among [] = tt
none_among (name ∷ names) = tt

-- one more name, that is left out
left_out : (names xs : List (List ℕ)) (n : List ℕ) → AreAmong names xs → AreAmong (names ++ n ∷ []) xs
left_out [] [] n h = tt
left_out [] (x ∷ xs) n h = absurd h
left_out (name ∷ names) [] n h = tt
left_out (name ∷ names) (x ∷ xs) n (inl h) = inl (h.0, left_out names xs n h.1)
left_out (name ∷ names) (x ∷ xs) n (inr h) = inr (left_out names (x ∷ xs) n h)

-- one more name, that is picked
picked : (names xs : List (List ℕ)) (n : List ℕ) → AreAmong names xs → AreAmong (names ++ n ∷ []) (xs ++ n ∷ [])
picked [] [] n h = inl (refl, tt)
picked [] (x ∷ xs) n h = absurd h
picked (name ∷ names) [] n h = inr (picked names [] n (none_among names))
picked (name ∷ names) (x ∷ xs) n (inl h) = inl (h.0, picked names xs n h.1)
picked (name ∷ names) (x ∷ xs) n (inr h) = inr (picked names (x ∷ xs) n h)

-- of no file
pub among_none : (names xs : List (List ℕ)) → xs ≡ [] → AreAmong names xs
among_none names xs none = let P : List (List ℕ) → Type 0 = λ l. AreAmong names l in subst P (sym none) (none_among names)

module _ (names : List (Bor (List ℕ))) (i : ℕ) (d : Bor (List ℕ)) (within : i < length names) where
  one_more : take (i + 1) (texts names) ≡ take i (texts names) ++ (get_or names i d).now ∷ []
  one_more =
      let long = length-map names (λ (name : Bor (List ℕ)). name.now) in
      let below : i < length (texts names) = omega (arith, long, within) in
      take_more (texts names) i d.now below
      ∙ ap (λ (name : List ℕ). take i (texts names) ++ name ∷ []) (get_or-map (λ (name : Bor (List ℕ)). name.now) names i d d.now within)

  among_left_out : (xs : List (List ℕ)) → AreAmong (take i (texts names)) xs → AreAmong (take (i + 1) (texts names)) xs
  among_left_out xs h =
      let P : List (List ℕ) → Type 0 = λ l. AreAmong l xs in
      subst P (sym one_more) (left_out (take i (texts names)) xs (get_or names i d).now h)

  among_picked : (xs : List (List ℕ)) → AreAmong (take i (texts names)) xs → AreAmong (take (i + 1) (texts names)) (xs ++ (get_or names i d).now ∷ [])
  among_picked xs h =
      let P : List (List ℕ) → Type 0 = λ l. AreAmong l (xs ++ (get_or names i d).now ∷ []) in
      subst P (sym one_more) (picked (take i (texts names)) xs (get_or names i d).now h)

  among_kept : (b : Bool) (xs : List (Bor (List ℕ))) → AreAmong (take i (texts names)) (texts xs)
      → AreAmong (take (i + 1) (texts names)) (texts (cond b (xs ++ get_or names i d ∷ []) xs))
  among_kept true xs h =
      let P : List (List ℕ) → Type 0 = λ l. AreAmong (take (i + 1) (texts names)) l in
      subst P (sym (map-append (λ (name : Bor (List ℕ)). name.now) xs (get_or names i d ∷ []))) (among_picked (texts xs) h)
  among_kept false xs h = among_left_out (texts xs) h

  kept_long : (b : Bool) (xs : List (Bor (List ℕ))) → length xs ≤ i → length (cond b (xs ++ get_or names i d ∷ []) xs) ≤ i + 1
  kept_long true xs h = omega (arith, length-append xs (get_or names i d ∷ []), h)
  kept_long false xs h = omega (arith, h)

  -- the names that were kept, with the next one's file looked at
  pub among_next : (b : Bool) (xs ys : List (Bor (List ℕ))) → ys ≡ cond b (xs ++ get_or names i d ∷ []) xs → AreAmong (take i (texts names)) (texts xs)
      → AreAmong (take (i + 1) (texts names)) (texts ys)
  among_next b xs ys e h =
      let P : List (Bor (List ℕ)) → Type 0 = λ l. AreAmong (take (i + 1) (texts names)) (texts l) in
      subst P (sym e) (among_kept b xs h)

  pub next_long : (b : Bool) (xs ys : List (Bor (List ℕ))) → ys ≡ cond b (xs ++ get_or names i d ∷ []) xs → length xs ≤ i → length ys ≤ i + 1
  next_long b xs ys e h =
      let P : List (Bor (List ℕ)) → Type 0 = λ l. length l ≤ i + 1 in
      subst P (sym e) (kept_long b xs h)
