-- The steps of one lane among those of all.
use Rattle.std.proofs.Common.{◌≡◌, ◌≢◌, ◌==◌, ℕ, Bool, true, false, ◌||◌, ◌≤◌, cond, List, [], ◌∷◌, ◌++◌, length, refl, sym, ap, ◌∙◌, true≢false, append-nil}
use Rattle.std.proofs.Common.{arith}
use Rattle.std.proofs.lemmas.Bool.{eq-eqb, ne_eqb, cond-true, cond-false}
use Rattle.std.proofs.lemmas.List.Elements.{filter-append}
use Rattle.mail_post.specs.declared.rule.Parcel.{Parcel}
use Rattle.mail_post.specs.declared.rule.Parcel.TheVariants.{Copy, Mark}
use Rattle.mail_post.specs.Parcels.{of, lane_of, part, messages, has_mark, all_of_lane}

module _ {M : Type 0} (lane : M → ℕ) where
  pub part-append : (k : ℕ) (xs ys : List (Parcel M)) → part lane k (xs ++ ys) ≡ part lane k xs ++ part lane k ys
  part-append k xs ys = filter-append (λ x. lane_of lane x == k) xs ys

  pub part-here : (k : ℕ) (x : Parcel M) → lane_of lane x ≡ k → part lane k (x ∷ []) ≡ x ∷ []
  part-here k x e = cond-true (lane_of lane x == k) (x ∷ []) [] (eq-eqb (lane_of lane x) k e)

  pub part-else : (k : ℕ) (x : Parcel M) → lane_of lane x ≢ k → part lane k (x ∷ []) ≡ []
  part-else k x n = cond-false (lane_of lane x == k) (x ∷ []) [] (ne_eqb (lane_of lane x) k n)

  pub copies-append : (xs ys : List (Parcel M)) → messages (xs ++ ys) ≡ messages xs ++ messages ys
  copies-append [] ys = refl
  copies-append (Copy n ∷ xs) ys = ap (λ l. n ∷ l) (copies-append xs ys)
  copies-append (Mark j ∷ xs) ys = copies-append xs ys

  -- the messages are at most all parcels
  pub messages_at_most : (xs : List (Parcel M)) → length (messages xs) ≤ length xs
  messages_at_most [] = omega arith
  messages_at_most (Copy n ∷ xs) = let more = messages_at_most xs in omega arith
  messages_at_most (Mark j ∷ xs) = let more = messages_at_most xs in omega arith

  pub of-copies : (k : ℕ) (xs : List (Parcel M)) → of lane k (messages xs) ≡ messages (part lane k xs)
  of-copies k [] = refl
  of-copies k (Copy n ∷ xs) =
      let more : of lane k (messages xs) ≡ messages (part lane k xs) = of-copies k xs in
      elim (lane n == k) as (λ b. cond b (n ∷ of lane k (messages xs)) (of lane k (messages xs)) ≡ messages (cond b (Copy n ∷ part lane k xs) (part lane k xs)))
      [ true ↦ ap (λ l. n ∷ l) more | false ↦ more ]
  of-copies k (Mark j ∷ xs) =
      let more : of lane k (messages xs) ≡ messages (part lane k xs) = of-copies k xs in
      elim (j == k) as (λ b. of lane k (messages xs) ≡ messages (cond b (Mark j ∷ part lane k xs) (part lane k xs))) [ true ↦ more | false ↦ more ]

  pub copies-all_of_lane : (k : ℕ) (s : List M) (b : Bool) → messages (all_of_lane k s b) ≡ s
  copies-all_of_lane k [] false = refl
  copies-all_of_lane k [] true = refl
  copies-all_of_lane k (n ∷ ns) b = ap (λ l. n ∷ l) (copies-all_of_lane k ns b)

  pub has_mark-append : (k : ℕ) (xs ys : List (Parcel M)) → has_mark k (xs ++ ys) ≡ (has_mark k xs || has_mark k ys)
  has_mark-append k [] ys = refl
  has_mark-append k (Copy n ∷ xs) ys = has_mark-append k xs ys
  has_mark-append k (Mark j ∷ xs) ys =
      let more : has_mark k (xs ++ ys) ≡ (has_mark k xs || has_mark k ys) = has_mark-append k xs ys in
      elim (j == k) as (λ b. (b || has_mark k (xs ++ ys)) ≡ ((b || has_mark k xs) || has_mark k ys)) [ true ↦ refl | false ↦ more ]

  ended_cond : (k j : ℕ) (xs : List (Parcel M)) → has_mark k (part lane k xs) ≡ has_mark k xs → (b : Bool) → (j == k) ≡ b
      → has_mark k (cond b (Mark j ∷ part lane k xs) (part lane k xs)) ≡ (b || has_mark k xs)
  ended_cond k j xs more true e = ap (λ t. t || has_mark k (part lane k xs)) e
  ended_cond k j xs more false e = more

  pub has_mark-part : (k : ℕ) (xs : List (Parcel M)) → has_mark k (part lane k xs) ≡ has_mark k xs
  has_mark-part k [] = refl
  has_mark-part k (Copy n ∷ xs) =
      let more : has_mark k (part lane k xs) ≡ has_mark k xs = has_mark-part k xs in
      elim (lane n == k) as (λ b. has_mark k (cond b (Copy n ∷ part lane k xs) (part lane k xs)) ≡ has_mark k xs) [ true ↦ more | false ↦ more ]
  has_mark-part k (Mark j ∷ xs) = ended_cond k j xs (has_mark-part k xs) (j == k) refl

  pub all_of_lane-put : (k : ℕ) (s : List M) (n : M) → all_of_lane k s false ++ Copy n ∷ [] ≡ all_of_lane k (s ++ n ∷ []) false
  all_of_lane-put k [] n = refl
  all_of_lane-put k (m ∷ s) n = ap (λ l. Copy m ∷ l) (all_of_lane-put k s n)

  pub all_of_lane-end : (k : ℕ) (s : List M) → all_of_lane k s false ++ Mark k ∷ [] ≡ all_of_lane k s true
  all_of_lane-end k [] = refl
  all_of_lane-end k (m ∷ s) = ap (λ l. Copy m ∷ l) (all_of_lane-end k s)

  -- a prefix of what a lane puts in all is copies, and after them at most its mark
  pub prefix : (k : ℕ) (xs ys : List (Parcel M)) (s : List M) (b : Bool) → xs ++ ys ≡ all_of_lane k s b → (t : List M) × (c : Bool) × (xs ≡ all_of_lane k t c)
  prefix k [] ys s b e = ([], false, refl)
  prefix k (x ∷ xs) ys [] false e = absurd (cc)
  prefix k (x ∷ []) ys [] true e = ([], true, cc)
  prefix k (x ∷ y ∷ xs) ys [] true e = absurd (cc)
  prefix k (x ∷ xs) ys (n ∷ ns) b e =
      let h : x ≡ Copy n = cc in
      let more = prefix k xs ys ns b (cc) in
      (n ∷ more.0, more.1, (λ i. h i ∷ more.2 i))

  -- nothing stands after a lane's mark
  pub prefix-has_mark : (k : ℕ) (xs ys : List (Parcel M)) (s : List M) (b : Bool) → xs ++ ys ≡ all_of_lane k s b → has_mark k xs ≡ true → ys ≡ []
  prefix-has_mark k [] ys s b e h = absurd (true≢false (sym h))
  prefix-has_mark k (x ∷ xs) ys [] false e h = absurd (cc)
  prefix-has_mark k (x ∷ []) ys [] true e h = cc
  prefix-has_mark k (x ∷ y ∷ xs) ys [] true e h = absurd (cc)
  prefix-has_mark k (x ∷ xs) ys (n ∷ ns) b e h =
      let i : x ≡ Copy n = cc in
      let rest : xs ++ ys ≡ all_of_lane k ns b = cc in
      prefix-has_mark k xs ys ns b rest (ap (λ y. has_mark k (y ∷ xs)) (sym i) ∙ h)

  -- all of a lane whose mark is among its steps
  pub all-there : (k : ℕ) (xs ys : List (Parcel M)) (s : List M) (b : Bool) → xs ++ ys ≡ all_of_lane k s b → has_mark k xs ≡ true → messages xs ≡ s
  all-there k xs ys s b e h =
      let none : ys ≡ [] = prefix-has_mark k xs ys s b e h in
      ap messages (sym (append-nil xs) ∙ ap (λ l. xs ++ l) (sym none) ∙ e) ∙ copies-all_of_lane k s b
