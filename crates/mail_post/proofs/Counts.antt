-- How many lanes' marks were taken.
use Rattle.std.proofs.Common.{◌≡◌, ◌≢◌, ◌+◌, ◌≤◌, ◌<◌, ◌⊎◌, ℕ, zero, suc, Bool, true, false, ◌||◌, cond, List, [], ◌∷◌, ◌++◌, refl, sym, ap, ◌∙◌, ⊎_elim, arith}
use Rattle.std.proofs.lemmas.Bool.{eq-eqb, ne_eqb, false_from_ne_true}
use Rattle.mail_post.specs.declared.rule.Parcel.{Parcel}
use Rattle.mail_post.specs.declared.rule.Parcel.TheVariants.{Copy, Mark}
use Rattle.mail_post.specs.Parcels.{lane_of, part, has_mark}
use Rattle.mail_post.specs.Rule.{IsFair}
use Rattle.mail_post.specs.Channel.{count_senders}
use Rattle.mail_post.proofs.Parcels.{part-append, part-here, has_mark-append, has_mark-part, prefix-has_mark}

or_false : (b : Bool) → (b || false) ≡ b
or_false true = refl
or_false false = refl

or_true : (b : Bool) → (b || true) ≡ true
or_true true = refl
or_true false = refl

same? : (j k : ℕ) → (j ≡ k) ⊎ (j ≢ k)
same? j k = grind arith

below? : (k n : ℕ) → (k < n) ⊎ (n ≤ k)
below? k n = grind arith

count_same : (p q : ℕ → Bool) (n : ℕ) → ((k : ℕ) → q k ≡ p k) → count_senders q n ≡ count_senders p n
count_same p q n e = λ i. count_senders (λ k. e k i) n

count_below : (p q : ℕ → Bool) (n : ℕ) → ((k : ℕ) → k < n → q k ≡ p k) → count_senders q n ≡ count_senders p n
count_below p q zero e = refl
count_below p q (suc n) e =
    let h : count_senders q n ≡ count_senders p n = count_below p q n (λ k l. e k (omega arith)) in
    let t : q n ≡ p n = e n (omega arith) in
    λ i. cond (t i) (h i + 1) (h i)

count_step : (b c : Bool) (m n : ℕ) → b ≡ c → m ≡ n + 1 → cond b (m + 1) m ≡ cond c (n + 1) n + 1
count_step true true m n e h = ap (λ k. k + 1) h
count_step false false m n e h = h
count_step true false m n e h = absurd (cc)
count_step false true m n e h = absurd (cc)

count_more : (p q : ℕ → Bool) (j n : ℕ) → j < n → p j ≡ false → q j ≡ true → ((k : ℕ) → k ≢ j → q k ≡ p k) → count_senders q n ≡ count_senders p n + 1
count_more p q j zero l a b e = absurd (omega arith)
count_more p q j (suc n) l a b e = ⊎_elim
    (λ (is : n ≡ j).
    let h : count_senders q n ≡ count_senders p n = count_below p q n (λ k below. e k (λ t. omega arith)) in
    let x : q n ≡ true = ap q is ∙ b in
    let y : p n ≡ false = ap p is ∙ a in
    (λ i. cond (x i) (count_senders q n + 1) (count_senders q n)) ∙ (λ i. h i + 1) ∙ (λ i. cond (sym y i) (count_senders p n + 1) (count_senders p n) + 1))
    (λ (other : n ≢ j). count_step (q n) (p n) (count_senders q n) (count_senders p n) (e n other) (count_more p q j n (omega arith) a b e))
    (same? n j)

pub count_le : (p : ℕ → Bool) (n : ℕ) → count_senders p n ≤ n
count_le p zero = omega arith
count_le p (suc n) = let h = count_le p n in
    elim (p n) as (λ b. cond b (count_senders p n + 1) (count_senders p n) ≤ suc n) [ true ↦ omega arith | false ↦ omega arith ]

all_step : (p : ℕ → Bool) (n : ℕ) (b : Bool) → p n ≡ b → cond b (count_senders p n + 1) (count_senders p n) ≡ suc n → (p n ≡ true) × (count_senders p n ≡ n)
all_step p n true e h = (e, omega arith)
all_step p n false e h = let l = count_le p n in absurd (omega arith)

pub count_all : (p : ℕ → Bool) (n : ℕ) → count_senders p n ≡ n → (k : ℕ) → k < n → p k ≡ true
count_all p zero e k l = absurd (omega arith)
count_all p (suc n) e k l =
    let h = all_step p n (p n) refl e in
    ⊎_elim (λ (is : n ≡ k). ap p (sym is) ∙ h.0) (λ (other : n ≢ k). count_all p n h.1 k (omega arith)) (same? n k)

module _ {M : Type 0} (lane : M → ℕ) where
  not_nil : (l : List (Parcel M)) (x : Parcel M) → l ++ x ∷ [] ≢ []
  not_nil [] x e = cc
  not_nil (y ∷ l) x e = cc

  -- the marks whose lanes are known
  abbrev pub count_marks : List (Parcel M) → ℕ → ℕ
  count_marks got n = count_senders (λ k. has_mark k got) n

  pub after_copy : (got : List (Parcel M)) (m : M) (n : ℕ) → count_marks (got ++ Copy m ∷ []) n ≡ count_marks got n
  after_copy got m n = count_same (λ k. has_mark k got) (λ k. has_mark k (got ++ Copy m ∷ [])) n
      (λ k. has_mark-append lane k got (Copy m ∷ []) ∙ or_false (has_mark k got))

  -- the last parcel taken is one of the lanes'
  pub last_fits : (got : List (Parcel M)) (x : Parcel M) (n : ℕ) → IsFair lane n (got ++ x ∷ []) → lane_of lane x < n
  last_fits got x n fair =
      let k : ℕ = lane_of lane x in
      let both : part lane k (got ++ x ∷ []) ≡ part lane k got ++ x ∷ [] =
      part-append lane k got (x ∷ []) ∙ ap (λ l. part lane k got ++ l) (part-here lane k x refl) in
      ⊎_elim (λ (low : k < n). low) (λ (le : n ≤ k). absurd (not_nil (part lane k got) x (sym both ∙ (fair k).1 le))) (below? k n)

  pub after_mark : (got : List (Parcel M)) (j n : ℕ) → IsFair lane n (got ++ Mark j ∷ []) → count_marks (got ++ Mark j ∷ []) n ≡ count_marks got n + 1
  after_mark got j n fair =
      let both : part lane j (got ++ Mark j ∷ []) ≡ part lane j got ++ Mark j ∷ [] =
      part-append lane j got (Mark j ∷ []) ∙ ap (λ l. part lane j got ++ l) (part-here lane j (Mark j) refl) in
      let open_before : has_mark j got ≡ false = false_from_ne_true (has_mark j got)
      (λ h. not_nil [] (Mark j) (prefix-has_mark lane j (part lane j got) (Mark j ∷ []) (fair j).0.0 (fair j).0.1 (sym both ∙ (fair j).0.2)
      (has_mark-part lane j got ∙ h))) in
      count_more (λ k. has_mark k got) (λ k. has_mark k (got ++ Mark j ∷ [])) j n (last_fits got (Mark j) n fair) open_before
      (has_mark-append lane j got (Mark j ∷ []) ∙ (λ i. has_mark j got || (eq-eqb j j refl i || false)) ∙ or_true (has_mark j got))
      (λ k other. has_mark-append lane k got (Mark j ∷ []) ∙ (λ i. has_mark k got || (ne_eqb j k (λ t. other (sym t)) i || false)) ∙ or_false (has_mark k got))

  pub no_marks : (n : ℕ) → count_marks [] n ≡ 0
  no_marks zero = refl
  no_marks (suc n) = no_marks n
