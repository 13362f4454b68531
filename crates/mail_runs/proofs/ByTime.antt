-- Several lists whose elements have times that rise, merged into one by time.
use Rattle.std.proofs.Common.{◌≡◌, ◌≢◌, ◌⊎◌, ℕ, zero, suc, ◌+◌, ◌<◌, ◌≤◌, ◌==◌, List, [], ◌∷◌, ◌++◌, map, filter, Bool, true, false, refl, ap, sym, ◌∙◌, subst}
use Rattle.std.proofs.Common.{⊎_elim, inl, inr, append-nil, arith}
use Rattle.std.specs.Prelude.{⊤, nat_lt}
use Rattle.std.specs.List.{AllByRecursion}
use Rattle.std.proofs.lemmas.Bool.{eqb-true, lt-ltb, ltb-true}
use Rattle.std.proofs.lemmas.List.{map-append}
use Rattle.std.proofs.lemmas.List.Elements.{filter-append}
use Rattle.mail_runs.specs.Timed.{RisesTo}
use Rattle.mail_runs.proofs.Parts.{passes, fails, same_number, other_number}

side? : (m n : ℕ) → (m < n) ⊎ ((m ≡ n) ⊎ (n < m))
side? m n = grind arith

pub same? : (m n : ℕ) → (m ≡ n) ⊎ (m ≢ n)
same? m n = grind arith

pub low? : (k n : ℕ) → k < suc n → (k < n) ⊎ (k ≡ n)
low? k n below = grind arith

lt_is : (m n : ℕ) (b : Bool) → nat_lt m n ≡ b → n ≤ m → b ≡ false
lt_is m n true e le = let less : m < n = ltb-true m n e in absurd (omega arith)
lt_is m n false e le = refl

not_lt : (m n : ℕ) → n ≤ m → nat_lt m n ≡ false
not_lt m n le = lt_is m n (nat_lt m n) refl le ∙ refl

rises_le : (lo hi : ℕ) (xs : List ℕ) → RisesTo lo hi xs → lo ≤ hi
rises_le lo hi [] r = r
rises_le lo hi (x ∷ xs) r = let a = rises_le x hi xs r.1 in let b : lo < x = r.0 in omega arith

-- each is at least the one before it, the first at least lo, and none above hi
abbrev pub ClimbsTo : ℕ → ℕ → List ℕ → Type 0
ClimbsTo lo hi [] = lo ≤ hi
ClimbsTo lo hi (x ∷ xs) = (lo ≤ x) × ClimbsTo x hi xs

climbs_down : (lo mid hi : ℕ) (ys : List ℕ) → lo ≤ mid → ClimbsTo mid hi ys → ClimbsTo lo hi ys
climbs_down lo mid hi [] le b = omega arith
climbs_down lo mid hi (y ∷ ys) le b = let c : mid ≤ y = b.0 in ((omega arith), b.1)

climbs_up : (lo hi top : ℕ) (xs : List ℕ) → ClimbsTo lo hi xs → hi ≤ top → ClimbsTo lo top xs
climbs_up lo hi top [] a le = omega arith
climbs_up lo hi top (x ∷ xs) a le = (a.0, climbs_up x hi top xs a.1 le)

climbs_both : (lo mid hi : ℕ) (xs ys : List ℕ) → ClimbsTo lo mid xs → ClimbsTo mid hi ys → ClimbsTo lo hi (xs ++ ys)
climbs_both lo mid hi [] ys a b = climbs_down lo mid hi ys a b
climbs_both lo mid hi (x ∷ xs) ys a b = (a.0, climbs_both x mid hi xs ys a.1 b)

module _ {A : Type 0} where
  -- f 0, f 1, .. f (n - 1), one after the other
  abbrev pub upto : ℕ → (ℕ → List A) → List A
  upto zero f = []
  upto (suc n) f = upto n f ++ f n

  twice_at : (p q : A → Bool) (x : A) (xs : List A) (a : Bool) → p x ≡ a → (b : Bool) → q x ≡ b → filter p (filter q xs) ≡ filter q (filter p xs)
      → filter p (filter q (x ∷ xs)) ≡ filter q (filter p (x ∷ xs))
  twice_at p q x xs true pa true qb more =
      ap (filter p) (passes q x xs qb) ∙ passes p x (filter q xs) pa ∙ ap (λ l. x ∷ l) more
      ∙ sym (ap (filter q) (passes p x xs pa) ∙ passes q x (filter p xs) qb)
  twice_at p q x xs true pa false qb more = ap (filter p) (fails q x xs qb) ∙ more ∙ sym (ap (filter q) (passes p x xs pa) ∙ fails q x (filter p xs) qb)
  twice_at p q x xs false pa true qb more = ap (filter p) (passes q x xs qb) ∙ fails p x (filter q xs) pa ∙ more ∙ sym (ap (filter q) (fails p x xs pa))
  twice_at p q x xs false pa false qb more = ap (filter p) (fails q x xs qb) ∙ more ∙ sym (ap (filter q) (fails p x xs pa))

  pub filter_twice : (p q : A → Bool) (xs : List A) → filter p (filter q xs) ≡ filter q (filter p xs)
  filter_twice p q [] = refl
  filter_twice p q (x ∷ xs) = twice_at p q x xs (p x) refl (q x) refl (filter_twice p q xs)

  apart_at : (p q : A → Bool) (x : A) (xs : List A) (b : Bool) → q x ≡ b → (q x ≡ true → p x ≡ false) → filter p (filter q xs) ≡ []
      → filter p (filter q (x ∷ xs)) ≡ []
  apart_at p q x xs true e not more = ap (filter p) (passes q x xs e) ∙ fails p x (filter q xs) (not e) ∙ more
  apart_at p q x xs false e not more = ap (filter p) (fails q x xs e) ∙ more

  -- of what passes a test, nothing passes one that excludes it
  pub filter_apart : (p q : A → Bool) (xs : List A) → ((x : A) → q x ≡ true → p x ≡ false) → filter p (filter q xs) ≡ []
  filter_apart p q [] not = refl
  filter_apart p q (x ∷ xs) not = apart_at p q x xs (q x) refl (not x) (filter_apart p q xs not)

  within_at : (p q : A → Bool) (x : A) (xs : List A) (b : Bool) → q x ≡ b → (q x ≡ false → p x ≡ false) → filter p (filter q xs) ≡ filter p xs
      → filter p (filter q (x ∷ xs)) ≡ filter p (x ∷ xs)
  within_at p q x xs true e only more = ap (filter p) (passes q x xs e) ∙ filter-append p (x ∷ []) (filter q xs) ∙ ap (λ l. filter p (x ∷ []) ++ l) more
      ∙ sym (filter-append p (x ∷ []) xs)
  within_at p q x xs false e only more = ap (filter p) (fails q x xs e) ∙ more ∙ sym (fails p x xs (only e))

  -- what passes a test is among what passes one that it implies
  pub filter_within : (p q : A → Bool) (xs : List A) → ((x : A) → q x ≡ false → p x ≡ false) → filter p (filter q xs) ≡ filter p xs
  filter_within p q [] only = refl
  filter_within p q (x ∷ xs) only = within_at p q x xs (q x) refl (only x) (filter_within p q xs only)

  all_at : (P : A → Type 0) (p : A → Bool) (x : A) (xs : List A) (b : Bool) → p x ≡ b → P x → AllByRecursion P (filter p xs)
      → AllByRecursion P (filter p (x ∷ xs))
  all_at P p x xs true e here more = subst (λ l. AllByRecursion P l) (sym (passes p x xs e)) (here, more)
  all_at P p x xs false e here more = subst (λ l. AllByRecursion P l) (sym (fails p x xs e)) more

  -- what holds of all holds of those that pass a test, and of those of several lists
  pub all_filter : (P : A → Type 0) (p : A → Bool) (xs : List A) → AllByRecursion P xs → AllByRecursion P (filter p xs)
  all_filter P p [] all = tt
  all_filter P p (x ∷ xs) all = all_at P p x xs (p x) refl all.0 (all_filter P p xs all.1)

  pub all_both : (P : A → Type 0) (xs ys : List A) → AllByRecursion P xs → AllByRecursion P ys → AllByRecursion P (xs ++ ys)
  all_both P [] ys a b = b
  all_both P (x ∷ xs) ys a b = (a.0, all_both P xs ys a.1 b)

  pub all_upto : (P : A → Type 0) (n : ℕ) (f : ℕ → List A) → ((i : ℕ) → i < n → AllByRecursion P (f i)) → AllByRecursion P (upto n f)
  all_upto P zero f all = tt
  all_upto P (suc n) f all = all_both P (upto n f) (f n) (all_upto P n f (λ i below. all i (omega arith))) (all n (omega arith))

  pub filter_upto : (p : A → Bool) (n : ℕ) (f : ℕ → List A) → filter p (upto n f) ≡ upto n (λ i. filter p (f i))
  filter_upto p zero f = refl
  filter_upto p (suc n) f = filter-append p (upto n f) (f n) ∙ ap (λ l. l ++ filter p (f n)) (filter_upto p n f)

  pub upto_same : (n : ℕ) (f g : ℕ → List A) → ((i : ℕ) → i < n → f i ≡ g i) → upto n f ≡ upto n g
  upto_same zero f g same = refl
  upto_same (suc n) f g same = (λ i. upto_same n f g (λ j below. same j (omega arith)) i ++ same n (omega arith) i)

  pub upto_none : (n : ℕ) (f : ℕ → List A) → ((i : ℕ) → i < n → f i ≡ []) → upto n f ≡ []
  upto_none zero f none = refl
  upto_none (suc n) f none = (λ i. upto_none n f (λ j below. none j (omega arith)) i ++ none n (omega arith) i)

  pub upto_only : (n : ℕ) (f : ℕ → List A) (k : ℕ) → k < n → ((i : ℕ) → i < n → i ≢ k → f i ≡ []) → upto n f ≡ f k
  upto_only zero f k below else = absurd (omega arith)
  upto_only (suc n) f k below else = ⊎_elim
      (λ (lower : k < n). (λ i. upto_only n f k lower (λ j less ne. else j (omega arith) ne) i ++ else n (omega arith) (λ e. omega arith) i) ∙ append-nil (f k))
      (λ (is : k ≡ n). (λ i. upto_none n f (λ j less. else j (omega arith) (λ e. omega arith)) i ++ f n) ∙ ap f (sym is))
      (low? k n below)

-- those of a list with times, by a time: at it, and before it
module _ {A : Type 0} (at : A → ℕ) where
  abbrev pub here : ℕ → List A → List A
  here t xs = filter (λ x. at x == t) xs

  abbrev early : ℕ → List A → List A
  early t xs = filter (λ x. nat_lt (at x) t) xs

  abbrev pub TimesRise : ℕ → ℕ → List A → Type 0
  TimesRise lo hi xs = RisesTo lo hi (map at xs)

  -- of a list that rises above lo, a test that fails above lo keeps nothing
  none_of : (p : A → Bool) (lo hi : ℕ) (xs : List A) → TimesRise lo hi xs → ((x : A) → lo < at x → p x ≡ false) → filter p xs ≡ []
  none_of p lo hi [] r not = refl
  none_of p lo hi (x ∷ xs) r not = let above : lo < at x = r.0 in fails p x xs (not x above) ∙ none_of p (at x) hi xs r.1 (λ y a. not y (omega arith))

  -- one more time
  next : (lo hi t : ℕ) (xs : List A) → TimesRise lo hi xs → early (t + 1) xs ≡ early t xs ++ here t xs
  next lo hi t [] r = refl
  next lo hi t (x ∷ xs) r = ⊎_elim
      (λ (less : at x < t).
      passes (λ y. nat_lt (at y) (t + 1)) x xs (lt-ltb (at x) (t + 1) (omega arith)) ∙ ap (λ l. x ∷ l) (next (at x) hi t xs r.1)
      ∙ sym (λ i. passes (λ y. nat_lt (at y) t) x xs (lt-ltb (at x) t less) i ++ fails (λ y. at y == t) x xs (other_number (at x) t (λ e. omega arith)) i))
      (λ (c : (at x ≡ t) ⊎ (t < at x)). ⊎_elim
      (λ (is : at x ≡ t).
      passes (λ y. nat_lt (at y) (t + 1)) x xs (lt-ltb (at x) (t + 1) (omega arith))
      ∙ ap (λ l. x ∷ l) (none_of (λ y. nat_lt (at y) (t + 1)) (at x) hi xs r.1 (λ y a. not_lt (at y) (t + 1) (omega arith)))
      ∙ sym ((λ i. fails (λ y. nat_lt (at y) t) x xs (not_lt (at x) t (omega arith)) i ++ passes (λ y. at y == t) x xs (same_number (at x) t is) i)
      ∙ (λ i. none_of (λ y. nat_lt (at y) t) (at x) hi xs r.1 (λ y a. not_lt (at y) t (omega arith)) i
      ++ (x ∷ none_of (λ y. at y == t) (at x) hi xs r.1 (λ y a. other_number (at y) t (λ e. omega arith)) i))))
      (λ (more : t < at x).
      fails (λ y. nat_lt (at y) (t + 1)) x xs (not_lt (at x) (t + 1) (omega arith)) ∙ next (at x) hi t xs r.1
      ∙ sym (λ i. fails (λ y. nat_lt (at y) t) x xs (not_lt (at x) t (omega arith)) i ++ fails (λ y. at y == t) x xs
      (other_number (at x) t (λ e. omega arith)) i))
      c)
      (side? (at x) t)

  early_zero : (xs : List A) → early 0 xs ≡ []
  early_zero [] = refl
  early_zero (x ∷ xs) = fails (λ y. nat_lt (at y) 0) x xs (not_lt (at x) 0 (omega arith)) ∙ early_zero xs

  early_all : (lo hi t : ℕ) (xs : List A) → TimesRise lo hi xs → hi < t → early t xs ≡ xs
  early_all lo hi t [] r above = refl
  early_all lo hi t (x ∷ xs) r above =
      let up : at x ≤ hi = rises_le (at x) hi (map at xs) r.1 in
      passes (λ y. nat_lt (at y) t) x xs (lt-ltb (at x) t (omega arith)) ∙ ap (λ l. x ∷ l) (early_all (at x) hi t xs r.1 above)

  so_far : (lo hi n : ℕ) (xs : List A) → TimesRise lo hi xs → upto n (λ t. here t xs) ≡ early n xs
  so_far lo hi zero xs r = sym (early_zero xs)
  so_far lo hi (suc n) xs r = ap (λ l. l ++ here n xs) (so_far lo hi n xs r) ∙ sym (next lo hi n xs r) ∙ ap (λ m. early m xs) (omega arith)

  -- a list that rises is put together of those at each time
  pub whole : (lo hi n : ℕ) (xs : List A) → TimesRise lo hi xs → hi < n → upto n (λ t. here t xs) ≡ xs
  whole lo hi n xs r above = so_far lo hi n xs r ∙ early_all lo hi n xs r above

  -- at each time there is at most one
  one? : (lo hi t : ℕ) (xs : List A) → TimesRise lo hi xs → (here t xs ≡ []) ⊎ ((x : A) × (here t xs ≡ x ∷ []))
  one? lo hi t [] r = inl refl
  one? lo hi t (x ∷ xs) r = ⊎_elim
      (λ (is : at x ≡ t). inr (
        x,
        passes (λ y. at y == t) x xs (same_number (at x) t is)
            ∙ ap (λ l. x ∷ l) (none_of (λ y. at y == t) (at x) hi xs r.1 (λ y a. other_number (at y) t (λ e. omega arith))),
      ))
      (λ (not : at x ≢ t). let e = fails (λ y. at y == t) x xs (other_number (at x) t not) in
      ⊎_elim (λ (n : here t xs ≡ []). inl (e ∙ n)) (λ (o : (y : A) × (here t xs ≡ y ∷ [])). inr (o.0, e ∙ o.1)) (one? (at x) hi t xs r.1))
      (same? (at x) t)

  -- what several lists have at a time
  abbrev pub all_at_time : ℕ → (ℕ → List A) → ℕ → List A
  all_at_time n lists t = upto n (λ i. here t (lists i))

  parts_at_time : (p : A → Bool) (n : ℕ) (lists : ℕ → List A) (t : ℕ) → filter p (all_at_time n lists t) ≡ upto n (λ i. here t (filter p (lists i)))
  parts_at_time p n lists t =
      filter_upto p n (λ i. here t (lists i))
      ∙ upto_same n (λ i. filter p (here t (lists i))) (λ i. here t (filter p (lists i))) (λ i below. filter_twice p (λ x. at x == t) (lists i))

  -- none of them passes the test, or just those of one list, or just those of a list that is put together of theirs
  pub none_at_time : (p : A → Bool) (n : ℕ) (lists : ℕ → List A) (t : ℕ) → ((i : ℕ) → i < n → filter p (lists i) ≡ []) → filter p (all_at_time n lists t) ≡ []
  none_at_time p n lists t none = parts_at_time p n lists t ∙ upto_none n (λ i. here t (filter p (lists i))) (λ i below. ap (here t) (none i below))

  pub only_at_time : (p : A → Bool) (n : ℕ) (lists : ℕ → List A) (t k : ℕ) → k < n → filter p (lists k) ≡ lists k
      → ((i : ℕ) → i < n → i ≢ k → filter p (lists i) ≡ [])
      → filter p (all_at_time n lists t) ≡ here t (lists k)
  only_at_time p n lists t k below own else =
      parts_at_time p n lists t ∙ upto_only n (λ i. here t (filter p (lists i))) k below (λ i less ne. ap (here t) (else i less ne)) ∙ ap (here t) own

  -- just one of the tests passes it
  pub record BelongsToOne (n : ℕ) (mine : ℕ → A → Bool) (x : A) : Type 0 where
    pub owner : ℕ
    pub below : owner < n
    pub own : mine owner x ≡ true
    pub only : (i : ℕ) → i ≢ owner → mine i x ≡ false

  owned : (n : ℕ) (mine : ℕ → A → Bool) (x : A) → BelongsToOne n mine x → upto n (λ i. filter (mine i) (x ∷ [])) ≡ x ∷ []
  owned n mine x o = upto_only n (λ i. filter (mine i) (x ∷ [])) o.owner o.below (λ i less ne. fails (mine i) x [] (o.only i ne))
      ∙ passes (mine o.owner) x [] o.own

  pub parts_make : (p : A → Bool) (n : ℕ) (lists : ℕ → List A) (mine : ℕ → A → Bool) (lo hi t : ℕ) (got : List A) → TimesRise lo hi got
      → AllByRecursion (BelongsToOne n mine) got → ((i : ℕ) → i < n → filter p (lists i) ≡ filter (mine i) got)
      → filter p (all_at_time n lists t) ≡ here t got
  parts_make p n lists mine lo hi t got r owners parts =
      parts_at_time p n lists t
      ∙ upto_same n (λ i. here t (filter p (lists i))) (λ i. filter (mine i) (here t got))
      (λ i below. ap (here t) (parts i below) ∙ filter_twice (λ x. at x == t) (mine i) got)
      ∙ ⊎_elim
      (λ (none : here t got ≡ []). upto_none n (λ i. filter (mine i) (here t got)) (λ i below. ap (filter (mine i)) none) ∙ sym none)
      (λ (one : (x : A) × (here t got ≡ x ∷ [])).
      let o : BelongsToOne n mine one.0 × ⊤ =
      subst (λ l. AllByRecursion (BelongsToOne n mine) l) one.1 (all_filter (BelongsToOne n mine) (λ x. at x == t) got owners) in
      ap (λ l. upto n (λ i. filter (mine i) l)) one.1 ∙ owned n mine one.0 o.0 ∙ sym one.1)
      (one? lo hi t got r)

  abbrev pub ats : List A → List ℕ
  ats xs = map at xs

  climbs_one : (t : ℕ) (x : A) (xs : List A) (b : Bool) → (at x == t) ≡ b → ClimbsTo t t (ats (here t xs)) → ClimbsTo t t (ats (here t (x ∷ xs)))
  climbs_one t x xs true e more =
      let is : at x ≡ t = eqb-true (at x) t e in
      subst (λ (l : List A). ClimbsTo t t (ats l)) (sym (passes (λ y. at y == t) x xs e))
      ((omega arith), climbs_down (at x) t t (ats (here t xs)) (omega arith) more)
  climbs_one t x xs false e more = subst (λ (l : List A). ClimbsTo t t (ats l)) (sym (fails (λ y. at y == t) x xs e)) more

  climbs_here : (t : ℕ) (xs : List A) → ClimbsTo t t (ats (here t xs))
  climbs_here t [] = omega arith
  climbs_here t (x ∷ xs) = climbs_one t x xs (at x == t) refl (climbs_here t xs)

  pub climbs_lists : (t n : ℕ) (lists : ℕ → List A) → ClimbsTo t t (ats (all_at_time n lists t))
  climbs_lists t zero lists = omega arith
  climbs_lists t (suc n) lists =
      subst (λ (l : List ℕ). ClimbsTo t t l) (sym (map-append at (upto n (λ k. here t (lists k))) (here t (lists n))))
      (climbs_both t t t (ats (all_at_time n lists t)) (ats (here t (lists n))) (climbs_lists t n lists) (climbs_here t (lists n)))

  pub climbs_pair : (lo mid hi : ℕ) (xs ys : List A) → ClimbsTo lo mid (ats xs) → ClimbsTo mid hi (ats ys) → ClimbsTo lo hi (ats (xs ++ ys))
  climbs_pair lo mid hi xs ys a b = subst (λ (l : List ℕ). ClimbsTo lo hi l) (sym (map-append at xs ys)) (climbs_both lo mid hi (ats xs) (ats ys) a b)

  pub climbs_until : (f : ℕ → List A) → ((t : ℕ) → ClimbsTo t t (ats (f t))) → (n : ℕ) → ClimbsTo 0 n (ats (upto n f))
  climbs_until f each zero = omega arith
  climbs_until f each (suc n) = climbs_pair 0 n (suc n) (upto n f) (f n) (climbs_until f each n) (climbs_up n n (suc n) (ats (f n)) (each n) (omega arith))

  -- a list that climbs, cut in two, has a time between
  pub record Between (xs ys : List A) : Type 0 where
    pub time : ℕ
    pub not_after : AllByRecursion (λ x. at x ≤ time) xs
    pub not_before : AllByRecursion (λ y. time ≤ at y) ys

  all_above : (lo hi : ℕ) (ys : List A) → ClimbsTo lo hi (ats ys) → AllByRecursion (λ y. lo ≤ at y) ys
  all_above lo hi [] c = tt
  all_above lo hi (y ∷ ys) c = (c.0, all_above lo hi ys (climbs_down lo (at y) hi (ats ys) c.0 c.1))

  cut_above : (lo hi : ℕ) (xs ys : List A) → ClimbsTo lo hi (ats (xs ++ ys)) → (b : Between xs ys) × (lo ≤ b.time)
  cut_above lo hi [] ys c = (record { time = lo; not_after = tt; not_before = all_above lo hi ys c }, (omega arith))
  cut_above lo hi (x ∷ xs) ys c =
      let b = cut_above (at x) hi xs ys c.1 in
      let up : at x ≤ b.0.time = b.1 in
      let first : lo ≤ at x = c.0 in
      (record { time = b.0.time; not_after = (up, b.0.not_after); not_before = b.0.not_before }, (omega arith))

  pub cut : (lo hi : ℕ) (xs ys : List A) → ClimbsTo lo hi (ats (xs ++ ys)) → Between xs ys
  cut lo hi xs ys c = (cut_above lo hi xs ys c).0
