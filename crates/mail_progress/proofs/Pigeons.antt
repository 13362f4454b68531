-- A list in which each number below n stands once at most, and no other, has n elements at most.
use Rattle.std.proofs.Common.{◌≡◌, ℕ, zero, suc, ◌+◌, ◌≤◌, List, [], ◌∷◌, length, Bool, true, false, cond, ◌==◌, refl, ap, arith}
use Rattle.std.specs.Prelude.{nat_lt, if◌then◌else◌}
use Rattle.std.proofs.lemmas.Bool.Decides.{nat_tests}
use Rattle.std.proofs.lemmas.Bool.{eq-eqb}
use Rattle.mail_world.specs.Depot.{occurrences}
use Rattle.mail_world.proofs.GivenAway.{count-cons}

-- how many elements are below n, by each number
abbrev below : ℕ → List ℕ → ℕ
below zero xs = 0
below (suc n) xs = below n xs + occurrences n xs

at_most : (n : ℕ) (xs : List ℕ) → ((x : ℕ) → occurrences x xs ≤ 1) → below n xs ≤ n
at_most zero xs each = omega arith
at_most (suc n) xs each = let a = at_most n xs each in let b = each n in omega arith

none_below : (n : ℕ) → below n [] ≡ 0
none_below zero = refl
none_below (suc n) = omega (arith, none_below n)

lt_next : (x y : ℕ) → ◌≡◌ {A = ℕ} (cond (nat_lt y (suc x)) 1 0) (cond (nat_lt y x) 1 0 + cond (y == x) 1 0)
lt_next x y = grind (arith, nat_tests)

below_cons : (n y : ℕ) (xs : List ℕ) → below n (y ∷ xs) ≡ cond (nat_lt y n) 1 0 + below n xs
below_cons zero y xs = let e : nat_lt y 0 ≡ false = grind (arith, nat_tests) in rw e refl
below_cons (suc n) y xs = omega (arith, below_cons n y xs, lt_next n y, count-cons (λ z. z == n) y xs)

abbrev AllBelow : ℕ → List ℕ → Type 0
AllBelow n xs = (x : ℕ) → n ≤ x → occurrences x xs ≡ 0

all_counted : (n : ℕ) (xs : List ℕ) → AllBelow n xs → length xs ≤ below n xs
all_counted n [] all = omega arith
all_counted n (y ∷ xs) all =
    let rest : AllBelow n xs = λ x le. let e = all x le in omega (arith, count-cons (λ z. z == x) y xs) in
    first (nat_lt y n) refl (all_counted n xs rest)
  where
    first : (t : Bool) → nat_lt y n ≡ t → length xs ≤ below n xs → suc (length xs) ≤ below n (y ∷ xs)
    first true e le = let one : ◌≡◌ {A = ℕ} (cond (nat_lt y n) 1 0) 1 = ap (λ b. cond b 1 0) e in omega (arith, below_cons n y xs)
    first false e le =
        let high : n ≤ y = grind (arith, nat_tests) in
        let one : ◌≡◌ {A = ℕ} (cond (y == y) 1 0) 1 = ap (λ b. cond b 1 0) (eq-eqb y y refl) in
        let none = all y high in
        absurd (omega (arith, count-cons (λ z. z == y) y xs))

past_zero : (n x c : ℕ) → c ≤ (if nat_lt x n then 1 else 0) → n ≤ x → c ≡ 0
past_zero n x c le high = let e : nat_lt x n ≡ false = grind (arith, nat_tests) in let none : ◌≡◌ {A = ℕ} (if nat_lt x n then 1 else 0) 0 =
    rw e refl in omega arith

once_most : (t : Bool) (c : ℕ) → c ≤ (if t then 1 else 0) → c ≤ 1
once_most true c le = le
once_most false c le = omega arith

pub few : (n : ℕ) (xs : List ℕ) → ((x : ℕ) → occurrences x xs ≤ (if nat_lt x n then 1 else 0)) → length xs ≤ n
few n xs each =
    let a = all_counted n xs (λ x high. past_zero n x (occurrences x xs) (each x) high) in
    let b = at_most n xs (λ x. once_most (nat_lt x n) (occurrences x xs) (each x)) in omega arith
