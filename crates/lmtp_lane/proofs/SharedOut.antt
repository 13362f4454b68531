-- Connections that are shared out among lanes.
use Rattle.std.proofs.Common.{ℕ, zero, suc, ◌+◌, ◌*◌, ◌/◌, ◌%◌, ◌<◌, ◌≡◌, List, [], ◌∷◌, ◌++◌, min, cond, nat_lt, sum, map, ap, ◌∙◌, sym, arith, mod-lt}
use Rattle.std.proofs.Common.{suc-mul, zero-add}
use Rattle.std.proofs.lemmas.Bool.Decides.{nat_tests}
use Rattle.std.proofs.lemmas.List.FromFn.{map-range_with_len_more, sum_by-map-range_with_len_more}
use Rattle.std.proofs.lemmas.List.{map-append}
use Rattle.std.proofs.Math.Nat.{div-add-mod}
use Rattle.std.specs.List.{AllByRecursion, range_with_len}
use Rattle.lmtp_lane.specs.TcpVisits.{share, shares}

-- a list of which each element is so, one longer
pub all_push : {X : Type 0} → (P : X → Type 0) → (xs : List X) (x : X) → AllByRecursion P xs → P x → AllByRecursion P (xs ++ x ∷ [])
all_push P [] x all so = (so, tt)
all_push P (y ∷ ys) x all so = (all.0, all_push P ys x all.1 so)

-- a list made by the numbers of its elements, one longer
pub map-push : {X : Type 0} (f : X → ℕ) (g : ℕ → ℕ) (xs : List X) (x : X) (n : ℕ) → map f xs ≡ map g (range_with_len 0 n) → f x ≡ g n
    → map f (xs ++ x ∷ []) ≡ map g (range_with_len 0 (n + 1))
map-push f g xs x n so is =
    map-append f xs (x ∷ []) ∙ ap (λ ys. ys ++ f x ∷ []) so ∙ ap (λ y. map g (range_with_len 0 n) ++ y ∷ []) is
    ∙ sym (map-range_with_len_more g 0 n n (zero-add n))

-- one more lane
one_more : (p q r n : ℕ) → p + min n r + (q + cond (nat_lt n r) 1 0) ≡ q + p + min (n + 1) r
one_more p q r n = grind (arith, nat_tests)

-- the shares of the first n lanes
first_shares : (connections lanes n : ℕ) → sum (map (share connections lanes) (range_with_len 0 n)) ≡ n * (connections / lanes) + min n (connections % lanes)
first_shares connections lanes zero = omega arith
first_shares connections lanes (suc n) =
    let one : suc n ≡ n + 1 = omega arith in
    ap (λ m. sum (map (share connections lanes) (range_with_len 0 m))) one
    ∙ sum_by-map-range_with_len_more (λ m. m) (share connections lanes) 0 n n (zero-add n)
    ∙ ap (λ s. s + share connections lanes n) (first_shares connections lanes n)
    ∙ one_more (n * (connections / lanes)) (connections / lanes) (connections % lanes) n
    ∙ omega (arith, suc-mul n (connections / lanes))

-- the shares of all lanes are all connections
pub sum-shares : (connections lanes : ℕ) → 0 < lanes → sum (shares connections lanes) ≡ connections
sum-shares connections lanes some =
    let within = mod-lt connections some in
    let whole = div-add-mod connections lanes in
    let all = first_shares connections lanes lanes in
    omega (arith, all)
