-- What is left of open files where one is taken.
use Rattle.std.proofs.Common.{◌≡◌, ℕ, zero, suc, ◌<◌, List, [], ◌∷◌, ◌++◌, length, take, drop, get_or, slice_index_or, ap, refl, sym, arith}
use Rattle.std.specs.Prelude.{remove}
use Rattle.mbox_file.specs.OpenFiles.{IsWithoutOne}

split_at : {X : Type 0} (xs : List X) (i : ℕ) (x : X) → i < length xs → x ≡ get_or xs i x
    → xs ≡ take i xs ++ x ∷ drop (suc i) xs
split_at [] i x within is = absurd (omega (arith, within))
split_at (y ∷ ys) zero x within is = ap (λ z. z ∷ ys) (sym is)
split_at (y ∷ ys) (suc i) x within is = ap (λ zs. y ∷ zs) (split_at ys i x (omega (arith, within)) is)

pub removed : {X : Type 0} (xs : List X) (i : ℕ) (x : X) → i < length xs → x ≡ slice_index_or xs i x
    → IsWithoutOne x xs (remove xs i)
removed xs i x within is = record {
  before = take i xs;
  later = drop (suc i) xs;
  was = split_at xs i x within is;
  is = refl;
}
