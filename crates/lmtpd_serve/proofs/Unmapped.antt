-- What holds of each that was made of an element holds of each element.
use Rattle.std.proofs.Common.{◌≡◌, List, [], ◌∷◌, ap, map, refl}
use Rattle.std.specs.List.{AllByRecursion}

pub all_unmapped : {A B : Type 0} (P : B → Type 0) (f : A → B) (xs : List A) → AllByRecursion P (map f xs) → AllByRecursion (λ x. P (f x)) xs
all_unmapped P f [] h = tt
all_unmapped P f (x ∷ xs) h = (h.0, all_unmapped P f xs h.1)

-- what is made in two steps is made in one
pub unmapped : {A B C : Type 0} (f : B → C) (g : A → B) (xs : List A) → map (λ x. f (g x)) xs ≡ map f (map g xs)
unmapped f g [] = refl
unmapped f g (x ∷ xs) = ap (λ l. f (g x) ∷ l) (unmapped f g xs)
