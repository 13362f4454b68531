-- Lists that begin others, and lines.
use Rattle.std.proofs.Common.{◌≡◌, ◌⊎◌, ℕ, List, [], ◌∷◌, ◌++◌, length, take, inl, inr, refl, sym, ap, ◌∙◌}
use Rattle.std.specs.List.{AllByRecursion}
use Rattle.std.proofs.lemmas.List.{take_at}
use Rattle.mail_world.specs.Text.{IsOneLine}
use Rattle.mail_world.proofs.OneLine.{one_line-cons, one_line-tail, head_byte, literal}

-- where one list, cut in two, is also cut elsewhere
pub two_cuts : {A : Type 0} (xs ys ps qs : List A) → xs ++ ys ≡ ps ++ qs
    → ((rest : List A) × (xs ≡ ps ++ rest)) ⊎ ((more : List A) × (ps ≡ xs ++ more) × (ys ≡ more ++ qs))
two_cuts [] ys ps qs e = inr (ps, refl, e)
two_cuts (x ∷ xs) ys [] qs e = inl (x ∷ xs, refl)
two_cuts {A} (x ∷ xs) ys (p ∷ ps) qs e =
    let first : x ≡ p = cc in
    let rest : xs ++ ys ≡ ps ++ qs = cc in
    further first (two_cuts xs ys ps qs rest)
  where
    further : x ≡ p → ((rest : List A) × (xs ≡ ps ++ rest)) ⊎ ((more : List A) × (ps ≡ xs ++ more) × (ys ≡ more ++ qs))
        → ((rest : List A) × (x ∷ xs ≡ p ∷ ps ++ rest)) ⊎ ((more : List A) × (p ∷ ps ≡ x ∷ xs ++ more) × (ys ≡ more ++ qs))
    further same (inl found) = inl (found.0, λ i. same i ∷ found.1 i)
    further same (inr found) = inr (found.0, λ i. sym same i ∷ found.1 i, found.2)

pub taken : {A : Type 0} (xs ps qs : List A) → xs ≡ ps ++ qs → take (length ps) xs ≡ ps
taken {A} xs ps qs e = ap (λ (l : List A). take (length ps) l) e ∙ take_at ps qs (length ps) refl

pub one_line-front : (xs ys : List ℕ) → IsOneLine (xs ++ ys) → IsOneLine xs
one_line-front [] ys h = literal [] refl
one_line-front (x ∷ xs) ys h = one_line-cons x xs (head_byte x (xs ++ ys) h) (one_line-front xs ys (one_line-tail x (xs ++ ys) h))

pub all_front : {A : Type 0} (P : A → Type 0) (xs ys : List A) → AllByRecursion P (xs ++ ys) → AllByRecursion P xs
all_front P [] ys h = tt
all_front P (x ∷ xs) ys h = (h.0, all_front P xs ys h.1)

pub all_back : {A : Type 0} (P : A → Type 0) (xs ys : List A) → AllByRecursion P (xs ++ ys) → AllByRecursion P ys
all_back P [] ys h = h
all_back P (x ∷ xs) ys h = all_back P xs ys h.1

pub all_both : {A : Type 0} (P : A → Type 0) (xs ys : List A) → AllByRecursion P xs → AllByRecursion P ys → AllByRecursion P (xs ++ ys)
all_both P [] ys h k = k
all_both P (x ∷ xs) ys h k = (h.0, all_both P xs ys h.1 k)
