-- A list that is made of another one, element by element.
use Rattle.std.proofs.Common.{◌≡◌, ◌∙◌, ◌+◌, ◌<◌, ◌++◌, ◌∷◌, [], ℕ, List, ap, arith, get_or, length, map, subst, suc, sym, take}
use Rattle.std.proofs.lemmas.List.{map-append, map_more}
use Rattle.std.proofs.Math.Seq.{take-length}
use Rattle.std.specs.List.{AllByRecursion}
use Rattle.lmtpd_setup.specs.Shares.{EachFrom}

-- one more element was made
pub one_more : {X Y Z : Type 0} (f : X → Z) (g : Y → Z) (made next : List X) (from : List Y) (i : ℕ) (x : X) (d : Y) → i < length from
    → next ≡ made ++ x ∷ [] → map f made ≡ map g (take i from) → f x ≡ g (get_or from i d) → map f next ≡ map g (take (i + 1) from)
one_more f g made next from i x d low pushed before is =
    ap (map f) pushed ∙ map-append f made (x ∷ []) ∙ ap (λ l. l ++ f x ∷ []) before ∙ ap (λ y. map g (take i from) ++ y ∷ []) is ∙ sym (map_more g from i d low)

-- all were
pub all_made : {X Y Z : Type 0} (f : X → Z) (g : Y → Z) (made : List X) (from : List Y) (i : ℕ) → i ≡ length from
    → map f made ≡ map g (take i from) → map f made ≡ map g from
all_made f g made from i all before = before ∙ ap (λ n. map g (take n from)) all ∙ ap (λ l. map g l) (take-length from)

-- what held of each holds with one more
all_more : {X : Type 0} (P : X → Type 0) (xs : List X) (x : X) → AllByRecursion P xs → P x → AllByRecursion P (xs ++ x ∷ [])
all_more P [] x all one = (one, tt)
all_more P (y ∷ ys) x all one = (all.0, all_more P ys x all.1 one)

pub all_pushed : {X : Type 0} (P : X → Type 0) (old new : List X) (x : X) → new ≡ old ++ x ∷ [] → AllByRecursion P old → P x → AllByRecursion P new
all_pushed P old new x is all one = subst (λ xs. AllByRecursion P xs) (sym is) (all_more P old x all one)

-- the same of each by its place
each_more : {X : Type 0} (P : ℕ → X → Type 0) (place : ℕ) (xs : List X) (x : X) → EachFrom P place xs → P (place + length xs) x
    → EachFrom P place (xs ++ x ∷ [])
each_more P place [] x all one = let e : place + 0 ≡ place = omega arith in (subst (λ n. P n x) e one, tt)
each_more P place (y ∷ ys) x all one =
    let e : place + suc (length ys) ≡ suc place + length ys = omega arith in
    (all.0, each_more P (suc place) ys x all.1 (subst (λ n. P n x) e one))

pub each_pushed : {X : Type 0} (P : ℕ → X → Type 0) (old new : List X) (x : X) → new ≡ old ++ x ∷ [] → EachFrom P 0 old → P (length old) x
    → EachFrom P 0 new
each_pushed P old new x is all one =
    let e : length old ≡ 0 + length old = omega arith in
    subst (λ xs. EachFrom P 0 xs) (sym is) (each_more P 0 old x all (subst (λ n. P n x) e one))
