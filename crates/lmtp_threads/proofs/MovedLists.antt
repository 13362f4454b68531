use Rattle.std.proofs.Common.{◌≡◌, ◌+◌, refl, Bool, true, false, true≢false, ◌||◌, suc, zero, List, [], ◌∷◌, ◌++◌, length, map, ap, sym, ◌∙◌, length-append}
use Rattle.std.proofs.Common.{arith}
use Rattle.std.specs.List.{All, AllByRecursion}
use Rattle.std.proofs.lemmas.List.{append_assoc, append-nil}

-- one more element at the end
pub All-snoc : {X : Type 0} (P : X → Type 0) (xs : List X) (x : X) → All P xs → P x → All P (xs ++ x ∷ [])
All-snoc P [] x all p zero d below = p
All-snoc P [] x all p (suc k) d below = absurd (omega arith)
All-snoc P (y ∷ ys) x all p zero d below = all zero d (omega arith)
All-snoc P (y ∷ ys) x all p (suc k) d below = All-snoc P ys x (λ j e under. all (suc j) e (omega arith)) p k d (omega arith)

module _ {X : Type 0} (P : X → Type 0) (rest rest' : List X) (x : X) (is : rest ≡ x ∷ rest') (all : All P rest) where
  -- what holds of each element holds of the first, and of each that follows
  pub All-first : P x
  All-first = (rw is at all) 0 x (omega arith)

  pub All-rest : All P rest'
  All-rest k d below = (rw is at all) (suc k) d (omega (arith, below))

-- an element moves from what is left to what is done
pub move_same : {X : Type 0} (done new total rest rest' : List X) (x : X) → done ++ rest ≡ total → rest ≡ x ∷ rest' → new ≡ done ++ x ∷ []
    → new ++ rest' ≡ total
move_same done new total rest rest' x whole is grown =
    ap (λ (z : List _). z ++ rest') grown ∙ (append_assoc done (x ∷ []) rest' ∙ (ap (λ (z : List _). done ++ z) (sym is) ∙ whole))

-- nothing is left
pub moved_all : {X Y : Type 0} (f : X → Y) (done total : List Y) (rest : List X) → done ++ map f rest ≡ total → rest ≡ [] → done ≡ total
moved_all f done total rest whole none = sym (append-nil done) ∙ (ap (λ (z : List _). done ++ map f z) (sym none) ∙ whole)

-- one more
pub count_one_more : {X : Type 0} (old new : List X) (x : X) → new ≡ old ++ x ∷ [] → length new ≡ length old + 1
count_one_more old new x is = ap length is ∙ length-append old (x ∷ [])

-- where neither is true
pub neither : (a b c : Bool) → c ≡ (a || b) → c ≡ false → (a ≡ false) × (b ≡ false)
neither false false c is off = (refl, refl)
neither false true c is off = absurd (true≢false (sym is ∙ off))
neither true false c is off = absurd (true≢false (sym is ∙ off))
neither true true c is off = absurd (true≢false (sym is ∙ off))

pub each_more : {X : Type 0} (P : X → Type 0) (xs : List X) (x : X) → AllByRecursion P xs → P x → AllByRecursion P (xs ++ x ∷ [])
each_more P [] x all p = (p, tt)
each_more P (y ∷ ys) x all p = (all.0, each_more P ys x all.1 p)

pub each_both : {X : Type 0} (P Q : X → Type 0) (xs : List X) → AllByRecursion P xs → AllByRecursion Q xs → AllByRecursion (λ x. P x × Q x) xs
each_both P Q [] all each = tt
each_both P Q (x ∷ xs) all each = ((all.0, each.0), each_both P Q xs all.1 each.1)
