-- Lists of lists, turned about their diagonal.
use Rattle.std.specs.Prelude.{◌≡◌, ℕ, ◌<◌, ◌≤◌, List, [], ◌∷◌, ◌++◌, length, get_or, map, vec_capacity}
use Rattle.std.specs.declared.vec.Vec.{Vec}

module _ {T A : Type 0} where
  -- the lists in a list of lists
  abbrev pub lists : List (Vec T A) → List (List T)
  lists rows = map (λ v. v.items) rows

  -- nothing in it, and room for n
  pub record IsRoom (n : ℕ) (v : Vec T A) : Type 0 where
    pub empty : v.items ≡ []
    pub room : n ≤ vec_capacity v

module _ {T : Type 0} where
  -- what stands in list i at place j
  abbrev pub cell : List (List T) → ℕ → ℕ → T → T
  cell g i j d = get_or (get_or g i []) j d

  -- h has the columns of g as its rows
  pub record IsTransposed (g h : List (List T)) : Type 0 where
    pub widths : (j : ℕ) → j < length h → length (get_or h j []) ≡ length g
    pub cells : (i j : ℕ) (d : T) → i < length g → j < length h → cell h j i d ≡ cell g i j d

  -- one more element at the end of each row
  abbrev pub zip_push : List (List T) → List T → List (List T)
  zip_push [] xs = []
  zip_push (r ∷ rs) [] = r ∷ rs
  zip_push (r ∷ rs) (x ∷ xs) = (r ++ x ∷ []) ∷ zip_push rs xs

  -- all columns, one after another
  abbrev pub push_all : List (List T) → List (List T) → List (List T)
  push_all g [] = g
  push_all g (c ∷ cs) = push_all (zip_push g c) cs
