use Rattle.std.proofs.Common.{◌≡◌, ℕ, zero, suc, ◌+◌, ◌<◌, ◌≤◌, List, [], ◌∷◌, ◌++◌, length, get_or, take, drop, map, ap, sym, refl, ◌∙◌, arith, add-zero}
use Rattle.std.proofs.Common.{zero-add, length-append, vec_len, vec_capacity}
use Rattle.std.proofs.Math.ListN.{set}
use Rattle.std.specs.List.{All}
use Rattle.std.proofs.lemmas.List.{append-nil, append_assoc, get_or-map, length-map, get_or_default}
use Rattle.std.specs.declared.vec.Vec.{Vec}
use Rattle.lmtp_threads.specs.Grid.{lists, zip_push, push_all, IsTransposed}

module _ {T : Type 0} where
  pub zip_push-nil : (g : List (List T)) → zip_push g [] ≡ g
  zip_push-nil [] = refl
  zip_push-nil (r ∷ rs) = refl

  -- a push on row k is the next element of the column
  pub set-zip_push : (g : List (List T)) (c rest : List T) (k : ℕ) (x : T) (r : List T) → drop k c ≡ x ∷ rest → k < length g → r ≡ get_or g k []
      → set (zip_push g (take k c)) k (r ++ x ∷ []) ≡ zip_push g (take (suc k) c)
  set-zip_push [] c rest k x r at below is = absurd (omega arith)
  set-zip_push (q ∷ qs) [] rest zero x r at below is = absurd (cc)
  set-zip_push (q ∷ qs) [] rest (suc k) x r at below is = absurd (cc)
  set-zip_push (q ∷ qs) (y ∷ ys) rest zero x r at below is =
      let e : y ≡ x = cc in ap (λ (z : List T). (z ++ x ∷ []) ∷ qs) is
      ∙ (ap (λ (z : T). (q ++ z ∷ []) ∷ qs) (sym e) ∙ ap (λ (z : List (List T)). (q ++ y ∷ []) ∷ z) (sym (zip_push-nil qs)))
  set-zip_push (q ∷ qs) (y ∷ ys) rest (suc k) x r at below is =
      ap (λ (z : List (List T)). (q ++ y ∷ []) ∷ z) (set-zip_push qs ys rest k x r at (omega arith) is)

  -- the element that a list goes on with, and what follows it
  pub drop-next : (c rest : List T) (k : ℕ) (x : T) → drop k c ≡ x ∷ rest → rest ≡ drop (suc k) c
  drop-next [] rest zero x at = absurd (cc)
  drop-next [] rest (suc k) x at = absurd (cc)
  drop-next (y ∷ ys) rest zero x at = let e : ys ≡ rest = cc in sym e
  drop-next (y ∷ ys) rest (suc k) x at = drop-next ys rest k x at

  pub length-zip_push : (g : List (List T)) (c : List T) → length (zip_push g c) ≡ length g
  length-zip_push [] c = refl
  length-zip_push (r ∷ rs) [] = refl
  length-zip_push (r ∷ rs) (x ∷ xs) = ap suc (length-zip_push rs xs)

  pub get_or-zip_push : (g : List (List T)) (c : List T) (k : ℕ) (d : List T) (x : T) → length c ≡ length g → k < length g
      → get_or (zip_push g c) k d ≡ get_or g k d ++ get_or c k x ∷ []
  get_or-zip_push [] c k d x same below = absurd (omega arith)
  get_or-zip_push (r ∷ rs) [] k d x same below = absurd (omega arith)
  get_or-zip_push (r ∷ rs) (y ∷ ys) zero d x same below = refl
  get_or-zip_push (r ∷ rs) (y ∷ ys) (suc k) d x same below = get_or-zip_push rs ys k d x (omega arith) (omega arith)

  pub length-push_all : (g cs : List (List T)) → length (push_all g cs) ≡ length g
  length-push_all g [] = refl
  length-push_all g (c ∷ cs) = length-push_all (zip_push g c) cs ∙ length-zip_push g c

  -- a row goes on with the elements of the columns at its place
  pub get_or-push_all : (g cs : List (List T)) (j : ℕ) (x : T) → All (λ (c : List T). length c ≡ length g) cs → j < length g
      → get_or (push_all g cs) j [] ≡ get_or g j [] ++ map (λ (c : List T). get_or c j x) cs
  get_or-push_all g [] j x widths below = sym (append-nil (get_or g j []))
  get_or-push_all g (c ∷ cs) j x widths below =
      let h = zip_push g c in
      let same : length h ≡ length g = length-zip_push g c in
      let later : All (λ (e : List T). length e ≡ length h) cs = λ k d under. widths (suc k) d (omega arith) ∙ sym same in
      get_or-push_all h cs j x later (omega arith)
      ∙ (ap (λ (r : List T). r ++ map (λ (e : List T). get_or e j x) cs) (get_or-zip_push g c j [] x (widths 0 [] (omega arith)) below)
      ∙ append_assoc (get_or g j []) (get_or c j x ∷ []) (map (λ (e : List T). get_or e j x) cs))

  pub width-zip_push : (g : List (List T)) (c : List T) (k : ℕ) → length c ≡ length g → k < length g
      → length (get_or (zip_push g c) k []) ≡ length (get_or g k []) + 1
  width-zip_push [] c k same below = absurd (omega arith)
  width-zip_push (r ∷ rs) [] k same below = absurd (omega arith)
  width-zip_push (r ∷ rs) (y ∷ ys) zero same below = length-append r (y ∷ [])
  width-zip_push (r ∷ rs) (y ∷ ys) (suc k) same below = width-zip_push rs ys k (omega arith) (omega arith)

  pub width-push_all : (g cs : List (List T)) (j : ℕ) → All (λ (c : List T). length c ≡ length g) cs → j < length g
      → length (get_or (push_all g cs) j []) ≡ length (get_or g j []) + length cs
  width-push_all g [] j widths below = sym (add-zero (length (get_or g j [])))
  width-push_all g (c ∷ cs) j widths below =
      let h = zip_push g c in
      let same : length h ≡ length g = length-zip_push g c in
      let later : All (λ (e : List T). length e ≡ length h) cs = λ k d under. widths (suc k) d (omega arith) ∙ sym same in
      omega (arith, width-push_all h cs j later (omega arith), width-zip_push g c j (widths 0 [] (omega arith)) below)

  -- from empty rows
  pub turned : (g cs : List (List T)) → All (λ (c : List T). length c ≡ length g) cs → All (λ (r : List T). r ≡ []) g → IsTransposed cs (push_all g cs)
  turned g cs widths empty =
      let row : (j : ℕ) (x : T) → j < length (push_all g cs) → get_or (push_all g cs) j [] ≡ map (λ (c : List T). get_or c j x) cs =
      λ j x below. get_or-push_all g cs j x widths (omega (arith, length-push_all g cs, below))
      ∙ ap (λ (r : List T). r ++ map (λ (c : List T). get_or c j x) cs) (empty j [] (omega (arith, length-push_all g cs, below)))
      in record {
        widths = λ j below.
            let under : j < length g = omega (arith, length-push_all g cs, below) in
            width-push_all g cs j widths under ∙ (ap (λ (r : List T). length r + length cs) (empty j [] under) ∙ zero-add (length cs));
        cells = λ i j d under below. ap (λ (r : List T). get_or r i d) (row j d below) ∙ get_or-map (λ (c : List T). get_or c j d) cs i [] d under;
      }

  -- each row has grown by one
  pub filled_more : (g h : List (List T)) (c : List T) (rest n : ℕ) → h ≡ zip_push g c → length c ≡ length g → All (λ (r : List T). length r + (rest + 1) ≡ n) g
      → All (λ (r : List T). length r + rest ≡ n) h
  filled_more g h c rest n is same filled k d below =
      let under : k < length g = omega (arith, ap length is, length-zip_push g c, below) in
      let wide : length (get_or h k d) ≡ length (get_or g k []) + 1 =
      ap length (get_or_default h k d [] below ∙ ap (λ (z : List (List T)). get_or z k []) is) ∙ width-zip_push g c k same under in
      omega (arith, wide, filled k [] under)

module _ {T A : Type 0} where
  -- a row that has fewer elements than there are columns has room
  pub room_for_push : (rows first : List (Vec T A)) (rest n : ℕ) → All (λ (r : List T). length r + (rest + 1) ≡ n) (lists rows)
      → map vec_capacity rows ≡ map vec_capacity first → All (λ (m : ℕ). n ≤ m) (map vec_capacity first)
      → All (λ (v : Vec T A). vec_len v < vec_capacity v) rows
  room_for_push rows first rest n filled same room k d below =
      let w = get_or rows k d in
      let row_at : get_or (lists rows) k [] ≡ w.items = get_or-map (λ (v : Vec T A). v.items) rows k d [] below in
      let under : k < length (lists rows) = rw length-map below in
      let len = filled k [] under in
      let at : get_or (map vec_capacity rows) k 0 ≡ vec_capacity w = get_or-map vec_capacity rows k d 0 below in
      let counts : length first ≡ length rows = sym (length-map first vec_capacity) ∙ (ap length (sym same) ∙ length-map rows vec_capacity) in
      let wide = room k 0 (rw length-map (omega (arith, counts, below))) in
      omega (arith, ap length row_at, len, w.ok.0, ap (λ (z : List ℕ). get_or z k 0) same, at, wide)
