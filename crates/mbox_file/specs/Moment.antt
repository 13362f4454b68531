-- What a crash may leave of a file at some moment.
use Rattle.std.specs.Prelude.{◌≡◌, ◌⊎◌, ℕ, ◌≤◌, List, [], ◌∷◌, take}

pub record Moment : Type 0 where
  -- so many of the first bytes are left at least
  pub kept : ℕ
  -- of one of these contents
  pub contents : List (List ℕ)

-- the first bytes of that content, so many at least
pub record LeavesFirst (kept : ℕ) (content left : List ℕ) : Type 0 where
  pub n : ℕ
  pub kept_are : kept ≤ n
  pub is : left ≡ take n content

-- those of one of these contents
abbrev pub LeavesOne : ℕ → List (List ℕ) → List ℕ → Type 0
LeavesOne kept [] left = ⊥
LeavesOne kept (content ∷ contents) left = LeavesFirst kept content left ⊎ LeavesOne kept contents left

-- A crash at that moment leaves these bytes. That a file system leaves nothing else, no zeros and no old blocks, is a
-- premise.
abbrev pub LeavesAt : Moment → List ℕ → Type 0
LeavesAt moment left = LeavesOne moment.kept moment.contents left
