-- Lists that begin others.
use Rattle.std.specs.Prelude.{◌≡◌, List, ◌++◌}

-- the list begins so
pub record IsPrefix {A : Type 0} (prefix all : List A) : Type 0 where
  pub rest : List A
  pub whole : all ≡ prefix ++ rest
