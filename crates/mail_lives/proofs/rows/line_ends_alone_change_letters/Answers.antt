use Rattle.std.proofs.Common.{◌≡◌, ℕ, List, [], ◌∷◌, ◌++◌, refl}
use Rattle.std.specs.Prelude.{codes}
use Rattle.mail_world.specs.Reading.{Letter, AreLetters, written}
use Rattle.mail_lives.proofs.rows.line_ends_alone_change_letters.Goals as goal

none_is : (letters : List Letter) (more : List ℕ) → AreLetters letters → written letters ≡ codes "F\n\n" ++ more → ⊥
none_is [] more are e = cc
none_is (letter ∷ letters) more are e = cc

pub returns : goal.returns
returns c = record { changed = refl; none = none_is }
