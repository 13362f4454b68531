-- Each by computation.
use Rattle.std.proofs.Common.{◌≡◌, ℕ, List, [], ◌∷◌, false, inl, inr, refl}
use Rattle.std.specs.Prelude.{codes}
use Rattle.mail_world.specs.Text.{lf, has_byte}
use Rattle.mail_world.specs.Reading.{IsLetter, written}
use Rattle.mail_world.proofs.OneLine.{literal}
use Rattle.mail_lives.specs.ReadAs.{IsReadAs, with_mended}
use Rattle.mail_lives.specs.Rows.{told, bare}
use Rattle.mail_lives.proofs.rows.torn_mailboxes.Goals as goal

told_is : IsLetter told
told_is = record { head = literal _ refl; body = inr (codes "x", refl) }

one : IsReadAs (written (told ∷ [])) (told ∷ [])
one = record { are = (told_is, tt); whole = refl }

-- a letter, and one whose From line was filled up
bare_after : (head bytes : List ℕ) → has_byte head lf ≡ false → written (told ∷ bare head ∷ []) ≡ with_mended bytes
    → IsReadAs bytes (told ∷ bare head ∷ [])
bare_after head bytes e h = record { are = (told_is, (record { head = literal head e; body = inl refl }, tt)); whole = h }

pub returns : goal.returns
returns c = record {
  nothing = record { are = tt; whole = refl };
  whole = one;
  first_byte = bare_after _ _ refl refl;
  address = bare_after _ _ refl refl;
  date = bare_after _ _ refl refl;
  filled = bare_after _ _ refl refl;
  line = record { are = (told_is, tt); whole = refl };
  after_a_line = record { are = (record { head = literal _ refl; body = inr (codes "x\nF", refl) }, tt); whole = refl };
  quoted = record { are = (record { head = literal _ refl; body = inr (codes "x\n\n>From", refl) }, tt); whole = refl };
  begins = record { rest = codes "ed\n\n"; whole = refl };
  two = bare_after _ _ refl refl;
}
