-- What a writer holds where a write failed, and texts that are written one after the other.
use Rattle.std.specs.Prelude.{◌≡◌, ℕ, Bool, true, List, [], ◌∷◌, ◌++◌, Option}
use Rattle.std.specs.Io.KnownBytes.{Appends}
use Rattle.mail_world.specs.Prefixes.{IsPrefix}
use Rattle.lmtp_talk.specs.Served.{IsWritten}

-- a prefix of the text was added
pub record IsCutOff (old new : Option (List ℕ)) (text : List ℕ) : Type 0 where
  pub prefix : List ℕ
  pub begins : IsPrefix prefix text
  pub appended : Appends old new prefix

-- a text was written after that, or a prefix of it where it was cut
pub record IsListed (text : List ℕ) (before after : Option (List ℕ)) (cut : Bool) : Type 0 where
  pub listed : List ℕ
  pub output : Appends before after listed
  pub lists : IsWritten text (cut ≡ true) listed

-- the text of each name with what belongs to it
abbrev pub pair_texts : {X : Type 0} → (List ℕ → X → List ℕ) → List (List ℕ) → List X → List ℕ
pair_texts f (name ∷ names) (x ∷ xs) = f name x ++ pair_texts f names xs
pair_texts f _ _ = []
