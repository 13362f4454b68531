-- Texts that are judged after clap.
use Rattle.std.proofs.Common.{◌≡◌, ◌∷◌, [], ℕ, Option, Some, None, refl, arith}
use Rattle.std.specs.Prelude.{MatchOption}
use Rattle.clap.specs.Words.{Text}
use Rattle.lmtpd_words.specs.Words.{IsModeOr, IsNoMode, IsNoPath, WritesMode, octal}

-- a text that is no path is empty
pub empty_text : (text : Text) → IsNoPath (Some text) → text ≡ []
empty_text [] none = refl
empty_text (b ∷ rest) none = absurd (none (b ∷ rest) (refl, omega arith))

-- the permission bits of a text that is given
pub mode_given : (usual : ℕ) (text : Text) (r : Option ℕ) → MatchOption r (WritesMode text → ⊥) (λ mode. WritesMode text × (mode ≡ octal text))
    → MatchOption r (IsNoMode (Some text)) (IsModeOr usual (Some text))
mode_given usual text None h = (text, refl, h)
mode_given usual text (Some mode) h = h
