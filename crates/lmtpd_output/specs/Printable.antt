-- What stands in the log of a text.
use Rattle.std.specs.Prelude.{◌≡◌, ℕ, ◌≤◌, List}
use Rattle.std.specs.Fmt.{IsPlainFormatter, HasWritten}
use Rattle.percent_encoding.specs.Percent.{percent_encode}
use Rattle.percent_encoding.specs.declared.ascii_set.TheConstants.{CONTROLS}
use Rattle.lmtpd_output.specs.declared.escaped.Escaping.{Escaping}

-- printable ASCII: the space, the tilde and what stands between them
abbrev pub IsPrintable : ℕ → Type 0
IsPrintable b = (32 ≤ b) × (b ≤ 126)

-- `%` and two hexadecimal digits in place of each byte that isn't
abbrev pub printable_text : List ℕ → List ℕ
printable_text text = percent_encode CONTROLS text

-- a writer went from old to new by handing on what is printable of the text
pub record Escapes {W : Type 0} (took : W → List ℕ → W → Type 0) (old : Escaping W) (text : List ℕ)
    (new : Escaping W) : Type 0 where
  pub same_reference : new.out.ghost_name ≡ old.out.ghost_name
  pub wrote : IsPlainFormatter old.out.now → HasWritten took old.out.now (printable_text text) new.out.now
