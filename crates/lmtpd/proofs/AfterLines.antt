-- A line after lines that were written.
use Rattle.std.proofs.Common.{◌∙◌, ◌++◌, List, ℕ, Option, Err, Ok, OnErr, ap, append_assoc, sym}
use Rattle.std.specs.Prelude.{Result}
use Rattle.std.specs.Io.KnownBytes.{Appends}
use Rattle.lmtpd_output.specs.Output.{IsCutOff}
use Rattle.std.proofs.KnownBytes.{Appends-trans}

cut_after : (u v w : Option (List ℕ)) (before text : List ℕ) → Appends u v before → IsCutOff v w text → IsCutOff u w (before ++ text)
cut_after u v w before text written cut = record {
  prefix = before ++ cut.prefix;
  begins = record {
    rest = cut.begins.rest;
    whole = ap (λ (t : List ℕ). before ++ t) cut.begins.whole ∙ sym (append_assoc before cut.prefix cut.begins.rest);
  };
  appended = Appends-trans u v w before cut.prefix written cut.appended;
}

-- a text that was cut off after one that was written whole
pub fails_after : {T E : Type 0} (r : Result T E) (u v w : Option (List ℕ)) (before text : List ℕ) → Appends u v before
    → OnErr r (IsCutOff v w text) → OnErr r (IsCutOff u w (before ++ text))
fails_after (Ok x) u v w before text written cut = tt
fails_after (Err e) u v w before text written cut = cut_after u v w before text written cut
