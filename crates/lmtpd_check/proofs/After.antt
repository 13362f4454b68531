-- A line after one that was written, or before one that wasn't.
use Rattle.std.proofs.Common.{◌++◌, List, [], ℕ, Option, Err, Ok, OnErr, ap, append-nil, append_assoc, sym, ◌∙◌}
use Rattle.std.specs.Prelude.{Result}
use Rattle.std.specs.Io.KnownBytes.{Appends}
use Rattle.lmtpd_output.specs.Output.{IsCutOff}
use Rattle.lmtpd_output.proofs.Written.{breaks_next}

-- the later one was cut off
pub fails_after : {T E : Type 0} (r : Result T E) (u v w : Option (List ℕ)) (before line : List ℕ) → Appends u v before → OnErr r (IsCutOff v w line)
    → OnErr r (IsCutOff u w (before ++ line))
fails_after (Ok x) u v w before line written cut = cc
fails_after (Err e) u v w before line written cut =
    breaks_next u v w (before ++ line) line [] (record {
      prefix = before;
      whole = ap (λ (t : List ℕ). before ++ t) (sym (append-nil line));
      appended = written;
    }) cut

-- the first one was
pub cut_before : (u v : Option (List ℕ)) (line after : List ℕ) → IsCutOff u v line → IsCutOff u v (line ++ after)
cut_before u v line after cut = record {
  prefix = cut.prefix;
  begins = record {
    rest = cut.begins.rest ++ after;
    whole = ap (λ (t : List ℕ). t ++ after) cut.begins.whole ∙ append_assoc cut.prefix cut.begins.rest after;
  };
  appended = cut.appended;
}
