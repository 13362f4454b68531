-- A text that was written, and then handed on.
use Rattle.std.proofs.Common.{List, ℕ, [], Option, Err, Ok, OnErr, OnOk, sym, append-nil}
use Rattle.std.specs.Prelude.{Result}
use Rattle.std.specs.Io.KnownBytes.{Appends, Keeps}
use Rattle.lmtpd_output.specs.Output.{IsCutOff}
use Rattle.lmtpd_output.proofs.Written.{Appends-keeps}

pub whole_kept : {T E : Type 0} (r : Result T E) (u v w : Option (List ℕ)) (text : List ℕ) → Appends u v text → Keeps v w → OnOk r (Appends u w text)
whole_kept (Ok x) u v w text written kept = Appends-keeps u v w text written kept
whole_kept (Err e) u v w text written kept = tt

-- all of it stands there, though it wasn't handed on
pub whole_cut : {T E : Type 0} (r : Result T E) (u v w : Option (List ℕ)) (text : List ℕ) → Appends u v text → Keeps v w → OnErr r (IsCutOff u w text)
whole_cut (Ok x) u v w text written kept = tt
whole_cut (Err e) u v w text written kept = record {
  prefix = text;
  begins = record { rest = []; whole = sym (append-nil text) };
  appended = Appends-keeps u v w text written kept;
}
