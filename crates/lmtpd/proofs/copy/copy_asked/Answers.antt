use Rattle.std.proofs.Common.{◌≡◌, Result, Ok, Err, OnOk, None, refl, sym, ◌∙◌}
use Rattle.std.specs.Result.{result_err}
use Rattle.lmtpd.proofs.copy.copy_asked.Goals as goal

no_fault : {T E Q : Type 0} (r : Result T E) → result_err r ≡ None → OnOk r Q → Q
no_fault (Ok value) none says = says
no_fault (Err cause) none says = cc

pub returns : goal.returns
returns g c = record {
  file = refl;
  to = refl;
  done = λ none. no_fault c.copy_file-copied.result (sym c.err.ensures.value ∙ none) c.copy_file-copied.ensures;
}
