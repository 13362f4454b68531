-- What a function returns where a call in it ended so. Each is a step of its own, since a goal of a server is large once
-- it is unfolded.
use Rattle.std.proofs.Common.{◌≡◌, subst, sym}
use Rattle.std.specs.Prelude.{Err, MatchResult, Result}
use Rattle.lmtpd_serve.specs.declared.served.Served.{Served as ServedRun}
use Rattle.lmtpd.specs.declared.serve.filled.ServeDone.{ServeDone}
use Rattle.lmtpd.specs.declared.serve.filled.ServeDone.TheVariants as done

-- the error is that one
pub refused_with : {T E : Type 0} (Good : T → Type 0) (Bad : E → Type 0) (r : Result T E) (y e : E)
    → r ≡ Err y → y ≡ e → Bad e → MatchResult r Good Bad
refused_with Good Bad r y e is same bad =
    subst (λ r. MatchResult r Good Bad) (sym is) (subst Bad (sym same) bad)

-- what is so of a server that ran, or of words that were checked
abbrev pub IsDoneWith : {W : Type 0} → (W → ServedRun → Type 0) → Type 0 → ServeDone W → Type 0
IsDoneWith Ran Checked (done.Served it writer) = Ran writer it
IsDoneWith Ran Checked done.WordsChecked = Checked

pub ran : {W : Type 0} (Ran : W → ServedRun → Type 0) (Checked : Type 0) (d : ServeDone W) (it : ServedRun) (writer : W)
    → d ≡ done.Served it writer → IsDoneWith Ran Checked d → Ran writer it
ran Ran Checked d it writer is h = subst (λ d. IsDoneWith Ran Checked d) is h

pub checked : {W : Type 0} (Ran : W → ServedRun → Type 0) (Checked : Type 0) (d : ServeDone W)
    → d ≡ done.WordsChecked → IsDoneWith Ran Checked d → Checked
checked Ran Checked d is h = subst (λ d. IsDoneWith Ran Checked d) is h
