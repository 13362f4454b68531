-- What a file has of a text that it didn't write, or that it wrote and didn't keep.
use Rattle.std.proofs.Common.{◌≡◌, ◌≤◌, ◌∙◌, ◌++◌, List, [], ◌∷◌, ℕ, length, Result, Ok, Err, OnErr, ap, sym, subst, arith}
use Rattle.std.proofs.Common.{append-nil, length-append}
use Rattle.mbox_file.specs.MailboxFile.{FileState, at_now, HasAppended, HasNotAppended, FailsToKeep}
use Rattle.mbox_rd.specs.FileSpool.{LosesPart}

pub unwritten : (old new : FileState) (text : List ℕ) → HasNotAppended old new text → LosesPart old new text
unwritten old new text x =
    let kept : new.kept ≡ old.kept = ap (λ (s : FileState). s.kept) x.same in
    let bytes : new.bytes ≡ old.bytes ++ x.prefix = ap (λ (s : FileState). s.bytes) x.same in
    let longer : length new.bytes ≡ length (old.bytes ++ x.prefix) = ap length bytes in
    let sum = length-append old.bytes x.prefix in record {
      prefix = x.prefix;
      part = x.part;
      same = x.same ∙ ap (λ (s : FileState). record old {
        bytes = old.bytes ++ x.prefix;
        kept = s.kept;
        moments = s.moments;
        faults = new.faults;
      }) (sym x.same);
      kept = omega (arith, kept);
      within = λ h. omega (arith, h, kept, longer, sum);
      failed = x.failed;
    }

unkept_of : (old written new : FileState) (text : List ℕ) → HasAppended old written text → FailsToKeep written new
    → LosesPart old new text
unkept_of old written new text x y =
    let kept : written.kept ≡ old.kept = ap (λ (s : FileState). s.kept) x in
    let bytes : written.bytes ≡ old.bytes ++ text = ap (λ (s : FileState). s.bytes) x in
    let faults : written.faults ≡ old.faults = ap (λ (s : FileState). s.faults) x in
    let longer : length written.bytes ≡ length (old.bytes ++ text) = ap length bytes in
    let sum = length-append old.bytes text in
    let both = y.same ∙ ap (λ (s : FileState). record s {
      kept = new.kept;
      moments = s.moments ++ at_now s ∷ [];
      faults = new.faults;
    }) x in record {
      prefix = text;
      part = record { rest = []; whole = sym (append-nil text) };
      same = both ∙ ap (λ (s : FileState). record old {
        bytes = old.bytes ++ text;
        kept = new.kept;
        moments = s.moments;
        faults = new.faults;
      }) (sym both);
      kept = subst (λ n. n ≤ new.kept) kept y.kept;
      within = λ h. y.within (omega (arith, h, kept, longer, sum));
      failed = let e = y.failed in grind (arith, e, faults);
    }

pub unkept : {T E : Type 0} (r : Result T E) (old written new : FileState) (text : List ℕ)
    → HasAppended old written text → OnErr r (FailsToKeep written new) → OnErr r (LosesPart old new text)
unkept (Ok value) old written new text x y = tt
unkept (Err cause) old written new text x y = unkept_of old written new text x y
