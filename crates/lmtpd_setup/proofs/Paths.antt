-- The path of a mailbox's file.
use Rattle.std.proofs.Common.{◌≡◌, ◌∙◌, ◌++◌, List, ℕ, String, Ok, Err, IfOk, ap, append_assoc, codes, sym}
use Rattle.std.specs.Prelude.{Result, string_bytes}
use Rattle.std.specs.declared.alloc.Global.{Global}

-- what was put together of its parts
pub path_told : {E : Type 0} (r : Result (String Global) E) (folder shown text suffix : List ℕ) → shown ≡ text
    → IfOk r (λ s. string_bytes s ≡ folder ++ (codes "/" ++ (shown ++ suffix)))
    → IfOk r (λ s. string_bytes s ≡ folder ++ codes "/" ++ text ++ suffix)
path_told (Ok s) folder shown text suffix is told =
    told ∙ (ap (λ l. folder ++ (codes "/" ++ (l ++ suffix))) is ∙ (sym (append_assoc folder (codes "/") (text ++ suffix))
    ∙ sym (append_assoc (folder ++ codes "/") text suffix)))
path_told (Err e) folder shown text suffix is told = tt
