-- A piece of the message, step by step.
use Rattle.std.proofs.Common.{◌≡◌, ℕ, ◌-◌, List, ◌++◌, length, take, drop, sym, ap, ◌∙◌, append_assoc, subst}
use Rattle.std.proofs.lemmas.List.{take_rest}
use Rattle.mbox_spool.specs.Spool.{SpoolState, SpoolTook, SpoolFailed}
use Rattle.mbox_spool.specs.Quoted.{Pending, IsPending, quoted_owed}
use Rattle.mbox_spool.specs.Writing.{Fails}
use Rattle.mbox_spool.proofs.Taken.{SpoolTook-then, SpoolFailed-later}

-- the spool took what is sure of the piece up to the rest
pub record TakesPiece (old new : SpoolState) (before now : Pending) (piece rest : List ℕ) : Type 0 where
  pub text : List ℕ
  pub taken : SpoolTook old new text
  pub is : IsPending now
  pub goes : (more : List ℕ) → text ++ quoted_owed now (rest ++ more) ≡ quoted_owed before (piece ++ more)

-- where the spool then takes a text for the first n bytes of the rest, or fails within it
module _ (s t u : SpoolState) (before now next : Pending) (piece rest text : List ℕ) (n : ℕ) (x : TakesPiece s t before now piece rest)
    (goes : (more : List ℕ) → text ++ quoted_owed next (drop n rest ++ more) ≡ quoted_owed now (rest ++ more)) where
  further : (more : List ℕ) → (x.text ++ text) ++ quoted_owed next (drop n rest ++ more) ≡ quoted_owed before (piece ++ more)
  further more =
      append_assoc x.text text (quoted_owed next (drop n rest ++ more))
      ∙ ap (λ (l : List ℕ). x.text ++ l) (goes more) ∙ x.goes more

  pub TakesPiece-more : IsPending next → SpoolTook t u text → TakesPiece s u before next piece (take (length rest - n) (drop n rest))
  TakesPiece-more is z = record {
    text = x.text ++ text;
    taken = SpoolTook-then s t u x.text text x.taken z;
    is = is;
    goes = rw (take_rest rest n) further;
  }

  pub FailsPiece-more : SpoolFailed t u text → Fails s u (λ more. quoted_owed before (piece ++ more))
  FailsPiece-more z = record {
    text = x.text ++ text;
    failed = SpoolFailed-later s t u x.text text x.taken z;
    sure = λ more. record { rest = quoted_owed next (drop n rest ++ more); whole = sym (further more) };
  }

-- the spool stands as it stood
pub TakesPiece-still : (s t u : SpoolState) (before now : Pending) (piece rest : List ℕ) → u ≡ t
    → TakesPiece s t before now piece rest → TakesPiece s u before now piece rest
TakesPiece-still s t u before now piece rest e x =
    let P : SpoolState → Type 0 = λ v. TakesPiece s v before now piece rest in subst P (sym e) x
