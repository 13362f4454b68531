-- What a writer writes of two pieces, one after the other.
use Rattle.std.proofs.Common.{ℕ, List, ◌++◌, sym, ap, ◌∙◌, append_assoc}
use Rattle.mbox_spool.specs.Spool.{SpoolState}
use Rattle.mbox_record.specs.Writing.{Writer, bytes_owed, WritesPiece, FailsPiece}
use Rattle.mbox_spool.proofs.Taken.{SpoolTook-then, SpoolFailed-later}

pub WritesPiece-then : (s t u : SpoolState) (a b c : Writer) (p q : List ℕ) → WritesPiece s t a b p → WritesPiece t u b c q → WritesPiece s u a c (p ++ q)
WritesPiece-then s t u a b c p q x y = record {
  text = x.text ++ y.text;
  taken = SpoolTook-then s t u x.text y.text x.taken y.taken;
  goes = λ rest. append_assoc x.text y.text (bytes_owed c rest) ∙ ap (λ (l : List ℕ). x.text ++ l) (y.goes rest) ∙ x.goes (q ++ rest)
      ∙ ap (bytes_owed a) (sym (append_assoc p q rest));
}

pub FailsPiece-then : (s t u : SpoolState) (a b : Writer) (p q : List ℕ) → WritesPiece s t a b p → FailsPiece t u b q → FailsPiece s u a (p ++ q)
FailsPiece-then s t u a b p q x y = record {
  text = x.text ++ y.text;
  failed = SpoolFailed-later s t u x.text y.text x.taken y.failed;
  sure = λ rest. let prefix = y.sure rest in record {
    rest = prefix.rest;
    whole = ap (bytes_owed a) (append_assoc p q rest) ∙ sym (x.goes (q ++ rest)) ∙ ap (λ (l : List ℕ). x.text ++ l) prefix.whole
        ∙ sym (append_assoc x.text y.text prefix.rest);
  };
}
