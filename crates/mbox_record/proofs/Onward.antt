-- Texts that are owed, written one after another.
use Rattle.std.proofs.Common.{◌≡◌, ℕ, List, ◌++◌, sym, ap, ◌∙◌, append_assoc}
use Rattle.mbox_spool.specs.Spool.{SpoolState}
use Rattle.mbox_spool.specs.Quoted.{Pending, quoted_owed}
use Rattle.mbox_spool.specs.Writing.{Writes, Fails}
use Rattle.mbox_spool.proofs.Taken.{SpoolTook-then, SpoolFailed-later}

-- The spool took a text, and then a piece that was owed, or failed within it.
module _ (s t u : SpoolState) (first : List ℕ → List ℕ) (a : Pending) (piece : List ℕ) (owed then : List ℕ → List ℕ)
    (x : Writes s t first (λ rest. quoted_owed a (owed rest))) (e : (rest : List ℕ) → owed rest ≡ piece ++ then rest) where
  pub Writes-on : (b : Pending) → Writes t u (λ rest. quoted_owed a (piece ++ rest)) (quoted_owed b) → Writes s u first (λ rest. quoted_owed b (then rest))
  Writes-on b y = record {
    text = x.text ++ y.text;
    taken = SpoolTook-then s t u x.text y.text x.taken y.taken;
    goes = λ rest. append_assoc x.text y.text (quoted_owed b (then rest))
        ∙ ap (λ (l : List ℕ). x.text ++ l) (y.goes (then rest) ∙ ap (quoted_owed a) (sym (e rest))) ∙ x.goes rest;
  }

  pub Fails-on : Fails t u (λ rest. quoted_owed a (piece ++ rest)) → Fails s u first
  Fails-on y = record {
    text = x.text ++ y.text;
    failed = SpoolFailed-later s t u x.text y.text x.taken y.failed;
    sure = λ rest. let prefix = y.sure (then rest) in record {
      rest = prefix.rest;
      whole = sym (x.goes rest) ∙ ap (λ (l : List ℕ). x.text ++ l) (ap (quoted_owed a) (e rest) ∙ prefix.whole)
          ∙ sym (append_assoc x.text y.text prefix.rest);
    };
  }

-- A text in two.
pub Writes-then : (s t u : SpoolState) (f g h : List ℕ → List ℕ) → Writes s t f g → Writes t u g h → Writes s u f h
Writes-then s t u f g h x y = record {
  text = x.text ++ y.text;
  taken = SpoolTook-then s t u x.text y.text x.taken y.taken;
  goes = λ rest. append_assoc x.text y.text (h rest) ∙ ap (λ (l : List ℕ). x.text ++ l) (y.goes rest) ∙ x.goes rest;
}

pub Fails-then : (s t u : SpoolState) (f g : List ℕ → List ℕ) → Writes s t f g → Fails t u g → Fails s u f
Fails-then s t u f g x y = record {
  text = x.text ++ y.text;
  failed = SpoolFailed-later s t u x.text y.text x.taken y.failed;
  sure = λ rest. let prefix = y.sure rest in record {
    rest = prefix.rest;
    whole = sym (x.goes rest) ∙ ap (λ (l : List ℕ). x.text ++ l) prefix.whole ∙ sym (append_assoc x.text y.text prefix.rest);
  };
}
