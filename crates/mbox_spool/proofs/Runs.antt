-- Lines that are written as they are.
use Rattle.std.proofs.Common.{◌≡◌, ◌≢◌, ℕ, suc, ◌+◌, ◌<◌, ◌≤◌, arith, ◌==◌, List, [], ◌∷◌, ◌++◌, length, take, drop, slice_index_or, sym, ap, ◌∙◌, append-nil}
use Rattle.std.proofs.lemmas.Bool.{false_from_ne_true, eqb-true}
use Rattle.mail_world.specs.Text.{lf, unix}
use Rattle.mail_world.specs.Records.{quoted_text}
use Rattle.mbox_spool.specs.declared.pending.Pending.TheVariants.{Start, Inside}
use Rattle.mbox_spool.specs.Quoted.{line_rest}
use Rattle.mbox_spool.specs.Steps.{IsWriterRun}
use Rattle.mbox_spool.proofs.Words.{plain_first}
use Rattle.mbox_spool.proofs.Ends.{IsEndOfPiece}

pub same_text : (text more goal : List ℕ) → (text ++ []) ++ more ≡ goal → text ++ more ≡ goal
same_text text more goal e = ap (λ (l : List ℕ). l ++ more) (sym (append-nil text)) ∙ e

plain_text : (piece rest : List ℕ) → 0 < length piece → slice_index_or piece 0 0 ≢ 62 → slice_index_or piece 0 0 ≢ 70
    → line_rest (unix (piece ++ rest)) ≡ quoted_text (unix (piece ++ rest))
plain_text [] rest some p q = absurd (omega arith)
plain_text (b ∷ piece) rest some p q =
    plain_first b (piece ++ rest) (false_from_ne_true (b == 62) (λ t. p (eqb-true b 62 t))) (false_from_ne_true (70 == b) (λ t. q (sym (eqb-true 70 b t))))

-- from a line's start, up to its LF
pub run_at_start : (piece : List ℕ) (len n : ℕ) → IsEndOfPiece piece n → len ≤ n
    → slice_index_or piece 0 0 ≢ 62 → slice_index_or piece 0 0 ≢ 70
    → ((rest : List ℕ) → take len piece ++ line_rest (unix (drop n piece ++ rest)) ≡ line_rest (unix (piece ++ rest)))
    → IsWriterRun Start piece len n
run_at_start piece len n end low p q goes =
    let high = end.high in record {
      within = omega (arith, high, low);
      further = omega (arith, high);
      smaller = omega (arith, high);
      goes = λ rest. goes rest ∙ plain_text piece rest (omega (arith, high)) p q;
    }

one_more : (n : ℕ) → n + 1 ≡ suc n
one_more n = omega arith

-- and with the LF before it
pub run_after_lf : (piece : List ℕ) (len n : ℕ) → 0 < length piece → slice_index_or piece 0 0 ≡ 10 → IsWriterRun Start (drop 1 piece) len n
    → IsWriterRun Inside piece (len + 1) (n + 1)
run_after_lf [] len n some e x = absurd (omega arith)
run_after_lf (b ∷ piece) len n some e x =
    let within = x.within in
    let further = x.further in record {
      within = omega (arith, within);
      further = omega (arith, further);
      smaller = omega (arith, further);
      goes = λ rest. rw (e, one_more len, one_more n) (ap (λ (l : List ℕ). lf ∷ l) (x.goes rest));
    }
