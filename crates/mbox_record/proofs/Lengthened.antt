-- How long the text of a message is, as it was counted piece by piece.
use Rattle.std.proofs.Common.{◌≡◌, ℕ, ◌+◌, ◌-◌, ◌^◌, min, List, [], ◌∷◌, ◌++◌, length, sym, ap, ◌∙◌, append_assoc, append-nil}
use Rattle.mail_world.specs.Counts.{counted}
use Rattle.mail_world.specs.Text.{lf}
use Rattle.mbox_spool.specs.Writing.{Counts}
use Rattle.mbox_spool.proofs.Counts.{counts_both}
use Rattle.mbox_record.proofs.Counted.{counts_then}

-- what the record has of a text that begins so
module _ (owed : List ℕ → List ℕ) (begun : List ℕ) (count : ℕ) (now : List ℕ → List ℕ) (x : Counts count (λ rest. owed (begun ++ rest)) now) where
  -- one more piece was counted
  pub counts_piece : (piece : List ℕ) (more sum : ℕ) (next : List ℕ → List ℕ) → Counts more (λ rest. now (piece ++ rest)) next
      → sum ≡ min (count + more) (2 ^ 64 - 1) → Counts sum (λ rest. owed ((begun ++ piece) ++ rest)) next
  counts_piece piece more sum next y e =
      let Whole : List ℕ → List ℕ = λ rest. owed ((begun ++ piece) ++ rest) in
      let further : Counts count Whole (λ rest. now (piece ++ rest)) = record {
        text = x.text;
        is = x.is;
        goes = λ rest. x.goes (piece ++ rest) ∙ ap owed (sym (append_assoc begun piece rest));
      } in
      counts_then count more sum Whole (λ rest. now (piece ++ rest)) next further y e

  -- and what the end adds
  pub counts_end : (more sum : ℕ) → more ≡ counted (length (now [] ++ lf ∷ [])) → sum ≡ min (count + more) (2 ^ 64 - 1)
      → sum ≡ counted (length (owed begun ++ lf ∷ []))
  counts_end more sum is e =
      counts_both count more sum x.text (now [] ++ lf ∷ []) x.is is e
      ∙ ap (λ (l : List ℕ). counted (length l))
      (sym (append_assoc x.text (now []) (lf ∷ [])) ∙ ap (λ (l : List ℕ). l ++ lf ∷ []) (x.goes [] ∙ ap owed (append-nil begun)))
