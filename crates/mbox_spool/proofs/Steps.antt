-- Steps, and one after another.
use Rattle.std.proofs.Common.{◌≡◌, ℕ, ◌+◌, ◌-◌, ◌*◌, ◌<◌, ◌≤◌, arith, List, [], ◌++◌, length, take, drop, sym, ap, ◌∙◌, append_assoc, append-nil}
use Rattle.std.proofs.lemmas.List.{length-drop, drop-drop}
use Rattle.std.proofs.Math.Seq.{take-add}
use Rattle.mbox_spool.specs.declared.pending.Step.{Step}
use Rattle.mbox_spool.specs.Quoted.{Pending, IsPending, quoted_owed}
use Rattle.mbox_spool.specs.Steps.{IsWriterStep, pending_weight}

-- the first n bytes as they are
pub IsWriterStep-plain : (before next : Pending) (piece : List ℕ) (n : ℕ) (step : Step)
    → step.len ≡ n → step.taken ≡ n → step.extra.now ≡ [] → step.next ≡ next
    → n ≤ length piece → IsPending next → 2 * (length piece - n) + pending_weight next < 2 * length piece + pending_weight before
    → ((rest : List ℕ) → take n piece ++ quoted_owed next (drop n piece ++ rest) ≡ quoted_owed before (piece ++ rest))
    → IsWriterStep before piece step
IsWriterStep-plain before next piece n step a b c d within is smaller goes = record {
  len = rw a within;
  taken = rw b within;
  next = rw d is;
  smaller = rw (b, d) smaller;
  goes = λ rest. rw (a, b, c, d, append-nil (take n piece)) (goes rest);
}

-- a step after bytes that are written as they are
abbrev pub both : Step → Step → Step
both step more = record { len = step.len + more.len; taken = step.taken + more.taken; extra = more.extra; next = more.next }

both_goes : (piece extra end : List ℕ) (t m : ℕ) → (take (t + m) piece ++ extra) ++ end ≡ take t piece ++ ((take m (drop t piece) ++ extra) ++ end)
both_goes piece extra end t m =
    rw (take-add t m piece) (append_assoc (take t piece ++ take m (drop t piece)) extra end ∙ append_assoc (take t piece) (take m (drop t piece)) (extra ++ end)
    ∙ ap (λ (l : List ℕ). take t piece ++ l) (sym (append_assoc (take m (drop t piece)) extra end)))

pub IsWriterStep-both : (before : Pending) (piece : List ℕ) (step more : Step) → step.len ≡ step.taken → step.extra.now ≡ []
    → IsWriterStep before piece step → IsWriterStep step.next (drop step.taken piece) more → IsWriterStep before piece (both step more)
IsWriterStep-both before piece step more same none x y =
    let len = length-drop step.taken piece in record {
      len = omega (arith, x.taken, y.len, len, same);
      taken = omega (arith, x.taken, y.taken, len);
      next = y.next;
      smaller = omega (arith, x.taken, y.taken, x.smaller, y.smaller, len);
      goes = λ rest.
          ap (λ (n : ℕ). (take (n + more.len) piece ++ more.extra.now) ++ quoted_owed more.next (drop (step.taken + more.taken) piece ++ rest)) same
          ∙ both_goes piece more.extra.now _ step.taken more.len
          ∙ ap (λ (l : List ℕ). take step.taken piece ++ ((take more.len (drop step.taken piece) ++ more.extra.now) ++ quoted_owed more.next (l ++ rest)))
          (sym (drop-drop more.taken step.taken piece))
          ∙ ap (λ (l : List ℕ). take step.taken piece ++ l) (y.goes rest)
          ∙ ap (λ (l : List ℕ). l ++ quoted_owed step.next (drop step.taken piece ++ rest))
          (ap (λ (n : ℕ). take n piece) (sym same) ∙ sym (append-nil (take step.len piece)) ∙ ap (λ (l : List ℕ). take step.len piece ++ l) (sym none))
          ∙ x.goes rest;
    }
