-- What is written in several calls through a writer that hands on what is printable.
use Rattle.std.proofs.Common.{◌≡◌, ℕ, List, [], ◌∷◌, Option, Some, None, Result, Ok, Err, OnOk, option_map, sym, ap, ◌∙◌}
use Rattle.std.proofs.Output.{has_written_append, has_written_of_eq, has_written_to_eq, writes_in_calls_nil}
use Rattle.std.specs.List.{FoldsTo, concat}
use Rattle.std.specs.Fmt.{DisplaysOnOk, IsPlainFormatter, HasWritten, WritesInCalls, WritesText}
use Rattle.std.specs.declared.fmt.Error.{Error}
use Rattle.std.specs.declared.fmt.Formatter.{Formatter}
use Rattle.percent_encoding.specs.declared.ascii_set.TheConstants.{CONTROLS}
use Rattle.percent_encoding.proofs.PercentLemmas.{percent_encode-append, percent_encode-nil}
use Rattle.lmtpd_output.specs.declared.escaped.Escaping.{Escaping}
use Rattle.lmtpd_output.specs.Printable.{Escapes, printable_text}

module _ {W : Type 0} (took : W → List ℕ → W → Type 0) where
  keeps_reference : (p : Escaping W) (texts : List (List ℕ)) (q : Escaping W) → FoldsTo (Escapes took) p texts q
      → q.out.ghost_name ≡ p.out.ghost_name
  keeps_reference p [] q h = ap (λ (x : Escaping W). x.out.ghost_name) (sym h)
  keeps_reference p (x ∷ xs) q h = keeps_reference h.0 xs q h.2 ∙ h.1.same_reference

  writes_all : (p : Escaping W) (texts : List (List ℕ)) (q : Escaping W) → FoldsTo (Escapes took) p texts q
      → IsPlainFormatter p.out.now → HasWritten took p.out.now (printable_text (concat texts)) q.out.now
  writes_all p [] q h plain =
      has_written_of_eq took _ _ _ _ (sym (percent_encode-nil CONTROLS))
      (has_written_to_eq took _ _ _ _ (sym (ap (λ (x : Escaping W). x.out.now) h))
      (record { wrote = writes_in_calls_nil took _; plain = plain }))
  writes_all p (x ∷ xs) q h plain =
      let first = h.1.wrote plain in
      has_written_of_eq took _ _ _ _ (sym (percent_encode-append CONTROLS x (concat xs)))
      (has_written_append took _ _ _ _ _ first (writes_all h.0 xs q h.2 first.plain))

  -- what the lent formatter ends as, where all was handed on
  shows_text : (p q : Escaping W) (x : Formatter W) (text : List ℕ) → WritesInCalls (Escapes took) p text q
      → (p.out.ghost_name ≡ q.out.ghost_name → x ≡ q.out.now) → IsPlainFormatter p.out.now
      → HasWritten took p.out.now (printable_text text) x
  shows_text p q x text h back plain =
      has_written_to_eq took _ _ _ _ (back (sym (keeps_reference p h.parts q h.calls)))
      (has_written_of_eq took _ _ _ _ (ap printable_text h.whole) (writes_all p h.parts q h.calls plain))

  pub shows_printable : (r : Result (Unit {0}) Error) (o : Option (List ℕ)) (p q : Escaping W) (x : Formatter W)
      → OnOk r (WritesText (Escapes took) p o q) → (p.out.ghost_name ≡ q.out.ghost_name → x ≡ q.out.now)
      → DisplaysOnOk took p.out.now r (option_map printable_text o) x
  shows_printable r None p q x h back = tt
  shows_printable (Ok u) (Some text) p q x h back = λ plain _. shows_text p q x text h back plain
  shows_printable (Err e) (Some text) p q x h back = λ plain ok. cc
