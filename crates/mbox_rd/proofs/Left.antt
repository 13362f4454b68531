-- What is left of a turn: the bytes at its lock, and of those that were taken since a prefix.
use Rattle.std.proofs.Common.{◌≡◌, ◌⊎◌, inl, inr, ℕ, Bool, true, false, take, drop, List, [], ◌++◌, refl, sym, ap}
use Rattle.std.proofs.Common.{◌∙◌, ◌≤◌, length, append_assoc, subst, arith, Option, Some, None, append-nil as append_nil}
use Rattle.std.specs.Prelude.{if◌then◌else◌}
use Rattle.std.proofs.lemmas.List.{take-append-drop}
use Rattle.mail_world.specs.Prefixes.{IsPrefix}
use Rattle.mail_world.specs.Turns.{Standing}
use Rattle.mbox_file.specs.MailboxFile.{FileState}
use Rattle.mbox_spool.specs.Spool.{IsWithin, LeavesPart, KeepsSince}
use Rattle.mbox_rd.specs.Turn.{HasEndedTurn}
use Rattle.mbox_rd.specs.FileSpool.{StandsOn}

none_of : (text : List ℕ) → IsPrefix [] text
none_of text = record { rest = text; whole = refl }

-- a part of what waited is written
within : (lock file waiting prefix text : List ℕ) (n : ℕ) → take n file ≡ lock → IsPrefix prefix waiting
    → IsWithin lock ((file ++ waiting) ++ text) (file ++ prefix)
within lock file waiting prefix text n still part = record {
  above = record {
    rest = drop n file ++ prefix;
    whole = ap (λ (l : List ℕ). l ++ prefix) (sym (take-append-drop n file))
        ∙ ap (λ (l : List ℕ). (l ++ drop n file) ++ prefix) still
        ∙ append_assoc lock (drop n file) prefix;
  };
  below = record {
    rest = part.rest ++ text;
    whole = ap (λ (l : List ℕ). (file ++ l) ++ text) part.whole
        ∙ append_assoc file (prefix ++ part.rest) text
        ∙ ap (λ (l : List ℕ). file ++ l) (append_assoc prefix part.rest text)
        ∙ sym (append_assoc file prefix (part.rest ++ text));
  };
}

-- what is cut back is as it was at the lock
cut_within : (lock file waiting text : List ℕ) (n : ℕ) → take n file ≡ lock
    → IsWithin lock ((file ++ waiting) ++ text) lock
cut_within lock file waiting text n still = record {
  above = record { rest = []; whole = sym (append_nil lock) };
  below = record {
    rest = (drop n file ++ waiting) ++ text;
    whole = ap (λ (l : List ℕ). (l ++ waiting) ++ text) (sym (take-append-drop n file))
        ∙ ap (λ (l : List ℕ). ((l ++ drop n file) ++ waiting) ++ text) still
        ∙ ap (λ (l : List ℕ). l ++ text) (append_assoc lock (drop n file) waiting)
        ∙ append_assoc lock (drop n file ++ waiting) text;
  };
}

-- in a turn a part of what waited is written
pub part_left : (began : Option Standing) (n : ℕ) (file : FileState) (waiting prefix text now : List ℕ)
    → StandsOn began n file → IsPrefix prefix waiting → now ≡ file.bytes ++ prefix
    → LeavesPart began (file.bytes ++ waiting) now text
part_left None n file waiting prefix text now stands part grown = absurd stands
part_left (Some lock) n file waiting prefix text now stands part grown =
    let P : List ℕ → Type 0 = λ l. IsWithin lock.bytes ((file.bytes ++ waiting) ++ text) l in
    subst P (sym grown) (within lock.bytes file.bytes waiting prefix text n stands.still part)

-- in a turn the file stays, or is cut back
pub cut_left : (began : Option Standing) (n : ℕ) (file : FileState) (waiting text now : List ℕ) → StandsOn began n file
    → (now ≡ file.bytes) ⊎ (now ≡ take n file.bytes) → LeavesPart began (file.bytes ++ waiting) now text
cut_left began n file waiting text now stands (inl same) =
    part_left began n file waiting [] text now stands (none_of waiting) (same ∙ sym (append_nil file.bytes))
cut_left None n file waiting text now stands (inr cut) = absurd stands
cut_left (Some lock) n file waiting text now stands (inr cut) =
    let P : List ℕ → Type 0 = λ l. IsWithin lock.bytes ((file.bytes ++ waiting) ++ text) l in
    subst P (sym (cut ∙ stands.still)) (cut_within lock.bytes file.bytes waiting text n stands.still)

-- outside a turn nothing is written
none_left : (began : Option Standing) (last text : List ℕ) → began ≡ None → LeavesPart began last last text
none_left None last text none = record { prefix = []; rest = text; whole = refl; appended = sym (append_nil last) }
none_left (Some lock) last text none = cc

-- in both cases nothing is written
pub none_written : (in_turn : Bool) (began : Option Standing) (n : ℕ) (file : FileState) (waiting last text : List ℕ)
    → (in_turn ≡ false → (waiting ≡ []) × (began ≡ None)) → (in_turn ≡ true → StandsOn began n file)
    → LeavesPart began (if in_turn then file.bytes ++ waiting else last) (if in_turn then file.bytes ++ [] else last)
    text
none_written true began n file waiting last text free stands =
    part_left began n file waiting [] text _ (stands refl) (none_of waiting) refl
none_written false began n file waiting last text free stands = none_left began last text (free refl).1

-- of what was kept at the lock nothing is lost as the turn ends
pub kept_since : (broke : Bool) (began : Option Standing) (n : ℕ) (file now : FileState) → StandsOn began n file
    → HasEndedTurn file now broke n → KeepsSince began now.bytes now.kept
kept_since broke None n file now stands ended = absurd stands
kept_since true (Some lock) n file now stands ended =
    let kept = (ended.is_cut refl).kept stands.most in record {
      least = omega (arith, kept.0, stands.within, stands.least);
      most = kept.1;
    }
kept_since false (Some lock) n file now stands ended =
    let stays = (ended.stays refl).same in
    let kept : now.kept ≡ file.kept = ap (λ (s : FileState). s.kept) stays in record {
      least = subst (λ k. lock.synced ≤ k) (sym kept) stands.least;
      most = let P : List ℕ → Type 0 = λ l. now.kept ≤ length l in
          subst P (sym (ap (λ (s : FileState). s.bytes) stays))
          (subst (λ k. k ≤ length file.bytes) (sym kept) stands.most);
    }
