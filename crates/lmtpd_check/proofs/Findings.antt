-- Findings whose lines were written, one after another.
use Rattle.std.proofs.Common.{◌≡◌, ◌∙◌, ◌<◌, ◌+◌, ℕ, List, [], ◌∷◌, ◌++◌, length, take, get_or, Option, true, All, sym, ap, subst, refl, arith, append_assoc}
use Rattle.std.proofs.Common.{append-nil, length-append}
use Rattle.std.specs.Borrow.{Bor}
use Rattle.std.specs.Io.KnownBytes.{Appends}
use Rattle.std.proofs.lemmas.List.{get_or-map, length-map}
use Rattle.std.proofs.lemmas.List.Elements.{All-nil, All-push}
use Rattle.lmtp_text.specs.Sites.{texts}
use Rattle.lmtpd_output.specs.Output.{IsCutOff, pair_texts}
use Rattle.std.proofs.KnownBytes.{Appends-trans}
use Rattle.lmtpd_output.proofs.Written.{Appends-nil, breaks_next}
use Rattle.lmtpd_check.specs.Checked.{AreAmong, finding_text, finding_lines, IsFindingOf, IsChecked}
use Rattle.lmtpd_check.specs.declared.checked.Finding.{Finding}

module _ {X : Type 0} (f : List ℕ → X → List ℕ) where
  no_pairs : (names : List (List ℕ)) → pair_texts f names [] ≡ []
  no_pairs [] = refl
  no_pairs (name ∷ names) = refl

  -- one more text, of the name in its place
  pairs_more : (names : List (List ℕ)) (xs : List X) (x : X) (d : List ℕ) → length xs < length names
      → pair_texts f names (xs ++ x ∷ []) ≡ pair_texts f names xs ++ f (get_or names (length xs) d) x
  pairs_more [] xs x d h = absurd (omega (arith, h))
  pairs_more (name ∷ names) [] x d h = ap (λ (t : List ℕ). f name x ++ t) (no_pairs names) ∙ append-nil (f name x)
  pairs_more (name ∷ names) (y ∷ xs) x d h =
      ap (λ (t : List ℕ). f name y ++ t) (pairs_more names xs x d (omega (arith, h)))
      ∙ sym (append_assoc (f name y) (pair_texts f names xs) (f (get_or names (length xs) d) x))

-- that many files have their findings and their lines
pub record WroteFindings {F : Type 0} (remaining : F → Option (List ℕ)) (names : List (Bor (List ℕ))) (i : ℕ) (before after : Option (List ℕ))
    (findings : List Finding) : Type 0 where
  pub count : length findings ≡ i
  pub each : All (IsFindingOf remaining) findings
  pub written : Appends before after (finding_lines (texts names) findings)

-- none yet
pub written_none : {F : Type 0} (remaining : F → Option (List ℕ)) (names : List (Bor (List ℕ))) (u : Option (List ℕ)) (findings : List Finding) → findings ≡ []
    → WroteFindings remaining names 0 u u findings
written_none remaining names u findings none =
    let P : List Finding → Type 0 = λ found. WroteFindings remaining names 0 u u found in
    subst P (sym none) (record {
      count = refl;
      each = All-nil (IsFindingOf remaining);
      written = subst (λ (text : List ℕ). Appends u u text) (sym (no_pairs finding_text (texts names))) (Appends-nil u);
    })

line_more : (names : List (Bor (List ℕ))) (i : ℕ) (findings : List Finding) (finding : Finding) (d : Bor (List ℕ)) → length findings ≡ i → i < length names
    → finding_lines (texts names) (findings ++ finding ∷ []) ≡ finding_lines (texts names) findings ++ finding_text (get_or names i d).now finding
line_more names i findings finding d count within =
    let long = length-map names (λ (name : Bor (List ℕ)). name.now) in
    let below : length findings < length (texts names) = omega (arith, long, count, within) in
    pairs_more finding_text (texts names) findings finding d.now below
    ∙ ap (λ (k : ℕ). finding_lines (texts names) findings ++ finding_text (get_or (texts names) k d.now) finding) count
    ∙ ap (λ (name : List ℕ). finding_lines (texts names) findings ++ finding_text name finding)
    (get_or-map (λ (name : Bor (List ℕ)). name.now) names i d d.now within)

module _ {F : Type 0} (remaining : F → Option (List ℕ)) (names : List (Bor (List ℕ))) (i : ℕ) (u v w : Option (List ℕ)) (findings : List Finding)
    (finding : Finding) (d : Bor (List ℕ)) where
  -- one more file
  pub written_more : WroteFindings remaining names i u v findings → i < length names → IsFindingOf remaining finding
      → Appends v w (finding_text (get_or names i d).now finding) → WroteFindings remaining names (i + 1) u w (findings ++ finding ∷ [])
  written_more h within found taken = record {
    count = length-append findings (finding ∷ []) ∙ ap (λ (k : ℕ). k + 1) h.count;
    each = All-push (IsFindingOf remaining) findings finding h.each found;
    written = subst (λ (text : List ℕ). Appends u w text) (sym (line_more names i findings finding d h.count within))
        (Appends-trans u v w (finding_lines (texts names) findings) (finding_text (get_or names i d).now finding) h.written taken);
  }

  -- a file whose line was cut off
  pub checked_cut : (unlocked : List (List ℕ)) → WroteFindings remaining names i u v findings → i < length names → IsFindingOf remaining finding
      → AreAmong (take (i + 1) (texts names)) unlocked
      → IsCutOff v w (finding_text (get_or names i d).now finding) → IsChecked remaining (texts names) u w (findings ++ finding ∷ []) unlocked true
  checked_cut unlocked h within found among broken =
      let long = length-map names (λ (name : Bor (List ℕ)). name.now) in
      let line = finding_text (get_or names i d).now finding in
      let before = finding_lines (texts names) findings in record {
        within = omega (arith, long, length-append findings (finding ∷ []), h.count, within);
        complete = λ e. cc;
        each = All-push (IsFindingOf remaining) findings finding h.each found;
        among = subst (λ (k : ℕ). AreAmong (take k (texts names)) unlocked) (sym (length-append findings (finding ∷ []) ∙ ap (λ (k : ℕ). k + 1) h.count)) among;
        whole = λ e. cc;
        broken = λ e. subst (λ (text : List ℕ). IsCutOff u w text) (sym (line_more names i findings finding d h.count within))
            (breaks_next u v w (before ++ line) line [] (record {
              prefix = before;
              whole = ap (λ (t : List ℕ). before ++ t) (sym (append-nil line));
              appended = h.written;
            }) broken);
      }
