-- No data that is read as a message is shorter than what a client sends for it.
use Rattle.std.proofs.Common.{◌≡◌, ℕ, suc, ◌+◌, ◌≤◌, List, [], ◌∷◌, length, take, Bool, true, false, cond, ◌&&◌, ◌==◌, Some, refl, ap, sym, ◌∙◌, arith}
use Rattle.std.proofs.Common.{length-append}
use Rattle.std.specs.Prelude.{unwrap_or}
use Rattle.std.proofs.lemmas.Bool.{eqb-true}
use Rattle.std.proofs.lemmas.List.{length-take-le}
use Rattle.mail_world.specs.Text.{cr, lf, crlf, EmptyOrEndsIn}
use Rattle.mail_world.specs.Data.{dot, data_end, without_dots, unstuffed, message, with_dots, stuffed}
use Rattle.mail_world.proofs.PathsSpelled.{and_parts}

-- the text without its dots, and then with as many as it needs
abbrev again : ℕ → ℕ → List ℕ → List ℕ
again a b text = with_dots a b (without_dots a b text)

-- the byte before the last counts only where it is CR
pub same_window : (a a' b : ℕ) (text : List ℕ) → (a == cr) ≡ false → (a' == cr) ≡ false → with_dots a b text ≡ with_dots a' b text
same_window a a' b [] e f = refl
same_window a a' b (c ∷ text) e f = rw (e, f) refl

-- a dot is dropped, and the byte after it stands at the line's start
after_dot_by : (d : ℕ) (text : List ℕ) (t : Bool) → (d == dot) ≡ t → length (again dot d text) ≤ length text
    → length (cond t (dot ∷ d ∷ with_dots lf d (without_dots dot d text)) (d ∷ with_dots lf d (without_dots dot d text))) ≤ suc (suc (length text))
after_dot_by d text true e ih =
    let same : length (with_dots lf d (without_dots dot d text)) ≡ length (again dot d text) =
    ap length (same_window lf dot d (without_dots dot d text) refl refl) in
    omega arith
after_dot_by d text false e ih =
    let same : length (with_dots lf d (without_dots dot d text)) ≡ length (again dot d text) =
    ap length (same_window lf dot d (without_dots dot d text) refl refl) in
    omega arith

shorter_by : (a b c : ℕ) (text : List ℕ) (t : Bool) → ((a == cr) && (b == lf) && (c == dot)) ≡ t → length (again b c text) ≤ length text
    → length (with_dots cr lf (without_dots lf dot text)) ≤ suc (length text)
    → length (with_dots a b (cond t (without_dots b c text) (c ∷ without_dots b c text))) ≤ suc (length text)
shorter_by a b c text true e ih over =
    let parts = and_parts ((a == cr) && (b == lf)) (c == dot) e in
    let line = and_parts (a == cr) (b == lf) parts.0 in
    rw (eqb-true a cr line.0, eqb-true b lf line.1, eqb-true c dot parts.1) over
shorter_by a b c text false e ih over =
    rw e (let h : length (again b c text) ≤ length text = ih in omega arith)

shorter : (a b : ℕ) (text : List ℕ) → length (again a b text) ≤ length text
shorter a b [] = omega arith
shorter a b (c ∷ []) = shorter_by a b c [] ((a == cr) && (b == lf) && (c == dot)) refl (shorter b c []) (omega arith)
shorter a b (c ∷ d ∷ text) =
    shorter_by a b c (d ∷ text) ((a == cr) && (b == lf) && (c == dot)) refl (shorter b c (d ∷ text)) (after_dot_by d text (d == dot) refl (shorter dot d text))

pub stuffed_shortest : (text t : List ℕ) → EmptyOrEndsIn crlf text → (e : ℕ) → data_end t ≡ Some e → length t ≡ e + 3 → message t ≡ text
    → length (stuffed text) ≤ length t
unfolding message stuffed
stuffed_shortest text t lines e found last same =
    let read : unstuffed (take e t) ≡ text = ap (λ o. unstuffed (take (unwrap_or o (length t)) t)) (sym found) ∙ same in
    let kept : length (with_dots cr lf (unstuffed (take e t))) ≤ length (take e t) = shorter cr lf (take e t) in
    let prefix : length (take e t) ≡ e = length-take-le e t (omega arith) in
    let all : length (with_dots cr lf (unstuffed (take e t))) ≡ length (with_dots cr lf text) = ap (λ l. length (with_dots cr lf l)) read in
    omega (arith, length-append (with_dots cr lf text) (dot ∷ crlf))
