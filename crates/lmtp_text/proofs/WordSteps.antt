-- A quoted text read byte by byte: beside a word, and into a buffer.
use Rattle.std.proofs.Common.{◌≡◌, ℕ, zero, suc, ◌<◌, Bool, false, List, [], ◌∷◌, length, drop, take, set, get_or, ◌++◌, ◌+◌, ◌≤◌, refl, sym, ap, ◌∙◌, arith}
use Rattle.std.specs.Prelude.{not, ◌&&◌, ◌==◌}
use Rattle.mail_world.specs.Commands.{is_word}
use Rattle.mail_world.specs.Targets.{unescaped}
use Rattle.std.proofs.lemmas.List.{drop_more, take_more_set, length-take-le, length-append, append_assoc}
use Rattle.lmtp_text.proofs.Users.{keep_byte}

-- nothing is left of the word where a byte of the text stands for itself
pub ends_early : (left text : List ℕ) (i : ℕ) (escaped : Bool) → length left < 1 → i < length text
    → (not escaped && (get_or text i 0 == 92)) ≡ false → is_word left (unescaped escaped (drop i text)) ≡ false
ends_early [] [] i escaped h k e = absurd (omega arith)
ends_early [] (b ∷ text) zero escaped h k e = rw e refl
ends_early [] (b ∷ text) (suc i) escaped h k e = ends_early [] text i escaped h (omega arith) e
ends_early (x ∷ xs) text i escaped h k e = absurd (omega arith)

plain_next : (text : List ℕ) (i : ℕ) (escaped : Bool) → i < length text → (not escaped && (get_or text i 0 == 92)) ≡ false
    → unescaped escaped (drop i text) ≡ get_or text i 0 ∷ unescaped false (drop (i + 1) text)
plain_next text i escaped h e = ap (unescaped escaped) (drop_more text i 0 h) ∙ keep_byte (get_or text i 0) (drop (i + 1) text) escaped e

-- a byte that stands for itself is written
pub plain_step : (text plain : List ℕ) (i size : ℕ) (escaped : Bool) → i < length text → size < length plain
    → (not escaped && (get_or text i 0 == 92)) ≡ false → take size plain ++ unescaped escaped (drop i text) ≡ unescaped false text
    → take (size + 1) (set plain size (get_or text i 0)) ++ unescaped false (drop (i + 1) text) ≡ unescaped false text
plain_step text plain i size escaped h k e so_far =
    ap (λ l. l ++ unescaped false (drop (i + 1) text)) (take_more_set plain size (get_or text i 0) k)
    ∙ append_assoc (take size plain) (get_or text i 0 ∷ []) (unescaped false (drop (i + 1) text))
    ∙ ap (λ l. take size plain ++ l) (sym (plain_next text i escaped h e)) ∙ so_far

-- and where no room is left, the content is longer than what was written
pub plain_beyond : (text plain : List ℕ) (i size : ℕ) (escaped : Bool) → i < length text → size ≤ length plain
    → (not escaped && (get_or text i 0 == 92)) ≡ false → take size plain ++ unescaped escaped (drop i text) ≡ unescaped false text
    → size < length (unescaped false text)
plain_beyond text plain i size escaped h k e so_far =
    rw (← so_far, length-append (take size plain) (unescaped escaped (drop i text)), length-take-le size plain k, plain_next text i escaped h e) (omega arith)
