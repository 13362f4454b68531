-- Whether a text is well-formed UTF-8, as the reader of texts answers it.
use Rattle.std.proofs.Common.{◌≡◌, ℕ, List, false, Result, Ok, Err, sym}
use Rattle.std.specs.Prelude.{is_ok}
use Rattle.std.specs.Result.{MatchResult}
use Rattle.std.specs.Str.{IsUtf8, is_utf8}
use Rattle.std.proofs.lemmas.Bool.{false_from_ne_true}
use Rattle.std.proofs.lemmas.Str.{IsUtf8-from_is_utf8, is_utf8-from_IsUtf8}

pub no_utf8 : (text : List ℕ) → (IsUtf8 text → ⊥) → is_utf8 text ≡ false
no_utf8 text h = false_from_ne_true _ (λ e. h (IsUtf8-from_is_utf8 text e))

pub is_ok-utf8 : {A E : Type 0} (text : List ℕ) (P : A → Type 0) (Q : E → Type 0) (r : Result A E)
    → MatchResult r (λ a. P a × IsUtf8 text) (λ e. (IsUtf8 text → ⊥) × Q e) → is_ok r ≡ is_utf8 text
is_ok-utf8 text P Q (Ok a) h = sym (is_utf8-from_IsUtf8 text h.1)
is_ok-utf8 text P Q (Err e) h = sym (no_utf8 text h.0)
