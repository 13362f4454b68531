-- Tests over texts, where the list holds what they lie in.
use Rattle.std.proofs.Common.{◌≡◌, ℕ, Bool, List, [], ◌∷◌, Vec, Global, refl}
use Rattle.std.specs.Borrow.{Bor}
use Rattle.std.specs.List.{list_any, list_all}
use Rattle.mail_world.specs.Site.{has_text}
use Rattle.std.specs.Str.{bytes_eq}
use Rattle.lmtp_text.specs.Sites.{texts, owned}

pub list_all_texts : (p : List ℕ → Bool) (names : List (Bor (List ℕ))) → list_all p (texts names) ≡ list_all (λ name. p name.now) names
list_all_texts p [] = refl
list_all_texts p (x ∷ xs) = rw (list_all_texts p xs) refl

pub list_any_owned : (p : List ℕ → Bool) (names : List (Vec ℕ Global)) → list_any p (owned names) ≡ list_any (λ name. p name.items) names
list_any_owned p [] = refl
list_any_owned p (x ∷ xs) = rw (list_any_owned p xs) refl

pub has_text_any : (names : List (Bor (List ℕ))) (text : List ℕ) → has_text (texts names) text ≡ list_any (λ name. bytes_eq name.now text) names
has_text_any [] text = refl
has_text_any (x ∷ xs) text = rw (has_text_any xs text) refl
