-- The places of addresses and of local parts among names.
use Rattle.std.proofs.Common.{◌≡◌, ◌<◌, ℕ, Bool, true, false, List, [], ◌∷◌, ◌++◌, length, Option, Some, None, refl, sym, ap, ◌∙◌, arith}
use Rattle.std.proofs.lemmas.Bool.Decides.{nat_tests}
use Rattle.std.specs.Prelude.{not, ◌&&◌, ◌||◌, ◌==◌, position}
use Rattle.std.specs.List.{list_all}
use Rattle.mail_world.specs.Site.{is_address, is_listed_name}
use Rattle.mail_world.specs.Grammar.{Target}
use Rattle.mail_world.specs.Commands.{is_word}
use Rattle.mail_world.specs.Targets.{unescaped, local_name, place_of_address, place_of_local}
use Rattle.mail_world.specs.declared.limits.TheConstants.{BOX_NAME_LIMIT}
use Rattle.lmtp_text.proofs.BoxPlaces.{too_long}
use Rattle.lmtp_text.proofs.Users.{keep_byte}

pub address_placed : (names : List (List ℕ)) (domain : Option (List ℕ)) (d local text : List ℕ) (found : Option ℕ) → domain ≡ Some d
    → text ≡ local ++ 64 ∷ d → found ≡ position (λ name. is_word name text) names → found ≡ place_of_address names domain local
address_placed names domain d local text found e f g =
    g ∙ ap (λ (t : List ℕ). position (λ name. is_word name t) names) f ∙ sym (ap (λ (o : Option (List ℕ)). place_of_address names o local) e)

pub address_too_long : (names : List (List ℕ)) (domain : Option (List ℕ)) (d local : List ℕ) → list_all is_listed_name names ≡ true → domain ≡ Some d
    → BOX_NAME_LIMIT < length (local ++ 64 ∷ d) → None ≡ place_of_address names domain local
address_too_long names domain d local named e h =
    too_long (local ++ 64 ∷ d) names named h ∙ sym (ap (λ (o : Option (List ℕ)). place_of_address names o local) e)

pub no_domain : (names : List (List ℕ)) (domain : Option (List ℕ)) (local : List ℕ) → domain ≡ None → None ≡ place_of_address names domain local
no_domain names domain local e = rw e refl

-- no `@` is a backslash
at_sign : (b : ℕ) (escaped : Bool) → (not escaped && (b == 92)) ≡ true → (b == 64) ≡ false
at_sign b escaped e = grind (arith, nat_tests)

pub unescaped_at : (escaped : Bool) (text : List ℕ) → is_address (unescaped escaped text) ≡ is_address text
unescaped_at escaped [] = refl
unescaped_at escaped (b ∷ text) = by_byte (not escaped && (b == 92)) refl (λ pair. unescaped_at pair text)
  where
    by_byte : (pair : Bool) → (not escaped && (b == 92)) ≡ pair → ((after : Bool) → is_address (unescaped after text) ≡ is_address text)
        → is_address (unescaped escaped (b ∷ text)) ≡ is_address (b ∷ text)
    by_byte true e rest = rw (e, at_sign b escaped e) (rest true)
    by_byte false e rest = rw (keep_byte b text escaped e) (λ i. (b == 64) || rest false i)

-- a local part has an `@` exactly where the text that it is written by has one
pub local_at : (target : Target) → is_address (local_name target) ≡ is_address target.local
local_at target = by_kind target.quoted refl
  where
    by_kind : (t : Bool) → target.quoted ≡ t → is_address (local_name target) ≡ is_address target.local
    by_kind true e = rw e (unescaped_at false target.local)
    by_kind false e = rw e refl

pub local_placed : (names : List (List ℕ)) (local text : List ℕ) (found : Option ℕ) → is_address local ≡ false → text ≡ local
    → found ≡ position (λ name. is_word name text) names → found ≡ place_of_local names local
local_placed names local text found e f g = g ∙ ap (λ (t : List ℕ). position (λ name. is_word name t) names) f ∙ rw e refl

pub local_too_long : (names : List (List ℕ)) (local : List ℕ) → list_all is_listed_name names ≡ true → is_address local ≡ false
    → BOX_NAME_LIMIT < length local → None ≡ place_of_local names local
local_too_long names local named e h = too_long local names named h ∙ rw e refl

pub local_with_at : (names : List (List ℕ)) (local : List ℕ) → is_address local ≡ true → None ≡ place_of_local names local
local_with_at names local e = rw e refl
