-- What stands before a delimiter, in a text and in a quoted text.
use Rattle.std.proofs.Common.{◌≡◌, ℕ, suc, ◌+◌, take, Bool, true, false, List, [], ◌∷◌, refl, sym, ◌∙◌, ap, arith, cond}
use Rattle.std.proofs.lemmas.Bool.Decides.{nat_tests}
use Rattle.std.specs.Prelude.{not, ◌&&◌, ◌==◌}
use Rattle.std.specs.List.{before_first}
use Rattle.mail_world.specs.Site.{IsDelimiter}
use Rattle.mail_world.specs.Targets.{unescaped}

abbrev pub before : ℕ → List ℕ → List ℕ
before c text = before_first (λ b. b == c) text

pub before_here : (c b : ℕ) (text : List ℕ) → (b == c) ≡ true → before c (b ∷ text) ≡ []
before_here c b text e = rw e refl

take_one_more : (n b : ℕ) (text : List ℕ) → take (1 + n) (b ∷ text) ≡ b ∷ take n text
take_one_more n b text = let e : 1 + n ≡ suc n = omega arith in rw e refl

pub before_more : (c b : ℕ) (text : List ℕ) → (b == c) ≡ false → before c (b ∷ text) ≡ b ∷ before c text
before_more c b text e = rw e (take_one_more _ b text)

-- no delimiter is a backslash
no_backslash : (c b : ℕ) → IsDelimiter c → (b == c) ≡ true → (b == 92) ≡ false
no_backslash c b known e = grind (arith, nat_tests)

drop_pair : (b : ℕ) (text : List ℕ) (escaped : Bool) → (not escaped && (b == 92)) ≡ true → unescaped escaped (b ∷ text) ≡ unescaped true text
drop_pair b text escaped e = rw e refl

pub keep_byte : (b : ℕ) (text : List ℕ) (escaped : Bool) → (not escaped && (b == 92)) ≡ false → unescaped escaped (b ∷ text) ≡ b ∷ unescaped false text
keep_byte b text escaped e = rw e refl

no_pair : (escaped t : Bool) → t ≡ false → (not escaped && t) ≡ false
no_pair true t e = refl
no_pair false t e = e

at_delimiter : (c b : ℕ) (text : List ℕ) (escaped : Bool) → IsDelimiter c → (b == c) ≡ true
    → unescaped escaped (before c (b ∷ text)) ≡ before c (unescaped escaped (b ∷ text))
at_delimiter c b text escaped known here =
    ap (unescaped escaped) (before_here c b text here)
    ∙ sym (ap (before c) (keep_byte b text escaped (no_pair escaped _ (no_backslash c b known here))) ∙ before_here c b (unescaped false text) here)

further_on : (c b : ℕ) (text : List ℕ) (escaped pair : Bool) → (not escaped && (b == 92)) ≡ pair → (b == c) ≡ false
    → unescaped pair (before c text) ≡ before c (unescaped pair text)
    → unescaped escaped (before c (b ∷ text)) ≡ before c (unescaped escaped (b ∷ text))
further_on c b text escaped true pair later rest =
    ap (unescaped escaped) (before_more c b text later) ∙ drop_pair b (before c text) escaped pair ∙ rest ∙ ap (before c) (sym (drop_pair b text escaped pair))
further_on c b text escaped false pair later rest =
    ap (unescaped escaped) (before_more c b text later) ∙ keep_byte b (before c text) escaped pair ∙ ap (λ t. b ∷ t) rest
    ∙ sym (before_more c b (unescaped false text) later) ∙ ap (before c) (sym (keep_byte b text escaped pair))

by_byte : (c b : ℕ) (text : List ℕ) (escaped t : Bool) → IsDelimiter c → (b == c) ≡ t
    → unescaped (not escaped && (b == 92)) (before c text) ≡ before c (unescaped (not escaped && (b == 92)) text)
    → unescaped escaped (before c (b ∷ text)) ≡ before c (unescaped escaped (b ∷ text))
by_byte c b text escaped true known here rest = at_delimiter c b text escaped known here
by_byte c b text escaped false known later rest = further_on c b text escaped (not escaped && (b == 92)) refl later rest

-- a quoted text up to its first delimiter is what its content has before that delimiter
pub unescaped-before : (c : ℕ) (text : List ℕ) (escaped : Bool) → IsDelimiter c → unescaped escaped (before c text) ≡ before c (unescaped escaped text)
unescaped-before c [] escaped known = refl
unescaped-before c (b ∷ text) escaped known = by_byte c b text escaped (b == c) known refl (unescaped-before c text (not escaped && (b == 92)) known)

-- the same of a local part, quoted or not
pub user_content : (quoted : Bool) (c : ℕ) (text user : List ℕ) → IsDelimiter c → user ≡ before_first (λ b. b == c) text
    → cond quoted (unescaped false user) user ≡ before_first (λ b. b == c) (cond quoted (unescaped false text) text)
user_content true c text user known e = ap (unescaped false) e ∙ unescaped-before c text false known
user_content false c text user known e = e
