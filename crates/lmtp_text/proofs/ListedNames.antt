-- Names that a list may have: their parts, their sizes, the case of their letters.
use Rattle.std.proofs.Common.{◌≡◌, ℕ, suc, ◌+◌, ◌≤◌, drop, Bool, true, false, List, [], ◌∷◌, ◌++◌, length, refl, sym, ap, ◌∙◌, arith}
use Rattle.std.proofs.lemmas.Bool.Decides.{nat_tests}
use Rattle.std.proofs.lemmas.List.{length-append, map-append}
use Rattle.std.specs.Prelude.{map, not, ◌&&◌, ◌||◌, ◌==◌, nat_le}
use Rattle.std.specs.List.{list_all}
use Rattle.std.specs.Char.{to_ascii_lowercase}
use Rattle.std.specs.Str.{byte}
use Rattle.mail_world.specs.Text.{begins, has_byte}
use Rattle.mail_world.specs.Site.{is_address, local_of, domain_of, is_box_name, is_listed_local, is_listed_domain, is_listed_name}
use Rattle.mail_world.specs.declared.limits.TheConstants.{BOX_NAME_LIMIT, GIVEN_NAME_LIMIT, LISTED_LOCAL_LIMIT, NAME_LIMIT}
use Rattle.lmtp_text.specs.Sites.{is_of_box_name, is_of_listed_local, is_of_listed_domain}
use Rattle.lmtp_text.proofs.Users.{before_here, before_more}

pub prefix_true : (a b : Bool) → (a && b) ≡ true → (a ≡ true) × (b ≡ true)
prefix_true true b e = (refl, e)
prefix_true false b e = cc

-- an address has an `@`
pub has_at : (text : List ℕ) → has_byte text 64 ≡ is_address text
has_at [] = refl
has_at (b ∷ text) = λ i. (b == 64) || has_at text i

after_more : (b : ℕ) (text : List ℕ) → (b == 64) ≡ false → domain_of (b ∷ text) ≡ domain_of text
after_more b text e = rw e (drop_more _ b text)
  where
    drop_more : (n b : ℕ) (text : List ℕ) → drop ((1 + n) + 1) (b ∷ text) ≡ drop (n + 1) text
    drop_more n b text = let e : (1 + n) + 1 ≡ suc (n + 1) = omega arith in rw e refl

is_at_sign : (b : ℕ) → (b == 64) ≡ true → b ≡ 64
is_at_sign b e = grind (arith, nat_tests)

-- an address is its local part, an `@` and its domain
pub whole_address : (name : List ℕ) → is_address name ≡ true → name ≡ local_of name ++ 64 ∷ domain_of name
whole_address [] e = cc
whole_address (b ∷ name) e = by_byte (b == 64) refl e (whole_address name)
  where
    by_byte : (t : Bool) → (b == 64) ≡ t → (t || is_address name) ≡ true → (is_address name ≡ true → name ≡ local_of name ++ 64 ∷ domain_of name)
        → b ∷ name ≡ local_of (b ∷ name) ++ 64 ∷ domain_of (b ∷ name)
    by_byte true here e rest = rw (before_here 64 b name here, here) (ap (λ c. c ∷ name) (is_at_sign b here))
    by_byte false later e rest = rw (before_more 64 b name later, after_more b name later) (ap (λ l. b ∷ l) (rest e))

-- and a name that is none is its local part
pub whole_local : (name : List ℕ) → is_address name ≡ false → local_of name ≡ name
whole_local [] e = refl
whole_local (b ∷ name) e = by_byte (b == 64) refl e (whole_local name)
  where
    by_byte : (t : Bool) → (b == 64) ≡ t → (t || is_address name) ≡ false → (is_address name ≡ false → local_of name ≡ name)
        → local_of (b ∷ name) ≡ b ∷ name
    by_byte true here e rest = cc
    by_byte false later e rest = rw (before_more 64 b name later) (ap (λ l. b ∷ l) (rest e))

-- what is asked of a listed name's parts
pub local_listed : (name : List ℕ) → is_listed_name name ≡ true → is_listed_local (local_of name) ≡ true
local_listed name e = (prefix_true (is_listed_local (local_of name)) (not (is_address name) || is_listed_domain (domain_of name)) e).0

pub domain_listed : (name : List ℕ) → is_listed_name name ≡ true → is_address name ≡ true → is_listed_domain (domain_of name) ≡ true
domain_listed name e a = second (is_address name) a (prefix_true (is_listed_local (local_of name)) _ e).1
  where
    second : (t : Bool) → t ≡ true → (not t || is_listed_domain (domain_of name)) ≡ true → is_listed_domain (domain_of name) ≡ true
    second true a e = e
    second false a e = cc

-- the rule for a name, from its parts
pub address_rule : (name : List ℕ) → is_address name ≡ true → is_listed_local (local_of name) ≡ true
    → is_listed_domain (domain_of name) ≡ is_listed_name name
address_rule name a e = rw (e, a) refl

pub local_rule : (name : List ℕ) → is_address name ≡ false → is_listed_local name ≡ is_listed_name name
local_rule name a = rw (whole_local name a, a) (sym (and_true (is_listed_local name)))
  where
    and_true : (b : Bool) → (b && true) ≡ b
    and_true true = refl
    and_true false = refl

local_size : (text : List ℕ) → is_listed_local text ≡ true → length text ≤ LISTED_LOCAL_LIMIT
local_size text e = grind (arith, nat_tests, prefix_true)

pub domain_size : (text : List ℕ) → is_listed_domain text ≡ true → length text ≤ NAME_LIMIT
domain_size text e = grind (arith, nat_tests, prefix_true)

pub name_size : (name : List ℕ) → is_listed_name name ≡ true → length name ≤ BOX_NAME_LIMIT
name_size name e = by_kind (is_address name) refl
  where
    by_kind : (t : Bool) → is_address name ≡ t → length name ≤ BOX_NAME_LIMIT
    by_kind true a =
        let local = local_size (local_of name) (local_listed name e) in
        let domain = domain_size (domain_of name) (domain_listed name e a) in
        let sum : length name ≡ length (local_of name) + suc (length (domain_of name)) =
        ap length (whole_address name a) ∙ length-append (local_of name) (64 ∷ domain_of name) in
        omega (arith, local, domain, sum)
    by_kind false a =
        let local = local_size (local_of name) (local_listed name e) in
        let same = ap length (whole_local name a) in
        omega (arith, local, same)

local_byte_lower : (b : ℕ) → is_of_listed_local b ≡ true → to_ascii_lowercase b ≡ b
local_byte_lower b e = grind (arith, nat_tests)

domain_byte_lower : (b : ℕ) → is_of_listed_domain b ≡ true → to_ascii_lowercase b ≡ b
domain_byte_lower b e = grind (arith, nat_tests)

all_lower : (p : ℕ → Bool) → ((b : ℕ) → p b ≡ true → to_ascii_lowercase b ≡ b) → (text : List ℕ) → list_all p text ≡ true
    → map to_ascii_lowercase text ≡ text
all_lower p each [] e = refl
all_lower p each (b ∷ text) e = let q = prefix_true _ _ e in λ i. each b q.0 i ∷ all_lower p each text q.1 i

local_lower : (text : List ℕ) → is_listed_local text ≡ true → map to_ascii_lowercase text ≡ text
local_lower text e =
    all_lower is_of_listed_local local_byte_lower text
    (prefix_true (nat_le 1 (length text) && nat_le (length text) LISTED_LOCAL_LIMIT && not (begins (byte ".") text)) (list_all is_of_listed_local text) e).1

pub domain_lower : (text : List ℕ) → is_listed_domain text ≡ true → map to_ascii_lowercase text ≡ text
domain_lower text e =
    all_lower is_of_listed_domain domain_byte_lower text
    (prefix_true (nat_le 1 (length text) && nat_le (length text) NAME_LIMIT && not (begins (byte ".") text)) (list_all is_of_listed_domain text) e).1

-- a listed name has small letters
pub name_lower : (name : List ℕ) → is_listed_name name ≡ true → map to_ascii_lowercase name ≡ name
name_lower name e = by_kind (is_address name) refl
  where
    by_kind : (t : Bool) → is_address name ≡ t → map to_ascii_lowercase name ≡ name
    by_kind true a =
        let whole = whole_address name a in
        ap (map to_ascii_lowercase) whole ∙ map-append to_ascii_lowercase (local_of name) (64 ∷ domain_of name)
        ∙ (λ i. local_lower (local_of name) (local_listed name e) i ++ 64 ∷ domain_lower (domain_of name) (domain_listed name e a) i) ∙ sym whole
    by_kind false a =
        let whole = whole_local name a in
        ap (map to_ascii_lowercase) (sym whole) ∙ local_lower (local_of name) (local_listed name e) ∙ whole

-- a given name is one that a list may have too
given_byte : (b : ℕ) → is_of_box_name b ≡ true → (is_of_listed_local b ≡ true) × ((b == 64) ≡ false)
given_byte b e = (grind (arith, nat_tests), grind (arith, nat_tests))

given_bytes : (text : List ℕ) → list_all is_of_box_name text ≡ true → (list_all is_of_listed_local text ≡ true) × (is_address text ≡ false)
given_bytes [] e = (refl, refl)
given_bytes (b ∷ text) e =
    let q = prefix_true _ _ e in
    let first = given_byte b q.0 in
    let rest = given_bytes text q.1 in
    ((λ i. first.0 i && rest.0 i), (λ i. first.1 i || rest.1 i))

pub given_listed : (name : List ℕ) → is_box_name name ≡ true → is_listed_name name ≡ true
given_listed name e =
    let q = prefix_true (nat_le 1 (length name) && nat_le (length name) GIVEN_NAME_LIMIT && not (begins (byte ".") name)) (list_all is_of_box_name name) e in
    let bytes = given_bytes name q.1 in
    let local : is_listed_local name ≡ true = sizes (begins (byte ".") name) (list_all is_of_listed_local name) (length name) q.0 bytes.0 in
    rw (whole_local name bytes.1, local, bytes.1) refl
  where
    sizes : (dot all : Bool) (n : ℕ) → (nat_le 1 n && nat_le n GIVEN_NAME_LIMIT && not dot) ≡ true → all ≡ true
        → (nat_le 1 n && nat_le n LISTED_LOCAL_LIMIT && not dot && all) ≡ true
    sizes dot all n e f = grind (arith, nat_tests)

pub all_given_listed : (names : List (List ℕ)) → list_all is_box_name names ≡ true → list_all is_listed_name names ≡ true
all_given_listed [] e = refl
all_given_listed (x ∷ xs) e =
    let q = prefix_true (is_box_name x) (list_all is_box_name xs) e in λ i. given_listed x q.0 i && all_given_listed xs q.1 i
