-- Names of mailboxes: the place of one, and one more.
use Rattle.std.proofs.Common.{◌≡◌, ◌≢◌, ◌==◌, ◌⊎◌, ◌<◌, ◌+◌, ℕ, suc, Bool, true, false, ◌||◌, List, [], ◌∷◌, ◌++◌, length, refl, ap, sym, ◌∙◌, Vec, Global, ⊎_elim, arith, None, zero, take, drop, get_or}
use Rattle.std.proofs.lemmas.Bool.{eq-eqb, ne_eqb}
use Rattle.std.proofs.lemmas.Bool.Decides.{nat_tests}
use Rattle.std.specs.Prelude.{map, position, not, ◌&&◌}
use Rattle.std.specs.List.{prefix_len, list_any, list_all}
use Rattle.std.specs.Str.{bytes_eq}
use Rattle.std.specs.Char.{to_ascii_lowercase}
use Rattle.std.proofs.lemmas.List.{append_assoc, map-append, take-append-drop, take_more}
use Rattle.std.specs.Borrow.{Bor}
use Rattle.mail_world.specs.Site.{has_text, has_twice, is_listed_name}
use Rattle.mail_world.specs.Commands.{is_word}
use Rattle.mail_world.specs.declared.limits.TheConstants.{BOX_NAME_LIMIT}
use Rattle.lmtp_text.proofs.ListedNames.{prefix_true, name_size, name_lower}
use Rattle.lmtp_text.specs.Sites.{owned, texts}

length-owned : (names : List (Vec ℕ Global)) → length (owned names) ≡ length names
length-owned [] = refl
length-owned (x ∷ xs) = rw (length-owned xs) refl

before-owned : (text : List ℕ) (names : List (Vec ℕ Global)) → list_all is_listed_name (owned names) ≡ true
    → prefix_len (λ name. not (bytes_eq (map to_ascii_lowercase text) name.items)) names ≡ prefix_len (λ name. not (is_word name text)) (owned names)
before-owned text [] named = refl
before-owned text (x ∷ xs) named =
    let p = prefix_true (is_listed_name x.items) (list_all is_listed_name (owned xs)) named in
    rw (name_lower x.items p.0, before-owned text xs p.1) refl

-- the place of a text in lower case is that of the text, whatever its case
pub place-owned : (text : List ℕ) (names : List (Vec ℕ Global)) → list_all is_listed_name (owned names) ≡ true
    → position (λ name. bytes_eq (map to_ascii_lowercase text) name.items) names ≡ position (λ name. is_word name text) (owned names)
place-owned text names named = rw (before-owned text names named, length-owned names) refl

and_false : (b : Bool) → (b && false) ≡ false
and_false true = refl
and_false false = refl

eq_length : (xs ys : List ℕ) → length ys < length xs → bytes_eq xs ys ≡ false
eq_length [] ys h = absurd (omega arith)
eq_length (x ∷ xs) [] h = refl
eq_length (x ∷ xs) (y ∷ ys) h = rw (eq_length xs ys (omega arith)) (and_false _)

length-lower : (xs : List ℕ) → length (map to_ascii_lowercase xs) ≡ length xs
length-lower [] = refl
length-lower (x ∷ xs) = rw (length-lower xs) refl

no_word : (name text : List ℕ) → length name < length text → is_word name text ≡ false
no_word name text h = eq_length (map to_ascii_lowercase text) (map to_ascii_lowercase name) (rw (length-lower text, length-lower name) h)

all_before : (text : List ℕ) (names : List (List ℕ)) → list_all is_listed_name names ≡ true → BOX_NAME_LIMIT < length text
    → prefix_len (λ name. not (is_word name text)) names ≡ length names
all_before text [] named h = refl
all_before text (x ∷ xs) named h =
    let p = prefix_true (is_listed_name x) (list_all is_listed_name xs) named in
    let size = name_size x p.0 in
    rw (no_word x text (omega arith), all_before text xs p.1 h) (omega arith)

-- no name is longer than its limit
pub too_long : (text : List ℕ) (names : List (List ℕ)) → list_all is_listed_name names ≡ true → BOX_NAME_LIMIT < length text
    → None ≡ position (λ name. is_word name text) names
too_long text names named h = let e = all_before text names named h in grind (arith, nat_tests)

same? : (m n : ℕ) → (m ≡ n) ⊎ (m ≢ n)
same? m n = grind arith

eq_sym : (m n : ℕ) → (m == n) ≡ (n == m)
eq_sym m n = ⊎_elim
    (λ (e : m ≡ n). eq-eqb m n e ∙ sym (eq-eqb n m (sym e)))
    (λ (d : m ≢ n). ne_eqb m n d ∙ sym (ne_eqb n m (λ e. d (sym e))))
    (same? m n)

bytes_sym : (xs ys : List ℕ) → bytes_eq xs ys ≡ bytes_eq ys xs
bytes_sym [] [] = refl
bytes_sym [] (y ∷ ys) = refl
bytes_sym (x ∷ xs) [] = refl
bytes_sym (x ∷ xs) (y ∷ ys) = λ i. eq_sym x y i && bytes_sym xs ys i

pub any-has : (names : List (Vec ℕ Global)) (text : List ℕ) → list_any (λ name. bytes_eq text name.items) names ≡ has_text (owned names) text
any-has [] text = refl
any-has (x ∷ xs) text = λ i. bytes_sym text x.items i || any-has xs text i

or_right : (a b : Bool) → b ≡ true → (a || b) ≡ true
or_right true b e = refl
or_right false b e = e

or_none : (a b : Bool) → (a || (b || false)) ≡ (a || b)
or_none true b = refl
or_none false true = refl
or_none false false = refl

or_over : (a b c : Bool) → (a || (b || c)) ≡ ((a || b) || c)
or_over true b c = refl
or_over false b c = refl

shuffle : (a b c d : Bool) → ((a || b) || (c || d)) ≡ ((a || c) || (b || d))
shuffle true b c d = refl
shuffle false true true d = refl
shuffle false true false d = refl
shuffle false false true d = refl
shuffle false false false d = refl

has_text-more : (names : List (List ℕ)) (name text : List ℕ) → has_text (names ++ name ∷ []) text ≡ (has_text names text || bytes_eq name text)
has_text-more [] name text = or_none false (bytes_eq name text)
has_text-more (x ∷ xs) name text = rw (has_text-more xs name text) (or_over (bytes_eq x text) _ _)

has_twice-more : (names : List (List ℕ)) (name : List ℕ) → has_twice (names ++ name ∷ []) ≡ (has_twice names || has_text names name)
has_twice-more [] name = refl
has_twice-more (x ∷ xs) name =
    rw (has_text-more xs name x, has_twice-more xs name, bytes_sym name x) (shuffle (has_text xs x) (bytes_eq x name) (has_twice xs) (has_text xs name))

-- names of which two are the same have two, whatever follows them
has_text-before : (names others : List (List ℕ)) (text : List ℕ) → has_text names text ≡ true → has_text (names ++ others) text ≡ true
has_text-before [] others text e = cc
has_text-before (x ∷ xs) others text e = by_first (bytes_eq x text) e (has_text-before xs others text)
  where
    by_first : (b : Bool) → (b || has_text xs text) ≡ true → (has_text xs text ≡ true → has_text (xs ++ others) text ≡ true)
        → (b || has_text (xs ++ others) text) ≡ true
    by_first true e rest = refl
    by_first false e rest = rest e

has_twice-before : (names others : List (List ℕ)) → has_twice names ≡ true → has_twice (names ++ others) ≡ true
has_twice-before [] others e = cc
has_twice-before (x ∷ xs) others e = by_first (has_text xs x) refl e (has_twice-before xs others)
  where
    by_first : (b : Bool) → has_text xs x ≡ b → (b || has_twice xs) ≡ true → (has_twice xs ≡ true → has_twice (xs ++ others) ≡ true)
        → (has_text (xs ++ others) x || has_twice (xs ++ others)) ≡ true
    by_first true there e rest = rw (has_text-before xs others x there) refl
    by_first false there e rest = or_right (has_text (xs ++ others) x) _ (rest e)

text-more : (names : List (Bor (List ℕ))) (i : ℕ) (d : Bor (List ℕ)) → i < length names
    → texts (take (i + 1) names) ≡ texts (take i names) ++ (get_or names i d).now ∷ []
text-more names i d h = ap texts (take_more names i d h) ∙ map-append (λ (n : Bor (List ℕ)). n.now) (take i names) (get_or names i d ∷ [])

next-more : (old : List (List ℕ)) (names : List (Bor (List ℕ))) (i : ℕ) (d : Bor (List ℕ)) → i < length names
    → old ++ texts (take (i + 1) names) ≡ (old ++ texts (take i names)) ++ (get_or names i d).now ∷ []
next-more old names i d h =
    ap (λ (l : List (List ℕ)). old ++ l) (text-more names i d h) ∙ sym (append_assoc old (texts (take i names)) ((get_or names i d).now ∷ []))

texts-split : (names : List (Bor (List ℕ))) (k : ℕ) → texts names ≡ texts (take k names) ++ texts (drop k names)
texts-split names k = ap texts (sym (take-append-drop k names)) ∙ map-append (λ (n : Bor (List ℕ)). n.now) (take k names) (drop k names)

-- a name that is among those before it is there twice
pub twice-there : (old : List (List ℕ)) (names : List (Bor (List ℕ))) (i : ℕ) (d : Bor (List ℕ)) (now : List (List ℕ)) → i < length names
    → now ≡ old ++ texts (take i names) → has_text now (get_or names i d).now ≡ true → has_twice (old ++ texts names) ≡ true
twice-there old names i d now h held e =
    let name = (get_or names i d).now in
    let there : has_text (old ++ texts (take i names)) name ≡ true = ap (λ l. has_text l name) (sym held) ∙ e in
    let twice : has_twice (old ++ texts (take (i + 1) names)) ≡ true =
    ap has_twice (next-more old names i d h) ∙ has_twice-more (old ++ texts (take i names)) name
    ∙ or_right (has_twice (old ++ texts (take i names))) _ there in
    ap has_twice (ap (λ (l : List (List ℕ)). old ++ l) (texts-split names (i + 1)) ∙ sym (append_assoc old (texts (take (i + 1) names)) (texts (drop (i + 1) names))))
    ∙ has_twice-before (old ++ texts (take (i + 1) names)) (texts (drop (i + 1) names)) twice

-- the names with the next one
pub more-names : (old : List (List ℕ)) (names : List (Bor (List ℕ))) (i : ℕ) (d : Bor (List ℕ)) (now new : List (List ℕ)) → i < length names
    → now ≡ old ++ texts (take i names) → new ≡ now ++ (get_or names i d).now ∷ [] → new ≡ old ++ texts (take (i + 1) names)
more-names old names i d now new h held more =
    more ∙ ap (λ l. l ++ (get_or names i d).now ∷ []) held ∙ sym (next-more old names i d h)

-- of which no two are the same where that one isn't among them
pub once-more : (old : List (List ℕ)) (names : List (Bor (List ℕ))) (i : ℕ) (d : Bor (List ℕ)) (now : List (List ℕ)) → i < length names
    → now ≡ old ++ texts (take i names) → has_twice (old ++ texts (take i names)) ≡ false → has_text now (get_or names i d).now ≡ false
    → has_twice (old ++ texts (take (i + 1) names)) ≡ false
once-more old names i d now h held once fresh =
    let name = (get_or names i d).now in
    let absent : has_text (old ++ texts (take i names)) name ≡ false = ap (λ l. has_text l name) (sym held) ∙ fresh in
    ap has_twice (next-more old names i d h) ∙ has_twice-more (old ++ texts (take i names)) name ∙ (λ j. once j || absent j)

pub named_at : (names : List (Bor (List ℕ))) (i : ℕ) (d : Bor (List ℕ)) → i < length names → list_all is_listed_name (texts names) ≡ true
    → is_listed_name (get_or names i d).now ≡ true
named_at [] i d h all = absurd (omega arith)
named_at (x ∷ xs) zero d h all = (prefix_true (is_listed_name x.now) (list_all is_listed_name (texts xs)) all).0
named_at (x ∷ xs) (suc i) d h all = named_at xs i d (omega arith) (prefix_true (is_listed_name x.now) (list_all is_listed_name (texts xs)) all).1
