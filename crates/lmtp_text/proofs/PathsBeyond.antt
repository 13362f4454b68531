-- A path in ASCII is read as the same where it may be in UTF-8.
use Rattle.std.proofs.Common.{◌≡◌, ℕ, zero, suc, Bool, true, false, not, ◌&&◌, ◌||◌, ◌==◌, List, [], ◌∷◌, ◌++◌, map, refl, sym, ap, ◌∙◌, subst}
use Rattle.std.proofs.Common.{Option, Some, None, inl, inr, arith, IsAscii}
use Rattle.std.specs.Prelude.{nat_lt, codes}
use Rattle.std.specs.List.{list_all, join_with_byte, AllByRecursion}
use Rattle.std.specs.Char.{is_ascii_alphanumeric}
use Rattle.std.specs.Str.{byte}
use Rattle.std.proofs.lemmas.Bool.Decides.{nat_tests}
use Rattle.std.proofs.lemmas.List.Folds.{list_all-append}
use Rattle.std.proofs.lemmas.Str.{IsUtf8-from_ascii, is_utf8-from_IsUtf8}
use Rattle.mail_world.specs.Text.{has_byte}
use Rattle.mail_world.specs.Grammar.{is_between, is_plain, is_of_domain, is_of_literal, is_of_quoted, is_domain, Target, IsQuotedText, IsLocalPart, IsLiteral, IsHostPart}
use Rattle.mail_world.specs.Grammar.{IsPath, local_text, host_text, mailbox_text, route_text, path_text}
use Rattle.mail_world.specs.Paths.{Found, Path, forward_path}
use Rattle.mail_world.proofs.PathsRead.{forward_path_reads}
use Rattle.mail_world.proofs.PathsSpelled.{and_parts, forward_path_spelled}

-- what each byte of a text passes that passes another test
each_too : (p q : ℕ → Bool) → ((b : ℕ) → p b ≡ true → q b ≡ true) → (text : List ℕ) → list_all p text ≡ true → list_all q text ≡ true
each_too p q h [] e = refl
each_too p q h (b ∷ text) e = let parts = and_parts (p b) (list_all p text) e in rw (h b parts.0, each_too p q h text parts.1) refl

-- a byte that may stand in a part of ASCII may stand in one that may have more, and is of ASCII
abbrev is_small : ℕ → Bool
is_small b = nat_lt b 128

or_more : (x y : Bool) → (x || false) ≡ true → (x || y) ≡ true
or_more true y e = refl
or_more false y e = cc

plain_too : (b : ℕ) → is_plain false b ≡ true → is_plain true b ≡ true
plain_too b e = or_more _ _ e

domain_too : (b : ℕ) → is_of_domain false b ≡ true → is_of_domain true b ≡ true
domain_too b e = or_more (is_ascii_alphanumeric b || has_byte (codes "-_.") b) (is_between 128 255 b) e

quoted_or : (x escaped y z : Bool) → (x || not escaped && (false && y)) ≡ true → (x || not escaped && (true && z)) ≡ true
quoted_or true escaped y z e = refl
quoted_or false true y z e = cc
quoted_or false false y z e = cc

quoted_too : (escaped : Bool) (b : ℕ) → is_of_quoted false escaped b ≡ true → is_of_quoted true escaped b ≡ true
quoted_too escaped b e = quoted_or (is_between 32 126 b) escaped (is_between 128 255 b) (is_between 128 255 b) e

plain_small : (b : ℕ) → is_plain false b ≡ true → is_small b ≡ true
plain_small b e = grind (arith, nat_tests, e)

domain_small : (b : ℕ) → is_of_domain false b ≡ true → is_small b ≡ true
domain_small b e = grind (arith, nat_tests, e)

literal_small : (b : ℕ) → is_of_literal b ≡ true → is_small b ≡ true
literal_small b e = grind (arith, nat_tests, e)

quoted_small : (escaped : Bool) (b : ℕ) → is_of_quoted false escaped b ≡ true → is_small b ≡ true
quoted_small true b e = grind (arith, nat_tests, e)
quoted_small false b e = grind (arith, nat_tests, e)

-- the parts of a path
name_too : (text : List ℕ) → is_domain false text ≡ true → is_domain true text ≡ true
name_too text e =
    let parts = and_parts _ (list_all (is_of_domain false) text) e in
    rw (parts.0, each_too (is_of_domain false) (is_of_domain true) domain_too text parts.1) refl

names_too : (ds : List (List ℕ)) → AllByRecursion (λ d. is_domain false d ≡ true) ds → AllByRecursion (λ d. is_domain true d ≡ true) ds
names_too [] h = tt
names_too (d ∷ ds) h = (name_too d h.0, names_too ds h.1)

quoted_text_too : (escaped : Bool) (text : List ℕ) → IsQuotedText false escaped text → IsQuotedText true escaped text
quoted_text_too false [] h = tt
quoted_text_too true [] h = absurd h
quoted_text_too true (b ∷ text) h = (quoted_too true b h.0, quoted_text_too false text h.1)
quoted_text_too false (b ∷ text) h = (h.0, quoted_too false b h.1, quoted_text_too (b == byte "\\") text h.2)

local_too : (quoted : Bool) (text : List ℕ) → IsLocalPart false quoted text → IsLocalPart true quoted text
local_too false text h = record { nonempty = h.nonempty; each = each_too (is_plain false) (is_plain true) plain_too text h.each }
local_too true text h = quoted_text_too false text h

host_too : (host : Option (List ℕ)) → IsHostPart false host → IsHostPart true host
host_too None h = tt
host_too (Some text) h = elim h [ inl domain ↦ inl (name_too text domain) | inr literal ↦ inr literal ]

-- and their bytes
abbrev IsSmall : List ℕ → Type 0
IsSmall text = list_all is_small text ≡ true

small_both : (xs ys : List ℕ) → IsSmall xs → IsSmall ys → IsSmall (xs ++ ys)
small_both xs ys hx hy = rw (list_all-append is_small xs ys, hx, hy) refl

name_small : (text : List ℕ) → is_domain false text ≡ true → IsSmall text
name_small text e = each_too (is_of_domain false) is_small domain_small text (and_parts _ (list_all (is_of_domain false) text) e).1

quoted_text_small : (escaped : Bool) (text : List ℕ) → IsQuotedText false escaped text → IsSmall text
quoted_text_small false [] h = refl
quoted_text_small true [] h = absurd h
quoted_text_small true (b ∷ text) h = rw (quoted_small true b h.0, quoted_text_small false text h.1) refl
quoted_text_small false (b ∷ text) h = rw (quoted_small false b h.1, quoted_text_small (b == byte "\\") text h.2) refl

local_small : (quoted : Bool) (text : List ℕ) → IsLocalPart false quoted text → IsSmall (local_text quoted text)
local_small false text h = each_too (is_plain false) is_small plain_small text h.each
local_small true text h = small_both text (byte "\"" ∷ []) (quoted_text_small false text h) refl

literal_small_text : (text : List ℕ) → IsLiteral text → IsSmall text
literal_small_text text h =
    subst IsSmall (sym h.whole)
    (small_both h.inner (byte "]" ∷ []) (each_too is_of_literal is_small literal_small h.inner (let b = h.bytes in b.each)) refl)

host_small : (host : Option (List ℕ)) → IsHostPart false host → IsSmall (host_text host)
host_small None h = refl
host_small (Some text) h = elim h [ inl domain ↦ name_small text domain | inr literal ↦ literal_small_text text literal ]

joined_small : (d : List ℕ) (ds : List (List ℕ)) → AllByRecursion (λ d. is_domain false d ≡ true) (d ∷ ds)
    → IsSmall (join_with_byte (byte ",") (map (λ name. byte "@" ∷ name) (d ∷ ds)))
joined_small d [] h = name_small d h.0
joined_small d (e ∷ ds) h = small_both d (byte "," ∷ join_with_byte (byte ",") (map (λ name. byte "@" ∷ name) (e ∷ ds))) (name_small d h.0) (joined_small e ds h.1)

route_small : (ds : List (List ℕ)) → AllByRecursion (λ d. is_domain false d ≡ true) ds → IsSmall (route_text ds)
route_small [] h = refl
route_small (d ∷ ds) h = small_both (join_with_byte (byte ",") (map (λ name. byte "@" ∷ name) (d ∷ ds))) (byte ":" ∷ []) (joined_small d ds h) refl

path_small : (route : List (List ℕ)) (t : Target) → IsPath false route t → IsSmall (path_text route t)
path_small route t h =
    let m = h.mailbox in
    small_both (route_text route) (mailbox_text t ++ byte ">" ∷ []) (route_small route h.hops)
    (small_both (mailbox_text t) (byte ">" ∷ [])
    (small_both (local_text t.quoted t.local) (host_text t.domain) (local_small t.quoted t.local m.local) (host_small t.domain m.host)) refl)

ascii_of : (text : List ℕ) → IsSmall text → IsAscii text
ascii_of [] h i = omega arith
ascii_of (b ∷ text) h zero = let small = (and_parts (is_small b) (list_all is_small text) h).0 in grind (arith, nat_tests, small)
ascii_of (b ∷ text) h (suc i) = ascii_of text (and_parts (is_small b) (list_all is_small text) h).1 i

path_too : (route : List (List ℕ)) (t : Target) → IsPath false route t → IsPath true route t
path_too route t h =
    let m = h.mailbox in
    record {
      hops = names_too route h.hops;
      mailbox = record { local = local_too t.quoted t.local m.local; host = host_too t.domain m.host };
      fits = h.fits;
      encoded = is_utf8-from_IsUtf8 (path_text route t) (IsUtf8-from_ascii (path_text route t) (ascii_of (path_text route t) (path_small route t h)));
    }

pub forward_too : (text : List ℕ) (found : Found Path) → forward_path false text ≡ Some found → forward_path true text ≡ Some found
forward_too text found e =
    let read = forward_path_reads false text found e in
    let target = found.value.target in
    ap (forward_path true) read.whole
    ∙ forward_path_spelled true read.route target found.rest (path_too read.route target read.path)
    ∙ ap (λ mailbox. Some (record { value = record { mailbox = mailbox; target = target }; rest = found.rest })) (sym read.mailbox)
