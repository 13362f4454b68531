-- What is spelled as a path is read as that path, whatever follows it.
use Rattle.std.proofs.Common.{◌≡◌, ℕ, ◌+◌, ◌-◌, ◌<◌, ◌≤◌, List, [], ◌∷◌, ◌++◌, length, drop, map, Bool, true, false, not, ◌&&◌, ◌==◌, Option, Some, None, inl}
use Rattle.std.proofs.Common.{inr, refl, ap, sym, ◌∙◌, append_assoc, arith, length-append, add-one}
use Rattle.std.specs.Prelude.{option_and_then, nat_le, nat_lt}
use Rattle.std.specs.List.{list_all, prefix_len, join_with_byte, slice_split, before_first, after_first, AllByRecursion}
use Rattle.std.specs.Str.{byte}
use Rattle.std.proofs.Math.Seq.{take-append_seam, drop-append_seam, drop-append-add}
use Rattle.mail_world.specs.Text.{has_byte, begins}
use Rattle.mail_world.specs.Grammar.{is_between, is_plain, is_of_domain, is_of_literal, is_domain, Target, IsSomeOf, IsQuotedText, IsLocalPart, IsHostPart}
use Rattle.mail_world.specs.Grammar.{is_encoded, local_text, host_text, mailbox_text, route_text, IsPath, path_text}
use Rattle.mail_world.specs.declared.limits.TheConstants.{PATH_LIMIT}
use Rattle.mail_world.specs.Paths.{quoted_len, some_prefix, plain_local, quoted_local, domain_at, literal_at, host_at, with_host, mailbox_at, is_hop}
use Rattle.mail_world.specs.Paths.{after_route, Path, closed_at, encoded_at, path_at, forward_path}
use Rattle.std.proofs.Math.Bool.{or-true}
use Rattle.std.proofs.lemmas.Bool.{eq-eqb}
use Rattle.std.proofs.lemmas.List.Folds.{list_all-append}
use Rattle.std.proofs.lemmas.Bool.Decides.{nat_tests}
use Rattle.mail_world.proofs.OneLine.{other_byte}

pub and_parts : (x y : Bool) → (x && y) ≡ true → (x ≡ true) × (y ≡ true)
and_parts true y e = (refl, e)
and_parts false y e = cc

-- a run of bytes that pass, and one that doesn't
pub prefix_len-stop : (p : ℕ → Bool) (xs : List ℕ) (y : ℕ) (ys : List ℕ) → list_all p xs ≡ true → p y ≡ false → prefix_len p (xs ++ y ∷ ys) ≡ length xs
prefix_len-stop p [] y ys all stop = rw stop refl
prefix_len-stop p (x ∷ xs) y ys all stop =
    let parts = and_parts (p x) (list_all p xs) all in
    rw (parts.0, prefix_len-stop p xs y ys parts.1 stop) (omega arith)

some_prefix-seam : (xs ys : List ℕ) → 0 < length xs → some_prefix (length xs) (xs ++ ys) ≡ Some (record { value = xs; rest = ys })
some_prefix-seam xs ys positive = rw (other_byte (length xs) 0 (omega arith), take-append_seam xs ys, drop-append_seam xs ys) refl

-- a mark that passes neither in ASCII nor beyond it
never : (p : Bool → ℕ → Bool) (mark : ℕ) → p false mark ≡ false → p true mark ≡ false → (utf8 : Bool) → p utf8 mark ≡ false
never p mark ascii beyond true = beyond
never p mark ascii beyond false = ascii

plain_local-stop : (utf8 : Bool) (xs : List ℕ) (y : ℕ) (ys : List ℕ) → IsSomeOf (is_plain utf8) xs → is_plain utf8 y ≡ false
    → plain_local utf8 (xs ++ y ∷ ys) ≡ Some (record { value = xs; rest = y ∷ ys })
plain_local-stop utf8 xs y ys h stop = rw (prefix_len-stop (is_plain utf8) xs y ys h.each stop) (some_prefix-seam xs (y ∷ ys) h.nonempty)

-- quoted text, and the quote that closes it
quoted_len-stop : (utf8 escaped : Bool) (text rest : List ℕ) → IsQuotedText utf8 escaped text
    → quoted_len utf8 escaped (text ++ byte "\"" ∷ rest) ≡ Some (length text)
quoted_len-stop utf8 false [] rest h = refl
quoted_len-stop utf8 true [] rest h = absurd h
quoted_len-stop utf8 true (b ∷ text) rest h = rw (h.0, quoted_len-stop utf8 false text rest h.1) refl
quoted_len-stop utf8 false (b ∷ text) rest h = rw (h.0, h.1, quoted_len-stop utf8 (b == byte "\\") text rest h.2) refl

quoted_local-stop : (utf8 : Bool) (text rest : List ℕ) → IsQuotedText utf8 false text
    → quoted_local utf8 (text ++ byte "\"" ∷ rest) ≡ Some (record { value = text; rest = rest })
quoted_local-stop utf8 text rest h = rw (quoted_len-stop utf8 false text rest h, take-append_seam text (byte "\"" ∷ rest), drop-append-add text (byte "\"" ∷ rest) 1) refl

-- a byte that begins a text of some kind is no mark
no_mark : (p : ℕ → Bool) (mark : ℕ) (b : ℕ) → p mark ≡ false → p b ≡ true → (b == mark) ≡ false
no_mark p mark b no' yes' = other_byte b mark (λ same. let e : p b ≡ p mark = ap p same in cc)

begins-first : (p : ℕ → Bool) (mark : ℕ) (xs ys : List ℕ) → p mark ≡ false → 0 < length xs → list_all p xs ≡ true → begins mark (xs ++ ys) ≡ false
begins-first p mark [] ys no' positive all = absurd (omega arith)
begins-first p mark (x ∷ xs) ys no' positive all = no_mark p mark x no' (and_parts (p x) (list_all p xs) all).0

-- how long a domain is
domain_bounds : (utf8 : Bool) (text : List ℕ) → is_domain utf8 text ≡ true
    → (0 < length text) × (nat_lt 255 (length text) ≡ false) × (list_all (is_of_domain utf8) text ≡ true)
domain_bounds utf8 text h =
    let both = and_parts (is_between 1 255 (length text)) (list_all (is_of_domain utf8) text) h in
    let bounds = and_parts (nat_le 1 (length text)) (nat_le (length text) 255) both.0 in
    (grind (arith, nat_tests, bounds.0), grind (arith, nat_tests, bounds.1), both.1)

domain_at-stop : (utf8 : Bool) (text : List ℕ) (y : ℕ) (ys : List ℕ) → is_domain utf8 text ≡ true → is_of_domain utf8 y ≡ false
    → domain_at utf8 (text ++ y ∷ ys) ≡ Some (record { value = text; rest = y ∷ ys })
domain_at-stop utf8 text y ys h stop =
    let bounds = domain_bounds utf8 text h in
    rw (prefix_len-stop (is_of_domain utf8) text y ys bounds.2 stop, bounds.1) (some_prefix-seam text (y ∷ ys) bounds.0)

literal_at-stop : (inner rest : List ℕ) → IsSomeOf is_of_literal inner
    → literal_at (byte "[" ∷ (inner ++ byte "]" ∷ rest)) ≡ Some (record { value = byte "[" ∷ (inner ++ byte "]" ∷ []); rest = rest })
literal_at-stop inner rest h =
    let text : List ℕ = byte "[" ∷ (inner ++ byte "]" ∷ rest) in
    let all : List ℕ = byte "[" ∷ (inner ++ byte "]" ∷ []) in
    let after : drop (length inner + 1) text ≡ byte "]" ∷ rest = rw (add-one) (drop-append_seam (byte "[" ∷ inner) (byte "]" ∷ rest)) in
    let len : length inner + 2 ≡ length all = omega (arith, length-append inner (byte "]" ∷ [])) in
    let whole : text ≡ all ++ rest = ap (λ l. byte "[" ∷ l) (sym (append_assoc inner (byte "]" ∷ []) rest)) in
    let bracket : literal_at text ≡ some_prefix (length inner + 2) text =
    rw (prefix_len-stop is_of_literal inner (byte "]") rest h.each refl, other_byte (length inner) 0 (let positive = h.nonempty in omega arith), after) refl in
    bracket ∙ ap (λ k. some_prefix k text) len ∙ ap (λ l. some_prefix (length all) l) whole ∙ some_prefix-seam all rest (omega arith)

host_at-stop : (utf8 : Bool) (text rest : List ℕ) → IsHostPart utf8 (Some text)
    → host_at utf8 (text ++ byte ">" ∷ rest) ≡ Some (record { value = text; rest = byte ">" ∷ rest })
host_at-stop utf8 text rest h = elim h [
  | inl domain ↦ let bounds = domain_bounds utf8 text domain in
      rw (begins-first (is_of_domain utf8) (byte "[") text (byte ">" ∷ rest) (never is_of_domain (byte "[") refl refl utf8) bounds.0 bounds.2)
      (domain_at-stop utf8 text (byte ">") rest domain (never is_of_domain (byte ">") refl refl utf8))
  | inr literal ↦
      let whole : text ++ byte ">" ∷ rest ≡ byte "[" ∷ (literal.inner ++ byte "]" ∷ byte ">" ∷ rest) =
      ap (λ l. l ++ byte ">" ∷ rest) literal.whole ∙ ap (λ l. byte "[" ∷ l) (append_assoc literal.inner (byte "]" ∷ []) (byte ">" ∷ rest)) in
      ap (host_at utf8) whole ∙ literal_at-stop literal.inner (byte ">" ∷ rest) literal.bytes
      ∙ ap (λ v. Some (record { value = v; rest = byte ">" ∷ rest })) (sym literal.whole)
]

with_host-stop : (utf8 quoted : Bool) (local : List ℕ) (domain : Option (List ℕ)) (rest : List ℕ) → IsHostPart utf8 domain
    → with_host utf8 quoted (record { value = local; rest = host_text domain ++ byte ">" ∷ rest })
    ≡ Some (record { value = record { local = local; quoted = quoted; domain = domain }; rest = byte ">" ∷ rest })
with_host-stop utf8 quoted local None rest h = refl
with_host-stop utf8 quoted local (Some text) rest h = rw (host_at-stop utf8 text rest h) refl

local-stop : (utf8 quoted : Bool) (local : List ℕ) (y : ℕ) (ys : List ℕ) → IsLocalPart utf8 quoted local → is_plain utf8 y ≡ false
    → mailbox_at utf8 (local_text quoted local ++ y ∷ ys) ≡ with_host utf8 quoted (record { value = local; rest = y ∷ ys })
local-stop utf8 false local y ys h stop =
    rw (
      begins-first (is_plain utf8) (byte "\"") local (y ∷ ys) (never is_plain (byte "\"") refl refl utf8) h.nonempty h.each,
      plain_local-stop utf8 local y ys h stop,
    ) refl
local-stop utf8 true local y ys h stop = rw (append_assoc local (byte "\"" ∷ []) (y ∷ ys), quoted_local-stop utf8 local (y ∷ ys) h) refl

mailbox-stop : (utf8 quoted : Bool) (local : List ℕ) (domain : Option (List ℕ)) (rest : List ℕ) → IsLocalPart utf8 quoted local → IsHostPart utf8 domain
    → mailbox_at utf8 ((local_text quoted local ++ host_text domain) ++ byte ">" ∷ rest)
    ≡ Some (record { value = record { local = local; quoted = quoted; domain = domain }; rest = byte ">" ∷ rest })
mailbox-stop utf8 quoted local None rest l h =
    ap (mailbox_at utf8) (append_assoc (local_text quoted local) [] (byte ">" ∷ rest))
    ∙ local-stop utf8 quoted local (byte ">") rest l (never is_plain (byte ">") refl refl utf8)
    ∙ with_host-stop utf8 quoted local None rest h
mailbox-stop utf8 quoted local (Some text) rest l h =
    ap (mailbox_at utf8) (append_assoc (local_text quoted local) (byte "@" ∷ text) (byte ">" ∷ rest))
    ∙ local-stop utf8 quoted local (byte "@") (text ++ byte ">" ∷ rest) l (never is_plain (byte "@") refl refl utf8)
    ∙ with_host-stop utf8 quoted local (Some text) rest h

-- a mailbox begins with no at sign
mailbox-first : (utf8 quoted : Bool) (local ys : List ℕ) → IsLocalPart utf8 quoted local → begins (byte "@") (local_text quoted local ++ ys) ≡ false
mailbox-first utf8 false local ys h = begins-first (is_plain utf8) (byte "@") local ys (never is_plain (byte "@") refl refl utf8) h.nonempty h.each
mailbox-first utf8 true local ys h = refl

-- the domains of a route, each after its at sign, with commas between them
abbrev hops : List (List ℕ) → List (List ℕ)
hops ds = map (λ name. byte "@" ∷ name) ds

abbrev joined : List (List ℕ) → List ℕ
joined ds = join_with_byte (byte ",") (hops ds)

abbrev AreDomains : Bool → List (List ℕ) → Type 0
AreDomains utf8 ds = AllByRecursion (λ d. is_domain utf8 d ≡ true) ds

-- a test that each byte of a domain passes
all_of_domain : (utf8 : Bool) (p : ℕ → Bool) → ((b : ℕ) → is_of_domain utf8 b ≡ true → p b ≡ true) → (text : List ℕ)
    → list_all (is_of_domain utf8) text ≡ true → list_all p text ≡ true
all_of_domain utf8 p each [] h = refl
all_of_domain utf8 p each (b ∷ text) h = let parts = and_parts (is_of_domain utf8 b) (list_all (is_of_domain utf8) text) h in
    rw (each b parts.0, all_of_domain utf8 p each text parts.1) refl

abbrev is_not : ℕ → ℕ → Bool
is_not mark b = not (b == mark)

-- a mark that stands in no domain
abbrev IsNoneOfDomain : ℕ → Type 0
IsNoneOfDomain mark = (utf8 : Bool) → is_of_domain utf8 mark ≡ false

not_mark : (utf8 : Bool) (mark : ℕ) → IsNoneOfDomain mark → (b : ℕ) → is_of_domain utf8 b ≡ true → is_not mark b ≡ true
not_mark utf8 mark no' b yes' = rw (no_mark (is_of_domain utf8) mark b (no' utf8) yes') refl

domain-without : (utf8 : Bool) (mark : ℕ) → IsNoneOfDomain mark → (d : List ℕ) → is_domain utf8 d ≡ true → list_all (is_not mark) d ≡ true
domain-without utf8 mark no' d h = all_of_domain utf8 (is_not mark) (not_mark utf8 mark no') d (domain_bounds utf8 d h).2

no_colon : IsNoneOfDomain (byte ":")
no_colon utf8 = never is_of_domain (byte ":") refl refl utf8

no_comma : IsNoneOfDomain (byte ",")
no_comma utf8 = never is_of_domain (byte ",") refl refl utf8

-- no colon stands in a route
joined-colon : (utf8 : Bool) (d : List ℕ) (ds : List (List ℕ)) → AreDomains utf8 (d ∷ ds) → list_all (is_not (byte ":")) (joined (d ∷ ds)) ≡ true
joined-colon utf8 d [] h = domain-without utf8 (byte ":") no_colon d h.0
joined-colon utf8 d (e ∷ ds) h =
    rw (list_all-append (is_not (byte ":")) d (byte "," ∷ joined (e ∷ ds)), domain-without utf8 (byte ":") no_colon d h.0, joined-colon utf8 e ds h.1) refl

-- a route begins with an at sign
joined-first : (d : List ℕ) (ds : List (List ℕ)) (text : List ℕ) → begins (byte "@") (joined (d ∷ ds) ++ text) ≡ true
joined-first d [] text = refl
joined-first d (e ∷ ds) text = refl

not_true : (x : Bool) → not x ≡ true → x ≡ false
not_true true e = cc
not_true false e = refl

-- it falls into its parts again
split-stop : (x rest : List ℕ) → list_all (is_not (byte ",")) x ≡ true
    → slice_split (λ b. b == byte ",") (x ++ byte "," ∷ rest) ≡ x ∷ slice_split (λ b. b == byte ",") rest
split-stop [] rest h = refl
split-stop (b ∷ x) rest h = let parts = and_parts (is_not (byte ",") b) (list_all (is_not (byte ",")) x) h in
    rw (not_true (b == byte ",") parts.0, split-stop x rest parts.1) refl

split-none : (x : List ℕ) → list_all (is_not (byte ",")) x ≡ true → slice_split (λ b. b == byte ",") x ≡ x ∷ []
split-none [] h = refl
split-none (b ∷ x) h = let parts = and_parts (is_not (byte ",") b) (list_all (is_not (byte ",")) x) h in
    rw (not_true (b == byte ",") parts.0, split-none x parts.1) refl

split-joined : (utf8 : Bool) (d : List ℕ) (ds : List (List ℕ)) → AreDomains utf8 (d ∷ ds)
    → slice_split (λ b. b == byte ",") (joined (d ∷ ds)) ≡ hops (d ∷ ds)
split-joined utf8 d [] h = split-none (byte "@" ∷ d) (domain-without utf8 (byte ",") no_comma d h.0)
split-joined utf8 d (e ∷ ds) h = split-stop (byte "@" ∷ d) (joined (e ∷ ds)) (domain-without utf8 (byte ",") no_comma d h.0)
    ∙ ap (λ l. (byte "@" ∷ d) ∷ l) (split-joined utf8 e ds h.1)

all_hops : (utf8 : Bool) (ds : List (List ℕ)) → AreDomains utf8 ds → list_all (is_hop utf8) (hops ds) ≡ true
all_hops utf8 [] h = refl
all_hops utf8 (d ∷ ds) h = rw (h.0, all_hops utf8 ds h.1) refl

has-seam : (xs : List ℕ) (c : ℕ) (ys : List ℕ) → has_byte (xs ++ c ∷ ys) c ≡ true
has-seam [] c ys = rw (eq-eqb c c refl) refl
has-seam (x ∷ xs) c ys = rw (has-seam xs c ys) (or-true (x == c))

route_by : (utf8 : Bool) (whole route text : List ℕ) → begins (byte "@") whole ≡ true → has_byte whole (byte ":") ≡ true
    → before_first (λ b. b == byte ":") whole ≡ route → list_all (is_hop utf8) (slice_split (λ b. b == byte ",") route) ≡ true
    → after_first (λ b. b == byte ":") whole ≡ text → after_route utf8 whole ≡ Some text
route_by utf8 whole route text first has prefix each back = rw (first, has, prefix, each, back) refl

route-stop : (utf8 : Bool) (ds : List (List ℕ)) (text : List ℕ) → AreDomains utf8 ds → begins (byte "@") text ≡ false
    → after_route utf8 (route_text ds ++ text) ≡ Some text
route-stop utf8 [] text h first = rw first refl
route-stop utf8 (d ∷ ds) text h first =
    let route = joined (d ∷ ds) in
    let whole : List ℕ = route ++ byte ":" ∷ text in
    let len : prefix_len (is_not (byte ":")) whole ≡ length route = prefix_len-stop (is_not (byte ":")) route (byte ":") text (joined-colon utf8 d ds h) refl in
    let prefix : before_first (λ b. b == byte ":") whole ≡ route = rw len (take-append_seam route (byte ":" ∷ text)) in
    let back : after_first (λ b. b == byte ":") whole ≡ text = rw len (drop-append-add route (byte ":" ∷ text) 1) in
    ap (after_route utf8) (append_assoc route (byte ":" ∷ []) text)
    ∙ route_by utf8 whole route text (joined-first d ds (byte ":" ∷ text)) (has-seam route (byte ":") text) prefix
    (rw (split-joined utf8 d ds h) (all_hops utf8 (d ∷ ds) h)) back

-- the bracket that closes a path
closed-stop : (text : List ℕ) (target : Target) (rest : List ℕ) → length text ≤ PATH_LIMIT
    → closed_at (text ++ byte ">" ∷ rest) (record { value = target; rest = byte ">" ∷ rest })
    ≡ Some (record { value = record { mailbox = text; target = target }; rest = rest })
closed-stop text target rest fits =
    let len : length (text ++ byte ">" ∷ rest) - length (byte ">" ∷ rest) ≡ length text = omega (arith, length-append text (byte ">" ∷ rest)) in
    let fit : nat_le (length text) PATH_LIMIT ≡ true = grind (arith, nat_tests, fits) in
    rw (len, fit, take-append_seam text (byte ">" ∷ rest)) refl

path_at-spelled : (utf8 : Bool) (ds : List (List ℕ)) (t : Target) (rest : List ℕ) → IsPath utf8 ds t
    → path_at utf8 (path_text ds t ++ rest) ≡ Some (record { value = record { mailbox = mailbox_text t; target = t }; rest = rest })
path_at-spelled utf8 ds t rest h =
    let inner : List ℕ = mailbox_text t ++ byte ">" ∷ rest in
    let whole : (route_text ds ++ (mailbox_text t ++ byte ">" ∷ [])) ++ rest ≡ route_text ds ++ inner =
    append_assoc (route_text ds) (mailbox_text t ++ byte ">" ∷ []) rest ∙ ap (λ l. route_text ds ++ l) (append_assoc (mailbox_text t) (byte ">" ∷ []) rest) in
    let first : begins (byte "@") inner ≡ false =
    ap (begins (byte "@")) (append_assoc (local_text t.quoted t.local) (host_text t.domain) (byte ">" ∷ rest))
    ∙ mailbox-first utf8 t.quoted t.local (host_text t.domain ++ byte ">" ∷ rest) h.mailbox.local in
    ap (λ o. option_and_then (λ inner. option_and_then (closed_at inner) (mailbox_at utf8 inner)) o)
    (ap (after_route utf8) whole ∙ route-stop utf8 ds inner h.hops first)
    ∙ ap (λ o. option_and_then (closed_at inner) o) (mailbox-stop utf8 t.quoted t.local t.domain rest h.mailbox.local h.mailbox.host)
    ∙ closed-stop (mailbox_text t) t rest h.fits

-- what was read of a text, where it is encoded as it has to be
encoded-stop : (utf8 : Bool) (text rest : List ℕ) (path : Path) → is_encoded utf8 text ≡ true
    → encoded_at utf8 (text ++ rest) (record { value = path; rest = rest }) ≡ Some (record { value = path; rest = rest })
encoded-stop utf8 text rest path e =
    let len : length (text ++ rest) - length rest ≡ length text = omega (arith, length-append text rest) in
    rw (len, take-append_seam text rest, e) refl

pub forward_path_spelled : (utf8 : Bool) (ds : List (List ℕ)) (t : Target) (rest : List ℕ) → IsPath utf8 ds t
    → forward_path utf8 (path_text ds t ++ rest) ≡ Some (record { value = record { mailbox = mailbox_text t; target = t }; rest = rest })
unfolding forward_path
forward_path_spelled utf8 ds t rest h =
    ap (λ o. option_and_then (encoded_at utf8 (path_text ds t ++ rest)) o) (path_at-spelled utf8 ds t rest h)
    ∙ encoded-stop utf8 (path_text ds t) rest (record { mailbox = mailbox_text t; target = t }) h.encoded
