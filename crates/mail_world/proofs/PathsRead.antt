-- What is read as a path is spelled so.
use Rattle.std.proofs.Common.{◌≡◌, ◌≢◌, ℕ, suc, ◌+◌, ◌-◌, ◌<◌, ◌≤◌, List, [], ◌∷◌, ◌++◌, length, take, drop, map, Bool, true, false, cond, not, ◌&&◌, ◌||◌}
use Rattle.std.proofs.Common.{◌==◌, Option, Some, None, inl, inr, refl, ap, sym, ◌∙◌, subst, append_assoc, arith, length-append, add-one}
use Rattle.std.specs.Prelude.{option_map, option_and_then, nat_le, nat_lt}
use Rattle.std.specs.List.{list_all, prefix_len, join_with_byte, slice_split, onto_first, before_first, after_first, AllByRecursion}
use Rattle.std.specs.Str.{byte}
use Rattle.std.proofs.Math.Seq.{take-append_seam}
use Rattle.std.proofs.lemmas.List.{take-append-drop}
use Rattle.std.proofs.lemmas.List.Folds.{length-prefix_len}
use Rattle.std.proofs.lemmas.List.Splits.{join_with_byte-slice_split}
use Rattle.std.proofs.lemmas.Bool.{eqb-true, eqb-false, or_parts}
use Rattle.std.proofs.lemmas.Bool.Decides.{nat_tests}
use Rattle.mail_world.specs.Text.{has_byte, begins}
use Rattle.mail_world.specs.Grammar.{is_of_quoted, is_plain, is_of_domain, is_of_literal, is_domain, Target, IsSomeOf, IsQuotedText, IsLocalPart, IsLiteral}
use Rattle.mail_world.specs.Grammar.{IsHostPart, IsMailbox, is_encoded, local_text, host_text, mailbox_text, route_text, path_text}
use Rattle.mail_world.specs.declared.limits.TheConstants.{PATH_LIMIT}
use Rattle.mail_world.specs.Paths.{quoted_len, Found, some_prefix, plain_local, quoted_local, domain_at, literal_at, host_at, with_host, mailbox_at, is_hop}
use Rattle.mail_world.specs.Paths.{after_route, Path, closed_at, encoded_at, path_at, forward_path, IsPathRead}
use Rattle.mail_world.proofs.PathsSpelled.{and_parts}

-- what a test or a step that gave a value says
none_else : {A : Type 0} (t : Bool) (o : Option A) (y : A) → cond t None o ≡ Some y → (t ≡ false) × (o ≡ Some y)
none_else true o y e = cc
none_else false o y e = (refl, e)

some_else : {A : Type 0} (t : Bool) (o : Option A) (y : A) → cond t o None ≡ Some y → (t ≡ true) × (o ≡ Some y)
some_else true o y e = (refl, e)
some_else false o y e = cc

map_some : {A B : Type 0} (f : A → B) (o : Option A) (y : B) → option_map f o ≡ Some y → (x : A) × (o ≡ Some x) × (f x ≡ y)
map_some f None y e = cc
map_some f (Some x) y e = (x, refl, cc)

then_some : {A B : Type 0} (f : A → Option B) (o : Option A) (y : B) → option_and_then f o ≡ Some y → (x : A) × (o ≡ Some x) × (f x ≡ Some y)
then_some f None y e = cc
then_some f (Some x) y e = (x, refl, e)

begins-is : (c : ℕ) (text : List ℕ) → begins c text ≡ true → text ≡ c ∷ drop 1 text
begins-is c [] e = cc
begins-is c (b ∷ text) e = ap (λ x. x ∷ text) (eqb-true b c e)

-- the prefix that passes
run_by : (p : ℕ → Bool) (x : ℕ) (xs : List ℕ) (t : Bool) → p x ≡ t → list_all p (take (prefix_len p xs) xs) ≡ true
    → list_all p (take (cond t (1 + prefix_len p xs) 0) (x ∷ xs)) ≡ true
run_by p x xs true e ih = let one : 1 + prefix_len p xs ≡ suc (prefix_len p xs) = omega arith in rw (one, e) ih
run_by p x xs false e ih = refl

prefix_len-all : (p : ℕ → Bool) (xs : List ℕ) → list_all p (take (prefix_len p xs) xs) ≡ true
prefix_len-all p [] = refl
prefix_len-all p (x ∷ xs) = run_by p x xs (p x) refl (prefix_len-all p xs)

-- a prefix and what follows it
record IsPrefix (n : ℕ) (text : List ℕ) (f : Found (List ℕ)) : Type 0 where
  positive : 0 < n
  value : f.value ≡ take n text
  whole : text ≡ f.value ++ f.rest

prefix_by : (n : ℕ) (text : List ℕ) (f : Found (List ℕ)) (t : Bool) → (n == 0) ≡ t
    → cond t None (Some (record { value = take n text; rest = drop n text })) ≡ Some f → IsPrefix n text f
prefix_by n text f true z e = cc
prefix_by n text f false z e =
    let same : record { value = take n text; rest = drop n text } ≡ f = cc in
    let P : Found (List ℕ) → Type 0 = λ g. IsPrefix n text g in
    subst P same (record { positive = grind (arith, nat_tests, z); value = refl; whole = sym (take-append-drop n text) })

some_prefix-reads : (n : ℕ) (text : List ℕ) (f : Found (List ℕ)) → some_prefix n text ≡ Some f → IsPrefix n text f
some_prefix-reads n text f e = prefix_by n text f (n == 0) refl e

-- the prefix that passes, and what follows it
run-reads : (p : ℕ → Bool) (text : List ℕ) (f : Found (List ℕ)) → some_prefix (prefix_len p text) text ≡ Some f
    → IsSomeOf p f.value × (text ≡ f.value ++ f.rest)
run-reads p text f e =
    let r = some_prefix-reads (prefix_len p text) text f e in (
      record {
        nonempty = let len : length f.value ≡ prefix_len p text = ap length r.value ∙ length-prefix_len p text in let h = r.positive in omega arith;
        each = rw (r.value) (prefix_len-all p text);
      },
      r.whole,
    )

-- quoted text, up to the quote that closes it
record IsClosed (utf8 escaped : Bool) (text : List ℕ) (n : ℕ) : Type 0 where
  inside : IsQuotedText utf8 escaped (take n text)
  whole : text ≡ take n text ++ byte "\"" ∷ drop (n + 1) text
  within : n < length text

closed_more : (utf8 escaped : Bool) (b : ℕ) (text : List ℕ) (m n : ℕ) → IsClosed utf8 escaped text m → suc m ≡ n
    → (IsQuotedText utf8 escaped (take m text) → IsQuotedText utf8 false (b ∷ take m text)) → IsClosed utf8 false (b ∷ text) n
closed_more utf8 escaped b text m n c e onto =
    let P : ℕ → Type 0 = λ k. IsClosed utf8 false (b ∷ text) k in
    subst P e (record {
      inside = onto c.inside;
      whole = rw (add-one) (let w : text ≡ take m text
          ++ byte "\"" ∷ drop (suc m) text = rw (add-one) at c.whole in ap (λ l. b ∷ l) w);
      within = let h = c.within in omega arith;
    })

pair_more : (utf8 : Bool) (b : ℕ) (text : List ℕ) (m n : ℕ) → IsClosed utf8 false text m → suc m ≡ n → is_of_quoted utf8 true b ≡ true
    → IsClosed utf8 true (b ∷ text) n
pair_more utf8 b text m n c e range =
    let P : ℕ → Type 0 = λ k. IsClosed utf8 true (b ∷ text) k in
    subst P e (record {
      inside = (range, c.inside);
      whole = rw (add-one) (let w : text ≡ take m text
          ++ byte "\"" ∷ drop (suc m) text = rw (add-one) at c.whole in ap (λ l. b ∷ l) w);
      within = let h = c.within in omega arith;
    })

quote_by : (utf8 : Bool) (b : ℕ) (text : List ℕ) (n : ℕ) (t : Bool) → (b == byte "\"") ≡ t
    → ((m : ℕ) → quoted_len utf8 (b == byte "\\") text ≡ Some m → IsClosed utf8 (b == byte "\\") text m)
    → cond t (Some 0) (cond (is_of_quoted utf8 false b) (option_map (λ k. suc k) (quoted_len utf8 (b == byte "\\") text)) None) ≡ Some n
    → IsClosed utf8 false (b ∷ text) n
quote_by utf8 b text n true q ih e =
    let zero_is : 0 ≡ n = cc in
    let P : ℕ → Type 0 = λ k. IsClosed utf8 false (b ∷ text) k in
    subst P zero_is (record { inside = tt; whole = ap (λ x. x ∷ text) (eqb-true b (byte "\"") q); within = omega arith })
quote_by utf8 b text n false q ih e =
    let range = some_else (is_of_quoted utf8 false b) _ n e in
    let step = map_some (λ k. suc k) (quoted_len utf8 (b == byte "\\") text) n range.1 in
    closed_more utf8 (b == byte "\\") b text step.0 n (ih step.0 step.1) step.2 (λ inside. (q, range.0, inside))

quoted_len-reads : (utf8 escaped : Bool) (text : List ℕ) (n : ℕ) → quoted_len utf8 escaped text ≡ Some n → IsClosed utf8 escaped text n
quoted_len-reads utf8 escaped [] n e = cc
quoted_len-reads utf8 true (b ∷ text) n e =
    let range = some_else (is_of_quoted utf8 true b) _ n e in
    let step = map_some (λ k. suc k) (quoted_len utf8 false text) n range.1 in
    pair_more utf8 b text step.0 n (quoted_len-reads utf8 false text step.0 step.1) step.2 range.0
quoted_len-reads utf8 false (b ∷ text) n e = quote_by utf8 b text n (b == byte "\"") refl (quoted_len-reads utf8 (b == byte "\\") text) e

quoted-reads : (utf8 : Bool) (text : List ℕ) (f : Found (List ℕ)) → quoted_local utf8 text ≡ Some f
    → IsQuotedText utf8 false f.value × (text ≡ f.value ++ byte "\"" ∷ f.rest)
quoted-reads utf8 text f e =
    let step = map_some (λ n. record { value = take n text; rest = drop (n + 1) text }) (quoted_len utf8 false text) f e in
    let c = quoted_len-reads utf8 false text step.0 step.1 in
    let P : Found (List ℕ) → Type 0 = λ g. IsQuotedText utf8 false g.value × (text ≡ g.value ++ byte "\"" ∷ g.rest) in
    subst P step.2 (c.inside, c.whole)

-- hosts
domain-reads : (utf8 : Bool) (text : List ℕ) (f : Found (List ℕ)) → domain_at utf8 text ≡ Some f
    → (is_domain utf8 f.value ≡ true) × (text ≡ f.value ++ f.rest)
domain-reads utf8 text f e =
    let passes : ℕ → Bool = is_of_domain utf8 in
    let short = none_else (nat_lt 255 (prefix_len passes text)) _ f e in
    let run = run-reads passes text f short.1 in
    let prefix = some_prefix-reads (prefix_len passes text) text f short.1 in
    let len : length f.value ≡ prefix_len passes text = ap length prefix.value ∙ length-prefix_len passes text in
    let low : nat_le 1 (length f.value) ≡ true = let h = run.0.nonempty in grind (arith, nat_tests, h) in
    let high : nat_le (length f.value) 255 ≡ true = rw len (grind (arith, nat_tests, short.0)) in
    (rw (low, high, run.0.each) refl, run.1)

not_false : (x : Bool) → not x ≡ false → x ≡ true
not_false true e = refl
not_false false e = cc

literal_from : (text : List ℕ) (f : Found (List ℕ)) → literal_at (byte "[" ∷ text) ≡ Some f → IsLiteral f.value × (byte "[" ∷ text ≡ f.value ++ f.rest)
literal_from text f e =
    let n : ℕ = prefix_len is_of_literal text in
    let inner : List ℕ = take n text in
    let more : List ℕ = drop 1 (drop n text) in
    let all : List ℕ = byte "[" ∷ (inner ++ byte "]" ∷ []) in
    let tests = none_else ((n == 0) || not (begins (byte "]") (drop (n + 1) (byte "[" ∷ text)))) (some_prefix (n + 2) (byte "[" ∷ text)) f e in
    let parts = or_parts (n == 0) (not (begins (byte "]") (drop (n + 1) (byte "[" ∷ text)))) tests.0 in
    let after : drop (n + 1) (byte "[" ∷ text) ≡ drop n text = rw add-one refl in
    let mark : begins (byte "]") (drop n text) ≡ true = ap (begins (byte "]")) (sym after) ∙ not_false _ parts.1 in
    let split : text ≡ inner ++ byte "]" ∷ more = sym (take-append-drop n text) ∙ ap (λ l. inner ++ l) (begins-is (byte "]") (drop n text) mark) in
    let whole : byte "[" ∷ text ≡ all ++ more = ap (λ l. byte "[" ∷ l) (split ∙ sym (append_assoc inner (byte "]" ∷ []) more)) in
    let prefix = some_prefix-reads (n + 2) (byte "[" ∷ text) f tests.1 in
    let inside : length inner ≡ n = length-prefix_len is_of_literal text in
    let len : n + 2 ≡ length all = omega (arith, length-append inner (byte "]" ∷ [])) in
    let value : f.value ≡ all = prefix.value ∙ ap (λ l. take (n + 2) l) whole ∙ ap (λ k. take k (all ++ more)) len ∙ take-append_seam all more in (
      record {
        inner = inner;
        whole = value;
        bytes = record { nonempty = let positive : n ≢ 0 = eqb-false n 0 parts.0 in omega arith; each = prefix_len-all is_of_literal text };
      },
      prefix.whole,
    )

literal-reads : (text : List ℕ) (f : Found (List ℕ)) → begins (byte "[") text ≡ true → literal_at text ≡ Some f → IsLiteral f.value × (text ≡ f.value ++ f.rest)
literal-reads text f bracket e =
    let is = begins-is (byte "[") text bracket in
    let r = literal_from (drop 1 text) f (ap literal_at (sym is) ∙ e) in
    (r.0, is ∙ r.1)

host-reads : (utf8 : Bool) (text : List ℕ) (f : Found (List ℕ)) → host_at utf8 text ≡ Some f
    → IsHostPart utf8 (Some f.value) × (text ≡ f.value ++ f.rest)
host-reads utf8 text f e = host_by (begins (byte "[") text) refl e
  where
    host_by : (t : Bool) → begins (byte "[") text ≡ t → cond t (literal_at text) (domain_at utf8 text) ≡ Some f
        → IsHostPart utf8 (Some f.value) × (text ≡ f.value ++ f.rest)
    host_by true bracket e' = let r = literal-reads text f bracket e' in (inr r.0, r.1)
    host_by false bracket e' = let r = domain-reads utf8 text f e' in (inl r.0, r.1)

-- the host part after a local part
record IsHosted (utf8 quoted : Bool) (local : Found (List ℕ)) (found : Found Target) : Type 0 where
  name : found.value.local ≡ local.value
  quotes : found.value.quoted ≡ quoted
  host : IsHostPart utf8 found.value.domain
  whole : local.rest ≡ host_text found.value.domain ++ found.rest

hosted_by : (utf8 quoted : Bool) (local : Found (List ℕ)) (found : Found Target) (t : Bool) → begins (byte "@") local.rest ≡ t
    → cond t
    (option_map (λ host. record { value = record { local = local.value; quoted = quoted; domain = Some host.value }; rest = host.rest })
    (host_at utf8 (drop 1 local.rest)))
    (Some (record { value = record { local = local.value; quoted = quoted; domain = None }; rest = local.rest })) ≡ Some found
    → IsHosted utf8 quoted local found
hosted_by utf8 quoted local found true at e =
    let step = map_some (λ (host : Found (List ℕ)).
    record { value = record { local = local.value; quoted = quoted; domain = Some host.value }; rest = host.rest }) (host_at utf8 (drop 1 local.rest)) found e in
    let read = host-reads utf8 (drop 1 local.rest) step.0 step.1 in
    let P : Found Target → Type 0 = λ g. IsHosted utf8 quoted local g in
    subst P step.2 (record { name = refl; quotes = refl; host = read.0; whole = begins-is (byte "@") local.rest at ∙ ap (λ l. byte "@" ∷ l) read.1 })
hosted_by utf8 quoted local found false at e =
    let same : record { value = record { local = local.value; quoted = quoted; domain = None }; rest = local.rest } ≡ found = cc in
    let P : Found Target → Type 0 = λ g. IsHosted utf8 quoted local g in
    subst P same (record { name = refl; quotes = refl; host = tt; whole = refl })

with_host-reads : (utf8 quoted : Bool) (local : Found (List ℕ)) (found : Found Target) → with_host utf8 quoted local ≡ Some found → IsHosted utf8 quoted local found
with_host-reads utf8 quoted local found e = hosted_by utf8 quoted local found (begins (byte "@") local.rest) refl e

-- a mailbox, and what follows it
record IsRead (utf8 : Bool) (text : List ℕ) (found : Found Target) : Type 0 where
  mailbox : IsMailbox utf8 found.value
  whole : text ≡ mailbox_text found.value ++ found.rest

local_joins : (utf8 quoted : Bool) (local : Found (List ℕ)) (found : Found Target) (text : List ℕ) → IsLocalPart utf8 quoted local.value
    → text ≡ local_text quoted local.value ++ local.rest
    → IsHosted utf8 quoted local found → IsRead utf8 text found
local_joins utf8 quoted local found text part split h = record {
  mailbox = record { local = rw (h.quotes, h.name) part; host = h.host };
  whole = split ∙ ap (λ l. local_text quoted local.value ++ l) h.whole
      ∙ sym (append_assoc (local_text quoted local.value) (host_text found.value.domain) found.rest)
      ∙ rw (h.quotes, h.name) refl;
}

mailbox_by : (utf8 : Bool) (text : List ℕ) (found : Found Target) (t : Bool) → begins (byte "\"") text ≡ t
    → cond t (option_and_then (with_host utf8 true) (quoted_local utf8 (drop 1 text))) (option_and_then (with_host utf8 false) (plain_local utf8 text)) ≡ Some found
    → IsRead utf8 text found
mailbox_by utf8 text found true quote e =
    let step = then_some (with_host utf8 true) (quoted_local utf8 (drop 1 text)) found e in
    let local = quoted-reads utf8 (drop 1 text) step.0 step.1 in
    local_joins utf8 true step.0 found text local.0
    (begins-is (byte "\"") text quote ∙ ap (λ l. byte "\"" ∷ l) (local.1 ∙ sym (append_assoc step.0.value (byte "\"" ∷ []) step.0.rest)))
    (with_host-reads utf8 true step.0 found step.2)
mailbox_by utf8 text found false quote e =
    let step = then_some (with_host utf8 false) (plain_local utf8 text) found e in
    let local = run-reads (is_plain utf8) text step.0 step.1 in
    local_joins utf8 false step.0 found text local.0 local.1 (with_host-reads utf8 false step.0 found step.2)

mailbox-reads : (utf8 : Bool) (text : List ℕ) (found : Found Target) → mailbox_at utf8 text ≡ Some found → IsRead utf8 text found
mailbox-reads utf8 text found e = mailbox_by utf8 text found (begins (byte "\"") text) refl e

-- what stands before the first such byte, the byte, and what stands after it
first_by : (c b : ℕ) (text : List ℕ) (n : ℕ) (t : Bool) → (b == c) ≡ t → (t || has_byte text c) ≡ true
    → (has_byte text c ≡ true → text ≡ take n text ++ c ∷ drop (n + 1) text)
    → b ∷ text ≡ take (cond (not t) (1 + n) 0) (b ∷ text) ++ c ∷ drop (cond (not t) (1 + n) 0 + 1) (b ∷ text)
first_by c b text n true same has ih = ap (λ x. x ∷ text) (eqb-true b c same)
first_by c b text n false same has ih =
    let one : 1 + n ≡ suc n = omega arith in
    let two : suc n + 1 ≡ suc (n + 1) = omega arith in
    rw (one, two) (ap (λ l. b ∷ l) (ih has))

first-splits : (c : ℕ) (text : List ℕ) → has_byte text c ≡ true → text ≡ before_first (λ b. b == c) text ++ c ∷ after_first (λ b. b == c) text
first-splits c [] has = cc
first-splits c (b ∷ text) has = first_by c b text (prefix_len (λ x. not (x == c)) text) (b == c) refl has (first-splits c text)

-- parts of a route are domains, each after an at sign
abbrev hops : List (List ℕ) → List (List ℕ)
hops ds = map (λ name. byte "@" ∷ name) ds

hops-reads : (utf8 : Bool) (ps : List (List ℕ)) → list_all (is_hop utf8) ps ≡ true
    → (ds : List (List ℕ)) × AllByRecursion (λ d. is_domain utf8 d ≡ true) ds × (hops ds ≡ ps)
hops-reads utf8 [] h = ([], tt, refl)
hops-reads utf8 (p ∷ ps) h =
    let both = and_parts (is_hop utf8 p) (list_all (is_hop utf8) ps) h in
    let hop = and_parts (begins (byte "@") p) (is_domain utf8 (drop 1 p)) both.0 in
    let more = hops-reads utf8 ps both.1 in
    (drop 1 p ∷ more.0, (hop.1, more.1), ap (λ l. l ∷ hops more.0) (sym (begins-is (byte "@") p hop.0)) ∙ ap (λ l. p ∷ l) more.2)

-- there is always a part
some_part : (ps : List (List ℕ)) (b : ℕ) (t : Bool) → cond t ([] ∷ ps) (onto_first b ps) ≡ [] → ⊥
some_part ps b true e = cc
some_part [] b false e = cc
some_part (p ∷ ps) b false e = cc

split-some : (p : ℕ → Bool) (text : List ℕ) → slice_split p text ≡ [] → ⊥
split-some p [] e = cc
split-some p (b ∷ text) e = some_part (slice_split p text) b (p b) e

-- a route, and what follows it
abbrev IsRoute : Bool → List ℕ → List ℕ → Type 0
IsRoute utf8 text inner = (ds : List (List ℕ)) × AllByRecursion (λ d. is_domain utf8 d ≡ true) ds × (text ≡ route_text ds ++ inner)

route_of : (utf8 : Bool) (route text inner : List ℕ) (ds : List (List ℕ)) → AllByRecursion (λ d. is_domain utf8 d ≡ true) ds → hops ds ≡ slice_split (λ b. b == byte ",") route
    → text ≡ route ++ byte ":" ∷ inner → IsRoute utf8 text inner
route_of utf8 route text inner [] all same whole = absurd (split-some (λ b. b == byte ",") route (sym same))
route_of utf8 route text inner (d ∷ ds) all same whole =
    let joined : join_with_byte (byte ",") (hops (d ∷ ds)) ≡ route = ap (join_with_byte (byte ",")) same ∙ join_with_byte-slice_split (byte ",") route in
    (d ∷ ds, all, whole ∙ sym (append_assoc route (byte ":" ∷ []) inner) ∙ ap (λ l. (l ++ byte ":" ∷ []) ++ inner) (sym joined))

route_by : (utf8 : Bool) (text inner : List ℕ) (t : Bool) → begins (byte "@") text ≡ t
    → cond (not t) (Some text) (cond (has_byte text (byte ":") && list_all (is_hop utf8) (slice_split (λ b. b == byte ",") (before_first (λ b. b == byte ":") text)))
    (Some (after_first (λ b. b == byte ":") text)) None) ≡ Some inner
    → IsRoute utf8 text inner
route_by utf8 text inner false at e = let same : text ≡ inner = cc in ([], tt, same)
route_by utf8 text inner true at e =
    let route : List ℕ = before_first (λ b. b == byte ":") text in
    let tests = some_else _ _ inner e in
    let both = and_parts (has_byte text (byte ":")) (list_all (is_hop utf8) (slice_split (λ b. b == byte ",") route)) tests.0 in
    let parts = hops-reads utf8 (slice_split (λ b. b == byte ",") route) both.1 in
    let after : after_first (λ b. b == byte ":") text ≡ inner = cc (tests.1) in
    route_of utf8 route text inner parts.0 parts.1 parts.2 (first-splits (byte ":") text both.0 ∙ ap (λ l. route ++ byte ":" ∷ l) after)

route-reads : (utf8 : Bool) (text inner : List ℕ) → after_route utf8 text ≡ Some inner → IsRoute utf8 text inner
route-reads utf8 text inner e = route_by utf8 text inner (begins (byte "@") text) refl e

closed-reads : (utf8 : Bool) (text : List ℕ) (found : Found Target) (path : Found Path) → IsRead utf8 text found → closed_at text found ≡ Some path
    → (path.value.target ≡ found.value) × (path.value.mailbox ≡ mailbox_text found.value) × (length (mailbox_text found.value) ≤ PATH_LIMIT)
    × (found.rest ≡ byte ">" ∷ path.rest)
closed-reads utf8 text found path read e =
    let n : ℕ = length text - length found.rest in
    let tests = some_else (begins (byte ">") found.rest && nat_le n PATH_LIMIT) _ path e in
    let both = and_parts (begins (byte ">") found.rest) (nat_le n PATH_LIMIT) tests.0 in
    let len : n ≡ length (mailbox_text found.value) = omega (arith, ap length read.whole, length-append (mailbox_text found.value) found.rest) in
    let prefix : take n text ≡ mailbox_text found.value =
    rw (len) (ap (λ l. take (length (mailbox_text found.value)) l) read.whole ∙ take-append_seam (mailbox_text found.value) found.rest) in
    let same : record { value = record { mailbox = take n text; target = found.value }; rest = drop 1 found.rest } ≡ path = cc (tests.1) in
    let P : Found Path → Type 0 = λ g. (g.value.target ≡ found.value) × (g.value.mailbox ≡ mailbox_text found.value)
    × (length (mailbox_text found.value) ≤ PATH_LIMIT) × (found.rest ≡ byte ">" ∷ g.rest) in
    subst P same (refl, prefix, (let fits : n ≤ PATH_LIMIT = grind (arith, nat_tests, both.1) in omega arith), begins-is (byte ">") found.rest both.0)

-- a path, however it is encoded
record IsSpelled (utf8 : Bool) (text : List ℕ) (path : Found Path) : Type 0 where
  route : List (List ℕ)
  hops : AllByRecursion (λ d. is_domain utf8 d ≡ true) route
  target : IsMailbox utf8 path.value.target
  fits : length (mailbox_text path.value.target) ≤ PATH_LIMIT
  mailbox : path.value.mailbox ≡ mailbox_text path.value.target
  whole : text ≡ path_text route path.value.target ++ path.rest

path_at-reads : (utf8 : Bool) (text : List ℕ) (path : Found Path) → path_at utf8 text ≡ Some path → IsSpelled utf8 text path
path_at-reads utf8 text path e =
    let open' = some_else (begins (byte "<") text) _ path e in
    let step = then_some (λ inner. option_and_then (closed_at inner) (mailbox_at utf8 inner)) (after_route utf8 (drop 1 text)) path open'.1 in
    let inner = step.0 in
    let route = route-reads utf8 (drop 1 text) inner step.1 in
    let found = then_some (closed_at inner) (mailbox_at utf8 inner) path step.2 in
    let read = mailbox-reads utf8 inner found.0 found.1 in
    let closed = closed-reads utf8 inner found.0 path read found.2 in
    let inside : inner ≡ (mailbox_text path.value.target ++ byte ">" ∷ []) ++ path.rest =
    read.whole ∙ ap (λ l. mailbox_text found.0.value ++ l) closed.3 ∙ sym (append_assoc (mailbox_text found.0.value) (byte ">" ∷ []) path.rest)
    ∙ ap (λ t. (mailbox_text t ++ byte ">" ∷ []) ++ path.rest) (sym closed.0) in
    record {
      route = route.0;
      hops = route.1;
      target = rw (closed.0) read.mailbox;
      fits = rw (closed.0) closed.2;
      mailbox = closed.1 ∙ ap mailbox_text (sym closed.0);
      whole = begins-is (byte "<") text open'.0 ∙ ap (λ l. byte "<" ∷ l) (route.2 ∙ ap (λ l. route_text route.0 ++ l) inside
          ∙ sym (append_assoc (route_text route.0) (mailbox_text path.value.target ++ byte ">" ∷ []) path.rest));
    }

-- what stands before the rest of a text
before_rest : (whole rest text : List ℕ) → text ≡ whole ++ rest → take (length text - length rest) text ≡ whole
before_rest whole rest text e =
    let len : length text - length rest ≡ length whole = omega (arith, ap length e, length-append whole rest) in
    rw len (ap (λ l. take (length whole) l) e ∙ take-append_seam whole rest)

encoded-reads : (utf8 : Bool) (text : List ℕ) (found path : Found Path) → IsSpelled utf8 text found → encoded_at utf8 text found ≡ Some path
    → IsPathRead utf8 text path
encoded-reads utf8 text found path read e =
    let whole : List ℕ = path_text read.route found.value.target in
    let tests = some_else (is_encoded utf8 (take (length text - length found.rest) text)) (Some found) path e in
    let encoded : is_encoded utf8 whole ≡ true = ap (is_encoded utf8) (sym (before_rest whole found.rest text read.whole)) ∙ tests.0 in
    let same : found ≡ path = cc (tests.1) in
    let P : Found Path → Type 0 = λ f. IsPathRead utf8 text f in
    subst P same (record {
      route = read.route;
      path = record { hops = read.hops; mailbox = read.target; fits = read.fits; encoded = encoded };
      mailbox = read.mailbox;
      whole = read.whole;
    })

pub forward_path_reads : (utf8 : Bool) (text : List ℕ) (path : Found Path) → forward_path utf8 text ≡ Some path → IsPathRead utf8 text path
unfolding forward_path
forward_path_reads utf8 text path e =
    let step = then_some (encoded_at utf8 text) (path_at utf8 text) path e in
    encoded-reads utf8 text step.0 path (path_at-reads utf8 text step.0 step.1) step.2
