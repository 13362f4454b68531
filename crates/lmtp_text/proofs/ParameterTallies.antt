-- A tally with one more parameter.
use Rattle.std.proofs.Common.{◌≡◌, ℕ, ◌+◌, Bool, true, false, not, ◌||◌, ◌&&◌, cond, nat_lt, List, [], ◌∷◌, ◌++◌, length, ap, sym, ◌∙◌, refl, add-zero, arith}
use Rattle.std.specs.Prelude.{codes, filter, Ok}
use Rattle.std.specs.List.{list_any, list_all}
use borrow.Author.Tests.{tests}
use Rattle.std.proofs.lemmas.Bool.Decides.{nat_tests}
use Rattle.std.proofs.lemmas.List.Sums.{length-filter, sum_by_push}
use Rattle.std.proofs.lemmas.Slice.Eq.{bytes_eq-Decides}
use Rattle.std.specs.Str.{bytes_eq, str_to_ascii_lowercase}
use Rattle.mail_world.specs.declared.Extensions.{Extensions}
use Rattle.mail_world.specs.Commands.{Parameter, Mail, has_keyword, is_known, is_well_valued, is_too_large, is_size_value, is_body_value, has_no_value, is_above_limit}
use Rattle.mail_world.specs.Commands.{stands_twice, mail_with}
use Rattle.lmtp_text.specs.Parameters.{Tallies, IsWithSize, IsWithBody, IsWithUtf8, count_of}
use Rattle.lmtp_text.specs.declared.parameters.Tally.{Tally}

all_more : (p : Parameter → Bool) (ps : List Parameter) (q : Parameter) → list_all p (ps ++ q ∷ []) ≡ (list_all p ps && p q)
all_more p [] q = elim (p q) as (λ t. (t && true) ≡ t) [ true ↦ refl | false ↦ refl ]
all_more p (r ∷ ps) q = all_step (p r) (list_all p (ps ++ q ∷ [])) (list_all p ps) (p q) (all_more p ps q) where
  all_step : (t s u v : Bool) → s ≡ (u && v) → (t && s) ≡ ((t && u) && v)
  all_step true s u v e = e
  all_step false s u v e = refl

any_more : (p : Parameter → Bool) (ps : List Parameter) (q : Parameter) → list_any p (ps ++ q ∷ []) ≡ (list_any p ps || p q)
any_more p [] q = elim (p q) as (λ t. (t || false) ≡ t) [ true ↦ refl | false ↦ refl ]
any_more p (r ∷ ps) q = any_step (p r) (list_any p (ps ++ q ∷ [])) (list_any p ps) (p q) (any_more p ps q) where
  any_step : (t s u v : Bool) → s ≡ (u || v) → (t || s) ≡ ((t || u) || v)
  any_step true s u v e = refl
  any_step false s u v e = e

count_more : (word : List ℕ) (ps : List Parameter) (q : Parameter) → count_of word (ps ++ q ∷ []) ≡ count_of word ps + cond (has_keyword word q) 1 0
count_more word ps q =
    length-filter (has_keyword word) (ps ++ q ∷ []) ∙ sum_by_push (λ p. cond (has_keyword word p) 1 0) ps q
    ∙ ap (λ n. n + cond (has_keyword word q) 1 0) (sym (length-filter (has_keyword word) ps))

-- some parameter passes where the count of those that pass isn't zero
counted_step : (t : Bool) (q : Parameter) (r : Bool) (qs : List Parameter) → r ≡ nat_lt 0 (length qs) → (t || r) ≡ nat_lt 0 (length (cond t (q ∷ qs) qs))
counted_step true q r qs e = grind (arith, nat_tests)
counted_step false q r qs e = e

any_counted : (p : Parameter → Bool) (ps : List Parameter) → list_any p ps ≡ nat_lt 0 (length (filter p ps))
any_counted p [] = refl
any_counted p (q ∷ ps) = counted_step (p q) q (list_any p ps) (filter p ps) (any_counted p ps)

-- one more of a word, or none
some_more : (n : ℕ) (t : Bool) → (t || nat_lt 0 n) ≡ nat_lt 0 (n + cond t 1 0)
some_more n true = grind (arith, nat_tests)
some_more n false = ap (nat_lt 0) (sym (add-zero n))

or_none : (b : Bool) → b ≡ (b || false)
or_none true = refl
or_none false = refl

twice_more : (n : ℕ) (t : Bool) → nat_lt 1 (n + cond t 1 0) ≡ (nat_lt 1 n || t && nat_lt 0 n)
twice_more n true = grind (arith, nat_tests)
twice_more n false = ap (nat_lt 1) (add-zero n) ∙ or_none (nat_lt 1 n)

unknown_more : (k a : Bool) → (not k || not a) ≡ not (a && k)
unknown_more true true = refl
unknown_more true false = refl
unknown_more false true = refl
unknown_more false false = refl

large_more : (a b : Bool) → (a || b) ≡ (b || a)
large_more true true = refl
large_more true false = refl
large_more false true = refl
large_more false false = refl

-- wrong is what was wrong, a word that stands twice now, or a wrong value
wrong_more : (v w x y z p q r : Bool)
    → (((not v || x || y || z) || (p || q || r)) || not w) ≡ (not (v && w) || (x || p) || (y || q) || (z || r))
wrong_more v w x y z p q r = grind (arith, tests)

known_so : (k u : Bool) → (not k || u) ≡ false → (k ≡ true) × (u ≡ false)
known_so true u e = (refl, e)
known_so false u e = cc

right_so : (w m v : Bool) → ((w || m) || not v) ≡ false → (w ≡ false) × (v ≡ true)
right_so true m v e = cc
right_so false true v e = cc
right_so false false true e = (refl, refl)
right_so false false false e = cc

-- what a parameter is: which of the words it has, whether it is known, has a right value, is too large
record IsParameter (offered : Extensions) (p : Parameter) (s b e k v l : Bool) : Type 0 where
  size : has_keyword (codes "SIZE") p ≡ s
  body : has_keyword (codes "BODY") p ≡ b
  utf8 : has_keyword (codes "SMTPUTF8") p ≡ e
  known : is_known offered.utf8 p ≡ k
  valued : is_well_valued p ≡ v
  large : is_too_large offered.message_limit p ≡ l

-- the tally u is t with one more such parameter
record IsWith (t u : Tally) (s b e k v l : Bool) : Type 0 where
  unknown : u.unknown ≡ (not k || t.unknown)
  has_size : u.has_size ≡ (s || t.has_size)
  has_body : u.has_body ≡ (b || t.has_body)
  has_utf8 : u.has_utf8 ≡ (e || t.has_utf8)
  wrong : k ≡ true → u.wrong ≡ ((t.wrong || (s && t.has_size || b && t.has_body || e && t.has_utf8)) || not v)
  large : k ≡ true → v ≡ true → u.large ≡ (l || t.large)

with_tallies : (offered : Extensions) (t u : Tally) (ps : List Parameter) (p : Parameter) (size body utf8 known valued large : Bool)
    → IsParameter offered p size body utf8 known valued large → IsWith t u size body utf8 known valued large
    → Tallies offered t ps → Tallies offered u (ps ++ p ∷ [])
with_tallies offered t u ps p size body utf8 known valued large is w h =
    let limit = offered.message_limit in
    let k : list_all (is_known offered.utf8) (ps ++ p ∷ []) ≡ (list_all (is_known offered.utf8) ps && known) =
    all_more (is_known offered.utf8) ps p ∙ ap (λ b. list_all (is_known offered.utf8) ps && b) is.known in
    let v : list_all is_well_valued (ps ++ p ∷ []) ≡ (list_all is_well_valued ps && valued) =
    all_more is_well_valued ps p ∙ ap (λ b. list_all is_well_valued ps && b) is.valued in
    let l : list_any (is_too_large limit) (ps ++ p ∷ []) ≡ (list_any (is_too_large limit) ps || large) =
    any_more (is_too_large limit) ps p ∙ ap (λ b. list_any (is_too_large limit) ps || b) is.large in
    let more_of : (word : List ℕ) (has : Bool) → has_keyword word p ≡ has → count_of word (ps ++ p ∷ []) ≡ count_of word ps + cond has 1 0 =
    λ word has e. count_more word ps p ∙ ap (λ b. count_of word ps + cond b 1 0) e in
    let s = more_of (codes "SIZE") size is.size in
    let b = more_of (codes "BODY") body is.body in
    let e = more_of (codes "SMTPUTF8") utf8 is.utf8 in
    record {
      unknown = w.unknown ∙ ap (λ x. not known || x) h.unknown ∙ unknown_more known (list_all (is_known offered.utf8) ps) ∙ ap not (sym k);
      has_size = w.has_size ∙ ap (λ x. size || x) h.has_size ∙ some_more _ size ∙ ap (nat_lt 0) (sym s);
      has_body = w.has_body ∙ ap (λ x. body || x) h.has_body ∙ some_more _ body ∙ ap (nat_lt 0) (sym b);
      has_utf8 = w.has_utf8 ∙ ap (λ x. utf8 || x) h.has_utf8 ∙ some_more _ utf8 ∙ ap (nat_lt 0) (sym e);
      wrong = λ all_known.
          let so = known_so known t.unknown (sym w.unknown ∙ all_known) in
          w.wrong so.0
          ∙ rw (
            h.wrong so.1,
            h.has_size,
            h.has_body,
            h.has_utf8,
            v,
            s,
            b,
            e,
            twice_more (count_of (codes "SIZE") ps) size,
            twice_more (count_of (codes "BODY") ps) body,
            twice_more (count_of (codes "SMTPUTF8") ps) utf8,
          )
          (wrong_more (list_all is_well_valued ps) valued (nat_lt 1 (count_of (codes "SIZE") ps)) (nat_lt 1 (count_of (codes "BODY") ps))
          (nat_lt 1 (count_of (codes "SMTPUTF8") ps)) (size && nat_lt 0 (count_of (codes "SIZE") ps)) (body && nat_lt 0 (count_of (codes "BODY") ps))
          (utf8 && nat_lt 0 (count_of (codes "SMTPUTF8") ps)));
      large = λ all_known all_right.
          let so = known_so known t.unknown (sym w.unknown ∙ all_known) in
          let right = right_so t.wrong (size && t.has_size || body && t.has_body || utf8 && t.has_utf8) valued (sym (w.wrong so.0) ∙ all_right) in
          w.large so.0 right.1 ∙ ap (λ x. large || x) (h.large so.1 right.0) ∙ large_more large (list_any (is_too_large limit) ps) ∙ sym l;
    }

-- a keyword is one word only
same_text : (xs ys : List ℕ) → bytes_eq xs ys ≡ true → xs ≡ ys
same_text xs ys e = grind (arith, bytes_eq-Decides)

keyword_is : (word : List ℕ) (p : Parameter) → has_keyword word p ≡ true → str_to_ascii_lowercase p.keyword ≡ str_to_ascii_lowercase word
keyword_is word p e = same_text (str_to_ascii_lowercase p.keyword) (str_to_ascii_lowercase word) e

size_alone : (p : Parameter) → has_keyword (codes "SIZE") p ≡ true
    → (has_keyword (codes "BODY") p ≡ false) × (has_keyword (codes "SMTPUTF8") p ≡ false)
size_alone p e = (rw (keyword_is (codes "SIZE") p e) refl, rw (keyword_is (codes "SIZE") p e) refl)

body_alone : (p : Parameter) → has_keyword (codes "BODY") p ≡ true → has_keyword (codes "SMTPUTF8") p ≡ false
body_alone p e = rw (keyword_is (codes "BODY") p e) refl

pub with_size_tallies : (offered : Extensions) (t u : Tally) (ps : List Parameter) (p : Parameter) → has_keyword (codes "SIZE") p ≡ true
    → IsWithSize offered.message_limit t p.value u → Tallies offered t ps → Tallies offered u (ps ++ p ∷ [])
with_size_tallies offered t u ps p size w =
    let other = size_alone p size in
    with_tallies offered t u ps p true false false true (is_size_value p.value) (is_above_limit offered.message_limit p.value)
    (record { size = size; body = other.0; utf8 = other.1; known = rw size refl; valued = rw size refl; large = rw size refl })
    (record {
      unknown = w.unknown;
      has_size = w.has_size;
      has_body = w.has_body;
      has_utf8 = w.has_utf8;
      wrong = λ _. w.wrong ∙ ap (λ x. (t.wrong || x) || not (is_size_value p.value)) (or_none t.has_size ∙ ap (λ x. x || false) (or_none t.has_size));
      large = λ _ right. w.large right;
    })

pub with_body_tallies : (offered : Extensions) (t u : Tally) (ps : List Parameter) (p : Parameter) → has_keyword (codes "SIZE") p ≡ false
    → has_keyword (codes "BODY") p ≡ true → IsWithBody t p.value u → Tallies offered t ps → Tallies offered u (ps ++ p ∷ [])
with_body_tallies offered t u ps p size body w =
    with_tallies offered t u ps p false true false true (is_body_value p.value) false
    (record { size = size; body = body; utf8 = body_alone p body; known = rw (size, body) refl; valued = rw (size, body) refl; large = rw size refl })
    (record {
      unknown = w.unknown;
      has_size = w.has_size;
      has_body = w.has_body;
      has_utf8 = w.has_utf8;
      wrong = λ _. w.wrong ∙ ap (λ x. (t.wrong || x) || not (is_body_value p.value)) (or_none t.has_body);
      large = λ _ _. w.large;
    })

and_true : (b : Bool) → (b && true) ≡ b
and_true true = refl
and_true false = refl

and_false : (b : Bool) → (b && false) ≡ false
and_false true = refl
and_false false = refl

pub with_utf8_tallies : (offered : Extensions) (t u : Tally) (ps : List Parameter) (p : Parameter) → has_keyword (codes "SIZE") p ≡ false
    → has_keyword (codes "BODY") p ≡ false → has_keyword (codes "SMTPUTF8") p ≡ true → IsWithUtf8 offered.utf8 t p.value u
    → Tallies offered t ps → Tallies offered u (ps ++ p ∷ [])
with_utf8_tallies offered t u ps p size body utf8 w =
    with_tallies offered t u ps p false false true offered.utf8 (has_no_value p.value) false
    (record {
      size = size;
      body = body;
      utf8 = utf8;
      known = rw (size, body, utf8) (and_true offered.utf8);
      valued = rw (size, body) refl;
      large = rw size refl;
    })
    (record {
      unknown = w.unknown;
      has_size = w.has_size;
      has_body = w.has_body;
      has_utf8 = w.has_utf8;
      wrong = λ _. w.wrong;
      large = λ _ _. w.large;
    })

pub unknown_tallies : (offered : Extensions) (t : Tally) (ps : List Parameter) (p : Parameter) → has_keyword (codes "SIZE") p ≡ false
    → has_keyword (codes "BODY") p ≡ false → has_keyword (codes "SMTPUTF8") p ≡ false
    → Tallies offered t ps → Tallies offered (record t { unknown = true }) (ps ++ p ∷ [])
unknown_tallies offered t ps p size body utf8 =
    with_tallies offered t (record t { unknown = true }) ps p false false false false (has_no_value p.value) false
    (record {
      size = size;
      body = body;
      utf8 = utf8;
      known = rw (size, body, utf8) (and_false offered.utf8);
      valued = rw (size, body) refl;
      large = rw size refl;
    })
    (record {
      unknown = refl;
      has_size = refl;
      has_body = refl;
      has_utf8 = refl;
      wrong = λ known. cc;
      large = λ known right. cc;
    })

-- MAIL that may have its parameters
pub taken : (offered : Extensions) (t : Tally) (ps : List Parameter) (sender : List ℕ) → Tallies offered t ps → t.unknown ≡ false → t.wrong ≡ false
    → t.large ≡ false → Ok (Mail sender t.has_utf8) ≡ mail_with offered sender ps
taken offered t ps sender h known right small =
    let k : not (list_all (is_known offered.utf8) ps) ≡ false = sym h.unknown ∙ known in
    let r : (not (list_all is_well_valued ps) || stands_twice (codes "SIZE") ps || stands_twice (codes "BODY") ps || stands_twice (codes "SMTPUTF8") ps)
    ≡ false = sym (h.wrong known) ∙ right in
    let l : list_any (is_too_large offered.message_limit) ps ≡ false = sym (h.large known right) ∙ small in
    let u : t.has_utf8 ≡ list_any (has_keyword (codes "SMTPUTF8")) ps = h.has_utf8 ∙ sym (any_counted (has_keyword (codes "SMTPUTF8")) ps) in
    rw (k, r, l, u) refl
