-- The first address at each domain, as names are added.
use Rattle.std.proofs.Common.{◌≡◌, ℕ, Bool, true, false, List, [], ◌∷◌, ◌++◌, length, Option, Some, None, refl, sym, ap, ◌∙◌, Vec, Global, arith, cond, take, get_or, ◌<◌, ◌+◌, zero, suc, subst}
use Rattle.std.proofs.lemmas.Bool.Decides.{nat_tests}
use Rattle.std.proofs.lemmas.Slice.Eq.{bytes_eq-Decides}
use Rattle.std.proofs.lemmas.List.{length-take-le, take_more}
use Rattle.std.specs.Prelude.{map, not, ◌&&◌, position, is_some, Result, Ok, Err, OnOk, if◌then◌else◌, nat_lt, slice_get, unwrap_or}
use Rattle.std.specs.List.{list_all, position_or_len}
use Rattle.std.specs.declared.alloc.AllocError.{AllocError}
use Rattle.std.specs.Map.{lookup}
use Rattle.std.specs.Char.{to_ascii_lowercase}
use Rattle.std.specs.Str.{bytes_eq}
use Rattle.indexmap.specs.IndexMap.{insert_entry}
use Rattle.mail_world.specs.Site.{is_address, domain_of, is_listed_domain, is_listed_name}
use Rattle.mail_world.specs.declared.limits.TheConstants.{NAME_LIMIT}
use Rattle.mail_world.specs.Commands.{is_word}
use Rattle.mail_world.specs.Targets.{is_at_domain, found_or}
use Rattle.lmtp_text.specs.Sites.{keyed, owned, place_at, AreFirsts}
use Rattle.lmtp_text.proofs.ListedNames.{prefix_true, domain_lower, domain_size}

abbrev pub keys_listed : List (List ℕ × ℕ) → Bool
keys_listed places = list_all is_listed_domain (map (λ e. e.0) places)

-- what is found by a text in small letters is what the text is at, whatever its case
pub place-keyed : (domain : List ℕ) (entries : List (Vec ℕ Global × ℕ)) → keys_listed (keyed entries) ≡ true
    → lookup (λ key. bytes_eq (map to_ascii_lowercase domain) key.items) entries ≡ place_at domain (keyed entries)
place-keyed domain [] named = refl
place-keyed domain (e ∷ es) named =
    let p = prefix_true (is_listed_domain e.0.items) (keys_listed (keyed es)) named in
    rw (domain_lower e.0.items p.0, place-keyed domain es p.1) refl

-- a domain in small letters is found as it is
pub place-listed : (domain : List ℕ) (entries : List (Vec ℕ Global × ℕ)) → is_listed_domain domain ≡ true → keys_listed (keyed entries) ≡ true
    → lookup (λ key. bytes_eq domain key.items) entries ≡ place_at domain (keyed entries)
place-listed domain entries e named =
    sym (ap (λ (text : List ℕ). lookup (λ key. bytes_eq text key.items) entries) (domain_lower domain e)) ∙ place-keyed domain entries named

eq_length : (xs ys : List ℕ) → length ys < length xs → bytes_eq xs ys ≡ false
eq_length [] ys h = absurd (omega arith)
eq_length (x ∷ xs) [] h = refl
eq_length (x ∷ xs) (y ∷ ys) h = rw (eq_length xs ys (omega arith)) (and_false _)
  where
    and_false : (b : Bool) → (b && false) ≡ false
    and_false true = refl
    and_false false = refl

-- no domain is longer than its limit
pub place-too_long : (domain : List ℕ) (places : List (List ℕ × ℕ)) → keys_listed places ≡ true → NAME_LIMIT < length domain
    → None ≡ place_at domain places
place-too_long domain [] named h = refl
place-too_long domain (x ∷ xs) named h =
    let p = prefix_true (is_listed_domain x.0) (keys_listed xs) named in
    let size = domain_size x.0 p.0 in
    let other : is_word x.0 domain ≡ false =
    eq_length (map to_ascii_lowercase domain) (map to_ascii_lowercase x.0) (rw (length-lower domain, length-lower x.0) (omega arith)) in
    rw other (place-too_long domain xs p.1 h)
  where
    length-lower : (xs : List ℕ) → length (map to_ascii_lowercase xs) ≡ length xs
    length-lower [] = refl
    length-lower (x ∷ xs) = rw (length-lower xs) refl

pub inserted : (eq : Vec ℕ Global → Vec ℕ Global → Bool) (entries : List (Vec ℕ Global × ℕ)) (key : Vec ℕ Global) (value : ℕ)
    → lookup (eq key) entries ≡ None → insert_entry eq entries key value ≡ entries ++ (key, value) ∷ []
inserted eq [] key value e = refl
inserted eq (x ∷ xs) key value e = by_first (eq key x.0) refl e (inserted eq xs key value)
  where
    by_first : (b : Bool) → eq key x.0 ≡ b → cond b (Some x.1) (lookup (eq key) xs) ≡ None
        → (lookup (eq key) xs ≡ None → insert_entry eq xs key value ≡ xs ++ (key, value) ∷ [])
        → insert_entry eq (x ∷ xs) key value ≡ x ∷ (xs ++ (key, value) ∷ [])
    by_first true is e rest = cc
    by_first false is e rest = rw is (ap (λ l. x ∷ l) (rest e))

pub keyed-more : (entries : List (Vec ℕ Global × ℕ)) (key : Vec ℕ Global) (value : ℕ)
    → keyed (entries ++ (key, value) ∷ []) ≡ keyed entries ++ (key.items, value) ∷ []
keyed-more [] key value = refl
keyed-more (e ∷ es) key value = ap (λ l. (e.0.items, e.1) ∷ l) (keyed-more es key value)

pub listed-more : (places : List (List ℕ × ℕ)) (domain : List ℕ) (place : ℕ) → keys_listed places ≡ true → is_listed_domain domain ≡ true
    → keys_listed (places ++ (domain, place) ∷ []) ≡ true
listed-more [] domain place named e = rw e refl
listed-more (x ∷ xs) domain place named e =
    let p = prefix_true (is_listed_domain x.0) (keys_listed xs) named in λ i. p.0 i && listed-more xs domain place p.1 e i

module _ {X : Type 0} (p : X → Bool) where
  position-more : (xs : List X) (y : X) → position p (xs ++ y ∷ []) ≡ found_or (position p xs) (if p y then Some (length xs) else None)
  position-more [] y = by_case (p y) (cond (not (p y)) (1 + 0) 0) refl
    where
      by_case : (b : Bool) (n : ℕ) → n ≡ cond (not b) (1 + 0) 0 → cond (nat_lt n 1) (Some n) None ≡ (if b then Some 0 else None)
      by_case true n is = let f : nat_lt n 1 ≡ true = grind (arith, nat_tests) in ap (λ b. cond b (Some n) None) f ∙ ap Some is
      by_case false n is = let f : nat_lt n 1 ≡ false = grind (arith, nat_tests) in ap (λ b. cond b (Some n) None) f
  position-more (x ∷ xs) y = by_first (p x) refl (position-more xs y)
    where
      shifted : Option ℕ → Option ℕ
      shifted None = None
      shifted (Some n) = Some (1 + n)

      step : (zs : List X) → p x ≡ false → position p (x ∷ zs) ≡ shifted (position p zs)
      step zs e = by_value (cond (not (p x)) (1 + position_or_len p zs) 0) (ap (λ b. cond (not b) (1 + position_or_len p zs) 0) e)
        where
          by_value : (n : ℕ) → n ≡ 1 + position_or_len p zs → cond (nat_lt n (length (x ∷ zs))) (Some n) None ≡ shifted (position p zs)
          by_value n is = by_less (nat_lt (position_or_len p zs) (length zs)) refl
            where
              by_less : (b : Bool) → nat_lt (position_or_len p zs) (length zs) ≡ b
                  → cond (nat_lt n (length (x ∷ zs))) (Some n) None ≡ shifted (cond b (Some (position_or_len p zs)) None)
              by_less true less = let f : nat_lt n (length (x ∷ zs)) ≡ true = grind (arith, nat_tests) in ap (λ b. cond b (Some n) None) f ∙ ap Some is
              by_less false less = let f : nat_lt n (length (x ∷ zs)) ≡ false = grind (arith, nat_tests) in ap (λ b. cond b (Some n) None) f

      over : (o : Option ℕ) (b : Bool) (n : ℕ) → shifted (found_or o (if b then Some n else None)) ≡ found_or (shifted o) (if b then Some (1 + n) else None)
      over None true n = refl
      over None false n = refl
      over (Some m) b n = refl

      here : (zs : List X) → p x ≡ true → position p (x ∷ zs) ≡ Some 0
      here zs e = by_value (cond (not (p x)) (1 + position_or_len p zs) 0) (ap (λ b. cond (not b) (1 + position_or_len p zs) 0) e)
        where
          by_value : (n : ℕ) → n ≡ 0 → cond (nat_lt n (length (x ∷ zs))) (Some n) None ≡ Some 0
          by_value n is = let f : nat_lt n (length (x ∷ zs)) ≡ true = grind (arith, nat_tests) in ap (λ b. cond b (Some n) None) f ∙ ap Some is

      by_first : (b : Bool) → p x ≡ b → position p (xs ++ y ∷ []) ≡ found_or (position p xs) (if p y then Some (length xs) else None)
          → position p (x ∷ (xs ++ y ∷ [])) ≡ found_or (position p (x ∷ xs)) (if p y then Some (length (x ∷ xs)) else None)
      by_first true e rest = here (xs ++ y ∷ []) e ∙ sym (ap (λ o. found_or o (if p y then Some (length (x ∷ xs)) else None)) (here xs e))
      by_first false e rest =
          let longer : 1 + length xs ≡ length (x ∷ xs) = omega arith in
          step (xs ++ y ∷ []) e ∙ ap shifted rest ∙ over (position p xs) (p y) (length xs)
          ∙ sym (ap (λ o. found_or o (if p y then Some (1 + length xs) else None)) (step xs e))
          ∙ ap (λ n. found_or (position p (x ∷ xs)) (if p y then Some n else None)) longer

lookup-more : (p : List ℕ → Bool) (places : List (List ℕ × ℕ)) (domain : List ℕ) (place : ℕ)
    → lookup p (places ++ (domain, place) ∷ []) ≡ found_or (lookup p places) (if p domain then Some place else None)
lookup-more p [] domain place = refl
lookup-more p (x ∷ xs) domain place = by_first (p x.0) (lookup-more p xs domain place)
  where
    by_first : (b : Bool) → lookup p (xs ++ (domain, place) ∷ []) ≡ found_or (lookup p xs) (if p domain then Some place else None)
        → cond b (Some x.1) (lookup p (xs ++ (domain, place) ∷ [])) ≡ found_or (cond b (Some x.1) (lookup p xs)) (if p domain then Some place else None)
    by_first true rest = refl
    by_first false rest = rest

-- a name that is no address changes nothing
pub firsts-local : (names : List (List ℕ)) (name : List ℕ) (places : List (List ℕ × ℕ)) → is_address name ≡ false → AreFirsts names places
    → AreFirsts (names ++ name ∷ []) places
firsts-local names name places e held domain =
    let other : is_at_domain domain name ≡ false = rw e refl in
    held domain ∙ none_more (position (is_at_domain domain) names) ∙ sym (position-more (is_at_domain domain) names name ∙ ap (λ b. found_or (position (is_at_domain domain) names) (if b then Some (length names) else None)) other)
  where
    none_more : (o : Option ℕ) → o ≡ found_or o None
    none_more None = refl
    none_more (Some n) = refl

same_place : (domain other : List ℕ) (places : List (List ℕ × ℕ)) → is_word domain other ≡ true → place_at other places ≡ place_at domain places
same_place domain other places e =
    let same : map to_ascii_lowercase other ≡ map to_ascii_lowercase domain = (bytes_eq-Decides (map to_ascii_lowercase other) (map to_ascii_lowercase domain)).0 e in
    ap (λ (text : List ℕ). lookup (λ name. bytes_eq text (map to_ascii_lowercase name)) places) same

-- the first address at a domain gets its place, and a later one changes nothing
pub firsts-address : (names : List (List ℕ)) (name : List ℕ) (places new : List (List ℕ × ℕ)) → is_address name ≡ true → AreFirsts names places
    → new ≡ (if is_some (place_at (domain_of name) places) then places else places ++ (domain_of name, length names) ∷ [])
    → AreFirsts (names ++ name ∷ []) new
firsts-address names name places new e held more domain = by_place (place_at (domain_of name) places) refl more
  where
    at : is_at_domain domain name ≡ is_word (domain_of name) domain
    at = rw e refl

    last : Option ℕ
    last = if is_word (domain_of name) domain then Some (length names) else None

    after : position (is_at_domain domain) (names ++ name ∷ []) ≡ found_or (position (is_at_domain domain) names) last
    after = position-more (is_at_domain domain) names name ∙ ap (λ b. found_or (position (is_at_domain domain) names) (if b then Some (length names) else None)) at

    there : (n : ℕ) (o : Option ℕ) (b : Bool) → is_word (domain_of name) domain ≡ b → place_at (domain_of name) places ≡ Some n → place_at domain places ≡ o
        → o ≡ found_or o (if b then Some (length names) else None)
    there n (Some m) b is here found = refl
    there n None false is here found = refl
    there n None true is here found = let same = same_place (domain_of name) domain places is in cc

    by_place : (o : Option ℕ) → place_at (domain_of name) places ≡ o
        → new ≡ (if is_some o then places else places ++ (domain_of name, length names) ∷ [])
        → place_at domain new ≡ position (is_at_domain domain) (names ++ name ∷ [])
    by_place None here is =
        ap (place_at domain) is ∙ lookup-more (λ key. is_word key domain) places (domain_of name) (length names)
        ∙ ap (λ o. found_or o last) (held domain) ∙ sym after
    by_place (Some n) here is =
        ap (place_at domain) is ∙ there n (place_at domain places) (is_word (domain_of name) domain) refl here refl
        ∙ ap (λ o. found_or o last) (held domain) ∙ sym after

-- the entries once a domain that isn't there is inserted
pub added : (eq : Vec ℕ Global → Vec ℕ Global → Bool) (old new : List (Vec ℕ Global × ℕ)) (key : Vec ℕ Global) (domain : List ℕ) (place : ℕ)
    → key.items ≡ domain → lookup (eq key) old ≡ None → new ≡ insert_entry eq old key place
    → keyed new ≡ keyed old ++ (domain, place) ∷ []
added eq old new key domain place is absent e =
    ap keyed (e ∙ inserted eq old key place absent) ∙ keyed-more old key place ∙ ap (λ d. keyed old ++ (d, place) ∷ []) is

-- and where it is or isn't there
pub if_there : (domain : List ℕ) (places : List (List ℕ × ℕ)) (place : ℕ) (b : Bool) → is_some (place_at domain places) ≡ b
    → (if b then places else places ++ (domain, place) ∷ [])
    ≡ (if is_some (place_at domain places) then places else places ++ (domain, place) ∷ [])
if_there domain places place b e = ap (λ t. if t then places else places ++ (domain, place) ∷ []) (sym e)

-- the firsts among the names up to one more
pub firsts-next : (names : List (List ℕ)) (i : ℕ) (name : List ℕ) (old new : List (List ℕ × ℕ)) → i < length names
    → name ≡ unwrap_or (slice_get names i) [] → ((before : List (List ℕ)) → length before ≡ i → AreFirsts before old → AreFirsts (before ++ name ∷ []) new)
    → AreFirsts (take i names) old → AreFirsts (take (i + 1) names) new
firsts-next names i name old new h is more held =
    let at : name ≡ get_or names i [] = is ∙ got names i h in
    let next : take (i + 1) names ≡ take i names ++ name ∷ [] = take_more names i [] h ∙ ap (λ (x : List ℕ). take i names ++ x ∷ []) (sym at) in
    subst (λ (l : List (List ℕ)). AreFirsts l new) (sym next) (more (take i names) (length-take-le i names (omega (arith, h))) held)
  where
    got : (names : List (List ℕ)) (i : ℕ) → i < length names → unwrap_or (slice_get names i) [] ≡ get_or names i []
    got [] i h = absurd (omega (arith, h))
    got (x ∷ xs) zero h = refl
    got (x ∷ xs) (suc i) h = got xs i (omega (arith, h))

pub named_in : (names : List (List ℕ)) (i : ℕ) → i < length names → list_all is_listed_name names ≡ true
    → is_listed_name (unwrap_or (slice_get names i) []) ≡ true
named_in [] i h e = absurd (omega (arith, h))
named_in (x ∷ xs) zero h e = (prefix_true (is_listed_name x) (list_all is_listed_name xs) e).0
named_in (x ∷ xs) (suc i) h e = named_in xs i (omega (arith, h)) (prefix_true (is_listed_name x) (list_all is_listed_name xs) e).1

pub at_some : (keys : List (Vec ℕ Global)) (i : ℕ) (key : Vec ℕ Global) → slice_get keys i ≡ Some key
    → key.items ≡ unwrap_or (slice_get (owned keys) i) []
at_some [] i key e = cc
at_some (x ∷ xs) zero key e = cc
at_some (x ∷ xs) (suc i) key e = at_some xs i key e

pub at_none : (keys : List (Vec ℕ Global)) (i : ℕ) → slice_get keys i ≡ None → [] ≡ unwrap_or (slice_get (owned keys) i) []
at_none [] i e = refl
at_none (x ∷ xs) zero e = cc
at_none (x ∷ xs) (suc i) e = at_none xs i e

-- the same of a call that adds the domain of a name
pub firsts-added : (answer : Result (Unit {0}) AllocError) (name domain : List ℕ) (place : ℕ) (old new : List (List ℕ × ℕ)) → is_address name ≡ true
    → domain ≡ domain_of name
    → OnOk answer (new ≡ (if is_some (place_at domain old) then old else old ++ (domain, place) ∷ []))
    → OnOk answer ((names : List (List ℕ)) → length names ≡ place → AreFirsts names old → AreFirsts (names ++ name ∷ []) new)
firsts-added (Err e) name domain place old new address is h = h
firsts-added (Ok u) name domain place old new address is h = λ names size held.
    firsts-address names name old new address held
    (h ∙ (λ i. if is_some (place_at (is i) old) then old else old ++ (is i, sym size i) ∷ []))
