-- The order in which the program says what is wrong with a site, against the site's own.
use Rattle.std.proofs.Common.{◌≡◌, ◌∙◌, ◌⊎◌, ◌<◌, ◌≤◌, ◌∷◌, ◌++◌, [], inl, inr, ap, sym, subst, ℕ, Bool, true, false, List, length, Option, Some, None, refl, cond, arith, true≢false}
use Rattle.std.proofs.Common.{drop, map, option_map, take}
use Rattle.std.specs.Prelude.{not, ◌||◌, ◌==◌, ◌&&◌, nat_lt, Err, IfErr, IfOk, Ok, Result}
use Rattle.std.specs.Borrow.{Bor}
use Rattle.std.specs.List.{list_all}
use Rattle.std.specs.Str.{bytes_eq}
use Rattle.std.proofs.lemmas.Bool.{eqb-true}
use Rattle.std.proofs.lemmas.Bool.Decides.{nat_tests}
use Rattle.std.proofs.lemmas.List.{drop-map, length-map, length-take, map-append, take-append-drop, take-map}
use Rattle.std.proofs.lemmas.List.Folds.{list_all-append}
use Rattle.mail_world.specs.Site.{Site, Fault as Rule, BadHost, BadDomain, BadCount, BadBox, NamedTwice, IsSite, fault_of, is_host_name, is_domain_name}
use Rattle.mail_world.specs.Site.{is_address, is_box_name, is_listed_name, has_text, has_twice, listed_fault_of}
use Rattle.mail_world.specs.declared.limits.TheConstants.{BOX_LIMIT}
use Rattle.lmtp_text.specs.Sites.{IsListedFault, cause, texts, site_of}
use Rattle.lmtp_text.specs.declared.site.SiteFault.{SiteFault}
use Rattle.lmtp_text.specs.declared.site.SiteFault.TheVariants as faults
use Rattle.lmtpd_setup.specs.declared.fault.Fault.{Fault}
use Rattle.lmtpd_setup.specs.declared.fault.Fault.TheVariants as fault
use Rattle.lmtpd_setup.specs.Faults.{IsTwiceOrMemory, are_usable_names, fault_or, first_fault, host_fault, is_lock_name, is_usable_listed_name}
use Rattle.lmtpd_setup.specs.Faults.{is_usable_name, names_fault, refusal}

abbrev pub has_none : Site → Bool
has_none site = length site.boxes == 0

-- a usable name is a mailbox's, and so are names that are all usable
named_well : (b lock all_usable all_named : Bool) → (all_usable ≡ true → all_named ≡ true) → ((b && not lock) && all_usable) ≡ true
    → (b && all_named) ≡ true
named_well true false all_usable all_named more e = more e
named_well true true all_usable all_named more e = cc
named_well false lock all_usable all_named more e = cc

pub usable_named : (suffix : List ℕ) (names : List (List ℕ)) → list_all (is_usable_name suffix) names ≡ true → list_all is_box_name names ≡ true
usable_named suffix [] e = refl
usable_named suffix (name ∷ names) e =
    named_well (is_box_name name) (is_lock_name (name ++ suffix)) (list_all (is_usable_name suffix) names) (list_all is_box_name names)
    (usable_named suffix names) e

listed_well : (b address lock all_usable all_named : Bool) → (all_usable ≡ true → all_named ≡ true)
    → (((b && not address) && not lock) && all_usable) ≡ true → (b && all_named) ≡ true
listed_well true false false all_usable all_named more e = more e
listed_well true false true all_usable all_named more e = cc
listed_well true true lock all_usable all_named more e = cc
listed_well false address lock all_usable all_named more e = cc

pub usable_listed : (suffix : List ℕ) (names : List (List ℕ)) → list_all (is_usable_listed_name suffix) names ≡ true
    → list_all is_listed_name names ≡ true
usable_listed suffix [] e = refl
usable_listed suffix (name ∷ names) e =
    listed_well (is_listed_name name) (is_address name) (is_lock_name (name ++ suffix)) (list_all (is_usable_listed_name suffix) names)
    (list_all is_listed_name names) (usable_listed suffix names) e

left_of : (a b : Bool) → (a && b) ≡ true → a ≡ true
left_of true b e = refl
left_of false b e = cc

right_of : (a b : Bool) → (a && b) ≡ true → b ≡ true
right_of true b e = e
right_of false b e = cc

-- the names that the words have themselves, and the listed ones, where all are usable
pub own_named : (suffix : List ℕ) (own : ℕ) (names : List (List ℕ)) → are_usable_names suffix own names ≡ true
    → list_all is_box_name (take own names) ≡ true
own_named suffix own names e =
    usable_named suffix (take own names)
    (left_of (list_all (is_usable_name suffix) (take own names)) (list_all (is_usable_listed_name suffix) (drop own names)) e)

pub listed_named : (suffix : List ℕ) (own : ℕ) (names : List (List ℕ)) → are_usable_names suffix own names ≡ true
    → list_all is_listed_name (drop own names) ≡ true
listed_named suffix own names e =
    usable_listed suffix (drop own names)
    (right_of (list_all (is_usable_name suffix) (take own names)) (list_all (is_usable_listed_name suffix) (drop own names)) e)

-- what a site of one good name says of its host and its domains
host_cause : (h d : Bool) (e : SiteFault)
    → ((rule : Rule) → cond (not h) (Some BadHost) (cond (not d) (Some BadDomain) None) ≡ Some rule
    → ◌≡◌ {A = Result Site SiteFault} (Err e) (Err (cause rule)))
    → (cond (not h) (Some BadHost) (cond (not d) (Some BadDomain) None) ≡ None → e ≡ faults.Memory)
    → (refusal e ≡ fault.Memory) ⊎ (cond (not h) (Some fault.Host) (cond (not d) (Some fault.Domain) None) ≡ Some (refusal e))
host_cause false d e broken whole =
    let err = broken BadHost refl in
    let at : e ≡ faults.Host = cc in
    inr (ap (λ x. Some (refusal x)) (sym at))
host_cause true false e broken whole =
    let err = broken BadDomain refl in
    let at : e ≡ faults.Domain = cc in
    inr (ap (λ x. Some (refusal x)) (sym at))
host_cause true true e broken whole = inl (ap refusal (whole refl))

pub host_refused : (site : Site) (e : SiteFault)
    → ((rule : Rule) → cond (not (is_host_name site.host)) (Some BadHost) (cond (not (list_all is_domain_name site.domains)) (Some BadDomain) None) ≡ Some rule
    → ◌≡◌ {A = Result Site SiteFault} (Err e) (Err (cause rule)))
    → (cond (not (is_host_name site.host)) (Some BadHost) (cond (not (list_all is_domain_name site.domains)) (Some BadDomain) None) ≡ None
    → e ≡ faults.Memory)
    → (refusal e ≡ fault.Memory) ⊎ (host_fault site.host site.domains ≡ Some (refusal e))
host_refused site e broken whole = host_cause (is_host_name site.host) (list_all is_domain_name site.domains) e broken whole

host_none : (h d : Bool) (rest : Option Rule) → cond (not h) (Some BadHost) (cond (not d) (Some BadDomain) rest) ≡ None
    → cond (not h) (Some fault.Host) (cond (not d) (Some fault.Domain) None) ≡ None
host_none false d rest e = cc
host_none true false rest e = cc
host_none true true rest e = refl

once_of : (h d k b t : Bool)
    → cond (not h) (Some BadHost) (cond (not d) (Some BadDomain) (cond k (Some BadCount) (cond (not b) (Some BadBox) (cond t (Some NamedTwice) None))))
    ≡ None → (b ≡ true) × (t ≡ false)
once_of false d k b t e = cc
once_of true false k b t e = cc
once_of true true true b t e = cc
once_of true true false false t e = cc
once_of true true false true true e = cc
once_of true true false true false e = (refl, refl)

-- a site's host and domains are good, its names are those that a list may have, and none stands there twice
pub host_of_site : (site : Site) → IsSite site → host_fault site.host site.domains ≡ None
host_of_site site is =
    host_none (is_host_name site.host) (list_all is_domain_name site.domains)
    (cond ((length site.boxes == 0) || nat_lt BOX_LIMIT (length site.boxes)) (Some BadCount)
    (cond (not (list_all is_listed_name site.boxes)) (Some BadBox) (cond (has_twice site.boxes) (Some NamedTwice) None))) is.0

pub names_of_site : (site : Site) → IsSite site → (list_all is_listed_name site.boxes ≡ true) × (has_twice site.boxes ≡ false)
names_of_site site is =
    once_of (is_host_name site.host) (list_all is_domain_name site.domains) ((length site.boxes == 0) || nat_lt BOX_LIMIT (length site.boxes))
    (list_all is_listed_name site.boxes) (has_twice site.boxes) is.0

-- a site's first fault by its parts
pub fault_of_none : (n : Bool) (a b : Option Fault) → n ≡ true → cond n (Some fault.NoBox) (fault_or a b) ≡ Some fault.NoBox
fault_of_none n a b e = rw e refl

pub fault_of_host : (n : Bool) (a b : Option Fault) (f : Fault) → n ≡ false → a ≡ Some f → cond n (Some fault.NoBox) (fault_or a b) ≡ Some f
fault_of_host n a b f some e = rw (some, e) refl

pub fault_of_names : (n : Bool) (a b : Option Fault) → n ≡ false → a ≡ None → cond n (Some fault.NoBox) (fault_or a b) ≡ b
fault_of_names n a b some e = rw (some, e) refl

-- what is wrong with names
pub bad_said : (u : Bool) (rest : Option Fault) → u ≡ false → cond (not u) (Some fault.Box) rest ≡ Some fault.Box
bad_said u rest e = rw e refl

pub many_said : (u c : Bool) (rest : Option Fault) → u ≡ true → c ≡ true
    → cond (not u) (Some fault.Box) (cond c (Some fault.TooManyBoxes) rest) ≡ Some fault.TooManyBoxes
many_said u c rest all many = rw (all, many) refl

twice_said : (u c t : Bool) → u ≡ true → c ≡ false → t ≡ true
    → cond (not u) (Some fault.Box) (cond c (Some fault.TooManyBoxes) (cond t (Some fault.BoxTwice) None)) ≡ Some fault.BoxTwice
twice_said u c t all few twice = rw (all, few, twice) refl

once_said : (u c t : Bool) → u ≡ true → c ≡ false → t ≡ false
    → cond (not u) (Some fault.Box) (cond c (Some fault.TooManyBoxes) (cond t (Some fault.BoxTwice) None)) ≡ None
once_said u c t all few once = rw (all, few, once) refl

-- a site of names has none exactly where there are none
pub none_of_none : (host : List ℕ) (domains boxes : List (Bor (List ℕ))) (t : Bool) → t ≡ (length boxes == 0) → has_none (site_of host domains boxes) ≡ t
none_of_none host domains boxes t e = ap (λ n. n == 0) (length-map boxes (λ (name : Bor (List ℕ)). name.now)) ∙ sym e

not_zero : (n : ℕ) (t : Bool) → (n == 0) ≡ t → 0 < n → t ≡ false
not_zero n true e above = absurd (omega (arith, eqb-true n 0 e, above))
not_zero n false e above = refl

pub some_names : (names : List (List ℕ)) → 0 < length names → (length names == 0) ≡ false
some_names names above = not_zero (length names) (length names == 0) refl above

not_over : (limit count : ℕ) (t : Bool) → nat_lt limit count ≡ t → count ≤ limit → t ≡ false
not_over limit count true e within = let above : limit < count = grind (arith, nat_tests) in absurd (omega (arith, above, within))
not_over limit count false e within = refl

over_test : (limit count : ℕ) (t : Bool) → nat_lt limit count ≡ t → limit < count → t ≡ true
over_test limit count true e above = refl
over_test limit count false e above = let within : count ≤ limit = grind (arith, nat_tests) in absurd (omega (arith, above, within))

-- more names than the limit are as many of their texts
pub is_over : (limit : ℕ) (boxes : List (Bor (List ℕ))) → limit < length boxes → nat_lt limit (length (texts boxes)) ≡ true
is_over limit boxes above =
    over_test limit (length (texts boxes)) (nat_lt limit (length (texts boxes))) refl
    (omega (arith, above, length-map boxes (λ (name : Bor (List ℕ)). name.now)))

-- a site of usable names, not too many, that isn't made
made_or_twice : (limit : ℕ) (suffix : List ℕ) (own : ℕ) (site : Site) (e : SiteFault) → has_none site ≡ false
    → host_fault site.host site.domains ≡ None → are_usable_names suffix own site.boxes ≡ true → nat_lt limit (length site.boxes) ≡ false
    → IsTwiceOrMemory site.boxes e → (refusal e ≡ fault.Memory) ⊎ (first_fault limit suffix own site ≡ Some (refusal e))
made_or_twice limit suffix own site e some host all few (inl memory) = inl (ap refusal memory)
made_or_twice limit suffix own site e some host all few (inr twice) =
    inr (fault_of_names (has_none site) (host_fault site.host site.domains) (names_fault limit suffix own site.boxes) some host
    ∙ twice_said (are_usable_names suffix own site.boxes) (nat_lt limit (length site.boxes)) (has_twice site.boxes) all few twice.1
    ∙ ap (λ x. Some (refusal x)) (sym twice.0))

pub twice_refused : (limit : ℕ) (suffix : List ℕ) (own : ℕ) (site : Site) (e : SiteFault) → has_none site ≡ false
    → host_fault site.host site.domains ≡ None → are_usable_names suffix own site.boxes ≡ true → length site.boxes ≤ limit
    → IsTwiceOrMemory site.boxes e → (refusal e ≡ fault.Memory) ⊎ (first_fault limit suffix own site ≡ Some (refusal e))
twice_refused limit suffix own site e some host all within refused =
    made_or_twice limit suffix own site e some host all (not_over limit (length site.boxes) (nat_lt limit (length site.boxes)) refl within) refused

-- one that is made says no fault
pub none_said : (limit : ℕ) (suffix : List ℕ) (own : ℕ) (site : Site) → IsSite site → has_none site ≡ false
    → are_usable_names suffix own site.boxes ≡ true → length site.boxes ≤ limit → first_fault limit suffix own site ≡ None
none_said limit suffix own site is some all within =
    fault_of_names (has_none site) (host_fault site.host site.domains) (names_fault limit suffix own site.boxes) some (host_of_site site is)
    ∙ once_said (are_usable_names suffix own site.boxes) (nat_lt limit (length site.boxes)) (has_twice site.boxes) all
    (not_over limit (length site.boxes) (nat_lt limit (length site.boxes)) refl within) (names_of_site site is).1

-- of a site whose host, number and names are good, what may be broken is that two are the same
rule_left : (h d n c b t : Bool) → cond (not h) (Some fault.Host) (cond (not d) (Some fault.Domain) None) ≡ None → n ≡ false → c ≡ false → b ≡ true
    → cond (not h) (Some BadHost) (cond (not d) (Some BadDomain) (cond (n || c) (Some BadCount) (cond (not b) (Some BadBox) (cond t (Some NamedTwice) None))))
    ≡ cond t (Some NamedTwice) None
rule_left false d n c b t host some few all = cc
rule_left true false n c b t host some few all = cc
rule_left true true n c b t host some few all = rw (some, few, all) refl

abbrev pub few_names : List (List ℕ) → Type 0
few_names names = (0 < length names) × (length names ≤ BOX_LIMIT)

given_left : (site : Site) → host_fault site.host site.domains ≡ None → few_names site.boxes → list_all is_box_name site.boxes ≡ true
    → fault_of site ≡ cond (has_twice site.boxes) (Some NamedTwice) None
given_left site host count all =
    rule_left (is_host_name site.host) (list_all is_domain_name site.domains) (length site.boxes == 0) (nat_lt BOX_LIMIT (length site.boxes))
    (list_all is_box_name site.boxes) (has_twice site.boxes) host (some_names site.boxes count.0)
    (not_over BOX_LIMIT (length site.boxes) (nat_lt BOX_LIMIT (length site.boxes)) refl count.1) all

listed_left : (site : Site) → host_fault site.host site.domains ≡ None → few_names site.boxes → list_all is_listed_name site.boxes ≡ true
    → listed_fault_of site ≡ cond (has_twice site.boxes) (Some NamedTwice) None
listed_left site host count all =
    rule_left (is_host_name site.host) (list_all is_domain_name site.domains) (length site.boxes == 0) (nat_lt BOX_LIMIT (length site.boxes))
    (list_all is_listed_name site.boxes) (has_twice site.boxes) host (some_names site.boxes count.0)
    (not_over BOX_LIMIT (length site.boxes) (nat_lt BOX_LIMIT (length site.boxes)) refl count.1) all

given_cause : (o : Option Rule) (t : Bool) (e : SiteFault) → o ≡ cond t (Some NamedTwice) None
    → ((rule : Rule) → o ≡ Some rule → ◌≡◌ {A = Result Site SiteFault} (Err e) (Err (cause rule)))
    → (o ≡ None → e ≡ faults.Memory) → (e ≡ faults.Memory) ⊎ ((e ≡ faults.Twice) × (t ≡ true))
given_cause o false e is broken whole = inl (whole is)
given_cause o true e is broken whole =
    let err = broken NamedTwice is in
    let at : e ≡ faults.Twice = cc in
    inr (at, refl)

pub given_refused : (site : Site) (e : SiteFault) → host_fault site.host site.domains ≡ None → few_names site.boxes
    → list_all is_box_name site.boxes ≡ true
    → ((rule : Rule) → fault_of site ≡ Some rule → ◌≡◌ {A = Result Site SiteFault} (Err e) (Err (cause rule)))
    → (fault_of site ≡ None → e ≡ faults.Memory) → IsTwiceOrMemory site.boxes e
given_refused site e host count all broken whole =
    given_cause (fault_of site) (has_twice site.boxes) e (given_left site host count all) broken whole

listed_cause : (t : Bool) (e : SiteFault) → option_map cause (cond t (Some NamedTwice) None) ≡ Some e → (e ≡ faults.Twice) × (t ≡ true)
listed_cause true e is = let at : faults.Twice ≡ e = cc in (sym at, refl)
listed_cause false e is = cc

pub listed_refused : (site : Site) (e : SiteFault) → host_fault site.host site.domains ≡ None → few_names site.boxes
    → list_all is_listed_name site.boxes ≡ true → IsListedFault site e → IsTwiceOrMemory site.boxes e
listed_refused site e host count all (inl memory) = inl memory
listed_refused site e host count all (inr broken) =
    inr (listed_cause (has_twice site.boxes) e (sym (ap (λ o. option_map cause o) (listed_left site host count all)) ∙ broken))

-- a text that stands in a list twice stands twice in a longer one
or_left : (a b : Bool) → a ≡ true → (a || b) ≡ true
or_left true b e = refl
or_left false b e = cc

or_step : (a b c d : Bool) → (a ≡ true → c ≡ true) → (b ≡ true → d ≡ true) → (a || b) ≡ true → (c || d) ≡ true
or_step true b c d first rest e = or_left c d (first refl)
or_step false b true d first rest e = refl
or_step false b false d first rest e = rest e

has_text_longer : (names more : List (List ℕ)) (text : List ℕ) → has_text names text ≡ true → has_text (names ++ more) text ≡ true
has_text_longer [] more text e = cc
has_text_longer (name ∷ names) more text e =
    or_step (bytes_eq name text) (has_text names text) (bytes_eq name text) (has_text (names ++ more) text) (λ is. is)
    (has_text_longer names more text) e

pub has_twice_longer : (names more : List (List ℕ)) → has_twice names ≡ true → has_twice (names ++ more) ≡ true
has_twice_longer [] more e = cc
has_twice_longer (name ∷ names) more e =
    or_step (has_text names name) (has_twice names) (has_text (names ++ more) name) (has_twice (names ++ more)) (has_text_longer names more name)
    (has_twice_longer names more) e

-- the first names and the others are all
pub both_parts : (own : ℕ) (boxes : List (Bor (List ℕ))) → texts (take own boxes) ++ texts (drop own boxes) ≡ texts boxes
both_parts own boxes =
    sym (map-append (λ (name : Bor (List ℕ)). name.now) (take own boxes) (drop own boxes)) ∙ ap texts (take-append-drop own boxes)

pub twice_in_all : (own : ℕ) (boxes : List (Bor (List ℕ))) (e : SiteFault) → IsTwiceOrMemory (texts (take own boxes)) e
    → IsTwiceOrMemory (texts boxes) e
twice_in_all own boxes e (inl memory) = inl memory
twice_in_all own boxes e (inr twice) =
    inr (twice.0, subst (λ names. has_twice names ≡ true) (both_parts own boxes) (has_twice_longer (texts (take own boxes)) (texts (drop own boxes)) twice.1))

and_both : (a b : Bool) → a ≡ true → b ≡ true → (a && b) ≡ true
and_both true b left right = right
and_both false b left right = cc

pub all_listed : (own : ℕ) (boxes : List (Bor (List ℕ))) → list_all is_listed_name (texts (take own boxes)) ≡ true
    → list_all is_listed_name (texts (drop own boxes)) ≡ true → list_all is_listed_name (texts boxes) ≡ true
all_listed own boxes first rest =
    subst (λ names. list_all is_listed_name names ≡ true) (both_parts own boxes)
    (list_all-append is_listed_name (texts (take own boxes)) (texts (drop own boxes))
    ∙ and_both (list_all is_listed_name (texts (take own boxes))) (list_all is_listed_name (texts (drop own boxes))) first rest)

-- the site of the first names with the others is that of all
pub with_others : (host : List ℕ) (domains boxes : List (Bor (List ℕ))) (own : ℕ) (site : Site) → site ≡ site_of host domains (take own boxes)
    → (record site { boxes = site.boxes ++ texts (drop own boxes) }) ≡ site_of host domains boxes
with_others host domains boxes own site is =
    ap (λ (s : Site). record s { boxes = s.boxes ++ texts (drop own boxes) }) is
    ∙ ap (λ (names : List (List ℕ)). record (site_of host domains boxes) { boxes = names }) (both_parts own boxes)

-- what is answered for the first names is for all
pub given_in_all : (host : List ℕ) (domains boxes : List (Bor (List ℕ))) (own : ℕ) (e : SiteFault) → host_fault host (texts domains) ≡ None
    → (0 < length boxes) × (length boxes ≤ BOX_LIMIT) → own ≤ length boxes → (own ≡ 0 → ⊥)
    → list_all is_box_name (take own (texts boxes)) ≡ true
    → ((rule : Rule) → fault_of (site_of host domains (take own boxes)) ≡ Some rule → ◌≡◌ {A = Result Site SiteFault} (Err e) (Err (cause rule)))
    → (fault_of (site_of host domains (take own boxes)) ≡ None → e ≡ faults.Memory) → IsTwiceOrMemory (texts boxes) e
given_in_all host domains boxes own e good count within some named broken whole =
    let first = take own boxes in
    let same = length-map first (λ (name : Bor (List ℕ)). name.now) in
    let most = length-take own boxes in
    let above : 0 < own = omega (arith, some) in
    let few : few_names (texts first) = (omega (arith, same, most, above, within), omega (arith, same, most, within, count.1)) in
    let named_first : list_all is_box_name (texts first) ≡ true =
    subst (λ l. list_all is_box_name l ≡ true) (take-map (λ (name : Bor (List ℕ)). name.now) own boxes) named in
    twice_in_all own boxes e (given_refused (site_of host domains first) e good few named_first broken whole)

-- the site of the first names with the others
pub made_of_all : (host : List ℕ) (domains boxes : List (Bor (List ℕ))) (own : ℕ) (site : Site) (made : Result Site SiteFault)
    → site ≡ site_of host domains (take own boxes)
    → IfOk made (λ s. s ≡ record site { boxes = site.boxes ++ texts (drop own boxes) }) → IfOk made (λ s. s ≡ site_of host domains boxes)
made_of_all host domains boxes own site made is all =
    subst (λ (whole : Site). IfOk made (λ s. s ≡ whole)) (with_others host domains boxes own site is) all

listed_of : (made : Result Site SiteFault) (site : Site) → host_fault site.host site.domains ≡ None → few_names site.boxes
    → list_all is_listed_name site.boxes ≡ true → IfErr made (IsListedFault site) → IfErr made (IsTwiceOrMemory site.boxes)
listed_of (Ok s) site good few named refused = tt
listed_of (Err e) site good few named refused = listed_refused site e good few named refused

pub listed_in_all : (host : List ℕ) (domains boxes : List (Bor (List ℕ))) (own : ℕ) (site : Site) (made : Result Site SiteFault)
    → host_fault host (texts domains) ≡ None → (0 < length boxes) × (length boxes ≤ BOX_LIMIT)
    → site ≡ site_of host domains (take own boxes) → IsSite site → list_all is_listed_name (drop own (texts boxes)) ≡ true
    → IfErr made (IsListedFault (record site { boxes = site.boxes ++ texts (drop own boxes) })) → IfErr made (IsTwiceOrMemory (texts boxes))
listed_in_all host domains boxes own site made good count is sound listed refused =
    let first : list_all is_listed_name (texts (take own boxes)) ≡ true =
    subst (λ (s : Site). list_all is_listed_name s.boxes ≡ true) is (names_of_site site sound).0 in
    let rest : list_all is_listed_name (texts (drop own boxes)) ≡ true =
    subst (λ l. list_all is_listed_name l ≡ true) (drop-map (λ (name : Bor (List ℕ)). name.now) own boxes) listed in
    let same = length-map boxes (λ (name : Bor (List ℕ)). name.now) in
    let few : few_names (texts boxes) = (omega (arith, same, count.0), omega (arith, same, count.1)) in
    listed_of made (site_of host domains boxes) good few (all_listed own boxes first rest)
    (subst (λ (whole : Site). IfErr made (IsListedFault whole)) (with_others host domains boxes own site is) refused)
