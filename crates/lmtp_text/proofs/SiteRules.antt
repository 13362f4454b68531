-- What follows from the rules of a site.
use Rattle.std.proofs.Common.{◌≡◌, ℕ, zero, suc, ◌≤◌, ◌+◌, ◌<◌, Bool, true, false, List, [], ◌∷◌, ◌++◌, length, Option, Some, None, refl, arith, cond}
use Rattle.std.proofs.lemmas.Bool.Decides.{nat_tests}
use Rattle.std.proofs.lemmas.List.{length-append}
use Rattle.std.specs.Prelude.{slice_get, unwrap_or, not, ◌||◌, ◌==◌, nat_lt}
use Rattle.std.specs.List.{list_all}
use Rattle.mail_world.specs.Site.{Site, Fault, BadHost, BadDomain, BadCount, BadBox, NamedTwice, IsSite, box_name, is_listed_name, has_twice, is_host_name, is_domain_name}
use Rattle.mail_world.specs.Site.{is_box_name, fault_of, listed_fault_of}
use Rattle.mail_world.specs.declared.limits.TheConstants.{BOX_NAME_LIMIT, BOX_LIMIT}
use Rattle.lmtp_text.proofs.ListedNames.{prefix_true, name_size, all_given_listed}

no_fault : (b : Bool) (fault : Fault) (rest : Option Fault) → cond b (Some fault) rest ≡ None → (b ≡ false) × (rest ≡ None)
no_fault true fault rest e = cc
no_fault false fault rest e = (refl, e)

were_true : (b : Bool) → not b ≡ false → b ≡ true
were_true true e = refl
were_true false e = cc

-- that no rule is broken, rule by rule
pub record AreKept (is_name : List ℕ → Bool) (site : Site) : Type 0 where
  pub host : is_host_name site.host ≡ true
  pub domains : list_all is_domain_name site.domains ≡ true
  pub count : ((length site.boxes == 0) || nat_lt BOX_LIMIT (length site.boxes)) ≡ false
  pub names : list_all is_name site.boxes ≡ true
  pub once : has_twice site.boxes ≡ false

pub all_kept : (is_name : List ℕ → Bool) (site : Site)
    → cond (not (is_host_name site.host)) (Some BadHost) (cond (not (list_all is_domain_name site.domains)) (Some BadDomain)
    (cond ((length site.boxes == 0) || nat_lt BOX_LIMIT (length site.boxes)) (Some BadCount)
    (cond (not (list_all is_name site.boxes)) (Some BadBox) (cond (has_twice site.boxes) (Some NamedTwice) None)))) ≡ None
    → AreKept is_name site
all_kept is_name site sound =
    let twice = cond (has_twice site.boxes) (Some NamedTwice) None in
    let named = cond (not (list_all is_name site.boxes)) (Some BadBox) twice in
    let counted = cond ((length site.boxes == 0) || nat_lt BOX_LIMIT (length site.boxes)) (Some BadCount) named in
    let host = no_fault (not (is_host_name site.host)) BadHost (cond (not (list_all is_domain_name site.domains)) (Some BadDomain) counted) sound in
    let domains = no_fault (not (list_all is_domain_name site.domains)) BadDomain counted host.1 in
    let count = no_fault ((length site.boxes == 0) || nat_lt BOX_LIMIT (length site.boxes)) BadCount named domains.1 in
    let names = no_fault (not (list_all is_name site.boxes)) BadBox twice count.1 in
    record {
      host = were_true (is_host_name site.host) host.0;
      domains = were_true (list_all is_domain_name site.domains) domains.0;
      count = count.0;
      names = were_true (list_all is_name site.boxes) names.0;
      once = (no_fault (has_twice site.boxes) NamedTwice None names.1).0;
    }

pub none_broken : (is_name : List ℕ → Bool) (site : Site) → AreKept is_name site
    → cond (not (is_host_name site.host)) (Some BadHost) (cond (not (list_all is_domain_name site.domains)) (Some BadDomain)
    (cond ((length site.boxes == 0) || nat_lt BOX_LIMIT (length site.boxes)) (Some BadCount)
    (cond (not (list_all is_name site.boxes)) (Some BadBox) (cond (has_twice site.boxes) (Some NamedTwice) None)))) ≡ None
none_broken is_name site kept = rw (kept.host, kept.domains, kept.count, kept.names, kept.once) refl

-- each name is one that a mailbox may have
pub boxes_named : (site : Site) → IsSite site → list_all is_listed_name site.boxes ≡ true
boxes_named site sound = (all_kept is_listed_name site sound.0).names

-- a site whose names are given is one whose names a list may have
pub given_site : (site : Site) → fault_of site ≡ None → listed_fault_of site ≡ None
given_site site sound =
    let kept = all_kept is_box_name site sound in
    none_broken is_listed_name site (record {
      host = kept.host;
      domains = kept.domains;
      count = kept.count;
      names = all_given_listed site.boxes kept.names;
      once = kept.once;
    })

pub some_box : (site : Site) → IsSite site → 0 < length site.boxes
some_box site sound = let e = (all_kept is_listed_name site sound.0).count in grind (arith, nat_tests)

name_in : (names : List (List ℕ)) (i : ℕ) → list_all is_listed_name names ≡ true → length (unwrap_or (slice_get names i) []) ≤ BOX_NAME_LIMIT
name_in [] i e = omega arith
name_in (x ∷ xs) zero e = name_size x (prefix_true _ _ e).0
name_in (x ∷ xs) (suc i) e = name_in xs i (prefix_true _ _ e).1

-- a mailbox's name has a bounded length, and so has that of no mailbox
pub box_name-bounded : (site : Site) (i : ℕ) → IsSite site → length (box_name site i) ≤ BOX_NAME_LIMIT
box_name-bounded site i sound = name_in site.boxes i (boxes_named site sound)

pub box_bound : (site : Site) → AreKept is_listed_name site → length site.boxes ≤ BOX_LIMIT
box_bound site kept = let count = kept.count in grind (arith, nat_tests)

list_all-append : (p : List ℕ → Bool) (xs ys : List (List ℕ)) → list_all p xs ≡ true → list_all p (xs ++ ys) ≡ list_all p ys
list_all-append p [] ys e = refl
list_all-append p (x ∷ xs) ys e = let q = prefix_true (p x) (list_all p xs) e in rw (q.0, list_all-append p xs ys q.1) refl

-- a site with further mailboxes
abbrev pub more_boxes : Site → List (List ℕ) → Site
more_boxes site names = record site { boxes = site.boxes ++ names }

module _ (site : Site) (names : List (List ℕ)) (kept : AreKept is_listed_name site) where
  pub more_count : BOX_LIMIT < length site.boxes + length names → listed_fault_of (more_boxes site names) ≡ Some BadCount
  more_count h =
      let n = length-append site.boxes names in
      let few : ((length (site.boxes ++ names) == 0) || nat_lt BOX_LIMIT (length (site.boxes ++ names))) ≡ true = grind (arith, nat_tests) in
      rw (kept.host, kept.domains, few) refl

  few_enough : length site.boxes + length names ≤ BOX_LIMIT
      → ((length (site.boxes ++ names) == 0) || nat_lt BOX_LIMIT (length (site.boxes ++ names))) ≡ false
  few_enough h =
      let n = length-append site.boxes names in
      let count = kept.count in
      grind (arith, nat_tests)

  pub more_bad : length site.boxes + length names ≤ BOX_LIMIT → list_all is_listed_name names ≡ false
      → listed_fault_of (more_boxes site names) ≡ Some BadBox
  more_bad h e = rw (kept.host, kept.domains, few_enough h, list_all-append is_listed_name site.boxes names kept.names, e) refl

  pub more_twice : length site.boxes + length names ≤ BOX_LIMIT → list_all is_listed_name names ≡ true
      → has_twice (site.boxes ++ names) ≡ true → listed_fault_of (more_boxes site names) ≡ Some NamedTwice
  more_twice h e t = rw (kept.host, kept.domains, few_enough h, list_all-append is_listed_name site.boxes names kept.names, e, t) refl

  pub more_sound : length site.boxes + length names ≤ BOX_LIMIT → list_all is_listed_name names ≡ true
      → has_twice (site.boxes ++ names) ≡ false → listed_fault_of (more_boxes site names) ≡ None
  more_sound h e t = rw (kept.host, kept.domains, few_enough h, list_all-append is_listed_name site.boxes names kept.names, e, t) refl
