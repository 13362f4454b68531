-- Mailboxes by their names.
use Rattle.std.proofs.Common.{◌≡◌, ℕ, zero, suc, ◌<◌, Bool, true, false, cond, List, [], ◌∷◌, length, Option, Some}
use Rattle.std.proofs.Common.{None, refl, sym, ap, ◌∙◌, inl, inr, arith, get_or}
use Rattle.std.specs.Prelude.{slice_get, unwrap_or, position, not, ◌||◌, ◌==◌, nat_lt}
use Rattle.std.specs.List.{list_all}
use Rattle.std.specs.Str.{bytes_eq}
use Rattle.std.proofs.lemmas.Bool.{cases_Bool, lt-ltb}
use Rattle.std.proofs.lemmas.Slice.Eq.{bytes_eq-Decides}
use Rattle.std.proofs.lemmas.List.Sums.{position_or_len_is}
use Rattle.mail_world.specs.declared.limits.TheConstants.{BOX_LIMIT}
use Rattle.mail_world.specs.Site.{Site, Fault, BadHost, BadDomain, BadCount, BadBox, NamedTwice, IsSite, box_name}
use Rattle.mail_world.specs.Site.{is_listed_name, is_domain_name, is_host_name, has_text, has_twice}
use Rattle.lmtp_lives.specs.Runs.{number_of}

neither : (a b : Bool) → (a || b) ≡ false → (a ≡ false) × (b ≡ false)
neither true b e = cc
neither false b e = (refl, e)

no_fault : (b : Bool) (fault : Fault) (rest : Option Fault) → cond b (Some fault) rest ≡ None
    → (b ≡ false) × (rest ≡ None)
no_fault true fault rest e = cc
no_fault false fault rest e = (refl, e)

-- no two mailboxes of a site have one name
none_twice : (site : Site) → IsSite site → has_twice site.boxes ≡ false
none_twice site sound =
    let twice = cond (has_twice site.boxes) (Some NamedTwice) None in
    let named = cond (not (list_all is_listed_name site.boxes)) (Some BadBox) twice in
    let many : Bool = (length site.boxes == 0) || nat_lt BOX_LIMIT (length site.boxes) in
    let counted = cond many (Some BadCount) named in
    let further = cond (not (list_all is_domain_name site.domains)) (Some BadDomain) counted in
    let host = no_fault (not (is_host_name site.host)) BadHost further sound.0 in
    let domains = no_fault (not (list_all is_domain_name site.domains)) BadDomain counted host.1 in
    let count = no_fault many BadCount named domains.1 in
    let names = no_fault (not (list_all is_listed_name site.boxes)) BadBox twice count.1 in
    (no_fault (has_twice site.boxes) NamedTwice None names.1).0

other_way : (xs ys : List ℕ) → bytes_eq xs ys ≡ false → bytes_eq ys xs ≡ false
other_way xs ys e = elim (cases_Bool (bytes_eq ys xs)) [
  | inl same ↦ let is : bytes_eq xs ys ≡ true = (bytes_eq-Decides xs ys).1 (sym ((bytes_eq-Decides ys xs).0 same)) in cc
  | inr other ↦ other
]

not_there : (boxes : List (List ℕ)) (name : List ℕ) (b : ℕ) → has_text boxes name ≡ false → b < length boxes
    → bytes_eq name (get_or boxes b []) ≡ false
not_there [] name b e low = absurd (omega (arith, low))
not_there (x ∷ xs) name zero e low = other_way x name (neither (bytes_eq x name) (has_text xs name) e).0
not_there (x ∷ xs) name (suc b) e low =
    not_there xs name b (neither (bytes_eq x name) (has_text xs name) e).1 (omega (arith, low))

others : (boxes : List (List ℕ)) (k b : ℕ) → has_twice boxes ≡ false → k < b → b < length boxes
    → bytes_eq (get_or boxes k []) (get_or boxes b []) ≡ false
others [] k b e below low = absurd (omega (arith, low))
others (x ∷ xs) k zero e below low = absurd (omega (arith, below))
others (x ∷ xs) zero (suc b) e below low =
    not_there xs x b (neither (has_text xs x) (has_twice xs) e).0 (omega (arith, low))
others (x ∷ xs) (suc k) (suc b) e below low =
    others xs k b (neither (has_text xs x) (has_twice xs) e).1 (omega (arith, below)) (omega (arith, low))

name_is : (boxes : List (List ℕ)) (b : ℕ) → b < length boxes → unwrap_or (slice_get boxes b) [] ≡ get_or boxes b []
name_is [] b low = absurd (omega (arith, low))
name_is (x ∷ xs) zero low = refl
name_is (x ∷ xs) (suc b) low = name_is xs b (omega (arith, low))

found_at : (boxes : List (List ℕ)) (b : ℕ) → has_twice boxes ≡ false → b < length boxes
    → position (λ box. bytes_eq box (get_or boxes b [])) boxes ≡ Some b
found_at boxes b once low =
    let name : List ℕ = get_or boxes b [] in
    let place = position_or_len_is (λ box. bytes_eq box name) boxes b [] (omega (arith, low))
    (λ k below. others boxes k b once below low) (λ low'. (bytes_eq-Decides name name).1 refl) in
    ap (λ (n : ℕ). cond (nat_lt n (length boxes)) (Some n) None) place
    ∙ ap (λ (t : Bool). cond t (Some b) None) (lt-ltb b (length boxes) low)

pub number_is : (site : Site) (b : ℕ) → IsSite site → b < length site.boxes → number_of (box_name site b) site ≡ Some b
number_is site b sound low =
    ap (λ (name : List ℕ). number_of name site) (name_is site.boxes b low)
    ∙ found_at site.boxes b (none_twice site sound) low
