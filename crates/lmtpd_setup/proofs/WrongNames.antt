-- Where the name stands that can't be used, and what is said of it.
use Rattle.std.proofs.Common.{◌≡◌, ◌∙◌, ◌⊎◌, ◌+◌, ◌<◌, ◌≤◌, ◌++◌, ◌∷◌, [], inl, inr, ap, sym, refl, suc, ℕ, Bool, true, false, List, String, Some, None, length, cond, arith}
use Rattle.std.proofs.Common.{append_assoc, append-nil, ap₂, drop, get_or, take, true≢false}
use Rattle.std.specs.Prelude.{not, ◌||◌, ◌&&◌, ◌==◌, ◌-◌, nat_lt, string_bytes}
use Rattle.std.specs.declared.alloc.Global.{Global}
use Rattle.std.specs.Borrow.{Bor}
use Rattle.std.specs.List.{list_all, prefix_len}
use Rattle.std.specs.Str.{bytes_eq}
use Rattle.std.proofs.lemmas.Bool.Decides.{nat_tests}
use Rattle.std.proofs.lemmas.Cmp.{nat_list_eq_equiv}
use Rattle.std.proofs.lemmas.List.{drop-map, drop_more, length-drop, length-map, length-take, map-append, take-map, take_more}
use Rattle.mail_world.specs.Site.{has_text, has_twice, is_host_name, is_domain_name}
use Rattle.lmtp_text.specs.Sites.{texts}
use Rattle.lmtpd_words.specs.Boxes.{listed_boxes}
use Rattle.lmtpd_words.specs.Words.{named_site}
use Rattle.lmtpd_words.specs.declared.words.SiteWords.{SiteWords}
use Rattle.lmtpd_setup.specs.Faults.{are_usable_names, box_limit_of, fault_or, is_usable_listed_name, is_usable_name, own_count, site_fault}
use Rattle.lmtpd_setup.specs.Names.{IsNameLine, IsToldOf, bad_place, place_in, twice_place}
use Rattle.lmtpd_setup.specs.declared.fault.Fault.{Fault}
use Rattle.lmtpd_setup.specs.declared.fault.Fault.TheVariants as fault
use Rattle.lmtpd_setup.specs.declared.stop.Stop.TheVariants as stop

-- of the first fault of a site which of its tests failed
bad_of : (n h d b c t : Bool)
    → cond n (Some fault.NoBox) (fault_or (cond (not h) (Some fault.Host) (cond (not d) (Some fault.Domain) None))
    (cond (not b) (Some fault.Box) (cond c (Some fault.TooManyBoxes) (cond t (Some fault.BoxTwice) None)))) ≡ Some fault.Box → b ≡ false
bad_of true h d b c t e = cc
bad_of false false d b c t e = cc
bad_of false true false b c t e = cc
bad_of false true true false c t e = refl
bad_of false true true true true t e = cc
bad_of false true true true false true e = cc
bad_of false true true true false false e = cc

many_of : (n h d b c t : Bool)
    → cond n (Some fault.NoBox) (fault_or (cond (not h) (Some fault.Host) (cond (not d) (Some fault.Domain) None))
    (cond (not b) (Some fault.Box) (cond c (Some fault.TooManyBoxes) (cond t (Some fault.BoxTwice) None)))) ≡ Some fault.TooManyBoxes → c ≡ true
many_of true h d b c t e = cc
many_of false false d b c t e = cc
many_of false true false b c t e = cc
many_of false true true false c t e = cc
many_of false true true true true t e = refl
many_of false true true true false true e = cc
many_of false true true true false false e = cc

twice_of : (n h d b c t : Bool)
    → cond n (Some fault.NoBox) (fault_or (cond (not h) (Some fault.Host) (cond (not d) (Some fault.Domain) None))
    (cond (not b) (Some fault.Box) (cond c (Some fault.TooManyBoxes) (cond t (Some fault.BoxTwice) None)))) ≡ Some fault.BoxTwice → t ≡ true
twice_of true h d b c t e = cc
twice_of false false d b c t e = cc
twice_of false true false b c t e = cc
twice_of false true true false c t e = cc
twice_of false true true true true t e = cc
twice_of false true true true false true e = refl
twice_of false true true true false false e = cc

-- names that are all passed are all good
good_step : (b : Bool) (n m : ℕ) (rest : Bool) → suc m ≤ cond b (1 + n) 0 → (m ≤ n → rest ≡ true) → (b && rest) ≡ true
good_step true n m rest all more = more (omega (arith, all))
good_step false n m rest all more = absurd (omega (arith, all))

pub all_good : (good : List ℕ → Bool) (names : List (List ℕ)) → length names ≤ prefix_len good names → list_all good names ≡ true
all_good good [] all = refl
all_good good (name ∷ names) all =
    good_step (good name) (prefix_len good names) (length names) (list_all good names) all (all_good good names)

-- and where one isn't passed not all are
bad_step : (b : Bool) (n m : ℕ) (rest : Bool) → cond b (1 + n) 0 < suc m → (n < m → rest ≡ false) → (b && rest) ≡ false
bad_step true n m rest before more = more (omega (arith, before))
bad_step false n m rest before more = refl

pub one_bad : (good : List ℕ → Bool) (names : List (List ℕ)) → prefix_len good names < length names → list_all good names ≡ false
one_bad good [] before = absurd (omega (arith, before))
one_bad good (name ∷ names) before =
    bad_step (good name) (prefix_len good names) (length names) (list_all good names) before (one_bad good names)

-- The same of names of which so many are the words' own: where none is bad among these, the others are looked at.
own_bad : (usable own : ℕ) (t : Bool) → nat_lt usable own ≡ t → usable < own → t ≡ true
own_bad usable own true e below = refl
own_bad usable own false e below = let above : own ≤ usable = grind (arith, nat_tests) in absurd (omega (arith, above, below))

own_good : (usable own : ℕ) (t : Bool) → nat_lt usable own ≡ t → own ≤ usable → t ≡ false
own_good usable own false e above = refl
own_good usable own true e above = let below : usable < own = grind (arith, nat_tests) in absurd (omega (arith, above, below))

-- the place of the first bad one among the words' own
pub bad_own : (suffix : List ℕ) (own : ℕ) (names : List (List ℕ)) → prefix_len (is_usable_name suffix) (take own names) < own
    → bad_place suffix own names ≡ prefix_len (is_usable_name suffix) (take own names)
bad_own suffix own names below =
    let usable = prefix_len (is_usable_name suffix) (take own names) in
    ap (λ t. cond t usable (own + prefix_len (is_usable_listed_name suffix) (drop own names))) (own_bad usable own (nat_lt usable own) refl below)

-- and where none is
pub bad_listed : (suffix : List ℕ) (own : ℕ) (names : List (List ℕ)) → own ≤ prefix_len (is_usable_name suffix) (take own names)
    → bad_place suffix own names ≡ own + prefix_len (is_usable_listed_name suffix) (drop own names)
bad_listed suffix own names above =
    let usable = prefix_len (is_usable_name suffix) (take own names) in
    ap (λ t. cond t usable (own + prefix_len (is_usable_listed_name suffix) (drop own names))) (own_good usable own (nat_lt usable own) refl above)

left_bad : (a b : Bool) → a ≡ false → (a && b) ≡ false
left_bad false b e = refl
left_bad true b e = cc

right_bad : (a b : Bool) → b ≡ false → (a && b) ≡ false
right_bad true b e = e
right_bad false b e = refl

both_good : (a b : Bool) → a ≡ true → b ≡ true → (a && b) ≡ true
both_good true b left right = right
both_good false b left right = cc

-- names that are all passed are all usable, and where one isn't passed not all are
usable_by : (suffix : List ℕ) (own : ℕ) (names : List (List ℕ)) (t : Bool) → nat_lt (prefix_len (is_usable_name suffix) (take own names)) own ≡ t
    → own ≤ length names
    → length names ≤ cond t (prefix_len (is_usable_name suffix) (take own names)) (own + prefix_len (is_usable_listed_name suffix) (drop own names))
    → are_usable_names suffix own names ≡ true
usable_by suffix own names true is within all =
    let usable = prefix_len (is_usable_name suffix) (take own names) in
    let below : usable < own = grind (arith, nat_tests) in
    absurd (omega (arith, below, within, all))
usable_by suffix own names false is within all =
    let usable = prefix_len (is_usable_name suffix) (take own names) in
    let above : own ≤ usable = grind (arith, nat_tests) in
    let first = all_good (is_usable_name suffix) (take own names) (omega (arith, above, length-take own names)) in
    let rest = all_good (is_usable_listed_name suffix) (drop own names) (omega (arith, all, within, length-drop own names)) in
    both_good (list_all (is_usable_name suffix) (take own names)) (list_all (is_usable_listed_name suffix) (drop own names)) first rest

pub all_usable : (suffix : List ℕ) (own : ℕ) (names : List (List ℕ)) → own ≤ length names → length names ≤ bad_place suffix own names
    → are_usable_names suffix own names ≡ true
all_usable suffix own names within all =
    usable_by suffix own names (nat_lt (prefix_len (is_usable_name suffix) (take own names)) own) refl within all

bad_by : (suffix : List ℕ) (own : ℕ) (names : List (List ℕ)) (t : Bool) → nat_lt (prefix_len (is_usable_name suffix) (take own names)) own ≡ t
    → own ≤ length names
    → cond t (prefix_len (is_usable_name suffix) (take own names)) (own + prefix_len (is_usable_listed_name suffix) (drop own names)) < length names
    → are_usable_names suffix own names ≡ false
bad_by suffix own names true is within before =
    let usable = prefix_len (is_usable_name suffix) (take own names) in
    let below : usable < own = grind (arith, nat_tests) in
    left_bad (list_all (is_usable_name suffix) (take own names)) (list_all (is_usable_listed_name suffix) (drop own names))
    (one_bad (is_usable_name suffix) (take own names) (omega (arith, below, within, length-take own names)))
bad_by suffix own names false is within before =
    right_bad (list_all (is_usable_name suffix) (take own names)) (list_all (is_usable_listed_name suffix) (drop own names))
    (one_bad (is_usable_listed_name suffix) (drop own names) (omega (arith, before, within, length-drop own names)))

pub one_unusable : (suffix : List ℕ) (own : ℕ) (names : List (List ℕ)) → own ≤ length names → bad_place suffix own names < length names
    → are_usable_names suffix own names ≡ false
one_unusable suffix own names within before =
    bad_by suffix own names (nat_lt (prefix_len (is_usable_name suffix) (take own names)) own) refl within before

-- the place of the first bad one, found among the words' own, then among the others; and where there is none
pub found_own : (suffix : List ℕ) (own : ℕ) (names : List (Bor (List ℕ))) (place : ℕ) → own ≤ length names
    → (place ≡ prefix_len (is_usable_name suffix) (texts (take own names))) × (place < length (take own names))
    → (place ≡ bad_place suffix own (texts names)) × (place < length names)
found_own suffix own names place within found =
    let same : texts (take own names) ≡ take own (texts names) = sym (take-map (λ (name : Bor (List ℕ)). name.now) own names) in
    let usable : place ≡ prefix_len (is_usable_name suffix) (take own (texts names)) = found.0 ∙ ap (prefix_len (is_usable_name suffix)) same in
    let most = length-take own names in
    (usable ∙ sym (bad_own suffix own (texts names) (omega (arith, usable, found.1, most, within))), omega (arith, found.1, most, within))

none_own : (suffix : List ℕ) (own : ℕ) (names : List (Bor (List ℕ))) → own ≤ length names
    → length (take own names) ≤ prefix_len (is_usable_name suffix) (texts (take own names))
    → bad_place suffix own (texts names) ≡ own + prefix_len (is_usable_listed_name suffix) (texts (drop own names))
none_own suffix own names within none =
    let same : texts (take own names) ≡ take own (texts names) = sym (take-map (λ (name : Bor (List ℕ)). name.now) own names) in
    let rest : texts (drop own names) ≡ drop own (texts names) = sym (drop-map (λ (name : Bor (List ℕ)). name.now) own names) in
    let usable : prefix_len (is_usable_name suffix) (texts (take own names)) ≡ prefix_len (is_usable_name suffix) (take own (texts names)) =
    ap (prefix_len (is_usable_name suffix)) same in
    let most = length-take own names in
    bad_listed suffix own (texts names) (omega (arith, usable, none, most, within))
    ∙ ap (λ l. own + prefix_len (is_usable_listed_name suffix) l) (sym rest)

pub found_listed : (suffix : List ℕ) (own : ℕ) (names : List (Bor (List ℕ))) (place : ℕ) → own ≤ length names
    → length (take own names) ≤ prefix_len (is_usable_name suffix) (texts (take own names))
    → (place ≡ prefix_len (is_usable_listed_name suffix) (texts (drop own names))) × (place < length (drop own names))
    → (own + place ≡ bad_place suffix own (texts names)) × (own + place < length names)
found_listed suffix own names place within none found =
    let less = length-drop own names in
    (ap (λ n. own + n) found.0 ∙ sym (none_own suffix own names within none), omega (arith, found.1, less, within))

pub found_none : (suffix : List ℕ) (own : ℕ) (names : List (Bor (List ℕ))) → own ≤ length names
    → length (take own names) ≤ prefix_len (is_usable_name suffix) (texts (take own names))
    → length (drop own names) ≤ prefix_len (is_usable_listed_name suffix) (texts (drop own names))
    → length names ≤ bad_place suffix own (texts names)
found_none suffix own names within none all =
    let less = length-drop own names in
    omega (arith, none_own suffix own names within none, all, less, within)

shuffle : (a e t b : Bool) → ((a || e) || (t || b)) ≡ ((a || t) || (e || b))
shuffle true e t b = refl
shuffle false true true b = refl
shuffle false true false b = refl
shuffle false false t b = refl

or_false : (b : Bool) → (b || false) ≡ b
or_false true = refl
or_false false = refl

or_assoc : (a b c : Bool) → (a || (b || c)) ≡ ((a || b) || c)
or_assoc true b c = refl
or_assoc false b c = refl

has_text_more : (names : List (List ℕ)) (last text : List ℕ) → has_text (names ++ last ∷ []) text ≡ (has_text names text || bytes_eq last text)
has_text_more [] last text = or_false (bytes_eq last text)
has_text_more (name ∷ names) last text =
    ap (λ b. bytes_eq name text || b) (has_text_more names last text) ∙ or_assoc (bytes_eq name text) (has_text names text) (bytes_eq last text)

has_twice_more : (names : List (List ℕ)) (last : List ℕ) → has_twice (names ++ last ∷ []) ≡ (has_twice names || has_text names last)
has_twice_more [] last = refl
has_twice_more (name ∷ names) last =
    ap₂ (λ a b. a || b) (has_text_more names last name) (has_twice_more names last)
    ∙ (shuffle (has_text names name) (bytes_eq last name) (has_twice names) (has_text names last)
    ∙ ap (λ e. (has_text names name || has_twice names) || (e || has_text names last)) (nat_list_eq_equiv.symm last name))

-- names that are all passed are named once
once_step : (seen : List (List ℕ)) (name : List ℕ) (names : List (List ℕ)) (t : Bool) → has_text seen name ≡ t → has_twice seen ≡ false
    → (has_twice (seen ++ name ∷ []) ≡ false → length names ≤ twice_place (seen ++ name ∷ []) names → has_twice ((seen ++ name ∷ []) ++ names) ≡ false)
    → suc (length names) ≤ cond t 0 (suc (twice_place (seen ++ name ∷ []) names)) → has_twice (seen ++ name ∷ names) ≡ false
once_step seen name names true is once rest all = absurd (omega (arith, all))
once_step seen name names false is once rest all =
    let more : has_twice (seen ++ name ∷ []) ≡ false = has_twice_more seen name ∙ (ap (λ b. b || has_text seen name) once ∙ is) in
    ap has_twice (sym (append_assoc seen (name ∷ []) names)) ∙ rest more (omega (arith, all))

none_twice : (seen names : List (List ℕ)) → has_twice seen ≡ false → length names ≤ twice_place seen names → has_twice (seen ++ names) ≡ false
none_twice seen [] once all = ap has_twice (append-nil seen) ∙ once
none_twice seen (name ∷ names) once all = once_step seen name names (has_text seen name) refl once (none_twice (seen ++ name ∷ []) names) all

over : (limit count : ℕ) → nat_lt limit count ≡ true → count ≤ limit → ⊥
over limit count more within = let above : limit < count = grind (arith, nat_tests) in omega (arith, above, within)

-- the words have no more names themselves than they have
own_within : (words : SiteWords) → own_count words ≤ length (texts words.boxes.items)
own_within words =
    let own = length (listed_boxes words.listed.now) in
    let less : length words.boxes.items - own ≤ length words.boxes.items = omega arith in
    omega (arith, less, length-map words.boxes.items (λ (name : Bor (List ℕ)). name.now))

no_name : (words : SiteWords) (f : Fault) → site_fault words ≡ Some f → length (texts words.boxes.items) ≤ place_in words f
    → IsToldOf words f (stop.Fault f)
no_name words fault.Box first all =
    let site = named_site words in
    let usable = are_usable_names words.mailbox_suffix.now (own_count words) site.boxes in
    let bad : usable ≡ false =
    bad_of (length site.boxes == 0) (is_host_name site.host) (list_all is_domain_name site.domains) usable
    (nat_lt (box_limit_of words) (length site.boxes)) (has_twice site.boxes) first in
    absurd (true≢false (sym (all_usable words.mailbox_suffix.now (own_count words) site.boxes (own_within words) all) ∙ bad))
no_name words fault.TooManyBoxes first all =
    let site = named_site words in
    let usable = are_usable_names words.mailbox_suffix.now (own_count words) site.boxes in
    let many : nat_lt (box_limit_of words) (length site.boxes) ≡ true =
    many_of (length site.boxes == 0) (is_host_name site.host) (list_all is_domain_name site.domains) usable
    (nat_lt (box_limit_of words) (length site.boxes)) (has_twice site.boxes) first in
    absurd (over (box_limit_of words) (length site.boxes) many all)
no_name words fault.BoxTwice first all =
    let site = named_site words in
    let usable = are_usable_names words.mailbox_suffix.now (own_count words) site.boxes in
    let twice : has_twice site.boxes ≡ true =
    twice_of (length site.boxes == 0) (is_host_name site.host) (list_all is_domain_name site.domains) usable
    (nat_lt (box_limit_of words) (length site.boxes)) (has_twice site.boxes) first in
    absurd (true≢false (sym twice ∙ none_twice [] site.boxes refl all))
no_name words fault.Address first all = refl
no_name words fault.Port first all = refl
no_name words fault.NoBox first all = refl
no_name words fault.Host first all = refl
no_name words fault.Domain first all = refl
no_name words fault.Memory first all = refl
no_name words fault.Listen first all = refl
no_name words fault.Size first all = refl
no_name words fault.NoThread first all = refl
no_name words fault.ChannelGone first all = refl
no_name words fault.Device first all = refl

-- a site's fault that is about no name
pub nothing_told : (words : SiteWords) (f : Fault) → (f ≡ fault.Memory) ⊎ (site_fault words ≡ Some f)
    → length words.boxes.items ≤ place_in words f
    → (stop.Fault f ≡ stop.Fault fault.Memory) ⊎ IsToldOf words f (stop.Fault f)
nothing_told words f (inl memory) all = inl (ap stop.Fault memory)
nothing_told words f (inr first) all =
    inr (no_name words f first (omega (arith, all, length-map words.boxes.items (λ (name : Bor (List ℕ)). name.now))))

no_place : (names : List (Bor (List ℕ))) → length (texts names) < length names → ⊥
no_place names below = omega (arith, below, length-map names (λ (name : Bor (List ℕ)). name.now))

-- a name is said of the faults that are about one
pub name_told : (words : SiteWords) (f : Fault) (line : String Global) → IsNameLine words f (string_bytes line) → IsToldOf words f (stop.Name f line)
name_told words fault.Box line is = (line, refl, is)
name_told words fault.TooManyBoxes line is = (line, refl, is)
name_told words fault.BoxTwice line is = (line, refl, is)
name_told words fault.Address line is = absurd (no_place words.boxes.items is.within)
name_told words fault.Port line is = absurd (no_place words.boxes.items is.within)
name_told words fault.NoBox line is = absurd (no_place words.boxes.items is.within)
name_told words fault.Host line is = absurd (no_place words.boxes.items is.within)
name_told words fault.Domain line is = absurd (no_place words.boxes.items is.within)
name_told words fault.Memory line is = absurd (no_place words.boxes.items is.within)
name_told words fault.Listen line is = absurd (no_place words.boxes.items is.within)
name_told words fault.Size line is = absurd (no_place words.boxes.items is.within)
name_told words fault.NoThread line is = absurd (no_place words.boxes.items is.within)
name_told words fault.ChannelGone line is = absurd (no_place words.boxes.items is.within)
name_told words fault.Device line is = absurd (no_place words.boxes.items is.within)

-- the name at this place stands among those before it, which were seen, or it doesn't
pub here : (names : List (Bor (List ℕ))) (k : ℕ) (d : Bor (List ℕ)) (seen : List (List ℕ)) → k < length names → seen ≡ texts (take k names)
    → twice_place (texts (take k names)) (texts (drop k names)) + k ≡ twice_place [] (texts names)
    → has_text seen (get_or names k d).now ≡ true → k ≡ twice_place [] (texts names)
here names k d seen below held before is =
    let among : has_text (texts (take k names)) (get_or names k d).now ≡ true = ap (λ l. has_text l (get_or names k d).now) (sym held) ∙ is in
    let parts : texts (drop k names) ≡ (get_or names k d).now ∷ texts (drop (k + 1) names) = ap texts (drop_more names k d below) in
    let none : twice_place (texts (take k names)) (texts (drop k names)) ≡ 0 =
    ap (twice_place (texts (take k names))) parts
    ∙ ap (λ t. cond t 0 (suc (twice_place (texts (take k names) ++ (get_or names k d).now ∷ []) (texts (drop (k + 1) names))))) among in
    omega (arith, none, before)

pub later : (names : List (Bor (List ℕ))) (k : ℕ) (d : Bor (List ℕ)) (seen next : List (List ℕ)) → k < length names → seen ≡ texts (take k names)
    → twice_place (texts (take k names)) (texts (drop k names)) + k ≡ twice_place [] (texts names)
    → has_text seen (get_or names k d).now ≡ false → next ≡ seen ++ (get_or names k d).now ∷ []
    → (next ≡ texts (take (k + 1) names)) × (twice_place (texts (take (k + 1) names)) (texts (drop (k + 1) names)) + (k + 1) ≡ twice_place [] (texts names))
later names k d seen next below held before is more =
    let among : has_text (texts (take k names)) (get_or names k d).now ≡ false = ap (λ l. has_text l (get_or names k d).now) (sym held) ∙ is in
    let parts : texts (drop k names) ≡ (get_or names k d).now ∷ texts (drop (k + 1) names) = ap texts (drop_more names k d below) in
    let one_more : texts (take (k + 1) names) ≡ texts (take k names) ++ (get_or names k d).now ∷ [] =
    ap texts (take_more names k d below) ∙ map-append (λ (name : Bor (List ℕ)). name.now) (take k names) (get_or names k d ∷ []) in
    let one : twice_place (texts (take k names)) (texts (drop k names)) ≡ suc (twice_place (texts (take (k + 1) names)) (texts (drop (k + 1) names))) =
    ap (twice_place (texts (take k names))) parts
    ∙ (ap (λ t. cond t 0 (suc (twice_place (texts (take k names) ++ (get_or names k d).now ∷ []) (texts (drop (k + 1) names))))) among
    ∙ ap (λ l. suc (twice_place l (texts (drop (k + 1) names)))) (sym one_more)) in
    (more ∙ ap (λ l. l ++ (get_or names k d).now ∷ []) held ∙ sym one_more, omega (arith, one, before))
