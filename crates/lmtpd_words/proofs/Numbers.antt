-- What the getters of the matches read.
use Rattle.std.proofs.Common.{◌≡◌, ◌∙◌, ap, sym, subst, ℕ, Bool, true, false, Option, Some, None, refl, true≢false}
use Rattle.std.specs.Prelude.{Err, Ok, Result, option_map, MatchOption}
use Rattle.std.specs.Str.Parse.{ParsesBool, ParsesUnsigned, true_text}
use Rattle.std.proofs.lemmas.Result.{OkIff-at_err, OkIff-at_ok}
use Rattle.clap.specs.Words.{ReadsOne, Text, TriesOne}
use Rattle.std.specs.Option.{unwrap_or}
use Rattle.std.specs.Result.{result_ok}
use Rattle.lmtpd_words.specs.Words.{IsByteCount, IsFlag, IsLimit, IsNoNumber, IsNumber, IsNumberOr, number}

-- the number of a text, and none where it writes none
pub number_read : {E : Type 0} (gives : Text → Result ℕ E → Type 0) → ((text : Text) (r : Result ℕ E) → gives text r → ParsesUnsigned 32 10 text r)
    → (given : Option Text) (r : Option ℕ) → (given ≡ None → r ≡ None) → ((text : Text) → given ≡ Some text → ReadsOne gives text r)
    → MatchOption r ((text : Text) → given ≡ Some text → IsNumber text → ⊥) (λ time. option_map number given ≡ Some time)
number_read {E} gives parses None None none value = λ text e _. cc
number_read {E} gives parses None (Some n) none value =
    let bad : ◌≡◌ {A = Option ℕ} (Some n) None = none refl in
    cc
number_read {E} gives parses (Some t) None none value = λ text e p.
    let got = value t refl in
    let same : text ≡ t = cc in
    let r : Result ℕ E = Err got.0 in
    OkIff-at_err r (IsNumber t) (number t) got.0 (parses t r got.1) refl (subst IsNumber same p)
number_read {E} gives parses (Some t) (Some n) none value =
    let r : Result ℕ E = Ok n in
    ap Some (sym (OkIff-at_ok r (IsNumber t) (number t) n (parses t r (value t refl)) refl).1)

-- the number that was given, and else the usual one
pub number_or_usual : (usual : ℕ) (given : Option Text) (r : Option ℕ) (n : ℕ)
    → MatchOption r ((text : Text) → given ≡ Some text → IsNumber text → ⊥) (λ m. option_map number given ≡ Some m)
    → n ≡ unwrap_or r usual → IsNumberOr usual given n
number_or_usual usual None None n h e = e
number_or_usual usual None (Some m) n h e = cc
number_or_usual usual (Some text) None n h e = λ is. absurd (h text refl is)
number_or_usual usual (Some text) (Some m) n h e = λ is. cc

-- the limit of bytes that a text names, and none where none is given
pub limit_read : {E : Type 0} (gives : Text → Result ℕ E → Type 0) → ((text : Text) (r : Result ℕ E) → gives text r → ParsesUnsigned 64 10 text r)
    → (given : Option Text) (r : Option ℕ) → (given ≡ None → r ≡ None) → ((text : Text) → given ≡ Some text → ReadsOne gives text r)
    → IsLimit given r
limit_read {E} gives parses None r none value = none refl
limit_read {E} gives parses (Some t) None none value = λ is.
    let got = value t refl in
    let r : Result ℕ E = Err got.0 in
    absurd (OkIff-at_err r (IsByteCount t) (number t) got.0 (parses t r got.1) refl is)
limit_read {E} gives parses (Some t) (Some n) none value = λ is.
    let r : Result ℕ E = Ok n in
    ap Some (OkIff-at_ok r (IsByteCount t) (number t) n (parses t r (value t refl)) refl).1

-- the number of a text that is given, and none at all where it writes none
pub given_number : {E : Type 0} (gives : Text → Result ℕ E → Type 0) → ((text : Text) (r : Result ℕ E) → gives text r → ParsesUnsigned 32 10 text r)
    → (given : Option Text) (r : Result (Option ℕ) E) → (given ≡ None → r ≡ Ok None) → ((text : Text) → given ≡ Some text → TriesOne gives text r)
    → MatchOption (result_ok r) (IsNoNumber given) (λ n. option_map number given ≡ n)
given_number {E} gives parses None r none value = rw (none refl) refl
given_number {E} gives parses (Some t) (Err e) none value =
    let r : Result ℕ E = Err e in
    (t, refl, OkIff-at_err r (IsNumber t) (number t) e (parses t r (value t refl)) refl)
given_number {E} gives parses (Some t) (Ok None) none value = absurd (value t refl)
given_number {E} gives parses (Some t) (Ok (Some n)) none value =
    let r : Result ℕ E = Ok n in
    ap Some (sym (OkIff-at_ok r (IsNumber t) (number t) n (parses t r (value t refl)) refl).1)

-- a flag is read as clap's text for it says
pub flag_read : {E : Type 0} (gives : Text → Result Bool E → Type 0) → ((text : Text) (r : Result Bool E) → gives text r → ParsesBool text r)
    → (given : Option Text) (r : Option Bool) (is_set : Bool) → (given ≡ None → r ≡ None) → ((text : Text) → given ≡ Some text → ReadsOne gives text r)
    → is_set ≡ unwrap_or r false → IsFlag given is_set
flag_read {E} gives parses None r true none value is =
    absurd (true≢false (is ∙ ap (λ o. unwrap_or o false) (none refl)))
flag_read {E} gives parses None r false none value is =
    (λ yes. absurd (true≢false (sym yes)), λ e. let bad : ◌≡◌ {A = Option Text} None (Some true_text) = e in cc)
flag_read {E} gives parses (Some t) (Some true) true none value is = (λ _. ap Some (parses t (Ok true) (value t refl)), λ _. refl)
flag_read {E} gives parses (Some t) (Some true) false none value is = absurd (true≢false (sym is))
flag_read {E} gives parses (Some t) (Some false) true none value is = absurd (true≢false is)
flag_read {E} gives parses (Some t) (Some false) false none value is =
    let other = parses t (Ok false) (value t refl) in
    (λ yes. absurd (true≢false (sym yes)), λ e. let same : t ≡ true_text = cc in cc)
flag_read {E} gives parses (Some t) None true none value is = absurd (true≢false is)
flag_read {E} gives parses (Some t) None false none value is =
    let got = value t refl in
    (λ yes. absurd (true≢false (sym yes)), λ e. absurd ((parses t (Err got.0) got.1).0 (let same : t ≡ true_text = cc in same)))
