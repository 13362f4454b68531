-- Where the first NUL of a text stands as the text grows.
use Rattle.std.proofs.Common.{◌≡◌, ℕ, zero, suc, ◌<◌, ◌≤◌, arith, Bool, true, false, cond, ◌==◌, ◌||◌, List, [], ◌∷◌, ◌++◌, length, take, Option, Some, None}
use Rattle.std.proofs.Common.{sym, ap, ◌∙◌, refl, take-take, true≢false}
use Rattle.std.specs.Prelude.{option_map, slice_index}
use Rattle.std.proofs.lemmas.Bool.{false_from_ne_true, or_parts, eqb-true}
use Rattle.mail_world.specs.Malformed.{nul}
use Rattle.mail_world.specs.Text.{lf, has_byte, place_of}
use Rattle.mbox_check.specs.declared.found.NulAt.{NulAt}
use Rattle.mbox_check.specs.Form.{IsFirstNul, TellsNul}
use Rattle.mbox_check.proofs.Breaks.{take_prefix}

abbrev pub nul_in : List ℕ → Option ℕ
nul_in text = place_of (nul ∷ []) text

nul_cons : (b : ℕ) (text : List ℕ) (t : Bool) → (nul == b) ≡ t → nul_in (b ∷ text) ≡ cond t (Some 0) (option_map (λ n. suc n) (nul_in text))
nul_cons b text true e = rw e refl
nul_cons b text false e = rw e refl

other_by : (b : ℕ) (t : Bool) → (nul == b) ≡ t → (b == nul) ≡ false → t ≡ false
other_by b true e f = absurd (true≢false (ap (λ c. c == nul) (eqb-true nul b e) ∙ f))
other_by b false e f = refl

nul_other : (b : ℕ) (text : List ℕ) → (b == nul) ≡ false → nul_in (b ∷ text) ≡ option_map (λ n. suc n) (nul_in text)
nul_other b text e = nul_cons b text false (other_by b (nul == b) refl e)

pub nul_alone : (b : ℕ) → (b == nul) ≡ false → nul_in (b ∷ []) ≡ None
nul_alone b e = nul_other b [] e

-- ---- it stays the first

mapped : (o r : Option ℕ) (p : ℕ) → ((q : ℕ) → o ≡ Some q → r ≡ Some q) → option_map (λ n. suc n) o ≡ Some p → option_map (λ n. suc n) r ≡ Some p
mapped None r p ih e = cc
mapped (Some q) r p ih e = ap (option_map (λ n. suc n)) (ih q refl) ∙ e

more_by : (b : ℕ) (text more : List ℕ) (p : ℕ) (t : Bool) → (nul == b) ≡ t → ((q : ℕ) → nul_in text ≡ Some q → nul_in (text ++ more) ≡ Some q)
    → nul_in (b ∷ text) ≡ Some p → nul_in (b ∷ (text ++ more)) ≡ Some p
more_by b text more p true e ih h = nul_cons b (text ++ more) true e ∙ sym (nul_cons b text true e) ∙ h
more_by b text more p false e ih h =
    nul_cons b (text ++ more) false e ∙ mapped (nul_in text) (nul_in (text ++ more)) p ih (sym (nul_cons b text false e) ∙ h)

nul_more : (text more : List ℕ) (p : ℕ) → nul_in text ≡ Some p → nul_in (text ++ more) ≡ Some p
nul_more [] more p e = cc
nul_more (b ∷ text) more p e = more_by b text more p (nul == b) refl (λ q h. nul_more text more q h) e

within_by : (o : Option ℕ) (n p : ℕ) → ((q : ℕ) → o ≡ Some q → q < n) → option_map (λ k. suc k) o ≡ Some p → p < suc n
within_by None n p ih e = cc
within_by (Some q) n p ih e = let low : q < n = ih q refl in let is : suc q ≡ p = cc in omega (arith, low, is)

within_cons : (b : ℕ) (text : List ℕ) (p : ℕ) (t : Bool) → (nul == b) ≡ t → ((q : ℕ) → nul_in text ≡ Some q → q < length text) → nul_in (b ∷ text) ≡ Some p
    → p < suc (length text)
within_cons b text p true e ih h = let whole = sym (nul_cons b text true e) ∙ h in let is : 0 ≡ p = cc in omega (arith, is)
within_cons b text p false e ih h = within_by (nul_in text) (length text) p ih (sym (nul_cons b text false e) ∙ h)

pub nul_within : (text : List ℕ) (p : ℕ) → nul_in text ≡ Some p → p < length text
nul_within [] p e = cc
nul_within (b ∷ text) p e = within_cons b text p (nul == b) refl (λ q h. nul_within text q h) e

-- ---- none yet

unmapped : (o : Option ℕ) → option_map (λ n. suc n) o ≡ None → o ≡ None
unmapped None e = refl
unmapped (Some n) e = cc

rest_has_none : (b : ℕ) (text : List ℕ) (t : Bool) → (nul == b) ≡ t → nul_in (b ∷ text) ≡ None → ((nul == b) ≡ false) × (nul_in text ≡ None)
rest_has_none b text true e h = let found = sym (nul_cons b text true e) ∙ h in cc
rest_has_none b text false e h = (e, unmapped (nul_in text) (sym (nul_cons b text false e) ∙ h))

pub none_after : (text more : List ℕ) → nul_in text ≡ None → nul_in more ≡ None → nul_in (text ++ more) ≡ None
none_after [] more e h = h
none_after (b ∷ text) more e h =
    let rest = rest_has_none b text (nul == b) refl e in
    nul_cons b (text ++ more) false rest.0 ∙ ap (option_map (λ n. suc n)) (none_after text more rest.1 h)

pub nul_after_none : (text : List ℕ) → nul_in text ≡ None → nul_in (text ++ nul ∷ []) ≡ Some (length text)
nul_after_none [] e = refl
nul_after_none (b ∷ text) e =
    let rest = rest_has_none b text (nul == b) refl e in
    nul_cons b (text ++ nul ∷ []) false rest.0 ∙ ap (option_map (λ n. suc n)) (nul_after_none text rest.1)

-- ---- bytes that are neither LF nor NUL

pub free_before : (text : List ℕ) (k : ℕ) → ((j : ℕ) → j < k → ¬ ((slice_index text j == lf || slice_index text j == nul) ≡ true))
    → (has_byte (take k text) lf ≡ false) × (nul_in (take k text) ≡ None)
free_before text zero p = (refl, refl)
free_before [] (suc k) p = (refl, refl)
free_before (b ∷ text) (suc k) p =
    let other = or_parts (b == lf) (b == nul) (false_from_ne_true (b == lf || b == nul) (p 0 (omega arith))) in
    let rest = free_before text k (λ j q. p (suc j) (omega arith)) in
    (rw (other.0) (rest.0), nul_other b (take k text) other.1 ∙ ap (option_map (λ n. suc n)) rest.1)

-- ---- what is told

pub tells_more : (text more : List ℕ) (told : NulAt) → IsFirstNul text told → IsFirstNul (text ++ more) told
tells_more text more told h =
    let low : suc h.p ≤ length text = nul_within text h.p h.first in
    let same : take (suc h.p) text ≡ take (suc h.p) (text ++ more) =
    ap (λ (l : List ℕ). take (suc h.p) l) (sym (take_prefix text more)) ∙ take-take (suc h.p) (length text) (text ++ more) low in record {
      p = h.p;
      number = h.number;
      s = h.s;
      first = nul_more text more h.p h.first;
      within = record {
        more = h.within.more;
        before = h.within.before;
        last = h.within.last;
        is = rw (← same) (h.within.is);
        numbered = h.within.numbered;
        starts = h.within.starts;
        begun = h.within.begun;
      };
      is = h.is;
    }

-- bytes without NUL change nothing
pub tells_on : (text more : List ℕ) (told : Option NulAt) → nul_in more ≡ None → TellsNul text told → TellsNul (text ++ more) told
tells_on text more None e h = none_after text more h e
tells_on text more (Some told) e h = tells_more text more told h
