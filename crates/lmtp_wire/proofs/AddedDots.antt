-- A message with its dots doubled, run by run.
use Rattle.std.proofs.Common.{◌≡◌, ℕ, suc, ◌+◌, List, [], ◌∷◌, ◌++◌, take, drop, Bool, true, false, cond, ◌&&◌, ◌==◌, Option, Some, None, length, subst}
use Rattle.std.proofs.Common.{length-append, append_assoc, take_all, length-drop, ◌-◌, ◌≤◌, refl, sym, ap, ◌∙◌, arith}
use Rattle.std.specs.Prelude.{option_map}
use Rattle.std.proofs.lemmas.Bool.Decides.{nat_tests}
use Rattle.mail_world.proofs.Shortest.{same_window}
use Rattle.lmtp_wire.specs.Runs.{CutsRun}
use Rattle.mail_world.specs.Text.{cr, lf, crlf, place_of, begins_with}
use Rattle.mail_world.specs.Data.{dot, with_dots, stuffed}
use Rattle.mail_world.proofs.Places.{place_of_stands, begins_with-prefix}
use Rattle.memchr.specs.Find.{FindsNeedle}
use Rattle.lmtp_wire.proofs.Finding.{finds_place}

-- CRLF and a dot
abbrev pub dotted : List ℕ
dotted = cr ∷ lf ∷ dot ∷ []

flip : (x y : ℕ) → (x == y) ≡ (y == x)
flip x y = grind (arith, nat_tests)

regroup : (x y z : Bool) → x && (y && (z && true)) ≡ x && y && z
regroup true true true = refl
regroup true true false = refl
regroup true false z = refl
regroup false y z = refl

-- where the definitions double a dot, CRLF and a dot stand
same_test : (a b c : ℕ) (t : List ℕ) → begins_with dotted (a ∷ b ∷ c ∷ t) ≡ (a == cr) && (b == lf) && (c == dot)
same_test a b c t = regroup (cr == a) (lf == b) (dot == c) ∙ rw (flip cr a, flip lf b, flip dot c) refl

none_by : (x : Bool) (a b c : ℕ) (text : List ℕ) (o : Option ℕ) → begins_with dotted (a ∷ b ∷ c ∷ text) ≡ x → cond x (Some 0) (option_map (λ n. suc n) o) ≡ None
    → (o ≡ None → with_dots b c text ≡ text) → with_dots a b (c ∷ text) ≡ c ∷ text
none_by true a b c text o e f ih = cc
none_by false a b c text (Some n) e f ih = cc
none_by false a b c text None e f ih =
    ap (λ x. cond x (dot ∷ c ∷ with_dots b c text) (c ∷ with_dots b c text)) (sym (same_test a b c text) ∙ e) ∙ ap (λ l. c ∷ l) (ih refl)

pub no_dots : (a b : ℕ) (text : List ℕ) → place_of dotted (a ∷ b ∷ text) ≡ None → with_dots a b text ≡ text
no_dots a b [] e = refl
no_dots a b (c ∷ text) e = none_by (begins_with dotted (a ∷ b ∷ c ∷ text)) a b c text (place_of dotted (b ∷ c ∷ text)) refl e (λ h. no_dots b c text h)

-- the text with the dot at its first such place doubled
abbrev doubled_at : ℕ → List ℕ → List ℕ
doubled_at n text = take n text ++ dot ∷ dot ∷ with_dots lf dot (drop (n + 1) text)

both : (x y z : Bool) → x && y && z ≡ true → (y ≡ true) × (z ≡ true)
both true true true e = (refl, refl)
both true true false e = cc
both true false z e = cc
both false y z e = cc

dot_here : (a b c : ℕ) (text : List ℕ) → (a == cr) && (b == lf) && (c == dot) ≡ true → with_dots a b (c ∷ text) ≡ doubled_at 0 (c ∷ text)
dot_here a b c text e =
    let ends = both (a == cr) (b == lf) (c == dot) e in
    let b_is : b ≡ lf = grind (arith, nat_tests, ends.0) in
    let c_is : c ≡ dot = grind (arith, nat_tests, ends.1) in
    ap (λ x. cond x (dot ∷ c ∷ with_dots b c text) (c ∷ with_dots b c text)) e ∙ ap (λ y. dot ∷ c ∷ with_dots y c text) b_is
    ∙ ap (λ y. dot ∷ y ∷ with_dots lf y text) c_is

some_by : (x : Bool) (a b c : ℕ) (text : List ℕ) (o : Option ℕ) (n : ℕ) → begins_with dotted (a ∷ b ∷ c ∷ text) ≡ x
    → cond x (Some 0) (option_map (λ n. suc n) o) ≡ Some n
    → ((m : ℕ) → o ≡ Some m → with_dots b c text ≡ doubled_at m text) → with_dots a b (c ∷ text) ≡ doubled_at n (c ∷ text)
some_by true a b c text o n e f ih =
    let first : 0 ≡ n = cc in
    let P : ℕ → Type 0 = λ k. with_dots a b (c ∷ text) ≡ doubled_at k (c ∷ text) in
    subst P first (dot_here a b c text (sym (same_test a b c text) ∙ e))
some_by false a b c text None n e f ih = cc
some_by false a b c text (Some m) n e f ih =
    let next : suc m ≡ n = cc in
    let P : ℕ → Type 0 = λ k. with_dots a b (c ∷ text) ≡ doubled_at k (c ∷ text) in
    subst P next (ap (λ x. cond x (dot ∷ c ∷ with_dots b c text) (c ∷ with_dots b c text)) (sym (same_test a b c text) ∙ e) ∙ ap (λ l. c ∷ l) (ih m refl)
    ∙ ap (λ k. c ∷ (take m text ++ dot ∷ dot ∷ with_dots lf dot (drop k (c ∷ text)))) (let r : suc (m + 1) ≡ suc m + 1 = omega arith in r))

pub one_dot : (a b : ℕ) (text : List ℕ) (n : ℕ) → place_of dotted (a ∷ b ∷ text) ≡ Some n → with_dots a b text ≡ doubled_at n text
one_dot a b [] n e = let at = place_of_stands dotted (a ∷ b ∷ []) n e in
    absurd (omega (arith, ap length at.whole, length-append (at.prefix ++ dotted) at.rest, length-append at.prefix dotted))
one_dot a b (c ∷ text) n e = some_by (begins_with dotted (a ∷ b ∷ c ∷ text)) a b c text (place_of dotted (b ∷ c ∷ text)) n refl e (λ m h. one_dot b c text m h)

-- after a doubled dot, or anything else that no CRLF ends
later : (o : Option ℕ) → option_map (λ n. suc n) (option_map (λ n. suc n) o) ≡ option_map (λ n. suc (suc n)) o
later None = refl
later (Some n) = refl

after_dot : (text : List ℕ) → place_of dotted (lf ∷ dot ∷ text) ≡ option_map (λ n. suc (suc n)) (place_of dotted text)
after_dot text = later (place_of dotted text)

-- a turn of the loop: up to the next dot, and what is left after it
pub next_run : (text : List ℕ) (n : ℕ) → place_of dotted text ≡ Some n
    → with_dots lf dot text ≡ take (n + 2) text ++ dot ∷ dot ∷ with_dots lf dot (drop (n + 3) text)
next_run text n e =
    one_dot lf dot text (n + 2) (after_dot text ∙ ap (λ o. option_map (λ n. suc (suc n)) o) e
    ∙ ap (λ k. Some k) (let r : suc (suc n) ≡ n + 2 = omega arith in r))
    ∙ ap (λ k. take (n + 2) text ++ dot ∷ dot ∷ with_dots lf dot (drop k text)) (let r : n + 2 + 1 ≡ n + 3 = omega arith in r)

pub last_run : (text : List ℕ) → place_of dotted text ≡ None → with_dots lf dot text ≡ text
last_run text e = no_dots lf dot text (after_dot text ∙ ap (λ o. option_map (λ n. suc (suc n)) o) e)

-- a search for the next dot
rest_of : (k : ℕ) (text : List ℕ) → take (length text - k) (drop k text) ≡ drop k text
rest_of k text = take_all (length text - k) (drop k text) (omega (arith, length-drop k text))

pub run_ended : (text : List ℕ) (r : Option ℕ) → r ≡ None → FindsNeedle text dotted 0 r → with_dots lf dot text ≡ text
run_ended text r none h = last_run text (sym (finds_place cr (lf ∷ dot ∷ []) text r h) ∙ none)

pub cuts_run : (text : List ℕ) (r : Option ℕ) (n : ℕ) → r ≡ Some n → n + 3 ≤ length text → FindsNeedle text dotted 0 r
    → CutsRun text (take (n + 2) text) (take (length text - (n + 3)) (drop (n + 3) text))
cuts_run text r n some fits h = record {
  whole = next_run text n (sym (finds_place cr (lf ∷ dot ∷ []) text r h) ∙ some)
      ∙ ap (λ l. take (n + 2) text ++ dot ∷ dot ∷ with_dots lf dot l) (sym (rest_of (n + 3) text));
  shorter = rw (rest_of (n + 3) text) (omega (arith, length-drop (n + 3) text));
}

-- the byte before the last counts only where it is CR
-- a message that begins with a dot, or doesn't
pub dot_first : (text : List ℕ) → begins_with (dot ∷ []) text ≡ true → with_dots cr lf text ≡ dot ∷ with_dots lf dot text
dot_first text e =
    let whole : text ≡ dot ∷ drop 1 text = begins_with-prefix (dot ∷ []) text e in
    ap (λ l. with_dots cr lf l) whole ∙ ap (λ l. dot ∷ dot ∷ l) (same_window lf dot dot (drop 1 text) refl refl)
    ∙ ap (λ l. dot ∷ with_dots lf dot l) (sym whole)

other_by : (x : Bool) (b : ℕ) (text : List ℕ) → (dot == b) ≡ x → x && true ≡ false → with_dots cr lf (b ∷ text) ≡ with_dots lf dot (b ∷ text)
other_by true b text e f = cc
other_by false b text e f =
    ap (λ t. cond t (dot ∷ b ∷ with_dots lf b text) (b ∷ with_dots lf b text)) (flip b dot ∙ e) ∙ ap (λ l. b ∷ l) (same_window lf dot b text refl refl)

pub no_dot_first : (text : List ℕ) → begins_with (dot ∷ []) text ≡ false → with_dots cr lf text ≡ with_dots lf dot text
no_dot_first [] e = refl
no_dot_first (b ∷ text) e = other_by (dot == b) b text refl e

-- the last run, and the end
pub all_added : (old done message rest new : List ℕ) → done ++ with_dots lf dot rest ≡ old ++ with_dots cr lf message → with_dots lf dot rest ≡ rest
    → new ≡ (done ++ rest) ++ dot ∷ crlf → new ≡ old ++ stuffed message
unfolding stuffed
all_added old done message rest new e last is =
    is ∙ ap (λ l. (done ++ l) ++ dot ∷ crlf) (sym last) ∙ ap (λ l. l ++ dot ∷ crlf) e ∙ append_assoc old (with_dots cr lf message) (dot ∷ crlf)
