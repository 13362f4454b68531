-- The form of a whole message says whether it is malformed.
use Rattle.std.proofs.Common.{◌≡◌, ℕ, ◌+◌, ◌<◌, ◌≤◌, arith, Bool, true, false, ◌||◌, ◌&&◌, ◌==◌, cond, nat_lt, List, [], ◌∷◌, refl, sym, ap, ap₂, ◌∙◌}
use Rattle.std.proofs.Common.{◌⊎◌, inl, inr, add_assoc, zero-add, add-zero}
use Rattle.std.specs.List.{list_any, onto_first}
use Rattle.std.proofs.lemmas.Bool.{eqb-true}
use Rattle.std.proofs.lemmas.Bool.Decides.{nat_tests}
use Rattle.mail_world.specs.declared.limits.TheConstants.{COUNTED_LINE_LIMIT, LONE_CR_COUNT}
use Rattle.mail_world.specs.Text.{cr, lf, space, tab, has_byte, begins, unix, lines}
use Rattle.mail_world.specs.Malformed.{nul, count_of, is_long, is_malformed}
use Rattle.mail_form.specs.declared.form.MessageForm.{MessageForm}
use Rattle.mail_form.specs.declared.form.MessageForm.TheVariants.{Empty, InLine, Malformed}
use Rattle.mail_form.specs.Forms.{after_count, next_by, form_next, form_after, ends_malformed, HasForm}
use Rattle.mail_form.proofs.Steps.{malformed_stays, short_count, long_count}

-- ---- a line that is too long, where the first one counts n before the text

abbrev weight : Bool → ℕ
weight t = cond t LONE_CR_COUNT 1

-- the text begins with a CR before an LF, with an LF, with a CR
abbrev long_by : ℕ → Bool → Bool → Bool → Bool → Bool → Bool → Bool
long_by n crlf is_lf same fresh more first = cond crlf same (cond is_lf (first || fresh) more)

abbrev long_from : ℕ → List ℕ → Bool
long_from n [] = nat_lt COUNTED_LINE_LIMIT n
long_from n (b ∷ text) =
    long_by n ((b == cr) && begins lf text) (b == lf) (long_from n text) (long_from 0 text) (long_from (n + weight (b == cr)) text)
    (nat_lt COUNTED_LINE_LIMIT n)

is_above : (n : ℕ) → COUNTED_LINE_LIMIT < n → nat_lt COUNTED_LINE_LIMIT n ≡ true
is_above n h = grind (arith, nat_tests, h)

is_below : (n : ℕ) → n ≤ COUNTED_LINE_LIMIT → nat_lt COUNTED_LINE_LIMIT n ≡ false
is_below n h = grind (arith, nat_tests, h)

long_already_by : (n : ℕ) (crlf is_lf same fresh more first : Bool) → same ≡ true → more ≡ true → first ≡ true
    → long_by n crlf is_lf same fresh more first ≡ true
long_already_by n true is_lf same fresh more first s m f = s
long_already_by n false true same fresh more first s m f = ap (λ (t : Bool). t || fresh) f
long_already_by n false false same fresh more first s m f = m

long_already : (n : ℕ) (text : List ℕ) → COUNTED_LINE_LIMIT < n → long_from n text ≡ true
long_already n [] h = is_above n h
long_already n (b ∷ text) h =
    long_already_by n ((b == cr) && begins lf text) (b == lf) (long_from n text) (long_from 0 text) (long_from (n + weight (b == cr)) text)
    (nat_lt COUNTED_LINE_LIMIT n) (long_already n text h) (long_already (n + weight (b == cr)) text (omega (arith, h))) (is_above n h)

-- ---- the definition's lines

abbrev any_from : ℕ → List (List ℕ) → Bool
any_from n [] = nat_lt COUNTED_LINE_LIMIT n
any_from n (l ∷ ls) = nat_lt COUNTED_LINE_LIMIT (n + count_of l) || list_any is_long ls

any_at_start : (ls : List (List ℕ)) → any_from 0 ls ≡ list_any is_long ls
any_at_start [] = is_below 0 (omega arith)
any_at_start (l ∷ ls) = ap (λ (m : ℕ). nat_lt COUNTED_LINE_LIMIT m || list_any is_long ls) (zero-add (count_of l))

or_none : (t : Bool) → t || false ≡ t
or_none true = refl
or_none false = refl

any_onto : (n b : ℕ) (ls : List (List ℕ)) → any_from n (onto_first b ls) ≡ any_from (n + weight (b == cr)) ls
any_onto n b [] =
    or_none (nat_lt COUNTED_LINE_LIMIT (n + (weight (b == cr) + 0)))
    ∙ ap (λ (m : ℕ). nat_lt COUNTED_LINE_LIMIT (n + m)) (add-zero (weight (b == cr)))
any_onto n b (l ∷ ls) =
    ap (λ (m : ℕ). nat_lt COUNTED_LINE_LIMIT m || list_any is_long ls) (sym (add_assoc n (weight (b == cr)) (count_of l)))

any_by : (n b : ℕ) (text : List ℕ) (crlf is_lf : Bool) (same fresh more : Bool) → any_from n (lines (unix text)) ≡ same
    → any_from 0 (lines (unix text)) ≡ fresh → any_from (n + weight (b == cr)) (lines (unix text)) ≡ more
    → (b == lf) ≡ is_lf
    → any_from n (lines (cond crlf (unix text) (b ∷ unix text)))
    ≡ long_by n crlf is_lf same fresh more (nat_lt COUNTED_LINE_LIMIT n)
any_by n b text true is_lf same fresh more s f m e = s
any_by n b text false true same fresh more s f m e =
    ap (λ (t : Bool). any_from n (cond t ([] ∷ lines (unix text)) (onto_first b (lines (unix text))))) e
    ∙ ap₂ (λ (k : ℕ) (t : Bool). nat_lt COUNTED_LINE_LIMIT k || t) (add-zero n) (sym (any_at_start (lines (unix text))) ∙ f)
any_by n b text false false same fresh more s f m e =
    ap (λ (t : Bool). any_from n (cond t ([] ∷ lines (unix text)) (onto_first b (lines (unix text))))) e
    ∙ any_onto n b (lines (unix text)) ∙ m

any_is : (n : ℕ) (text : List ℕ) → any_from n (lines (unix text)) ≡ long_from n text
any_is n [] = refl
any_is n (b ∷ text) =
    any_by n b text ((b == cr) && begins lf text) (b == lf) (long_from n text) (long_from 0 text) (long_from (n + weight (b == cr)) text)
    (any_is n text) (any_is 0 text) (any_is (n + weight (b == cr)) text) refl

-- ---- the machine

-- a CR that came last stands before the text
abbrev behind : Bool → List ℕ → List ℕ
behind after_cr text = cond after_cr (cr ∷ text) text

abbrev Says : ℕ → Bool → List ℕ → Type 0
Says n after_cr text = ends_malformed (form_after (InLine n after_cr) text) ≡ has_byte text nul || long_from n (behind after_cr text)

or_true : (t u : Bool) → u ≡ true → true ≡ t || u
or_true true u e = refl
or_true false u e = sym e

-- the line counts m then: it is too long, or the law holds of the rest
counted_so : (m : ℕ) (after_cr : Bool) (text : List ℕ) → (COUNTED_LINE_LIMIT < m) ⊎ (m ≤ COUNTED_LINE_LIMIT) → (m ≤ COUNTED_LINE_LIMIT → Says m after_cr text)
    → (COUNTED_LINE_LIMIT < m → long_from m (behind after_cr text) ≡ true)
    → ends_malformed (form_after (after_count m after_cr) text) ≡ has_byte text nul || long_from m (behind after_cr text)
counted_so m after_cr text (inl many) law long =
    ap (λ (form : MessageForm). ends_malformed (form_after form text)) (long_count m after_cr many)
    ∙ ap ends_malformed (malformed_stays text) ∙ or_true (has_byte text nul) _ (long many)
counted_so m after_cr text (inr few) law long =
    ap (λ (form : MessageForm). ends_malformed (form_after form text)) (short_count m after_cr few) ∙ law few

above_by : (m : ℕ) (t : Bool) → nat_lt COUNTED_LINE_LIMIT m ≡ t → (COUNTED_LINE_LIMIT < m) ⊎ (m ≤ COUNTED_LINE_LIMIT)
above_by m true e = inl (grind (arith, nat_tests, e))
above_by m false e = inr (grind (arith, nat_tests, e))

above_or_not : (m : ℕ) → (COUNTED_LINE_LIMIT < m) ⊎ (m ≤ COUNTED_LINE_LIMIT)
above_or_not m = above_by m (nat_lt COUNTED_LINE_LIMIT m) refl

behind_long : (m : ℕ) (after_cr : Bool) (text : List ℕ) → COUNTED_LINE_LIMIT < m → long_from m (behind after_cr text) ≡ true
behind_long m true text many = long_already m (cr ∷ text) many
behind_long m false text many = long_already m text many

-- a byte that is neither an end of a line nor a CR, by itself and behind a CR
plain_byte : (n b : ℕ) (text : List ℕ) → (b == lf) ≡ false → (b == cr) ≡ false → long_from n (b ∷ text) ≡ long_from (n + 1) text
plain_byte n b text el er =
    ap₂ (λ (l : Bool) (r : Bool). long_by n (r && begins lf text) l (long_from n text) (long_from 0 text) (long_from (n + weight r) text) (nat_lt COUNTED_LINE_LIMIT n)) el er

behind_cr : (n b : ℕ) (text : List ℕ) → (b == lf) ≡ false → long_from n (cr ∷ b ∷ text) ≡ long_from (n + LONE_CR_COUNT) (b ∷ text)
behind_cr n b text el =
    ap (λ (l : Bool). cond l (long_from n (b ∷ text)) (long_from (n + LONE_CR_COUNT) (b ∷ text))) el

-- one byte: which of the tests it passes, what the law says of the rest at each count
after_byte : (n b : ℕ) (after_cr : Bool) (text : List ℕ) (z l r : Bool) → (b == nul) ≡ z → (b == lf) ≡ l → (b == cr) ≡ r → n ≤ COUNTED_LINE_LIMIT
    → ((m : ℕ) (t : Bool) → m ≤ COUNTED_LINE_LIMIT → Says m t text)
    → ends_malformed (form_after (next_by n after_cr z l r) text) ≡ (z || has_byte text nul) || long_from n (behind after_cr (b ∷ text))
after_byte n b after_cr text true l r ez el er few law = ap ends_malformed (malformed_stays text)
after_byte n b false text false true r ez el er few law =
    let is : b ≡ lf = eqb-true b lf el in
    let rest : nat_lt COUNTED_LINE_LIMIT n || long_from 0 text ≡ long_from n (b ∷ text) =
    ap (λ (c : ℕ). long_from n (c ∷ text)) (sym is) in
    law 0 false (omega arith)
    ∙ ap (λ (t : Bool). has_byte text nul || t) (ap (λ (t : Bool). t || long_from 0 text) (sym (is_below n few)) ∙ rest)
after_byte n b true text false true r ez el er few law =
    let is : b ≡ lf = eqb-true b lf el in
    let rest : nat_lt COUNTED_LINE_LIMIT n || long_from 0 text ≡ long_from n (cr ∷ b ∷ text) =
    ap (λ (c : ℕ). long_from n (cr ∷ c ∷ text)) (sym is) in
    law 0 false (omega arith)
    ∙ ap (λ (t : Bool). has_byte text nul || t) (ap (λ (t : Bool). t || long_from 0 text) (sym (is_below n few)) ∙ rest)
after_byte n b false text false false true ez el er few law =
    let is : b ≡ cr = eqb-true b cr er in
    ap (λ (form : MessageForm). ends_malformed (form_after form text)) (short_count n true few)
    ∙ law n true few ∙ ap (λ (c : ℕ). has_byte text nul || long_from n (c ∷ text)) (sym is)
after_byte n b true text false false true ez el er few law =
    let is : b ≡ cr = eqb-true b cr er in
    counted_so (n + LONE_CR_COUNT) true text (above_or_not (n + LONE_CR_COUNT)) (law (n + LONE_CR_COUNT) true) (behind_long (n + LONE_CR_COUNT) true text)
    ∙ ap (λ (c : ℕ). has_byte text nul || long_from n (cr ∷ c ∷ text)) (sym is)
after_byte n b false text false false false ez el er few law =
    counted_so (n + 1) false text (above_or_not (n + 1)) (law (n + 1) false) (behind_long (n + 1) false text)
    ∙ ap (λ (t : Bool). has_byte text nul || t) (sym (plain_byte n b text el er))
after_byte n b true text false false false ez el er few law =
    let m : ℕ = n + LONE_CR_COUNT in
    counted_so (m + 1) false text (above_or_not (m + 1)) (law (m + 1) false) (behind_long (m + 1) false text)
    ∙ ap (λ (t : Bool). has_byte text nul || t) (sym (behind_cr n b text el ∙ plain_byte m b text el er))

says : (n : ℕ) (after_cr : Bool) (text : List ℕ) → n ≤ COUNTED_LINE_LIMIT → Says n after_cr text
says n true [] few = refl
says n false [] few = refl
says n after_cr (b ∷ text) few =
    after_byte n b after_cr text (b == nul) (b == lf) (b == cr) refl refl refl few (λ m t less. says m t text less)

says_at_start : (b : ℕ) (text : List ℕ) (blank : Bool) → ((b == space) || (b == tab)) ≡ blank
    → ends_malformed (form_after (cond blank Malformed (form_next (InLine 0 false) b)) text)
    ≡ blank || has_byte (b ∷ text) nul || list_any is_long (lines (unix (b ∷ text)))
says_at_start b text true e = ap ends_malformed (malformed_stays text)
says_at_start b text false e =
    says 0 false (b ∷ text) (omega arith)
    ∙ ap (λ (t : Bool). has_byte (b ∷ text) nul || t) (sym (any_is 0 (b ∷ text)) ∙ any_at_start (lines (unix (b ∷ text))))

pub says_malformed : (message : List ℕ) → ends_malformed (form_after Empty message) ≡ is_malformed message
unfolding is_malformed
says_malformed [] = refl
says_malformed (b ∷ text) = says_at_start b text ((b == space) || (b == tab)) refl

-- so the answer is that of the whole message
pub form_says : (form : MessageForm) (message : List ℕ) → HasForm form message → ends_malformed form ≡ is_malformed message
form_says form message h = ap ends_malformed h.is ∙ says_malformed message
