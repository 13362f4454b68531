-- What mends bytes, with bytes after them.
use Rattle.std.proofs.Common.{◌≡◌, ◌⊎◌, ℕ, ◌-◌, List, [], ◌∷◌, ◌++◌, length, Bool, true, false, cond, ◌==◌, inl, inr, refl, sym, ap, ◌∙◌, subst, append_assoc, append-nil, arith}
use Rattle.std.specs.Prelude.{codes, nat_le, ⊤}
use Rattle.std.specs.Str.{byte}
use Rattle.std.proofs.lemmas.Bool.Decides.{eqb_tells}
use Rattle.std.proofs.lemmas.Bool.{eq-eqb, le-leb}
use Rattle.mail_world.specs.Text.{lf, IsOneLine}
use Rattle.mail_world.specs.FromLines.{missing_first, missing_after}
use Rattle.mail_world.specs.Endings.{Part, F, Fr, Fro, From, Ending, Empty, Begun, InFromLine, NoLf, OneLf, TwoLf}
use Rattle.mail_world.specs.Endings.{from_line_room, in_line, next, ending_from, ending, part_rest, mends, mended}
use Rattle.mail_world.proofs.OneLine.{one_line-tail, head_byte, literal}
use Rattle.mail_world.proofs.Endings.{IsMissing, IsSoundEnd, sound_next, sound, ending-append}
use Rattle.mail_lives.specs.ReadAs.{with_mended}

-- in the midst of a line
abbrev pub IsInText : Ending → Type 0
IsInText Empty = ⊥
IsInText (Begun part) = ⊤
IsInText (InFromLine room missing) = ⊤
IsInText NoLf = ⊤
IsInText OneLf = ⊥
IsInText TwoLf = ⊥

-- the text is within a From line, or is one
pub record IsFromLine (text : List ℕ) : Type 0 where
  pub rest : List ℕ
  pub whole : codes "From " ++ rest ≡ text

abbrev pub part_text : Part → List ℕ
part_text F = codes "F"
part_text Fr = codes "Fr"
part_text Fro = codes "Fro"
part_text From = codes "From"

pub part_whole : (part : Part) (more : List ℕ) → part_text part ++ (part_rest part ++ more) ≡ codes "From " ++ more
part_whole F more = refl
part_whole Fr more = refl
part_whole Fro more = refl
part_whole From more = refl

byte_is : (b c : ℕ) → (b == c) ≡ true → c ≡ b
byte_is b c h = elim (eqb_tells b c) [ inl same ↦ sym same.1 | inr other ↦ let not' : (b == c) ≡ false = other.0 in cc ]

stays_in : (b : ℕ) → (b == lf) ≡ false → in_line b ≡ NoLf
stays_in b h = rw h refl

-- ---- byte by byte

step_at : (e : Ending) (c : ℕ) (more : List ℕ) (x : ℕ) (xs : List ℕ) → mends e ≡ x ∷ xs → mends (next e x) ≡ xs
    → mends e ≡ c ∷ more → mends (next e c) ≡ more
step_at e c more x xs is goes given =
    let both : x ∷ xs ≡ c ∷ more = sym is ∙ given in
    let same : x ≡ c = cc in
    let rest : xs ≡ more = cc in
    subst (λ y. mends (next e y) ≡ more) same (goes ∙ rest)

-- what was missing has room without its first byte
room_left : (room m : ℕ) (missing : List ℕ) → IsMissing room (m ∷ missing) → nat_le (length missing) (room - 1) ≡ true
room_left room m missing h = let fits = h.fits in le-leb (length missing) (room - 1) (omega (arith, fits))

from_line_step : (room m : ℕ) (missing : List ℕ) → IsMissing room (m ∷ missing)
    → mends (next (InFromLine room (m ∷ missing)) m) ≡ missing ++ lf ∷ lf ∷ []
from_line_step room m missing h =
    let no_lf : (m == lf) ≡ false = head_byte m missing h.short.one in
    let same : (m == m) ≡ true = eq-eqb m m refl in
    let room' : nat_le (length missing) (room - 1) ≡ true = room_left room m missing h in
    rw (no_lf, same, room') refl

step : (e : Ending) (c : ℕ) (more : List ℕ) → IsSoundEnd e → mends e ≡ c ∷ more → mends (next e c) ≡ more
step Empty c more s h = cc
step (Begun F) c more s h = step_at (Begun F) c more (byte "r") (codes "om " ++ (missing_first ++ lf ∷ lf ∷ [])) refl refl h
step (Begun Fr) c more s h = step_at (Begun Fr) c more (byte "o") (codes "m " ++ (missing_first ++ lf ∷ lf ∷ [])) refl refl h
step (Begun Fro) c more s h = step_at (Begun Fro) c more (byte "m") (codes " " ++ (missing_first ++ lf ∷ lf ∷ [])) refl refl h
step (Begun From) c more s h = step_at (Begun From) c more (byte " ") (missing_first ++ lf ∷ lf ∷ []) refl refl h
step (InFromLine room []) c more s h = step_at (InFromLine room []) c more lf (lf ∷ []) refl refl h
step (InFromLine room (m ∷ missing)) c more s h =
    step_at (InFromLine room (m ∷ missing)) c more m (missing ++ lf ∷ lf ∷ []) refl (from_line_step room m missing s) h
step NoLf c more s h = step_at NoLf c more lf (lf ∷ []) refl refl h
step OneLf c more s h = step_at OneLf c more lf [] refl refl h
step TwoLf c more s h = cc

-- after a part of it the rest mends
pub mends_rest : (e : Ending) (q rest : List ℕ) → IsSoundEnd e → mends e ≡ q ++ rest → mends (ending_from e q) ≡ rest
mends_rest e [] rest s h = h
mends_rest e (c ∷ q) rest s h = mends_rest (next e c) q rest (sound_next e c s) (step e c (q ++ rest) s h)

-- nothing is missing then, so that a letter may begin
pub mended_ends : (bytes : List ℕ) → mended (with_mended bytes) ≡ []
mended_ends bytes =
    ap mends (ending-append Empty bytes (mended bytes))
    ∙ mends_rest (ending bytes) (mended bytes) [] (sound bytes) (sym (append-nil (mended bytes)))

-- bytes that are mended in part are read as they were
pub mended_in_part : (bytes q rest : List ℕ) → mended bytes ≡ q ++ rest → with_mended (bytes ++ q) ≡ with_mended bytes
mended_in_part bytes q rest h =
    ap (λ t. (bytes ++ q) ++ t) (ap mends (ending-append Empty bytes q)
    ∙ mends_rest (ending bytes) q rest (sound bytes) h)
    ∙ append_assoc bytes q rest
    ∙ ap (λ t. bytes ++ t) (sym h)

-- where a letter may begin, it doesn't matter what is before
pub begins_anew : (e : Ending) (bytes : List ℕ) → mends e ≡ [] → ending_from e (byte "F" ∷ bytes) ≡ ending (byte "F" ∷ bytes)
begins_anew Empty bytes h = refl
begins_anew (Begun F) bytes h = cc
begins_anew (Begun Fr) bytes h = cc
begins_anew (Begun Fro) bytes h = cc
begins_anew (Begun From) bytes h = cc
begins_anew (InFromLine room []) bytes h = cc
begins_anew (InFromLine room (m ∷ missing)) bytes h = cc
begins_anew NoLf bytes h = cc
begins_anew OneLf bytes h = cc
begins_anew TwoLf bytes h = refl

pub mended_after : (bytes more : List ℕ) → mended bytes ≡ []
    → with_mended (bytes ++ byte "F" ∷ more) ≡ bytes ++ with_mended (byte "F" ∷ more)
mended_after bytes more h =
    ap (λ t. (bytes ++ byte "F" ∷ more) ++ t)
    (ap mends (ending-append Empty bytes (byte "F" ∷ more) ∙ begins_anew (ending bytes) more h))
    ∙ append_assoc bytes (byte "F" ∷ more) (mended (byte "F" ∷ more))

-- ---- within a line

in_pick : (t : Bool) (e e' : Ending) → IsInText e → IsInText e' → IsInText (cond t e e')
in_pick true e e' h k = h
in_pick false e e' h k = k

in_other : (b : ℕ) → (b == lf) ≡ false → IsInText (in_line b)
in_other b h = rw h tt

pub next_in : (e : Ending) (b : ℕ) → (b == lf) ≡ false → IsInText (next e b)
next_in Empty b h = in_pick (b == byte "F") (Begun F) (in_line b) tt (in_other b h)
next_in (Begun F) b h = in_pick (b == byte "r") (Begun Fr) (in_line b) tt (in_other b h)
next_in (Begun Fr) b h = in_pick (b == byte "o") (Begun Fro) (in_line b) tt (in_other b h)
next_in (Begun Fro) b h = in_pick (b == byte "m") (Begun From) (in_line b) tt (in_other b h)
next_in (Begun From) b h = in_pick (b == byte " ") (InFromLine from_line_room missing_first) (in_line b) tt (in_other b h)
next_in (InFromLine room missing) b h =
    let after : List ℕ = missing_after missing b in
    rw h (in_pick (nat_le (length after) (room - 1)) (InFromLine (room - 1) after) NoLf tt tt)
next_in NoLf b h = in_other b h
next_in OneLf b h = rw h tt
next_in TwoLf b h = in_pick (b == byte "F") (Begun F) (cond (b == lf) TwoLf NoLf) tt (rw h tt)

line_in : (e : Ending) (line : List ℕ) → IsOneLine line → IsInText e → IsInText (ending_from e line)
line_in e [] one h = h
line_in e (b ∷ line) one h = line_in (next e b) line (one_line-tail b line one) (next_in e b (head_byte b line one))

in_ends : (e : Ending) → IsInText e → next e lf ≡ OneLf
in_ends Empty h = absurd h
in_ends (Begun F) h = refl
in_ends (Begun Fr) h = refl
in_ends (Begun Fro) h = refl
in_ends (Begun From) h = refl
in_ends (InFromLine room missing) h = refl
in_ends NoLf h = refl
in_ends OneLf h = absurd h
in_ends TwoLf h = absurd h

-- a line that isn't empty, with its LF
pub line_after : (e : Ending) (b : ℕ) (line : List ℕ) → IsOneLine (b ∷ line) → ending_from e ((b ∷ line) ++ lf ∷ []) ≡ OneLf
line_after e b line one =
    ending-append e (b ∷ line) (lf ∷ [])
    ∙ in_ends (ending_from e (b ∷ line)) (line_in (next e b) line (one_line-tail b line one) (next_in e b (head_byte b line one)))

-- ---- a part of a line

stays : (line : List ℕ) → IsOneLine line → ending_from NoLf line ≡ NoLf
stays [] one = refl
stays (b ∷ line) one = ap (λ e. ending_from e line) (stays_in b (head_byte b line one)) ∙ stays line (one_line-tail b line one)

-- after a line
pub part_after_line : (b : ℕ) (line : List ℕ) → IsOneLine (b ∷ line) → ending_from OneLf (b ∷ line) ≡ NoLf
part_after_line b line one =
    let first : next OneLf b ≡ NoLf = rw (head_byte b line one) refl in
    ap (λ e. ending_from e line) first ∙ stays line (one_line-tail b line one)

-- after `From ` where a letter may begin: the line is filled up, or too long for that
abbrev IsAfterWord : Ending → Type 0
IsAfterWord Empty = ⊥
IsAfterWord (Begun part) = ⊥
IsAfterWord (InFromLine room missing) = ⊤
IsAfterWord NoLf = ⊤
IsAfterWord OneLf = ⊥
IsAfterWord TwoLf = ⊥

after_pick : (t : Bool) (e e' : Ending) → IsAfterWord e → IsAfterWord e' → IsAfterWord (cond t e e')
after_pick true e e' h k = h
after_pick false e e' h k = k

after_next : (e : Ending) (b : ℕ) → (b == lf) ≡ false → IsAfterWord e → IsAfterWord (next e b)
after_next Empty b no_lf h = absurd h
after_next (Begun part) b no_lf h = absurd h
after_next (InFromLine room missing) b no_lf h =
    let after : List ℕ = missing_after missing b in
    rw no_lf (after_pick (nat_le (length after) (room - 1)) (InFromLine (room - 1) after) NoLf tt tt)
after_next NoLf b no_lf h = rw no_lf tt
after_next OneLf b no_lf h = absurd h
after_next TwoLf b no_lf h = absurd h

after_line : (e : Ending) (line : List ℕ) → IsOneLine line → IsAfterWord e → IsAfterWord (ending_from e line)
after_line e [] one h = h
after_line e (b ∷ line) one h = after_line (next e b) line (one_line-tail b line one) (after_next e b (head_byte b line one) h)

-- what mends it ends the line, and is one of its own but for that
abbrev pub EndsLine : List ℕ → Type 0
EndsLine mending = (left : List ℕ) × (mending ≡ left ++ lf ∷ lf ∷ []) × IsOneLine left

after_mends : (e : Ending) → IsAfterWord e → IsSoundEnd e → EndsLine (mends e)
after_mends Empty h s = absurd h
after_mends (Begun part) h s = absurd h
after_mends (InFromLine room missing) h s = (missing, refl, s.short.one)
after_mends NoLf h s = ([], refl, literal [] refl)
after_mends OneLf h s = absurd h
after_mends TwoLf h s = absurd h

pub from_line_mended : (head : List ℕ) → IsOneLine head → EndsLine (mended (codes "From " ++ head))
from_line_mended head one =
    after_mends (ending (codes "From " ++ head)) (after_line (InFromLine from_line_room missing_first) head one tt) (sound (codes "From " ++ head))

-- after an empty line
abbrev pub IsPartEnd : Ending → List ℕ → Type 0
IsPartEnd e text = (e ≡ NoLf) ⊎ (((part : Part) × (e ≡ Begun part) × (part_text part ≡ text)) ⊎ IsFromLine text)

goes_on : (t : Bool) (line : List ℕ) (part : Part) (b : ℕ) (text text' : List ℕ) → IsOneLine line → (b == lf) ≡ false
    → (t ≡ true → text' ≡ text)
    → IsPartEnd (ending_from (Begun part) line) text' → IsPartEnd (ending_from (cond t (Begun part) (in_line b)) line) text
goes_on true line part b text text' one h same ih = subst (λ (l : List ℕ). IsPartEnd (ending_from (Begun part) line) l) (same refl) ih
goes_on false line part b text text' one h same ih = inl (ap (λ e. ending_from e line) (stays_in b h) ∙ stays line one)

becomes_head : (t : Bool) (line : List ℕ) (b : ℕ) → IsOneLine line → (b == lf) ≡ false → (b == byte " ") ≡ t
    → IsPartEnd (ending_from (cond t (InFromLine from_line_room missing_first) (in_line b)) line) (codes "From" ++ b ∷ line)
becomes_head true line b one h e = inr (inr (record { rest = line; whole = ap (λ c. codes "From" ++ c ∷ line) (byte_is b (byte " ") e) }))
becomes_head false line b one h e = inl (ap (λ e. ending_from e line) (stays_in b h) ∙ stays line one)

begun_goes_on : (part : Part) (line : List ℕ) → IsOneLine line → IsPartEnd (ending_from (Begun part) line) (part_text part ++ line)
begun_goes_on part [] one = inr (inl (part, refl, sym (append-nil (part_text part))))
begun_goes_on F (b ∷ line) one =
    goes_on (b == byte "r") line Fr b (part_text F ++ b ∷ line) (part_text Fr ++ line) (one_line-tail b line one) (head_byte b line one)
    (λ t. ap (λ c. byte "F" ∷ c ∷ line) (byte_is b (byte "r") t)) (begun_goes_on Fr line (one_line-tail b line one))
begun_goes_on Fr (b ∷ line) one =
    goes_on (b == byte "o") line Fro b (part_text Fr ++ b ∷ line) (part_text Fro ++ line) (one_line-tail b line one) (head_byte b line one)
    (λ t. ap (λ c. byte "F" ∷ byte "r" ∷ c ∷ line) (byte_is b (byte "o") t)) (begun_goes_on Fro line (one_line-tail b line one))
begun_goes_on Fro (b ∷ line) one =
    goes_on (b == byte "m") line From b (part_text Fro ++ b ∷ line) (part_text From ++ line) (one_line-tail b line one) (head_byte b line one)
    (λ t. ap (λ c. byte "F" ∷ byte "r" ∷ byte "o" ∷ c ∷ line) (byte_is b (byte "m") t)) (begun_goes_on From line (one_line-tail b line one))
begun_goes_on From (b ∷ line) one = becomes_head (b == byte " ") line b (one_line-tail b line one) (head_byte b line one) refl

pub part_after_empty : (b : ℕ) (line : List ℕ) → IsOneLine (b ∷ line) → IsPartEnd (ending_from TwoLf (b ∷ line)) (b ∷ line)
part_after_empty b line one = begin_at (b == byte "F") refl
  where
    begin_at : (t : Bool) → (b == byte "F") ≡ t
        → IsPartEnd (ending_from (cond t (Begun F) (cond (b == lf) TwoLf NoLf)) line) (b ∷ line)
    begin_at true e =
        subst (λ c. IsPartEnd (ending_from (Begun F) line) (c ∷ line)) (byte_is b (byte "F") e) (begun_goes_on F line (one_line-tail b line one))
    begin_at false e =
        let first : cond (b == lf) TwoLf NoLf ≡ NoLf = rw (head_byte b line one) refl in
        inl (ap (λ e. ending_from e line) first ∙ stays line (one_line-tail b line one))
