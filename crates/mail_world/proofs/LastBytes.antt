-- The last bytes tell how bytes end: whatever stands before them, it is as within a line.
use Rattle.std.proofs.Common.{◌≡◌, inl, inr, ℕ, zero, suc, ◌+◌, ◌-◌, ◌≤◌, List, [], ◌∷◌, ◌++◌, Bool, true, false, cond, ◌==◌, length, refl, sym, ap, ◌∙◌, subst, arith}
use Rattle.std.specs.Prelude.{nat_le, ⊤}
use Rattle.std.specs.Str.{byte}
use Rattle.std.proofs.lemmas.Bool.{leb-true, cases_Bool, eqb-true}
use Rattle.mail_world.specs.declared.limits.TheConstants.{TAIL_SIZE}
use Rattle.mail_world.specs.Text.{lf, space}
use Rattle.mail_world.specs.FromLines.{date, missing_first, missing_after}
use Rattle.mail_world.specs.Endings.{Part, F, Fr, Fro, From, Ending, Empty, Begun, InFromLine, NoLf, OneLf, TwoLf}
use Rattle.mail_world.specs.Endings.{from_line_room, in_from_line, in_line, next, ending_from, ending}
use Rattle.mail_world.proofs.Fillings.{IsShort, after_short}
use Rattle.mail_world.proofs.Endings.{IsMissing, IsSoundEnd, first_sound, sound, ending-append}

-- n bytes at most are read since an empty line stood before a part of `From `, or the bytes began
abbrev most_since : Part → ℕ
most_since F = 2
most_since Fr = 3
most_since Fro = 4
most_since From = 5

-- n bytes are read, and the last is within a line
abbrev IsIn : ℕ → Ending → Type 0
IsIn n Empty = ⊥
IsIn n (Begun part) = n ≤ most_since part
IsIn n (InFromLine room missing) = IsMissing room missing × (n + room ≤ 4095)
IsIn n NoLf = ⊤
IsIn n OneLf = ⊥
IsIn n TwoLf = ⊥

in_pick : (n : ℕ) (t : Bool) (e e' : Ending) → IsIn n e → IsIn n e' → IsIn n (cond t e e')
in_pick n true e e' h k = h
in_pick n false e e' h k = k

in_other : (n b : ℕ) → (b == lf) ≡ false → IsIn n (in_line b)
in_other n b no_lf = rw no_lf tt

in_within : (n room : ℕ) (missing : List ℕ) (t : Bool) → nat_le (length missing) (room - 1) ≡ t → IsShort 38 missing
    → room ≤ from_line_room → n + room ≤ 4095 → 1 ≤ room → IsIn (suc n) (cond t (InFromLine (room - 1) missing) NoLf)
in_within n room missing true e short most sum some =
    (record { short = short; fits = leb-true (length missing) (room - 1) e; most = omega (arith, most) }, omega (arith, sum, some))
in_within n room missing false e short most sum some = tt

-- without room the line is too long
no_room : (n : ℕ) (t : Bool) → IsIn n (in_from_line (0 - 1) (cond t date (space ∷ date)))
no_room n true = tt
no_room n false = tt

in_from : (n room : ℕ) (missing : List ℕ) (b : ℕ) → IsMissing room missing → n + room ≤ 4095
    → IsIn (suc n) (in_from_line (room - 1) (missing_after missing b))
in_from n zero [] b h k = no_room (suc n) (b == space)
in_from n zero (m ∷ missing) b h k = absurd (let fits = h.fits in omega (arith, fits))
in_from n (suc room) missing b h k =
    in_within n (suc room) (missing_after missing b) (nat_le (length (missing_after missing b)) (suc room - 1)) refl
    (after_short missing b h.short) h.most k (omega arith)

in_next : (n : ℕ) (e : Ending) (b : ℕ) → (b == lf) ≡ false → IsIn n e → IsIn (suc n) (next e b)
in_next n Empty b no_lf h = absurd h
in_next n (Begun F) b no_lf h = in_pick (suc n) (b == byte "r") (Begun Fr) (in_line b) (omega (arith, h)) (in_other (suc n) b no_lf)
in_next n (Begun Fr) b no_lf h = in_pick (suc n) (b == byte "o") (Begun Fro) (in_line b) (omega (arith, h)) (in_other (suc n) b no_lf)
in_next n (Begun Fro) b no_lf h = in_pick (suc n) (b == byte "m") (Begun From) (in_line b) (omega (arith, h)) (in_other (suc n) b no_lf)
in_next n (Begun From) b no_lf h =
    in_pick (suc n) (b == byte " ") (InFromLine from_line_room missing_first) (in_line b)
    (first_sound, omega (arith, h)) (in_other (suc n) b no_lf)
in_next n (InFromLine room missing) b no_lf h = rw no_lf (in_from n room missing b h.0 h.1)
in_next n NoLf b no_lf h = in_other (suc n) b no_lf
in_next n OneLf b no_lf h = absurd h
in_next n TwoLf b no_lf h = absurd h

-- with a byte that isn't LF, after one more at most
in_first : (n : ℕ) (e : Ending) (b : ℕ) → n ≤ 1 → (b == lf) ≡ false → IsSoundEnd e → IsIn (suc n) (next e b)
in_first n Empty b few no_lf h = in_pick (suc n) (b == byte "F") (Begun F) (in_line b) (omega (arith, few)) (in_other (suc n) b no_lf)
in_first n (Begun F) b few no_lf h = in_next n (Begun F) b no_lf (omega (arith, few))
in_first n (Begun Fr) b few no_lf h = in_next n (Begun Fr) b no_lf (omega (arith, few))
in_first n (Begun Fro) b few no_lf h = in_next n (Begun Fro) b no_lf (omega (arith, few))
in_first n (Begun From) b few no_lf h = in_next n (Begun From) b no_lf (omega (arith, few))
in_first n (InFromLine room missing) b few no_lf h =
    let most = h.most in
    in_next n (InFromLine room missing) b no_lf (h, omega (arith, few, most))
in_first n NoLf b few no_lf h = in_other (suc n) b no_lf
in_first n OneLf b few no_lf h = rw no_lf tt
in_first n TwoLf b few no_lf h = in_pick (suc n) (b == byte "F") (Begun F) (cond (b == lf) TwoLf NoLf) (omega (arith, few)) (rw no_lf tt)

in_ends : (n : ℕ) (e : Ending) → IsIn n e → next e lf ≡ OneLf
in_ends n Empty h = absurd h
in_ends n (Begun F) h = refl
in_ends n (Begun Fr) h = refl
in_ends n (Begun Fro) h = refl
in_ends n (Begun From) h = refl
in_ends n (InFromLine room missing) h = refl
in_ends n NoLf h = refl
in_ends n OneLf h = absurd h
in_ends n TwoLf h = absurd h

-- ---- the last bytes of many

in_long : (n : ℕ) (e : Ending) → 4096 ≤ n → IsIn n e → e ≡ NoLf
in_long n Empty many h = absurd h
in_long n (Begun F) many h = absurd (omega (arith, many, h))
in_long n (Begun Fr) many h = absurd (omega (arith, many, h))
in_long n (Begun Fro) many h = absurd (omega (arith, many, h))
in_long n (Begun From) many h = absurd (omega (arith, many, h))
in_long n (InFromLine room missing) many h = absurd (let sum = h.1 in omega (arith, many, sum))
in_long n NoLf many h = refl
in_long n OneLf many h = absurd h
in_long n TwoLf many h = absurd h

alike : (n : ℕ) (e : Ending) (bytes : List ℕ) → IsIn n e → 4096 ≤ n + length bytes → ending_from e bytes ≡ ending_from NoLf bytes
alike n e [] h many = in_long n e (omega (arith, many)) h
alike n e (b ∷ bytes) h many = elim (cases_Bool (b == lf)) [
  | inl is ↦ subst (λ c. ending_from (next e c) bytes ≡ ending_from (next NoLf c) bytes) (sym (eqb-true b lf is))
      (ap (λ e. ending_from e bytes) (in_ends n e h))
  | inr no_lf ↦
      let other : next NoLf b ≡ NoLf = rw no_lf refl in
      alike (suc n) (next e b) bytes (in_next n e b no_lf h) (omega (arith, many)) ∙ ap (λ e. ending_from e bytes) (sym other)
]

-- after one LF
alike_after : (bytes : List ℕ) → 4096 ≤ 1 + length bytes → ending_from TwoLf bytes ≡ ending_from OneLf bytes
alike_after [] many = absurd (omega (arith, many))
alike_after (b ∷ bytes) many = elim (cases_Bool (b == lf)) [
  | inl is ↦ subst (λ c. ending_from (next TwoLf c) bytes ≡ ending_from (next OneLf c) bytes) (sym (eqb-true b lf is)) refl
  | inr no_lf ↦
      let other : next OneLf b ≡ NoLf = rw no_lf refl in
      alike 2 (next TwoLf b) bytes (in_first 1 TwoLf b (omega arith) no_lf tt) (omega (arith, many))
      ∙ ap (λ e. ending_from e bytes) (sym other)
]

after_lf : (e : Ending) (bytes : List ℕ) → 4096 ≤ 1 + length bytes → ending_from (next e lf) bytes ≡ ending_from OneLf bytes
after_lf Empty bytes many = refl
after_lf (Begun F) bytes many = refl
after_lf (Begun Fr) bytes many = refl
after_lf (Begun Fro) bytes many = refl
after_lf (Begun From) bytes many = refl
after_lf (InFromLine room missing) bytes many = refl
after_lf NoLf bytes many = refl
after_lf OneLf bytes many = alike_after bytes many
after_lf TwoLf bytes many = alike_after bytes many

alike_from : (e : Ending) (last : List ℕ) → IsSoundEnd e → 4096 ≤ length last → ending_from e last ≡ ending_from NoLf last
alike_from e [] h many = absurd (omega (arith, many))
alike_from e (b ∷ last) h many = elim (cases_Bool (b == lf)) [
  | inl is ↦ subst (λ c. ending_from (next e c) last ≡ ending_from (next NoLf c) last) (sym (eqb-true b lf is))
      (after_lf e last (omega (arith, many)))
  | inr no_lf ↦
      let other : next NoLf b ≡ NoLf = rw no_lf refl in
      alike 1 (next e b) last (in_first 0 e b (omega arith) no_lf h) (omega (arith, many)) ∙ ap (λ e. ending_from e last) (sym other)
]

pub last_bytes : (prefix last : List ℕ) → length last ≡ TAIL_SIZE → ending (prefix ++ last) ≡ ending_from NoLf last
last_bytes prefix last len = ending-append Empty prefix last ∙ alike_from (ending prefix) last (sound prefix) (omega (arith, len))

-- ---- the last two

after_two : (e : Ending) (b : ℕ) (t : Bool) → (b == lf) ≡ t → IsSoundEnd e → next (next e b) lf ≡ cond t TwoLf OneLf
after_two e b false is h = in_ends 1 (next e b) (in_first 0 e b (omega arith) is h)
after_two e b true is h = subst (λ c. next (next e c) lf ≡ TwoLf) (sym (eqb-true b lf is)) (two e)
  where
    two : (e : Ending) → next (next e lf) lf ≡ TwoLf
    two Empty = refl
    two (Begun F) = refl
    two (Begun Fr) = refl
    two (Begun Fro) = refl
    two (Begun From) = refl
    two (InFromLine room missing) = refl
    two NoLf = refl
    two OneLf = refl
    two TwoLf = refl

pub last_two : (prefix : List ℕ) (b : ℕ) → ending (prefix ++ b ∷ lf ∷ []) ≡ cond (b == lf) TwoLf OneLf
last_two prefix b = ending-append Empty prefix (b ∷ lf ∷ []) ∙ after_two (ending prefix) b (b == lf) refl (sound prefix)
