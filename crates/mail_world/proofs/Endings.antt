-- How bytes end: what is missing of a From line stays short, and so does what mends bytes.
use Rattle.std.proofs.Common.{◌≡◌, ℕ, ◌+◌, ◌-◌, ◌≤◌, List, [], ◌∷◌, ◌++◌, Bool, true, false, cond, ◌==◌, length, length-append, refl, arith}
use Rattle.std.specs.Prelude.{nat_le, ⊤}
use Rattle.std.specs.Str.{byte}
use Rattle.std.proofs.lemmas.Bool.{leb-true}
use Rattle.mail_world.specs.Text.{lf}
use Rattle.mail_world.specs.FromLines.{missing_first, missing_after}
use Rattle.mail_world.specs.Endings.{F, Fr, Fro, From, Ending, Empty, Begun, InFromLine, NoLf, OneLf, TwoLf}
use Rattle.mail_world.specs.Endings.{from_line_room, in_from_line, in_line, next, ending_from, ending, mends, mended}
use Rattle.mail_world.proofs.Fillings.{IsShort, first_short, after_short}

-- what is missing of a From line is short, and has room, which is no more than there is at first
pub record IsMissing (room : ℕ) (missing : List ℕ) : Type 0 where
  pub short : IsShort 38 missing
  pub fits : length missing ≤ room
  pub most : room ≤ from_line_room

abbrev pub IsSoundEnd : Ending → Type 0
IsSoundEnd (InFromLine room missing) = IsMissing room missing
IsSoundEnd _ = ⊤

sound_pick : (t : Bool) (e e' : Ending) → IsSoundEnd e → IsSoundEnd e' → IsSoundEnd (cond t e e')
sound_pick true e e' h k = h
sound_pick false e e' h k = k

sound_line : (b : ℕ) → IsSoundEnd (in_line b)
sound_line b = sound_pick (b == lf) OneLf NoLf tt tt

sound_within : (room : ℕ) (missing : List ℕ) (t : Bool) → nat_le (length missing) room ≡ t → IsShort 38 missing
    → room ≤ from_line_room → IsSoundEnd (cond t (InFromLine room missing) NoLf)
sound_within room missing true e h k = record { short = h; fits = leb-true (length missing) room e; most = k }
sound_within room missing false e h k = tt

sound_from_line : (room : ℕ) (missing : List ℕ) → IsShort 38 missing → room ≤ from_line_room
    → IsSoundEnd (in_from_line room missing)
sound_from_line room missing h k = sound_within room missing (nat_le (length missing) room) refl h k

pub first_sound : IsMissing from_line_room missing_first
first_sound = record { short = first_short; fits = leb-true 38 from_line_room refl; most = leb-true from_line_room from_line_room refl }

pub sound_next : (e : Ending) (b : ℕ) → IsSoundEnd e → IsSoundEnd (next e b)
sound_next Empty b h = sound_pick (b == byte "F") (Begun F) (in_line b) tt (sound_line b)
sound_next (Begun F) b h = sound_pick (b == byte "r") (Begun Fr) (in_line b) tt (sound_line b)
sound_next (Begun Fr) b h = sound_pick (b == byte "o") (Begun Fro) (in_line b) tt (sound_line b)
sound_next (Begun Fro) b h = sound_pick (b == byte "m") (Begun From) (in_line b) tt (sound_line b)
sound_next (Begun From) b h =
    sound_pick (b == byte " ") (InFromLine from_line_room missing_first) (in_line b)
    first_sound (sound_line b)
sound_next (InFromLine room missing) b h =
    let most = h.most in
    sound_pick (b == lf) OneLf (in_from_line (room - 1) (missing_after missing b)) tt
    (sound_from_line (room - 1) (missing_after missing b) (after_short missing b h.short) (omega (arith, most)))
sound_next NoLf b h = sound_line b
sound_next OneLf b h = sound_pick (b == lf) TwoLf NoLf tt tt
sound_next TwoLf b h = sound_pick (b == byte "F") (Begun F) (cond (b == lf) TwoLf NoLf) tt (sound_pick (b == lf) TwoLf NoLf tt tt)

pub sound_from : (e : Ending) (bytes : List ℕ) → IsSoundEnd e → IsSoundEnd (ending_from e bytes)
sound_from e [] h = h
sound_from e (b ∷ bytes) h = sound_from (next e b) bytes (sound_next e b h)

pub sound : (bytes : List ℕ) → IsSoundEnd (ending bytes)
sound bytes = sound_from Empty bytes tt

-- ---- what mends bytes is short

mends_few : (e : Ending) → IsSoundEnd e → length (mends e) ≤ 44
mends_few Empty h = leb-true 0 44 refl
mends_few (Begun F) h = leb-true 44 44 refl
mends_few (Begun Fr) h = leb-true 43 44 refl
mends_few (Begun Fro) h = leb-true 42 44 refl
mends_few (Begun From) h = leb-true 41 44 refl
mends_few (InFromLine room missing) h =
    let len : length (missing ++ lf ∷ lf ∷ []) ≡ length missing + 2 = length-append missing (lf ∷ lf ∷ []) in
    let few = h.short.few in
    omega (arith, len, few)
mends_few NoLf h = leb-true 2 44 refl
mends_few OneLf h = leb-true 1 44 refl
mends_few TwoLf h = leb-true 0 44 refl

pub mended_few : (old : List ℕ) → length (mended old) ≤ 44
mended_few old = mends_few (ending old) (sound old)

-- ---- bytes after bytes

pub ending-append : (e : Ending) (xs ys : List ℕ) → ending_from e (xs ++ ys) ≡ ending_from (ending_from e xs) ys
ending-append e [] ys = refl
ending-append e (x ∷ xs) ys = ending-append (next e x) xs ys
