-- Where a reader of a mailbox stands between two bytes, and where a byte leads it.
use Rattle.std.specs.Prelude.{ℕ, Bool, true, false, ◌==◌, List, [], Option, Some, None, codes, if◌then◌else◌}
use Rattle.std.specs.Str.{byte}
use Rattle.mail_world.specs.Malformed.{nul}
use Rattle.mail_world.specs.Text.{lf}
use Rattle.mbox_check.specs.declared.fault.BadForm.{BadForm}
use Rattle.mbox_check.specs.declared.fault.BadForm.TheVariants.{NoFromLine, NoEmptyLine}
use Rattle.mbox_check.specs.declared.found.NulAt.{NulAt}
use Rattle.mbox_check.specs.declared.state.Part.{Part}
use Rattle.mbox_check.specs.declared.state.Part.TheVariants.{Nothing, F, Fr, Fro, From}
use Rattle.mbox_check.specs.declared.state.FormState.{FormState}
use Rattle.mbox_check.specs.declared.state.FormState.TheVariants.{Start, Open, Line, Inside}
use Rattle.mbox_check.specs.declared.state.Effect.{Effect}
use Rattle.mbox_check.specs.declared.state.Effect.TheVariants.{To, Begin, Break}

abbrev pub part_text : Part → List ℕ
part_text Nothing = []
part_text F = codes "F"
part_text Fr = codes "Fr"
part_text Fro = codes "Fro"
part_text From = codes "From"

-- the byte that follows in `From `
abbrev pub next_byte : Part → ℕ
next_byte Nothing = byte "F"
next_byte F = byte "r"
next_byte Fr = byte "o"
next_byte Fro = byte "m"
next_byte From = byte " "

-- the part with that byte, unless `From ` is whole then
abbrev pub longer_part : Part → Option Part
longer_part Nothing = Some F
longer_part F = Some Fr
longer_part Fr = Some Fro
longer_part Fro = Some From
longer_part From = None

abbrev pub is_nothing : Part → Bool
is_nothing Nothing = true
is_nothing F = false
is_nothing Fr = false
is_nothing Fro = false
is_nothing From = false

-- where a byte leads that doesn't go on with `From `
abbrev pub line_state : Part → ℕ → FormState
line_state part b = if b == lf then (if is_nothing part then Open Nothing else Line Nothing) else Inside

abbrev pub start_with : Option Part → Effect
start_with (Some part) = To (Start part)
start_with None = Begin

abbrev pub open_with : Option Part → Effect
open_with (Some part) = To (Open part)
open_with None = Begin

abbrev pub line_with : Option Part → Effect
line_with (Some part) = To (Line part)
line_with None = Break

-- what comes of a byte
abbrev pub effect_at : FormState → ℕ → Effect
effect_at (Start part) b = if next_byte part == b then start_with (longer_part part) else Break
effect_at (Open part) b = if next_byte part == b then open_with (longer_part part) else To (line_state part b)
effect_at (Line part) b = if next_byte part == b then line_with (longer_part part) else To (line_state part b)
effect_at Inside b = if b == lf then To (Line Nothing) else To Inside

-- a mailbox may end here
abbrev pub is_whole : FormState → Bool
is_whole (Start part) = is_nothing part
is_whole (Open part) = is_nothing part
is_whole (Line part) = false
is_whole Inside = false

-- what is wrong where the text ends or breaks here, in the letter of that number, which begins there
abbrev pub bad_at : FormState → ℕ → ℕ → ℕ → BadForm
bad_at (Start part) taken letter start = NoFromLine taken
bad_at (Open part) taken letter start = NoEmptyLine taken letter start
bad_at (Line part) taken letter start = NoEmptyLine taken letter start
bad_at Inside taken letter start = NoEmptyLine taken letter start

-- the first NUL after a byte, which stands there
abbrev pub nul_after : Option NulAt → ℕ → NulAt → Option NulAt
nul_after (Some first) b here = Some first
nul_after None b here = if b == nul then Some here else None
