-- The state of data: how much of its end came last, and what the next byte makes of the message.
use Rattle.std.specs.Prelude.{◌≡◌, ℕ, zero, suc, ◌+◌, Bool, true, false, not, ◌&&◌, ◌==◌, if◌then◌else◌}
use Rattle.std.specs.Prelude.{List, [], ◌∷◌, ◌++◌, length, Option, Some, option_map}
use Rattle.mail_world.specs.Text.{cr, lf, crlf, place_of, ends_in}
use Rattle.mail_world.specs.Data.{dot, end_of_data, data_end, without_dots, unstuffed, message, shown}
use Rattle.lmtp_wire.specs.declared.dot.DataState.{DataState}
use Rattle.lmtp_wire.specs.declared.dot.DataState.TheVariants.{InText, AfterCr, LineStart, AfterDot, AfterDotCr}
use Rattle.lmtp_wire.specs.declared.dot.Effect.{Effect}
use Rattle.lmtp_wire.specs.declared.dot.Effect.TheVariants.{Nothing, Byte, HeldCr, End}

-- the prefix of the end of data that came last
abbrev pub came : DataState → List ℕ
came InText = []
came AfterCr = cr ∷ []
came LineStart = crlf
came AfterDot = cr ∷ lf ∷ dot ∷ []
came AfterDotCr = cr ∷ lf ∷ dot ∷ cr ∷ []

-- what of it may turn out to be no content, and what of that is content if the end doesn't come
abbrev pub in_doubt : DataState → List ℕ
in_doubt InText = []
in_doubt AfterCr = []
in_doubt LineStart = []
in_doubt AfterDot = dot ∷ []
in_doubt AfterDotCr = dot ∷ cr ∷ []

abbrev pub held_back : DataState → List ℕ
held_back InText = []
held_back AfterCr = []
held_back LineStart = []
held_back AfterDot = []
held_back AfterDotCr = cr ∷ []

-- the last byte is CR; the last two are CRLF; the last three are CRLF and a dot
abbrev pub is_cr : DataState → Bool
is_cr InText = false
is_cr AfterCr = true
is_cr LineStart = false
is_cr AfterDot = false
is_cr AfterDotCr = true

abbrev pub is_start : DataState → Bool
is_start InText = false
is_start AfterCr = false
is_start LineStart = true
is_start AfterDot = false
is_start AfterDotCr = false

abbrev pub is_dot : DataState → Bool
is_dot InText = false
is_dot AfterCr = false
is_dot LineStart = false
is_dot AfterDot = true
is_dot AfterDotCr = false

-- where data stands after a byte of content
abbrev pub state_next : DataState → ℕ → DataState
state_next state byte = if byte == cr then AfterCr else if is_cr state && (byte == lf) then LineStart else InText

-- and after a run of them
abbrev pub state_after : DataState → List ℕ → DataState
state_after state [] = state
state_after state (byte ∷ run) = state_after (state_next state byte) run

-- no byte of the run is a dot that a line starts with
abbrev pub is_undotted : DataState → List ℕ → Bool
is_undotted state [] = true
is_undotted state (byte ∷ run) = not (is_start state && (byte == dot)) && is_undotted (state_next state byte) run

-- what a byte makes of the message, and where it leaves the data
abbrev pub effect_of : DataState → ℕ → Effect
effect_of InText byte = Byte (state_next InText byte)
effect_of AfterCr byte = Byte (state_next AfterCr byte)
effect_of LineStart byte = if byte == dot then Nothing AfterDot else Byte (state_next LineStart byte)
effect_of AfterDot byte = if byte == cr then Nothing AfterDotCr else Byte (state_next AfterDot byte)
effect_of AfterDotCr byte = if byte == lf then End else HeldCr (state_next AfterDotCr byte)

-- the text that follows in that state, without its dots
abbrev pub without_dots_at : DataState → List ℕ → List ℕ
without_dots_at InText rest = without_dots 0 0 rest
without_dots_at AfterCr rest = without_dots 0 cr rest
without_dots_at LineStart rest = without_dots cr lf rest
without_dots_at AfterDot rest = without_dots 0 0 rest
without_dots_at AfterDotCr rest = without_dots 0 cr rest

-- a place that is that much further on
abbrev pub moved : ℕ → Option ℕ → Option ℕ
moved zero o = o
moved (suc k) o = option_map (λ n. suc n) (moved k o)

-- data that hasn't ended and led to that state
pub record IsInState (state : DataState) (taken : List ℕ) : Type 0 where
  pub before : ℕ
  pub count : before + length (came state) ≡ length taken + 2
  pub finds : (rest : List ℕ)
      → place_of end_of_data (crlf ++ (taken ++ rest)) ≡ moved before (place_of end_of_data (came state ++ rest))
  pub cr_last : ends_in (cr ∷ []) (crlf ++ taken) ≡ is_cr state
  pub crlf_last : ends_in crlf (crlf ++ taken) ≡ is_start state
  pub dot_last : ends_in (crlf ++ dot ∷ []) (crlf ++ taken) ≡ is_dot state
  pub after : (rest : List ℕ) → unstuffed (taken ++ rest) ≡ unstuffed taken ++ without_dots_at state rest
  pub lead : List ℕ
  pub whole : taken ≡ lead ++ in_doubt state
  pub content : unstuffed lead ≡ shown taken
  pub sure : unstuffed taken ≡ shown taken ++ held_back state

-- the data has ended with the last byte that was taken, and the message was made
pub record IsDataEnd (taken made : List ℕ) : Type 0 where
  pub end : ℕ
  pub ends : data_end taken ≡ Some end
  pub last : length taken ≡ end + 3
  pub message : made ≡ message taken
