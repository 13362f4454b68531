-- What is known of a message's form, byte by byte.
use Rattle.std.specs.Prelude.{◌≡◌, ℕ, ◌+◌, Bool, true, false, not, ◌&&◌, ◌||◌, ◌==◌, nat_lt, List, [], ◌∷◌, ◌++◌}
use Rattle.std.specs.Prelude.{if◌then◌else◌}
use Rattle.mail_world.specs.declared.limits.TheConstants.{COUNTED_LINE_LIMIT, LONE_CR_COUNT}
use Rattle.mail_world.specs.Text.{cr, lf, space, tab}
use Rattle.mail_world.specs.Malformed.{nul}
use Rattle.mail_form.specs.declared.form.MessageForm.{MessageForm}
use Rattle.mail_form.specs.declared.form.MessageForm.TheVariants.{Empty, InLine, Malformed}

-- the line counts so much
abbrev pub after_count : ℕ → Bool → MessageForm
after_count counted after_cr = if nat_lt COUNTED_LINE_LIMIT counted then Malformed else InLine counted after_cr

-- with a CR that came before another byte than an LF
abbrev pub with_cr : ℕ → Bool → ℕ
with_cr counted after_cr = if after_cr then counted + LONE_CR_COUNT else counted

-- after one more byte, which is a NUL, an LF, a CR
abbrev pub next_by : ℕ → Bool → Bool → Bool → Bool → MessageForm
next_by counted after_cr is_nul is_lf is_cr =
    if is_nul then Malformed
    else if is_lf then InLine 0 false
    else if is_cr then after_count (with_cr counted after_cr) true
    else after_count (with_cr counted after_cr + 1) false

abbrev pub form_next : MessageForm → ℕ → MessageForm
form_next Empty b = if (b == space) || (b == tab) then Malformed else next_by 0 false (b == nul) (b == lf) (b == cr)
form_next (InLine counted after_cr) b = next_by counted after_cr (b == nul) (b == lf) (b == cr)
form_next Malformed b = Malformed

abbrev pub form_after : MessageForm → List ℕ → MessageForm
form_after form [] = form
form_after form (b ∷ text) = form_after (form_next form b) text

-- what a message is that ends there
abbrev pub ends_malformed : MessageForm → Bool
ends_malformed Empty = false
ends_malformed (InLine counted after_cr) = nat_lt COUNTED_LINE_LIMIT (with_cr counted after_cr)
ends_malformed Malformed = true

-- what is known once these bytes of a message have come
pub record HasForm (form : MessageForm) (begun : List ℕ) : Type 0 where
  pub is : form ≡ form_after Empty begun

-- the text ends with an LF
pub record EndsLine (text : List ℕ) : Type 0 where
  pub before : List ℕ
  pub is : text ≡ before ++ lf ∷ []

-- a NUL, or a CR that no LF follows
abbrev pub is_break : ℕ → ℕ → Bool
is_break b c = (b == nul) || (b == cr) && not (c == lf)

-- at a line's beginning nothing of the text is malformed, and its last line ends
pub record IsSoundText (text : List ℕ) : Type 0 where
  pub goes : form_after (InLine 0 false) text ≡ InLine 0 false
