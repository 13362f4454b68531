-- The first line of a text, as `first_line` of the wire finds it.
use Rattle.std.proofs.Common.{◌≡◌, ℕ, ◌+◌, ◌≤◌, List, ◌++◌, length, take, Option, Some, None, refl, sym, ap, ◌∙◌, arith, length-append}
use Rattle.std.specs.Prelude.{option_map, unwrap_or}
use Rattle.std.proofs.lemmas.List.{length-take-le}
use Rattle.mail_world.specs.Text.{crlf, place_of}
use Rattle.mail_world.proofs.Places.{place_of_stands}
use Rattle.lmtp_wire.specs.Wire.{first_line}
use Rattle.mail_head.specs.MessageIds.{line_len}

-- the line that was found ends so far before the text's end
pub record IsLine (text line : List ℕ) : Type 0 where
  pub within : length line + 2 ≤ length text
  pub place : line_len text ≡ length line
  pub is : line ≡ take (length line) text

by_place : (text line : List ℕ) (o : Option ℕ) → place_of crlf text ≡ o → Some line ≡ option_map (λ n. take n text) o → IsLine text line
by_place text line None e is = cc
by_place text line (Some n) e is =
    let at = place_of_stands crlf text n e in
    let fits : n + 2 ≤ length text = omega (arith, at.place, ap length at.whole, length-append (at.prefix ++ crlf) at.rest, length-append at.prefix crlf) in
    let same : line ≡ take n text = cc in
    let count : length line ≡ n = ap length same ∙ length-take-le n text (omega arith) in
    record {
      within = omega arith;
      place = ap (λ (o : Option ℕ). unwrap_or o (length text)) e ∙ sym count;
      is = same ∙ ap (λ n. take n text) (sym count);
    }

pub found_line : (text line : List ℕ) → Some line ≡ first_line text → IsLine text line
found_line text line is = by_place text line (place_of crlf text) refl is

all_by : (text : List ℕ) (o : Option ℕ) → place_of crlf text ≡ o → None ≡ option_map (λ n. take n text) o → line_len text ≡ length text
all_by text None e is = ap (λ (o : Option ℕ). unwrap_or o (length text)) e
all_by text (Some n) e is = cc

-- or there is no other line
pub no_line : (text : List ℕ) → None ≡ first_line text → line_len text ≡ length text
no_line text is = all_by text (place_of crlf text) refl is
