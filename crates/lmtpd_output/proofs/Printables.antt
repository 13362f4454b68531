-- What is printable of a text.
use Rattle.std.proofs.Common.{◌≡◌, ℕ, ◌<◌, false, ◌||◌, ◌==◌, nat_lt, List, All, sym, ◌∙◌, arith}
use Rattle.std.proofs.lemmas.Bool.{agree_below_at}
use Rattle.std.proofs.lemmas.Bool.Decides.{nat_tests}
use Rattle.std.proofs.lemmas.List.Elements.{All-weaker}
use Rattle.percent_encoding.specs.declared.ascii_set.TheConstants.{CONTROLS}
use Rattle.percent_encoding.specs.AsciiSet.{contains, should_percent_encode}
use Rattle.percent_encoding.specs.Percent.{IsKept}
use Rattle.percent_encoding.proofs.AsciiSetLemmas.{ascii_from_kept, kept_from_outside, outside_from_kept}
use Rattle.percent_encoding.proofs.PercentLemmas.{All-percent_encode, IsEscapeByte, percent_encode_unchanged}
use Rattle.percent_encoding.proofs.StandardFacts.{controls}
use Rattle.lmtpd_output.specs.Printable.{IsPrintable, printable_text}

-- the set has the bytes before the space, and DEL
in_set : (b : ℕ) → b < 128 → contains CONTROLS b ≡ (nat_lt b 32 || (b == 127))
in_set b ascii = agree_below_at (contains CONTROLS) (λ b. nat_lt b 32 || (b == 127)) 128 b controls ascii

-- what is kept is printable
from_kept : (b : ℕ) → should_percent_encode CONTROLS b ≡ false → IsPrintable b
from_kept b kept =
    let ascii = ascii_from_kept CONTROLS b kept in
    let outside : (nat_lt b 32 || (b == 127)) ≡ false = sym (in_set b ascii) ∙ outside_from_kept CONTROLS b kept in
    grind (arith, nat_tests)

-- what is printable is kept
kept : (b : ℕ) → IsPrintable b → should_percent_encode CONTROLS b ≡ false
kept b printable =
    let ascii : b < 128 = omega (arith, printable.1) in
    let outside : (nat_lt b 32 || (b == 127)) ≡ false = grind (arith, nat_tests) in
    kept_from_outside CONTROLS b ascii (in_set b ascii ∙ outside)

from_escape : (b : ℕ) → IsEscapeByte b → IsPrintable b
from_escape b h = grind arith

pub all_printable : (text : List ℕ) → All IsPrintable (printable_text text)
all_printable text = All-percent_encode IsPrintable CONTROLS text from_kept from_escape

pub stays : (text : List ℕ) → All IsPrintable text → printable_text text ≡ text
stays text printable =
    percent_encode_unchanged CONTROLS text (All-weaker IsPrintable (IsKept CONTROLS) kept text printable)
