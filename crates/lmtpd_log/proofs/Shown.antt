-- What is shown of a client's text.
use Rattle.std.proofs.Common.{◌≡◌, ℕ, ◌<◌, false, ◌||◌, ◌==◌, nat_lt, List, All, sym, refl, ◌∙◌, arith}
use Rattle.std.proofs.lemmas.Bool.{agree_below_at}
use Rattle.std.proofs.lemmas.Bool.Decides.{nat_tests}
use Rattle.percent_encoding.specs.AsciiSet.{contains, should_percent_encode}
use Rattle.percent_encoding.specs.Percent.{percent_decode}
use Rattle.percent_encoding.proofs.AsciiSetLemmas.{ascii_from_kept, outside_from_kept}
use Rattle.percent_encoding.proofs.PercentLemmas.{All-percent_encode, IsByte, IsEscapeByte, round_trip}
use Rattle.lmtpd_log.specs.declared.naming.TheConstants.{ESCAPED}
use Rattle.lmtpd_log.specs.Shown.{IsOfWord, escaped}

-- the set has the bytes up to the space, the percent sign and DEL
in_set : (b : ℕ) → b < 128 → contains ESCAPED b ≡ (nat_lt b 33 || (b == 37 || b == 127))
in_set b ascii = agree_below_at (contains ESCAPED) (λ b. nat_lt b 33 || (b == 37 || b == 127)) 128 b refl ascii

from_kept : (b : ℕ) → should_percent_encode ESCAPED b ≡ false → IsOfWord b
from_kept b kept =
    let ascii = ascii_from_kept ESCAPED b kept in
    let outside : (nat_lt b 33 || (b == 37 || b == 127)) ≡ false = sym (in_set b ascii) ∙ outside_from_kept ESCAPED b kept in
    grind (arith, nat_tests)

from_escape : (b : ℕ) → IsEscapeByte b → IsOfWord b
from_escape b h = grind arith

pub is_word : (text : List ℕ) → All IsOfWord (escaped text)
is_word text = All-percent_encode IsOfWord ESCAPED text from_kept from_escape

pub is_read_back : (text : List ℕ) → All IsByte text → percent_decode (escaped text) ≡ text
is_read_back text small = round_trip ESCAPED text refl small
