use Rattle.std.proofs.Common.{◌≡◌, ◌≤◌, length}
use Rattle.lmtp_text.specs.Sites.{texts}
use Rattle.lmtpd_words.specs.Boxes.{names_in}
use Rattle.lmtpd_words.proofs.boxes.line_of_name.Given as goal

abbrev pub invariant-loop-line : goal.invariant-loop-line
invariant-loop-line l = (l.lines ≡ length l.yielded) × (l.names ≡ length (names_in (texts l.yielded))) × (l.names ≤ l.number)
