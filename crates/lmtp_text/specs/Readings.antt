-- What contracts see of a line that was read.
use Rattle.std.specs.Prelude.{ℕ, List}
use Rattle.mail_world.specs.declared.Extensions.{Extensions}
use Rattle.lmtp_text.specs.declared.reading.Reading.{Reading}

-- the line, and what is offered where it was read for
abbrev pub line_read : Reading → List ℕ
line_read r = r.line.now

abbrev pub offered_for : Reading → Extensions
offered_for r = r.offered
