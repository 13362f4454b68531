use Rattle.std.proofs.Common.{inr, refl}
use Rattle.lmtpd.proofs.rehearse.rehearse_filled.Goals as goal

pub returns-in-Ok : goal.returns-in-Ok
returns-in-Ok g c = (c.fill.new.words, c.in_ok-fill.ensures, c.in-Ok.ensures)

pub returns : goal.returns
returns g c = inr (c.fill.new.words, c.in_ok-fill.ensures, (c.in-Err.fault, refl, c.in-Err.ensures))
