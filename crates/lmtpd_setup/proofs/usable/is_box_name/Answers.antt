use Rattle.std.proofs.Common.{◌≡◌, ◌∙◌, ap}
use Rattle.std.specs.Prelude.{Err}
use Rattle.mail_world.specs.Site.{is_box_name}
use Rattle.lmtpd_setup.proofs.OneName.{given_bad, given_made}
use Rattle.lmtpd_setup.proofs.usable.is_box_name.Goals.{in-Ok, in-Err-Box, in-Err}
use Rattle.lmtpd_setup.proofs.usable.is_box_name.Goals as goal

pub returns : goal.returns
returns c = elim c.match-new.branch [
  | in-Ok w ↦ rw w.result-is (given_made (is_box_name c.args.name.now) c.new.result w.in-Ok.field-0 w.in-Ok.is c.new.ensures.broken)
  | in-Err-Box w ↦ rw w.result-is (given_bad (is_box_name c.args.name.now) c.new.result (w.in-Err-Box.is ∙ ap Err w.in-Err-Box.field-0-is)
      c.new.ensures.whole)
  | in-Err w ↦ rw w.result-is tt
]
