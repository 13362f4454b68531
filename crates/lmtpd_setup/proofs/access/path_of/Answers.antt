use Rattle.lmtpd_output.specs.Printable.{printable_text}
use Rattle.lmtpd_setup.proofs.Paths.{path_told}
use Rattle.lmtpd_setup.proofs.access.path_of.Goals as goal

pub returns : goal.returns
returns c =
    path_told c.format.result c.args.access.folder.now _ (printable_text c.args.name.now) c.args.access.suffix.now c.printable-shown.ensures.text
    c.format.ensures.ok
