use Rattle.std.proofs.Common.{OnErr, OnOk, subst, sym}
use Rattle.std.specs.Io.KnownBytes.{Appends}
use Rattle.mbox_check.specs.declared.fault.BadForm.{BadForm}
use Rattle.lmtpd_output.specs.Output.{IsCutOff}
use Rattle.lmtpd_check.specs.Checked.{bad_line}
use Rattle.lmtpd_check.proofs.lines.write_bad.Goals as goal

pub returns-in-NoFromLine-clause-err : goal.returns-in-NoFromLine-clause-err
returns-in-NoFromLine-clause-err g c =
    subst (λ (bad : BadForm). OnErr c.write_number.result
    (IsCutOff (g.W.Write.contents c.args.writer.now) (g.W.Write.contents c.write_number.new.writer) (bad_line c.args.name.now bad)))
    (sym c.in-NoFromLine.is) c.write_number.ensures.err

pub returns-in-NoEmptyLine-clause-ok : goal.returns-in-NoEmptyLine-clause-ok
returns-in-NoEmptyLine-clause-ok g c =
    subst (λ (bad : BadForm). OnOk c.write_place.result
    (Appends (g.W.Write.contents c.args.writer.now) (g.W.Write.contents c.write_place.new.writer) (bad_line c.args.name.now bad)))
    (sym c.in-NoEmptyLine.is) c.write_place.ensures.ok

pub returns-in-NoEmptyLine-clause-err : goal.returns-in-NoEmptyLine-clause-err
returns-in-NoEmptyLine-clause-err g c =
    subst (λ (bad : BadForm). OnErr c.write_place.result
    (IsCutOff (g.W.Write.contents c.args.writer.now) (g.W.Write.contents c.write_place.new.writer) (bad_line c.args.name.now bad)))
    (sym c.in-NoEmptyLine.is) c.write_place.ensures.err
