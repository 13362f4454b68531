use Rattle.std.proofs.Common.{◌≡◌, List, ℕ, OnOk, OnErr, refl, rules, subst}
use Rattle.std.specs.Prelude.{codes, decimal}
use Rattle.std.specs.Io.KnownBytes.{Appends}
use Rattle.lmtpd_output.specs.Output.{IsCutOff}
use Rattle.lmtpd_serve.proofs.TroubleLines.{joined}
use Rattle.lmtpd_serve.proofs.lines.write_trouble_line.Goals as goal

pub returns-clause-ok : goal.returns-clause-ok
returns-clause-ok g c =
    let digits : c.as_bytes.result.now ≡ decimal c.args.count = search rules in
    subst (λ (line : List ℕ). OnOk c.write_each.result (Appends (g.W.Write.contents c.args.writer.now) (g.W.Write.contents c.write_each.new.writer) line))
    (joined (codes "lmtpd: ") c.args.name.now c.args.words.now c.args.words.now c.as_bytes.result.now (decimal c.args.count) refl digits)
    c.write_each.ensures.ok

pub returns-clause-err : goal.returns-clause-err
returns-clause-err g c =
    let digits : c.as_bytes.result.now ≡ decimal c.args.count = search rules in
    subst (λ (line : List ℕ). OnErr c.write_each.result (IsCutOff (g.W.Write.contents c.args.writer.now) (g.W.Write.contents c.write_each.new.writer) line))
    (joined (codes "lmtpd: ") c.args.name.now c.args.words.now c.args.words.now c.as_bytes.result.now (decimal c.args.count) refl digits)
    c.write_each.ensures.err
