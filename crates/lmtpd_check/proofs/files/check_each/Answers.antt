use Rattle.std.proofs.Common.{◌≡◌, ◌∙◌, ◌+◌, ◌≤◌, [], List, ap, sym, subst, is_err, length, OnErr, OnOk, Ok, Err, true, false, arith}
use Rattle.std.specs.Prelude.{Result}
use Rattle.lmtp_text.specs.Sites.{texts}
use Rattle.lmtpd_check.specs.Checked.{IsChecked}
use Rattle.lmtpd_check.specs.declared.checked.Finding.{Finding}
use Rattle.lmtpd_check.proofs.Among.{among_none, among_next, next_long}
use Rattle.lmtpd_check.proofs.Findings.{WroteFindings, written_none, written_more, checked_cut}
use Rattle.lmtpd_check.proofs.files.check_each.Goals as goal

failed : {T E Q : Type 0} (r : Result T E) → is_err r ≡ true → OnErr r Q → Q
failed (Ok x) e q = cc
failed (Err x) e q = q

passed : {T E Q : Type 0} (r : Result T E) → is_err r ≡ false → OnOk r Q → Q
passed (Ok x) e q = q
passed (Err x) e q = cc

pub loop-name-init : goal.loop-name-init
loop-name-init g c = record {
  written = written_none g.P.File.Read.remaining c.args.names.now (g.W.Write.contents c.args.writer.now) c.args.findings.now.items c.requires.empty;
  room = c.requires.room;
  among = among_none [] (texts c.args.unlocked.now.items) (ap texts c.requires.all_locked);
  unlocked_count = let none : length c.args.unlocked.now.items ≡ 0 = ap length c.requires.all_locked in omega (arith, none);
  unlocked_room = c.requires.unlocked_room;
}

pub returns-then-is_err : goal.returns-then-is_err
returns-then-is_err g c =
    subst (λ (found : List Finding). IsChecked g.P.File.Read.remaining (texts c.args.names.now) (g.W.Write.contents c.args.writer.now)
    (g.W.Write.contents c.write_finding.new.writer) found (texts c.keep_if.new.kept.items) true)
    (sym c.push_reserved.ensures.items)
    (checked_cut g.P.File.Read.remaining c.args.names.now c.loop-name.name-index _ _ _ c.loop-name.findings.items c.check_file-reading.result.finding _
    (texts c.keep_if.new.kept.items)
    c.loop-name.invariant.written c.loop-name-test.true c.check_file-reading.ensures
    (among_next c.args.names.now c.loop-name.name-index _ c.loop-name-test.true c.check_file-reading.result.is_unlocked c.loop-name.unlocked.items _
    c.keep_if.ensures.items c.loop-name.invariant.among)
    (failed c.write_finding.result (sym c.is_err.ensures.value ∙ c.if-is_err.true) c.write_finding.ensures.err))

pub loop-name-preserved : goal.loop-name-preserved
loop-name-preserved g c = record {
  written = subst (λ (found : List Finding). WroteFindings g.P.File.Read.remaining c.args.names.now (c.loop-name.name-index + 1)
      (g.W.Write.contents c.args.writer.now) (g.W.Write.contents c.write_finding.new.writer) found)
      (sym c.push_reserved.ensures.items)
      (written_more g.P.File.Read.remaining c.args.names.now c.loop-name.name-index _ _ _ c.loop-name.findings.items c.check_file-reading.result.finding _
      c.loop-name.invariant.written c.loop-name-test.true c.check_file-reading.ensures
      (passed c.write_finding.result (sym c.is_err.ensures.value ∙ c.if-is_err.false) c.write_finding.ensures.ok));
  room = subst (λ n. length c.args.names.now ≤ n) (sym c.push_reserved.ensures.capacity) c.loop-name.invariant.room;
  among = among_next c.args.names.now c.loop-name.name-index _ c.loop-name-test.true c.check_file-reading.result.is_unlocked c.loop-name.unlocked.items _
      c.keep_if.ensures.items c.loop-name.invariant.among;
  unlocked_count = next_long c.args.names.now c.loop-name.name-index _ c.loop-name-test.true c.check_file-reading.result.is_unlocked c.loop-name.unlocked.items
      _ c.keep_if.ensures.items c.loop-name.invariant.unlocked_count;
  unlocked_room = subst (λ n. length c.args.names.now ≤ n) (sym c.keep_if.ensures.capacity) c.loop-name.invariant.unlocked_room;
}
