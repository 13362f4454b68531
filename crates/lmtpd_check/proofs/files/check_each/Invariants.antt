use Rattle.std.proofs.Common.{◌≤◌, length, take, vec_capacity}
use Rattle.lmtp_text.specs.Sites.{texts}
use Rattle.lmtpd_check.specs.Checked.{AreAmong}
use Rattle.lmtpd_check.proofs.Findings.{WroteFindings}
use Rattle.lmtpd_check.proofs.files.check_each.Given as goal

abbrev pub invariant-loop-name : goal.invariant-loop-name
invariant-loop-name g l = record {
  written : WroteFindings g.P.File.Read.remaining l.names l.name-index (g.W.Write.contents l.initial.writer) (g.W.Write.contents l.writer) l.findings.items;
  room : length l.names ≤ vec_capacity l.findings;
  among : AreAmong (take l.name-index (texts l.names)) (texts l.unlocked.items);
  unlocked_count : length l.unlocked.items ≤ l.name-index;
  unlocked_room : length l.names ≤ vec_capacity l.unlocked;
}
