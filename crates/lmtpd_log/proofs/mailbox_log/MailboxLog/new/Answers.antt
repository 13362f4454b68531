use Rattle.std.proofs.Common.{◌∙◌, ap, ap₂, string_bytes, sym}
use Rattle.lmtpd_log.specs.TurnLines.{condition_after, turn_lines, with_name}
use Rattle.lmtpd_log.proofs.mailbox_log.MailboxLog.new.Goals as goal

pub invariant_of-result : goal.invariant_of-result
invariant_of-result g c =
    let name = string_bytes c.args.name in
    record {
      owes = c.requires ∙ sym (ap (λ h. with_name name (turn_lines h.turns)) c.new.ensures);
      knows = ap₂ (λ used failed. record { is_in_use = used; has_failed = failed }) c.default.ensures.0 c.default.ensures.1
          ∙ sym (ap (λ h. condition_after h.turns) c.new.ensures);
    }
