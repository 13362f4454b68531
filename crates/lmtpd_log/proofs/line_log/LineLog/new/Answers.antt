use Rattle.std.proofs.Common.{◌++◌, ◌∙◌, ap, sym}
use Rattle.lmtpd_log.specs.Letters.{first_letter}
use Rattle.lmtpd_log.specs.Owed.{letter_after, lines_owed}
use Rattle.lmtpd_log.specs.Rules.{lines_of, rules_of}
use Rattle.lmtpd_log.proofs.line_log.LineLog.new.Goals as goal

pub invariant_of-result : goal.invariant_of-result
invariant_of-result g c =
    let rules = rules_of c.args.setting in
    let waiting = c.in_ok-with_capacity.field-0 in
    record {
      room = c.in_ok-with_capacity.ensures.exact;
      owes = ap (λ ls. ls ++ lines_of waiting.items) c.requires ∙ ap lines_of c.in_ok-with_capacity.ensures.items
          ∙ sym (ap (λ h. lines_owed rules h.heard) c.new-3.ensures);
      rests = λ _. ap lines_of c.in_ok-with_capacity.ensures.items;
      knows = c.in_ok-new.ensures ∙ sym (ap (λ h. letter_after (first_letter rules.addresses) h.heard) c.new-3.ensures);
    }
