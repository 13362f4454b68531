use Rattle.std.proofs.Common.{◌∙◌, ap, string_bytes, sym}
use Rattle.lmtpd_log.specs.TurnLines.{condition_after, turn_lines, with_name}
use Rattle.lmtpd_log.proofs.Turns.{still_known, still_owed}
use Rattle.lmtpd_log.proofs.mailbox_log.MailboxLogTurnObserver.turn.Goals as goal

pub invariant_of-self : goal.invariant_of-self
invariant_of-self g c =
    let log = c.args.self.now in
    let name = string_bytes log.name in
    let ends = log.history.list.turns in
    let end = c.args.end in
    record {
      owes = still_owed name c.as_str-name.result.now ends end log.condition c.use_line.result c.store_line.result
          (g.E.MailboxSink.shown log.sink) _ _ log.owes log.knows c.as_str-name.ensures.value c.use_line.ensures
          c.store_line.ensures c.show_line.ensures c.show_line-2.ensures
          ∙ sym (ap (λ l. with_name name (turn_lines l.turns)) c.add.ensures);
      knows = still_known ends end log.condition _ log.knows c.after-self.ensures
          ∙ sym (ap (λ l. condition_after l.turns) c.add.ensures);
    }
