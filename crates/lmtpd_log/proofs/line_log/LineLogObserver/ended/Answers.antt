use Rattle.std.proofs.Common.{◌++◌, ◌∙◌, ap, sym, Some}
use Rattle.lmtp_talk.specs.Entries.{OfEnd}
use Rattle.lmtpd_log.specs.Letters.{first_letter}
use Rattle.lmtpd_log.specs.Owed.{Heard, letter_after, lines_owed}
use Rattle.lmtpd_log.specs.Rules.{lines_of, rules_of}
use Rattle.lmtpd_log.specs.Texts.{letter_of}
use Rattle.lmtpd_log.proofs.Owing.{end_owed, same_letter, still_known}
use Rattle.lmtpd_log.proofs.line_log.LineLogObserver.ended.Goals as goal

pub invariant_of-self : goal.invariant_of-self
invariant_of-self g c =
    let log = c.show_waiting.new.self in
    let rules = rules_of log.setting in
    let letter = letter_of log.letter in
    let heard = log.history.list.heard in
    let first = first_letter rules.addresses in
    let h : Heard = record { entry = OfEnd c.args.cause; traffic = Some c.args.traffic } in
    let shown = g.E.LineSink.shown log.sink in
    let none = ap lines_of c.show_waiting.ensures.none in
    record {
      room = log.room;
      owes = end_owed rules letter first heard h shown (lines_of log.waiting.items) _ log.owes log.knows none
          (c.show_one.ensures ∙ ap (λ ls. shown ++ ls) c.ended-made.ensures)
          ∙ sym (ap (λ l. lines_owed rules l.heard) c.add.ensures);
      rests = λ _. none;
      knows = still_known letter first _ heard h log.knows (same_letter letter)
          ∙ sym (ap (λ l. letter_after first l.heard) c.add.ensures);
    }
