use Rattle.std.proofs.Common.{◌++◌, ◌∙◌, ap, refl, sym, None}
use Rattle.lmtp_text.specs.Readings.{line_read}
use Rattle.lmtp_talk.specs.Entries.{OfLine}
use Rattle.lmtpd_log.specs.Letters.{first_letter}
use Rattle.lmtpd_log.specs.Owed.{Heard, letter_after, lines_owed}
use Rattle.lmtpd_log.specs.Rules.{lines_of, rules_of}
use Rattle.lmtpd_log.specs.Texts.{letter_of}
use Rattle.lmtpd_log.proofs.Owing.{still_known, still_owed, under_way}
use Rattle.lmtpd_log.proofs.line_log.LineLogObserver.command.Goals as goal

pub invariant_of-self : goal.invariant_of-self
invariant_of-self g c =
    let log = c.make_room.new.self in
    let rules = rules_of log.setting in
    let letter = letter_of log.letter in
    let heard = log.history.list.heard in
    let first = first_letter rules.addresses in
    let h : Heard = record { entry = OfLine (line_read c.args.said) c.args.reply; traffic = None } in
    let waits = lines_of log.waiting.items in
    record {
      room = c.keep.ensures.capacity ∙ log.room;
      owes = still_owed rules letter first heard h (g.E.LineSink.shown log.sink) waits _ log.owes log.knows
          (c.keep.ensures.lines ∙ ap (λ ls. waits ++ ls) c.refused-refused.ensures)
          ∙ sym (ap (λ l. lines_owed rules l.heard) c.add.ensures);
      rests = under_way heard _ h _ (ap (λ l. l.heard) c.add.ensures) refl;
      knows = still_known letter first _ heard h log.knows c.line.ensures
          ∙ sym (ap (λ l. letter_after first l.heard) c.add.ensures);
    }
