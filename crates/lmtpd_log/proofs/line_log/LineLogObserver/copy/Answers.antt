use Rattle.std.proofs.Common.{◌++◌, ◌∙◌, [], ℕ, List, Option, None, ap, cond, option_map, refl, sym}
use Rattle.mail_head.specs.Texts.{text_of}
use Rattle.lmtp_talk.specs.Telling.{arrived_entry}
use Rattle.lmtpd_log.specs.Letters.{first_letter}
use Rattle.lmtpd_log.specs.Line.{Line}
use Rattle.lmtpd_log.specs.Owed.{Heard, copy_lines, letter_after, lines_owed}
use Rattle.lmtpd_log.specs.Rules.{lines_of, rules_of}
use Rattle.lmtpd_log.specs.Texts.{letter_of}
use Rattle.lmtpd_log.proofs.Owing.{still_known, still_owed, under_way}
use Rattle.lmtpd_log.proofs.line_log.LineLogObserver.copy.Goals as goal

pub invariant_of-self : goal.invariant_of-self
invariant_of-self g c =
    let log = c.make_room.new.self in
    let rules = rules_of log.setting in
    let letter = letter_of log.letter in
    let heard = log.history.list.heard in
    let first = first_letter rules.addresses in
    let client = c.args.client.now in
    let h : Heard = record { entry = arrived_entry c.args.arrived client c.args.reply; traffic = None } in
    let id = option_map (λ id. text_of id) c.args.arrived.message_id in
    let copied : Option (List ℕ × List ℕ) → List Line =
    λ e. cond rules.is_on (copy_lines rules c.args.arrived.number c.args.arrived.size id client c.args.reply e) [] in
    let waits = lines_of log.waiting.items in
    record {
      room = c.keep.ensures.capacity ∙ log.room;
      owes = still_owed rules letter first heard h (g.E.LineSink.shown log.sink) waits _ log.owes log.knows
          (c.keep.ensures.lines ∙ ap (λ ls. waits ++ ls) (c.answered-made.ensures ∙ ap copied c.copy-envelope.ensures.envelope))
          ∙ sym (ap (λ l. lines_owed rules l.heard) c.add.ensures);
      rests = under_way heard _ h _ (ap (λ l. l.heard) c.add.ensures) refl;
      knows = still_known letter first _ heard h log.knows c.copy-envelope.ensures.letter
          ∙ sym (ap (λ l. letter_after first l.heard) c.add.ensures);
    }
