-- What becomes of a log's history by one event more.
use Rattle.std.specs.Prelude.{[], ◌∷◌, ◌++◌, Option, Some, None}
use Rattle.lmtp_text.specs.Readings.{line_read}
use Rattle.lmtp_talk.specs.Entries.{Entry, OfLine, OfEnd}
use Rattle.lmtp_talk.specs.Telling.{arrived_entry}
use Rattle.lmtp_talk.specs.declared.client.Traffic.{Traffic}
use Rattle.lmtpd_log.specs.declared.history.Event.{Event}
use Rattle.lmtpd_log.specs.declared.history.Event.TheVariants as events
use Rattle.lmtpd_log.specs.History.{LogHistory}
use Rattle.lmtpd_log.specs.Line.{line_of}

abbrev pub hears : LogHistory → Entry → Option Traffic → LogHistory
hears h entry traffic = record h { heard = h.heard ++ record { entry = entry; traffic = traffic } ∷ [] }

abbrev pub after : LogHistory → Event → LogHistory
after h (events.Line said reply) = hears h (OfLine (line_read said) reply) None
after h (events.Copy arrived client reply) = hears h (arrived_entry arrived client.now reply) None
after h (events.End cause traffic) = hears h (OfEnd cause) (Some traffic)
after h (events.Shown line) = record h { shown = h.shown ++ line_of line ∷ [] }
after h (events.Turn end) = record h { turns = h.turns ++ end ∷ [] }
after h (events.Named mailbox line) = record h { named = h.named ++ (mailbox.now, line) ∷ [] }
