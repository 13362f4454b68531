-- What a log is told of replies.
use Rattle.std.specs.Prelude.{ℕ, List, option_map}
use Rattle.mail_world.specs.declared.Reply.{Reply}
use Rattle.mail_head.specs.Texts.{text_of}
use Rattle.lmtp_text.specs.Readings.{line_read}
use Rattle.lmtp_talk.specs.declared.telling.Arrived.{Arrived}
use Rattle.lmtp_talk.specs.declared.telling.Asked.{Asked}
use Rattle.lmtp_talk.specs.declared.telling.Asked.TheVariants as asked
use Rattle.lmtp_talk.specs.Entries.{Entry, OfCopy, line_entries, copy_entries}

-- the entry of a reply for a copy of the message, to a client of that name
abbrev pub arrived_entry : Arrived → List ℕ → Reply → Entry
arrived_entry a client reply = OfCopy a.number a.size (option_map (λ t. text_of t) a.message_id) client reply

-- an entry for each reply, where the replies answer that, to a client of that name
abbrev pub entries_for : Asked → List ℕ → List Reply → List Entry
entries_for (asked.Line said) client rs = line_entries (line_read said) rs
entries_for (asked.Message a) client rs =
    copy_entries a.number a.size (option_map (λ t. text_of t) a.message_id) client rs
