-- What a log is to have of conversations: an entry for each reply to a line or to data that ended, and one for each
-- end. The greeting and the reply to a stop have none.
use Rattle.std.specs.Prelude.{ℕ, ◌+◌, nat_lt, List, [], ◌∷◌, ◌++◌, length, map, if◌then◌else◌, Option, option_map}
use Rattle.mail_world.specs.declared.Reply.{Reply}
use Rattle.mail_world.specs.declared.limits.TheConstants.{LINE_LIMIT}
use Rattle.mail_world.specs.Counts.{counted}
use Rattle.mail_world.specs.Data.{message}
use Rattle.mail_world.specs.Site.{Site}
use Rattle.mail_world.specs.Session.{Session, fresh, Input, Line, Busy}
use Rattle.mail_world.specs.Conversation.{Conversation, Part, CommandLine, MailData, inputs_of, session_after}
use Rattle.mail_world.specs.Conversation.{replies_to, parts}
use Rattle.mail_world.specs.Lists.{is_content}
use Rattle.mail_head.specs.MessageIds.{message_id_of}
use Rattle.lmtp_talk.specs.declared.ending.EndCause.{EndCause}

-- The reply to a command line, which stands there without its CRLF, and empty where it was too long. The reply for one
-- recipient's copy of a message: the message's number among the lane's accepted DATA commands, its bytes, its
-- Message-ID where its head has one, and the client's name as its last LHLO gave it. The end of a conversation.
pub data Entry : Type 0 where
  OfLine : (line : List ℕ) (reply : Reply) → Entry
  OfCopy : (number size : ℕ) (message_id : Option (List ℕ)) (client : List ℕ) (reply : Reply) → Entry
  OfEnd : (cause : EndCause) → Entry

abbrev pub line_entries : List ℕ → List Reply → List Entry
line_entries line rs = map (λ reply. OfLine line reply) rs

abbrev pub copy_entries : ℕ → ℕ → Option (List ℕ) → List ℕ → List Reply → List Entry
copy_entries number size message_id client rs = map (λ reply. OfCopy number size message_id client reply) rs

-- a line as its entry has it, and the line of an input
abbrev pub line_kept : List ℕ → List ℕ
line_kept text = if nat_lt LINE_LIMIT (length text + 2) then [] else text

abbrev pub line_in : Input → List ℕ
line_in (Line text) = text
line_in (Busy text) = text
line_in _ = []

-- an entry for each reply to the part, before which n DATA commands were accepted
abbrev pub entries_of_part : Site → ℕ → Session → Part → List Entry
entries_of_part site n session (CommandLine text busy) =
    line_entries (line_kept text) (replies_to site session (inputs_of (CommandLine text busy)))
entries_of_part site n session (MailData text d) =
    copy_entries (counted n) (counted (length (message text))) (message_id_of (message text)) session.client
    (replies_to site session (inputs_of (MailData text d)))

abbrev pub entries_of : Site → ℕ → Session → List Part → List Entry
entries_of site n session [] = []
entries_of site n session (p ∷ ps) =
    let next = session_after site session (inputs_of p) in
    entries_of_part site n session p ++ entries_of site (if is_content next.state then n + 1 else n) next ps

-- the entries of a conversation, before which n DATA commands were accepted
abbrev pub entries_in : Site → ℕ → Conversation → List Entry
entries_in site n c = entries_of site n fresh (parts site fresh c.bytes c.dispositions c.busy)

-- what a log was told, with these further entries, where it tells
abbrev pub with_entries : Option (List Entry) → List Entry → Option (List Entry)
with_entries told more = option_map (λ entries. entries ++ more) told
