-- The session (RFC 5321, 4.1.4, for the order of commands; RFC 2033, 4.2, for a reply to each recipient after the
-- data).
use Rattle.std.specs.Prelude.{ℕ, Bool, false, nat_lt, List, [], ◌∷◌, ◌++◌, length, zip, map, if◌then◌else◌}
use Rattle.std.specs.Prelude.{Option, Some, None}
use Rattle.std.specs.Prelude.{Result, Ok, Err}
use Rattle.mail_world.specs.declared.Outcome.{Outcome}
use Rattle.mail_world.specs.declared.Outcome.TheVariants as outcomes
use Rattle.mail_world.specs.declared.Verdict.{Verdict}
use Rattle.mail_world.specs.declared.Verdict.TheVariants as verdicts
use Rattle.mail_world.specs.declared.State.{State}
use Rattle.mail_world.specs.declared.State.TheVariants.{Fresh, Greeted, Sender, Recipients, Content, Waiting, Ended}
use Rattle.mail_world.specs.declared.BadCommand.{BadCommand}
use Rattle.mail_world.specs.declared.Reply.{Reply}
use Rattle.mail_world.specs.declared.Reply.TheVariants as replies
use Rattle.mail_world.specs.declared.limits.TheConstants.{RECIPIENT_LIMIT}
use Rattle.mail_world.specs.Site.{Site, extensions_of}
use Rattle.mail_world.specs.Commands.{Command, Lhlo, Mail, Rcpt, StartData, Rset, Noop, Quit, Vrfy, Help, command_at}
use Rattle.mail_world.specs.Targets.{box_of}

-- where the session stands, the client's name, the sender, whether MAIL had the parameter SMTPUTF8, and the mailbox of
-- each accepted recipient in their order
pub record Session : Type 0 where
  pub state : State
  pub client : List ℕ
  pub sender : List ℕ
  pub utf8 : Bool
  pub recipients : List ℕ

abbrev pub fresh : Session
fresh = record { state = Fresh; client = []; sender = []; utf8 = false; recipients = [] }

-- what a session is given: a line without its CRLF, the same while the mailbox that it may name is busy, a line that is
-- too long, what was found at the end of data, what became of the copies, the order to stop
pub data Input : Type 0 where
  Line : (text : List ℕ) → Input
  Busy : (text : List ℕ) → Input
  LongLine : Input
  DataEnded : (verdict : Verdict) → Input
  Outcomes : (list : List Outcome) → Input
  Stop : Input

-- what a session says, and where it stands then
pub record Transition : Type 0 where
  pub replies : List Reply
  pub next : Session

abbrev pub says : Reply → Session → Transition
says r s = record { replies = r ∷ []; next = s }

-- the session in another state
abbrev pub moved_to : State → Session → Session
moved_to state s = record s { state = state }

-- sender and recipients are forgotten
abbrev pub greeted : List ℕ → Session
greeted client = record { state = Greeted; client = client; sender = []; utf8 = false; recipients = [] }

abbrev pub on_mail : State → Session → List ℕ → Bool → Transition
on_mail Greeted s sender utf8 =
    says replies.SenderOk (record { state = Sender; client = s.client; sender = sender; utf8 = utf8; recipients = [] })
on_mail _ s sender utf8 = says replies.OutOfOrder s

-- a recipient whose mailbox is known, or isn't
abbrev pub add_recipient : Session → Option ℕ → Transition
add_recipient s None = says replies.NoSuchBox s
add_recipient s (Some box) =
    if nat_lt (length s.recipients) RECIPIENT_LIMIT
    then says replies.RecipientOk (record s { state = Recipients; recipients = s.recipients ++ box ∷ [] })
    else says replies.TooMany s

abbrev pub on_rcpt : State → Session → Option ℕ → Transition
on_rcpt Sender s box = add_recipient s box
on_rcpt Recipients s box = add_recipient s box
on_rcpt _ s box = says replies.OutOfOrder s

-- a recipient whose mailbox is busy: one who would be added isn't, and may be sent again (RFC 5321, 4.2.2: 450)
abbrev pub put_off_recipient : Session → Option ℕ → Transition
put_off_recipient s None = says replies.NoSuchBox s
put_off_recipient s (Some box) =
    if nat_lt (length s.recipients) RECIPIENT_LIMIT then says replies.Busy s else says replies.TooMany s

abbrev pub on_busy_rcpt : State → Session → Option ℕ → Transition
on_busy_rcpt Sender s box = put_off_recipient s box
on_busy_rcpt Recipients s box = put_off_recipient s box
on_busy_rcpt _ s box = says replies.OutOfOrder s

abbrev pub on_data : State → Session → Transition
on_data Recipients s = says replies.GoAhead (moved_to Content s)
on_data _ s = says replies.OutOfOrder s

abbrev pub on_rset : State → Session → Transition
on_rset Fresh s = says replies.ResetOk s
on_rset _ s = says replies.ResetOk (greeted s.client)

abbrev pub on_command : Site → Session → Result Command BadCommand → Transition
on_command site s (Err why) = says (replies.Refused why) s
on_command site s (Ok (Lhlo client)) = says replies.Offer (greeted client)
on_command site s (Ok (Mail sender utf8)) = on_mail s.state s sender utf8
on_command site s (Ok (Rcpt target)) = on_rcpt s.state s (box_of site target)
on_command site s (Ok StartData) = on_data s.state s
on_command site s (Ok Rset) = on_rset s.state s
on_command site s (Ok Noop) = says replies.NoopOk s
on_command site s (Ok Vrfy) = says replies.NotChecked s
on_command site s (Ok Help) = says replies.HelpText s
on_command site s (Ok Quit) = says replies.Bye (moved_to Ended s)

-- only a recipient's mailbox can be busy
abbrev pub on_busy_command : Site → Session → Result Command BadCommand → Transition
on_busy_command site s (Ok (Rcpt target)) = on_busy_rcpt s.state s (box_of site target)
on_busy_command site s answer = on_command site s answer

-- a reply for each recipient, in their order (RFC 2033, 4.2)
abbrev pub results : List Outcome → List ℕ → List Reply
results os boxes = map (λ pair. replies.Result pair.0 pair.1) (zip os boxes)

abbrev pub result_for_all : Outcome → List ℕ → List Reply
result_for_all o boxes = map (λ box. replies.Result o box) boxes

abbrev pub on_verdict : Session → Verdict → Transition
on_verdict s verdicts.Whole = record { replies = []; next = moved_to Waiting s }
on_verdict s verdicts.TooLarge = record {
  replies = result_for_all outcomes.TooLarge s.recipients;
  next = greeted s.client;
}
on_verdict s verdicts.Malformed = record {
  replies = result_for_all outcomes.Malformed s.recipients;
  next = greeted s.client;
}
on_verdict s verdicts.NoRoom = record { replies = result_for_all outcomes.NoRoom s.recipients; next = greeted s.client }

-- The table. A line comes in the first four states, a verdict in Content, outcomes in Waiting, one for each recipient,
-- and stop in any of the first five.
abbrev pub step : Site → Session → Input → Transition
step site s (Line text) = on_command site s (command_at (extensions_of site) text)
step site s (Busy text) = on_busy_command site s (command_at (extensions_of site) text)
step site s LongLine = says replies.LineTooLong s
step site s (DataEnded verdict) = on_verdict s verdict
step site s (Outcomes os) = record { replies = results os s.recipients; next = greeted s.client }
step site s Stop = says replies.Stopping (moved_to Ended s)
