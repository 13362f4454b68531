-- What a lane's log knows of the letter under way, where its lines show addresses.
use Rattle.std.specs.Prelude.{ℕ, Bool, true, ◌-◌, ◌^◌, nat_lt, List, [], ◌∷◌, ◌++◌, length, take, drop, if◌then◌else◌}
use Rattle.std.specs.Prelude.{Option, Some}
use Rattle.std.specs.Prelude.{None, Ok}
use Rattle.std.specs.Option.{option_map_or}
use Rattle.mail_world.specs.declared.Reply.{Reply}
use Rattle.mail_world.specs.declared.Reply.TheVariants as replies
use Rattle.mail_world.specs.declared.limits.TheConstants.{PATH_LIMIT, RECIPIENT_LIMIT}
use Rattle.mail_world.specs.Commands.{Answer, Mail, Rcpt, command_at}
use Rattle.mail_world.specs.Grammar.{Target, mailbox_text}
use Rattle.lmtp_talk.specs.Entries.{Entry, OfLine, OfCopy, OfEnd}

-- the sender, and the recipients of whose copies the log wasn't told yet, in their order
pub record LoggedLetter : Type 0 where
  pub sender : List ℕ
  pub recipients : List (List ℕ)

abbrev pub no_letter : LoggedLetter
no_letter = record { sender = []; recipients = [] }

-- what it knows at first, where its lines show addresses
abbrev pub first_letter : Bool → Option LoggedLetter
first_letter addresses = if addresses then Some no_letter else None

-- the sender, and the first of the recipients of whose copies the log wasn't told yet
abbrev pub envelope_of : List ℕ → List (List ℕ) → Option (List ℕ × List ℕ)
envelope_of sender [] = None
envelope_of sender (recipient ∷ more) = Some (sender, recipient)

abbrev pub next_envelope : LoggedLetter → Option (List ℕ × List ℕ)
next_envelope letter = envelope_of letter.sender letter.recipients

-- the address of a command as it is spelled, without brackets and route
abbrev pub address_of : Answer → Option (List ℕ)
address_of (Ok (Mail sender utf8)) = Some (take PATH_LIMIT sender)
address_of (Ok (Rcpt target)) = Some (take PATH_LIMIT (mailbox_text target))
address_of _ = None

-- the address that a command line names, where it can be read, whatever the size that MAIL says. `utf8`: it may be in
-- UTF-8
abbrev pub address_in : Bool → List ℕ → Option (List ℕ)
address_in utf8 line = address_of (command_at (record { message_limit = 2 ^ 32 - 1; utf8 = utf8 }) line)

-- the target of a recipient's command
abbrev pub target_of : Answer → Option Target
target_of (Ok (Rcpt target)) = Some target
target_of _ = None

abbrev pub target_in : Bool → List ℕ → Option Target
target_in utf8 line = target_of (command_at (record { message_limit = 2 ^ 32 - 1; utf8 = utf8 }) line)

-- the same of a line that was accepted: what is in UTF-8 was offered then
abbrev pub named_by : List ℕ → List ℕ
named_by line = option_map_or (λ text. text) (address_in true line) []

-- one more recipient, as many as a message may have
abbrev pub with_recipient : LoggedLetter → List ℕ → LoggedLetter
with_recipient letter recipient =
    if nat_lt (length letter.recipients) RECIPIENT_LIMIT
    then record letter { recipients = letter.recipients ++ recipient ∷ [] } else letter

-- after the reply to a line: a sender begins a letter
abbrev pub after_line : LoggedLetter → List ℕ → Reply → LoggedLetter
after_line letter line replies.SenderOk = record { sender = named_by line; recipients = [] }
after_line letter line replies.RecipientOk = with_recipient letter (named_by line)
after_line letter line _ = letter

-- after the reply for a copy, which is that of the first recipient
abbrev pub after_copy : LoggedLetter → LoggedLetter
after_copy letter = record letter { recipients = drop 1 letter.recipients }

abbrev pub after_entry : LoggedLetter → Entry → LoggedLetter
after_entry letter (OfLine line reply) = after_line letter line reply
after_entry letter (OfCopy number size message_id client reply) = after_copy letter
after_entry letter (OfEnd cause) = letter
