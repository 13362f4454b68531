-- Which lines a lane's log owes for what it was told.
use Rattle.std.specs.Prelude.{ℕ, Bool, true, false, List, [], ◌∷◌, ◌++◌, take, map, codes, if◌then◌else◌}
use Rattle.std.specs.Prelude.{Option, None, option_map}
use Rattle.std.specs.Option.{option_map_or, option_and_then}
use Rattle.mail_world.specs.declared.Reply.{Reply}
use Rattle.mail_world.specs.declared.Reply.TheVariants as replies
use Rattle.mail_world.specs.declared.limits.TheConstants.{NAME_LIMIT}
use Rattle.mail_world.specs.Replies.{reply_text}
use Rattle.mail_world.specs.Site.{Site, box_name}
use Rattle.mail_world.specs.Targets.{knows_domain}
use Rattle.lmtp_talk.specs.Entries.{Entry, OfLine, OfCopy, OfEnd}
use Rattle.lmtp_talk.specs.declared.client.Traffic.{Traffic}
use Rattle.lmtp_talk.specs.declared.ending.EndCause.{EndCause}
use Rattle.lmtpd_log.specs.Letters.{LoggedLetter, address_in, after_entry, first_letter, next_envelope, target_in}
use Rattle.lmtpd_log.specs.Line.{Line, Refused, Answered, Ended}
use Rattle.lmtpd_log.specs.Verbs.{verb_word}
use Rattle.lmtpd_log.specs.Words.{is_refusal, cause_text, outcome_word}

-- the site whose mailboxes are named, when the server began, the lane's number, whether the lines show addresses, and
-- whether there are lines at all
pub record LineRules : Type 0 where
  pub site : Site
  pub start : ℕ
  pub lane : ℕ
  pub addresses : Bool
  pub is_on : Bool

-- an entry that a log was told, and with an end what had come and gone
pub record Heard : Type 0 where
  pub entry : Entry
  pub traffic : Option Traffic

abbrev pub entries_heard : List Heard → List Entry
entries_heard heard = map (λ h. h.entry) heard

-- the code of a reply, its first three digits
abbrev pub code_of : Site → Reply → List ℕ
code_of site reply = take 3 (reply_text site reply)

-- why the recipient of a command isn't known: no mailbox has the name, or the site doesn't know the domain
abbrev pub unknown_reason : Site → List ℕ → Reply → Option (List ℕ)
unknown_reason site line replies.NoSuchBox =
    option_map (λ target. if knows_domain site target.domain then codes "mailbox" else codes "domain")
    (target_in site.utf8 line)
unknown_reason site line _ = None

-- The lines that are owed for one entry, one or none: for a command that was refused, for a copy to and from these
-- addresses, and for an end.
abbrev pub refused_lines : LineRules → List ℕ → Reply → List Line
refused_lines rules line reply =
    let address = if rules.addresses then address_in rules.site.utf8 line else None in
    let reason = unknown_reason rules.site line reply in
    if is_refusal reply then Refused rules.lane (verb_word line) (code_of rules.site reply) reason address ∷ [] else []

abbrev pub copy_lines : LineRules → ℕ → ℕ → Option (List ℕ) → List ℕ → Reply → Option (List ℕ × List ℕ) → List Line
copy_lines rules number size message_id client (replies.Result outcome box) envelope =
    Answered rules.start rules.lane number (box_name rules.site box) (outcome_word outcome)
    (code_of rules.site (replies.Result outcome box)) size (take NAME_LIMIT client) message_id envelope ∷ []
copy_lines rules number size message_id client _ envelope = []

abbrev pub end_lines : LineRules → EndCause → Traffic → List Line
end_lines rules cause t = Ended rules.lane t.client (cause_text cause) t.read t.written ∷ []

-- `letter` is what the log knows of the letter under way, where the lines show addresses
abbrev pub lines_for_entry : LineRules → Option LoggedLetter → Option Traffic → Entry → List Line
lines_for_entry rules letter traffic (OfLine line reply) = refused_lines rules line reply
lines_for_entry rules letter traffic (OfCopy number size message_id client reply) =
    copy_lines rules number size message_id client reply (option_and_then next_envelope letter)
lines_for_entry rules letter traffic (OfEnd cause) = option_map_or (λ t. end_lines rules cause t) traffic []

abbrev pub lines_for : LineRules → Option LoggedLetter → Heard → List Line
lines_for rules letter h = if rules.is_on then lines_for_entry rules letter h.traffic h.entry else []

abbrev pub letter_then : Option LoggedLetter → Heard → Option LoggedLetter
letter_then letter h = option_map (λ l. after_entry l h.entry) letter

abbrev pub lines_from : LineRules → Option LoggedLetter → List Heard → List Line
lines_from rules letter [] = []
lines_from rules letter (h ∷ hs) = lines_for rules letter h ++ lines_from rules (letter_then letter h) hs

abbrev pub letter_after : Option LoggedLetter → List Heard → Option LoggedLetter
letter_after letter [] = letter
letter_after letter (h ∷ hs) = letter_after (letter_then letter h) hs

-- the lines owed for all that a log was told, in its order
abbrev pub lines_owed : LineRules → List Heard → List Line
lines_owed rules heard = lines_from rules (first_letter rules.addresses) heard

abbrev pub is_end : Entry → Bool
is_end (OfEnd cause) = true
is_end _ = false

abbrev pub ended_after : Bool → List Heard → Bool
ended_after ended [] = ended
ended_after ended (h ∷ hs) = ended_after (is_end h.entry) hs

-- no conversation is under way: it was told nothing, or an end last
abbrev pub has_ended : List Heard → Bool
has_ended heard = ended_after true heard
