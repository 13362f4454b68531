-- The lines of a lane's log, without what only a clock knows: the seconds of a copy and of a conversation.
use Rattle.std.specs.Prelude.{ℕ, List, Option, option_map}
use Rattle.mail_head.specs.Texts.{text_of}
use Rattle.lmtp_talk.specs.declared.client.Client.{Client}
use Rattle.lmtpd_log.specs.declared.pairs.Line.{Line as LineOfPairs}
use Rattle.lmtpd_log.specs.declared.pairs.Line.TheVariants as lines
use Rattle.lmtpd_log.specs.Texts.{envelope_texts}
use Rattle.lmtpd_log.specs.Words.{cause_text, outcome_word, unknown_word}

-- A command that was refused: the verb, the reply's code, why a recipient isn't known, and the address that it named,
-- where lines show addresses.
-- A copy that was answered: its message's id, which is the server's start, the lane and the number there; the mailbox,
-- the outcome in a word, the code, the message's bytes, the client's name in LHLO, the message's Message-ID where its
-- head has one, and the sender and the recipient, where lines show addresses. A conversation that ended: its client,
-- the cause, and the bytes read and written.
pub data Line : Type 0 where
  Refused : (lane : ℕ) (verb code : List ℕ) (reason address : Option (List ℕ)) → Line
  Answered : (start lane number : ℕ) (mailbox outcome code : List ℕ) (bytes : ℕ) (client : List ℕ)
      (message_id : Option (List ℕ)) (envelope : Option (List ℕ × List ℕ)) → Line
  Ended : (lane : ℕ) (client : Client) (cause : List ℕ) (read written : ℕ) → Line

-- what a line says by its pairs
abbrev pub line_of : LineOfPairs → Line
line_of (lines.Refused l) =
    Refused l.lane (text_of l.verb) (text_of l.code) (option_map unknown_word l.reason) (option_map (λ a. text_of a) l.address)
line_of (lines.Answered l) =
    Answered l.id.start l.id.lane l.id.number (text_of l.mailbox) (outcome_word l.outcome) (text_of l.code) l.bytes
    (text_of l.client) (option_map (λ id. text_of id) l.message_id) (option_map envelope_texts l.envelope)
line_of (lines.Ended l) = Ended l.lane l.client (cause_text l.cause) l.read l.written
