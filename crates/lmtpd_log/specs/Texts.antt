-- What texts, and what is made of them, say.
use Rattle.std.specs.Prelude.{ℕ, List, map, Option, option_map}
use Rattle.mail_head.specs.Texts.{text_of}
use Rattle.lmtpd_log.specs.declared.addresses.Addresses.{Addresses}
use Rattle.lmtpd_log.specs.declared.letter.Letter.{Letter}
use Rattle.lmtpd_log.specs.declared.pairs.Envelope.{Envelope}
use Rattle.lmtpd_log.specs.Letters.{LoggedLetter}

abbrev pub envelope_texts : Envelope → List ℕ × List ℕ
envelope_texts e = (text_of e.sender, text_of e.recipient)

abbrev pub logged_letter : Addresses → LoggedLetter
logged_letter a = record { sender = text_of a.sender; recipients = map (λ r. text_of r) a.recipients.items }

-- what is known of the letter under way, where the lines show addresses
abbrev pub letter_of : Letter → Option LoggedLetter
letter_of letter = option_map logged_letter letter.addresses
