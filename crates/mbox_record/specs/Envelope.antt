-- What the record of a copy is made of besides the message.
use Rattle.std.specs.Prelude.{ℕ, Bool, List, [], ◌∷◌, ◌++◌, codes}
use Rattle.mail_world.specs.declared.Txn.{Txn}
use Rattle.mail_world.specs.declared.Note.{Note}
use Rattle.mail_world.specs.Text.{lf, with_lf}
use Rattle.mail_world.specs.Stamps.{Civil, ctime}
use Rattle.mail_world.specs.Records.{Calendar, record_of, from_address, from_head, trace}
use Rattle.mail_world.specs.Site.{Site}

pub record Envelope : Type 0 where
  pub sender : List ℕ
  pub client : List ℕ
  pub utf8 : Bool
  pub txn : Txn
  pub moment : ℕ

-- a copy of the message under that envelope; no record tells its place or its mailbox
abbrev pub note_of : Envelope → List ℕ → Note
note_of envelope message = record {
  txn = envelope.txn;
  place = 0;
  mailbox = 0;
  sender = envelope.sender;
  client = envelope.client;
  utf8 = envelope.utf8;
  moment = envelope.moment;
  message = message;
}

-- the record of the message at the site
abbrev pub record_text : Calendar → Site → Envelope → List ℕ → List ℕ
record_text calendar site envelope message = record_of calendar site (note_of envelope message)

-- the prefix of it that stands before the message: the From line, which has an address, and the trace lines
abbrev pub address_line : List ℕ → Civil → List ℕ
address_line address civil = codes "From " ++ (from_address address ++ codes " " ++ ctime civil) ++ lf ∷ []

abbrev pub from_line : Site → List ℕ → Civil → List ℕ
from_line site sender civil = codes "From " ++ from_head site sender civil ++ lf ∷ []

abbrev pub trace_lines : Site → Civil → Envelope → List ℕ
trace_lines site civil envelope = with_lf (trace site civil (note_of envelope []))

abbrev pub head_text : Calendar → Site → Envelope → List ℕ
head_text calendar site envelope =
    from_line site envelope.sender (calendar envelope.moment) ++ trace_lines site (calendar envelope.moment) envelope
