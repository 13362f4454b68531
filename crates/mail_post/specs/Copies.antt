-- A copy and what it is made of.
use Rattle.std.specs.Prelude.{ℕ, List}
use Rattle.mail_world.specs.declared.Txn.{Txn}
use Rattle.mail_world.specs.declared.Note.{Note}
use Rattle.mbox_record.specs.Envelope.{Envelope}

-- the note of the transaction's copy for its recipient at that place, who has the mailbox of that number
abbrev pub copy_of : Txn → ℕ → ℕ → Envelope → List ℕ → Note
copy_of txn place mailbox envelope message = record {
  txn = txn;
  place = place;
  mailbox = mailbox;
  sender = envelope.sender;
  client = envelope.client;
  utf8 = envelope.utf8;
  moment = envelope.moment;
  message = message;
}

-- what a copy's record is headed by
abbrev pub envelope_of : Note → Envelope
envelope_of note = record {
  sender = note.sender;
  client = note.client;
  utf8 = note.utf8;
  txn = note.txn;
  moment = note.moment;
}
