-- A copy that a transaction owes a mailbox.
use Rattle.std.proofs.Common.{ℕ}
use Rattle.mail_world.specs.declared.Note.{Note}
use Rattle.mail_world.specs.Lists.{Transaction}

-- the copy at a place
abbrev pub copy_at : ℕ → Transaction → ℕ → ℕ → Note
copy_at lane t place box = record {
  txn = record { lane = lane; number = t.number };
  place = place;
  mailbox = box;
  sender = t.session.sender;
  client = t.session.client;
  utf8 = t.session.utf8;
  moment = t.disposition.moment;
  message = t.message;
}
