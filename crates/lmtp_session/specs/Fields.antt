-- A session's fields, and what is true of them.
use Rattle.std.specs.Prelude.{◌≡◌, ◌<◌, ◌≤◌, Bool, true, false, IsTrue, length, vec_capacity}
use Rattle.std.specs.List.{All}
use Rattle.std.specs.Arc.{arc_value}
use Rattle.mail_world.specs.declared.State.{State}
use Rattle.mail_world.specs.declared.State.TheVariants.{Recipients, Content, Waiting}
use Rattle.mail_world.specs.declared.limits.TheConstants.{NAME_LIMIT, PATH_LIMIT, RECIPIENT_LIMIT}
use Rattle.lmtp_session.specs.View.{View, Room, reserved}
use Rattle.lmtp_session.specs.declared.session.Session.TheInside.{Inside}

abbrev pub room_of : Inside → Room
room_of a = record {
  client = a.client.capacity;
  sender = a.sender.capacity;
  recipients = a.recipients.capacity;
  answers = vec_capacity a.answers;
}

abbrev pub session_view : Inside → View
session_view a = record {
  site = arc_value a.site;
  session = record {
    state = a.state;
    client = a.client.items;
    sender = a.sender.items;
    utf8 = a.utf8;
    recipients = a.recipients.items;
  };
  answers = a.answers.items;
  room = room_of a;
}

-- the states of a message that has a recipient: from its first one to its outcomes
abbrev pub has_recipient : State → Bool
has_recipient Recipients = true
has_recipient Content = true
has_recipient Waiting = true
has_recipient _ = false

-- the recipients are mailboxes of the site, data is taken only for one at least, and everything is within its limit
pub record IsKept (a : Inside) : Type 0 where
  pub known : All (λ box. box < length (arc_value a.site).boxes) a.recipients.items
  pub some : IsTrue (has_recipient a.state) → 0 < length a.recipients.items
  pub count : length a.recipients.items ≤ RECIPIENT_LIMIT
  pub client : length a.client.items ≤ NAME_LIMIT
  pub sender : length a.sender.items ≤ PATH_LIMIT
  pub room : room_of a ≡ reserved
