-- What contracts see of a session.
use Rattle.std.specs.Prelude.{ℕ, List}
use Rattle.mail_world.specs.declared.Reply.{Reply}
use Rattle.mail_world.specs.declared.limits.TheConstants.{RECIPIENT_LIMIT}
use Rattle.mail_world.specs.Site.{Site}
use Rattle.mail_world.specs.Session.{Session}

-- how many bytes of the client's name and of the sender, how many recipients and how many replies fit without an
-- allocation
pub record Room : Type 0 where
  pub client : ℕ
  pub sender : ℕ
  pub recipients : ℕ
  pub answers : ℕ

-- the site, where the session stands, the replies to the recipients of the last message, and the room of its lists
pub record View : Type 0 where
  pub site : Site
  pub session : Session
  pub answers : List Reply
  pub room : Room

-- the room of every session: none of its texts and lists ever outgrows it
abbrev pub reserved : Room
reserved = record { client = 256; sender = 256; recipients = RECIPIENT_LIMIT; answers = RECIPIENT_LIMIT }
