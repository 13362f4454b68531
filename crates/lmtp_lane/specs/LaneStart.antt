-- A channel of slips of which nothing is known.
use Rattle.std.specs.Prelude.{[], None}
use Rattle.mail_world.specs.declared.Slip.{Slip}
use Rattle.mail_post.specs.Channel.{Inbox}

abbrev pub no_inbox : Inbox Slip
no_inbox = record {
  channel = (
    record { words = 0; slots = 0; views_name = 0; atom = 0; block = 0; offset = 0; slot_names = [] },
    record {
      marker = record {};
      table_id = record { words = 0; slots = 0; views_name = 0; atom = 0; block = 0; offset = 0; slot_names = [] };
      id = 0;
      views = [];
    },
  );
  capacity = 0;
  lanes = 0;
  got = [];
  got_at = [];
  took_at = [];
  gone = None;
}
