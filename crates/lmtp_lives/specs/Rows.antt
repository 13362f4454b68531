-- The worked example: clients, spools and observers of which all is told, two sites, a message, and a run that is
-- killed.
use Rattle.std.specs.Prelude.{◌≡◌, ℕ, true, false, List, [], ◌∷◌, ◌++◌, take, codes, ⊤, Option}
use Rattle.mail_world.specs.declared.Note.{Note}
use Rattle.mail_world.specs.declared.Outcome.{Outcome}
use Rattle.mail_world.specs.declared.Outcome.TheVariants.{Failed}
use Rattle.mail_world.specs.Conversation.{Conversation, conversation}
use Rattle.mail_world.specs.Rows.{site_with, delivery, hello, whole}
use Rattle.mail_world.specs.Site.{Site}
use Rattle.mail_world.specs.Turns.{Standing, Had, addition}
use Rattle.mail_writing.specs.Calendar.{civil_at}
use Rattle.mbox_spool.specs.Spool.{SpoolState}
use Rattle.box_worker.specs.declared.turn.TurnEnd.{TurnEnd}
use Rattle.lmtp_talk.specs.Entries.{Entry}
use Rattle.lmtp_lane.specs.Visits.{VisitsTold}
use Rattle.lmtp_threads.specs.Works.{VisitsView, SpoolsView, visits_view, spools_view}
use Rattle.lmtp_threads.specs.declared.watched.Watched.{Watched}
use Rattle.lmtp_lives.specs.Runs.{ServerRun, told_in_run}

-- the site of the first run; and that of the second: its host has another name, and a mailbox stands before anna's
abbrev pub earlier_site : Site
earlier_site = site_with (codes "mx.example") [] (codes "anna" ∷ [])

abbrev pub later_site : Site
later_site = site_with (codes "mail.example") (codes "mx.example" ∷ []) (codes "aaron" ∷ codes "anna" ∷ [])

abbrev pub Clients : Type 0
Clients = Watched VisitsTold (Option (List Entry))

abbrev pub view : VisitsView Clients
view = visits_view (λ told peer. ⊤) (λ told. told) (λ told. true) (λ told. told)

abbrev pub Mailbox : Type 0
Mailbox = Watched SpoolState (Option (List TurnEnd))

abbrev pub spools : SpoolsView Mailbox
spools = spools_view (λ state. state) (λ last now. ⊤) (λ broke refused. ⊤) (λ told. told)

abbrev pub Run : Type 0
Run = ServerRun {C = ℕ} (λ clock moment. ⊤) view spools

-- the relay sends anna a message, and that is said of it; and its copy, where her mailbox has that number
abbrev pub sent : Outcome → Conversation
sent outcome = conversation (delivery hello) (whole (outcome ∷ []) ∷ [])

abbrev pub note : ℕ → Note
note b = record {
  txn = record { lane = 0; number = 1 };
  place = 0;
  mailbox = b;
  sender = codes "carl@a.example";
  client = codes "relay.example";
  utf8 = false;
  moment = 0;
  message = codes "Subject: hi\r\n\r\nhello\r\n";
}

-- The run at the first site is killed in the turn of that copy: n bytes of what it appends stand there after these.
pub record IsKilledAt (n : ℕ) (old : List ℕ) (run : Run) : Type 0 where
  pub site : run.site ≡ earlier_site
  pub lock : Standing
  pub unlock : Standing
  pub turns : (run.ran.boxes 0).turns ≡ record { outcome = Failed; turn = Had lock unlock } ∷ []
  pub found : lock.bytes ≡ old
  pub left : unlock.bytes ≡ old ++ take n (addition civil_at earlier_site (note 0) old)

-- The run at the second site tells the relay that the copy is stored.
pub record TellsStored (run : Run) : Type 0 where
  pub site : run.site ≡ later_site
  pub told : told_in_run (codes "anna") 0 run ≡ note 1 ∷ []
