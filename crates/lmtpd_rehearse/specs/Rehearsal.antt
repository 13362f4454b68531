-- What a rehearsal comes to: its replies and its mailboxes, for an account of what became of the data.
use Rattle.std.specs.Prelude.{◌≡◌, ◌↔◌, ◌⊎◌, ◌<◌, ◌≤◌, ℕ, ◌+◌, Bool, true, false, List, [], ◌∷◌, ◌++◌, length, map}
use Rattle.std.specs.Prelude.{Option}
use Rattle.std.specs.List.{AllByRecursion}
use Rattle.std.specs.Io.KnownBytes.{Consumes, Appends, IsAtEnd}
use Rattle.mail_world.specs.declared.limits.TheConstants.{READ_LIMIT, BLOCK_LIMIT, RECIPIENT_LIMIT}
use Rattle.mail_world.specs.declared.Note.{Note}
use Rattle.mail_world.specs.declared.Outcome.{Outcome}
use Rattle.mail_world.specs.Site.{Site}
use Rattle.mail_world.specs.Conversation.{Disposition, IsAccount, conversation, inputs, replies}
use Rattle.mail_world.specs.Lists.{VerdictFits, transactions, due}
use Rattle.mail_world.specs.Records.{mailbox}
use Rattle.mail_world.specs.Quotas.{are_kept, kept, outcomes_settled, quota_at}
use Rattle.mail_world.specs.Deliveries.{outcomes_told}
use Rattle.mail_world.specs.Runs.{events_of, offers_by}
use Rattle.mail_world.specs.Turns.{left_by, last_broke}
use Rattle.mail_runs.specs.Courses.{Server, Course, outcomes_in}
use Rattle.mail_runs.specs.Histories.{Threads}
use Rattle.mail_runs.specs.Ordered.{IsOrderlyRunOf}
use Rattle.box_worker.specs.Turned.{AreRefused}
use Rattle.mail_writing.specs.Calendar.{civil_at}
use Rattle.lmtp_talk.specs.declared.ending.EndCause.{EndCause}
use Rattle.lmtp_talk.specs.declared.ending.EndCause.TheVariants.{Quit, EndOfInput, WriteFault, Stopped, ReadBound}
use Rattle.lmtp_talk.specs.Served.{IsWritten, has_quit}
use Rattle.lmtp_threads.specs.OwnChannel.{room_beside}
use Rattle.lmtpd_words.specs.declared.words.TheConstants.{DEFAULT_CAPACITY}
use Rattle.lmtpd_rehearse.specs.declared.ending.Ending.{Ending}
use Rattle.lmtpd_rehearse.specs.Mailboxes.{Mailbox, MailboxContent, kept_at, mailbox_room, mailboxes_text}
use Rattle.lmtpd_rehearse.specs.Mailboxes.{bytes_of_all, IsCalm}
use Rattle.lmtpd_rehearse.specs.Account.{IsAllSettled}
use Rattle.lmtpd_rehearse.specs.Copies.{HoldsCopies}

-- the account of a conversation whose bytes were read: what became of its data, each at that moment
pub record IsAccountAt (site : Site) (moment : ℕ) (read : List ℕ) (account : List Disposition) : Type 0 where
  pub complete : IsAccount site (conversation read account)
  pub moments : AllByRecursion (λ d. d.moment ≡ moment) account
  -- too large exactly where the message is above the limit and a number is left, and malformed exactly where it isn't,
  -- and the site refuses it so
  pub verdicts : AllByRecursion (VerdictFits site) (transactions site 0 (conversation read account ∷ []))

-- the copies that the conversation owes a mailbox, and what was told of each
abbrev pub copies_due : Site → List ℕ → List Disposition → ℕ → List Note
copies_due site read account box = due site 0 box (conversation read account ∷ [])

abbrev pub told_of_box : Site → List ℕ → List Disposition → ℕ → List Outcome
told_of_box site read account box = outcomes_told site box (conversation read account ∷ [])

-- the mailboxes, in the order of the site, by that account, each under its quota
pub record AreMailboxes (site : Site) (quotas : List (Option ℕ)) (read : List ℕ) (account : List Disposition)
    (mailboxes : List MailboxContent) (faulty : Bool) : Type 0 where
  pub count : length mailboxes ≡ length site.boxes
  -- each took the copies that were due to it: the first were settled, kept or over the quota; once its spool failed,
  -- the others were told Failed
  pub each : (box : ℕ) → box < length site.boxes
      → HoldsCopies civil_at site (quota_at quotas box) (copies_due site read account box) (told_of_box site read account box)
      (kept_at mailboxes box).bytes (kept_at mailboxes box).failed
  -- a spool failed only once its room was used up
  pub full : (box : ℕ) → box < length site.boxes → (kept_at mailboxes box).failed ≡ true
      → length (kept_at mailboxes box).bytes ≡ mailbox_room site.message_limit
  -- a rehearsal is faulty exactly where a spool failed
  pub sound : (faulty ≡ false) ↔ IsCalm mailboxes
  -- and where it isn't, every outcome is Stored, or where its recipient's mailbox has a quota OverQuota
  pub settled : faulty ≡ false
      → AllByRecursion (IsAllSettled quotas) (transactions site 0 (conversation read account ∷ []))
  -- which of the two says that quota, and each mailbox has the records of its copies that are kept
  pub told : faulty ≡ false → (box : ℕ) → box < length site.boxes
      → told_of_box site read account box ≡ outcomes_settled (length (copies_due site read account box))
      (are_kept civil_at site (quota_at quotas box) [] (copies_due site read account box))
  pub held : faulty ≡ false → (box : ℕ) → box < length site.boxes
      → (kept_at mailboxes box).bytes ≡ mailbox civil_at site []
      (kept civil_at site (quota_at quotas box) [] (copies_due site read account box))

-- A mailbox of the model came to what this one did: it had that quota, was empty at first, took these copies, told this
-- of each in its turn, is left with these bytes, and failed where this one did. From the first turn that broke on all
-- were missed, and none before it.
pub record IsCourseTo (quota : Option ℕ) (copies : List Note) (told : List Outcome) (mailbox : MailboxContent)
    (course : Course) : Type 0 where
  pub under : course.quota ≡ quota
  pub old : course.old ≡ []
  pub taken : course.taken ≡ copies
  pub outcomes : outcomes_in course.turns ≡ told
  pub left : left_by course.old course.turns ≡ mailbox.bytes
  pub failed : last_broke false course.turns ≡ mailbox.failed
  pub refused : AreRefused (λ broke refused. refused ≡ broke) false course.turns

-- the model's server: this site, its calendar, one lane
abbrev pub model_of : Site → Server
model_of site = record {
  calendar = civil_at;
  site = site;
  lanes = 1;
  boxes = length site.boxes;
}

-- how many copies may wait for a mailbox of so many: the usual number, and above 256 mailboxes as many more as may wait
-- beside the channel of a thread that has several
abbrev pub waiting_for : ℕ → ℕ
waiting_for boxes = DEFAULT_CAPACITY + room_beside boxes 1

-- There is an orderly run of the model of one lane and these mailboxes, from a start at which nothing has happened, in
-- which the lane offers each mailbox just the copies that are due to it, and at whose end each mailbox has come to
-- this under its quota. Its mailboxes' channels have the usual capacity, above 256 mailboxes with it that of the lists
-- beside its threads' channels, and the lane's channel has room for the slips of a message to as many recipients as
-- there may be. The run has a depot that is large enough.
pub record IsRunOfRehearsal (site : Site) (quotas : List (Option ℕ)) (read : List ℕ) (account : List Disposition)
    (mailboxes : List MailboxContent) : Type 0 where
  pub threads : Threads
  pub is : IsOrderlyRunOf RECIPIENT_LIMIT (waiting_for (length site.boxes)) (model_of site) threads
  pub offered : (box : ℕ) → box < length site.boxes
      → offers_by 0 box (events_of is.is.run) ≡ copies_due site read account box
  pub each : (box : ℕ) → box < length site.boxes
      → IsCourseTo (quota_at quotas box) (copies_due site read account box) (told_of_box site read account box)
      (kept_at mailboxes box) (threads.courses box)

-- why the conversation ended
pub record RehearsalEndsFor (site : Site) (read : List ℕ) (account : List Disposition) (left : Option (List ℕ))
    (end : EndCause) : Type 0 where
  pub quit : end ≡ Quit → has_quit (inputs site (conversation read account)) ≡ true
  pub quits : has_quit (inputs site (conversation read account)) ≡ true → (end ≡ Quit) ⊎ (end ≡ WriteFault)
  pub end_of_input : end ≡ EndOfInput → IsAtEnd left
  pub read_bound : end ≡ ReadBound → READ_LIMIT ≤ length read
  pub not_stopped : end ≡ Stopped → ⊥

-- what contracts see of a reader and a writer: the bytes that are left to be read, and those that were written
pub record Streams : Type 0 where
  pub unread : Option (List ℕ)
  pub written : Option (List ℕ)

-- From a reader and a writer that stood so to ones that stand so, each mailbox under its quota, if it has one.
pub record IsRehearsed (site : Site) (quotas : List (Option ℕ)) (moment : ℕ) (old new : Streams)
    (ending : Ending) : Type 0 where
  pub read : List ℕ
  pub input : Consumes old.unread new.unread read
  pub account : List Disposition
  pub accounted : IsAccountAt site moment read account
  pub mailboxes : List MailboxContent
  pub delivered : AreMailboxes site quotas read account mailboxes ending.faulty
  pub run : IsRunOfRehearsal site quotas read account mailboxes
  -- what was written of the replies, and then of the mailboxes
  pub said : List ℕ
  pub listed : List ℕ
  pub output : Appends old.written new.written (said ++ listed)
  pub says : IsWritten (replies site (inputs site (conversation read account))) (ending.end ≡ WriteFault) said
  pub lists : IsWritten (mailboxes_text site.boxes mailboxes) (ending.cut ≡ true) listed
  pub ends : RehearsalEndsFor site read account new.unread ending.end

-- what a conversation leaves: the mailboxes, whether one failed, and why it ended
pub record HeldState : Type 0 where
  pub mailboxes : List Mailbox
  pub faulty : Bool
  pub end : EndCause

-- A conversation that was held, from a reader and a writer that stood so to ones that stand so, and what it left.
pub record IsHeld (site : Site) (quotas : List (Option ℕ)) (moment : ℕ) (old new : Streams) (held : HeldState) : Type 0 where
  pub read : List ℕ
  pub input : Consumes old.unread new.unread read
  pub account : List Disposition
  pub accounted : IsAccountAt site moment read account
  pub mailboxes : List MailboxContent
  pub delivered : AreMailboxes site quotas read account mailboxes held.faulty
  pub run : IsRunOfRehearsal site quotas read account mailboxes
  pub holds : map (λ k. k.bytes) mailboxes ≡ bytes_of_all held.mailboxes
  pub said : List ℕ
  pub output : Appends old.written new.written said
  pub says : IsWritten (replies site (inputs site (conversation read account))) (held.end ≡ WriteFault) said
  pub ends : RehearsalEndsFor site read account new.unread held.end

-- how many blocks there may be
abbrev pub IsBlockCount : ℕ → Type 0
IsBlockCount blocks = (1 ≤ blocks) × (blocks ≤ BLOCK_LIMIT)

-- what a rehearsal may be held with: that many blocks, and a quota for each mailbox, or none
abbrev pub IsSizeFor : Site → ℕ → ℕ → Type 0
IsSizeFor site blocks quotas = IsBlockCount blocks × (quotas ≡ length site.boxes)
