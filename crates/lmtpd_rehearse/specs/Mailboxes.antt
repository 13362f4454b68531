-- The mailboxes of a rehearsal: what they hold, and how they are written.
use Rattle.std.specs.Prelude.{◌≡◌, ◌<◌, ◌*◌, max, ℕ, Bool, false, List, [], ◌∷◌, ◌++◌, length, map, slice_index_or}
use Rattle.std.specs.Prelude.{codes, decimal}
use Rattle.mail_world.specs.Text.{lf}
use Rattle.mail_world.specs.Site.{Site}
use Rattle.mbox_spool.specs.MemorySpool.{MemorySpool, unused}
use Rattle.lmtp_threads.specs.declared.tally.Tally.{Tally}
use Rattle.lmtp_threads.specs.declared.watched.Watched.{Watched}
use Rattle.lmtpd_output.specs.Output.{pair_texts}
use Rattle.lmtpd_rehearse.specs.declared.parts.TheConstants.{MAILBOX_ROOM}

-- a mailbox in memory, whose turns nobody sees
abbrev pub Mailbox : Type 0
Mailbox = Watched MemorySpool Unit

-- what a mailbox holds, and whether it failed
pub record MailboxContent : Type 0 where
  pub bytes : List ℕ
  pub failed : Bool

-- a mailbox, and what its worker says of it
abbrev pub kept_all : List Mailbox → List Tally → List MailboxContent
kept_all (mailbox ∷ mailboxes) (tally ∷ tallies) =
    record { bytes = mailbox.inner.bytes; failed = tally.faulty } ∷ kept_all mailboxes tallies
kept_all _ _ = []

-- the line before a mailbox's bytes, and the bytes
abbrev pub mailbox_line : List ℕ → ℕ → List ℕ
mailbox_line name size = codes "mailbox " ++ name ++ codes " " ++ decimal size ++ (lf ∷ [])

abbrev pub bytes_of_all : List Mailbox → List (List ℕ)
bytes_of_all mailboxes = map (λ (m : Mailbox). m.inner.bytes) mailboxes

abbrev pub mailbox_output : List ℕ → List ℕ → List ℕ
mailbox_output name bytes = mailbox_line name (length bytes) ++ bytes

abbrev pub texts_of_mailboxes : List (List ℕ) → List (List ℕ) → List ℕ
texts_of_mailboxes names texts = pair_texts mailbox_output names texts

abbrev pub mailboxes_text : List (List ℕ) → List MailboxContent → List ℕ
mailboxes_text names ks = texts_of_mailboxes names (map (λ k. k.bytes) ks)

abbrev pub nothing_kept : MailboxContent
nothing_kept = record { bytes = []; failed = false }

abbrev pub kept_at : List MailboxContent → ℕ → MailboxContent
kept_at ks n = slice_index_or ks n nothing_kept

-- no mailbox failed
abbrev pub IsCalm : List MailboxContent → Type 0
IsCalm ks = (n : ℕ) → n < length ks → (kept_at ks n).failed ≡ false

-- the bytes that a mailbox has room for, by the limit of a message: two largest messages, and no fewer than usual
abbrev pub mailbox_room : ℕ → ℕ
mailbox_room limit = max MAILBOX_ROOM (2 * limit)

-- a spool that holds nothing, with room for a mailbox of the site
abbrev pub empty_spool : Site → MemorySpool
empty_spool site = unused [] (mailbox_room site.message_limit)

-- the mailbox that has it
abbrev pub empty_mailbox : Site → Mailbox
empty_mailbox site = record { inner = empty_spool site; observer = tt }
