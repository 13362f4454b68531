-- A quota on a mailbox: what its worker counts.
use Rattle.std.specs.Prelude.{◌≡◌, ℕ, ◌+◌, ◌<◌, ◌≤◌, ◌^◌, ◌++◌, length, Option, Some, None}
use Rattle.mail_world.specs.Counts.{counted}
use Rattle.mail_world.specs.Endings.{mends, mended}
use Rattle.mail_world.specs.Records.{Calendar}
use Rattle.mail_world.specs.Site.{Site}
use Rattle.mail_writing.specs.Calendar.{civil_at}
use Rattle.mbox_spool.specs.Spool.{SpoolState}
use Rattle.mbox_spool.specs.declared.tail.Tail.{Tail}
use Rattle.mbox_spool.specs.Tail.{ending_of}
use Rattle.box_worker.specs.declared.limit.Limit.{Limit}

-- what stays while a worker runs: the calendar and the site of its records, the limit of bytes for its mailbox, and its
-- number
pub record Setting : Type 0 where
  pub calendar : Calendar
  pub site : Site
  pub quota : Option ℕ
  pub worker : ℕ

-- that of a worker of this site
abbrev pub setting_by : Site → Option ℕ → ℕ → Setting
setting_by site quota worker = record { calendar = civil_at; site = site; quota = quota; worker = worker }

-- how many bytes stand before a record: what the spool holds, and what mends that
abbrev pub start_of : SpoolState → ℕ
start_of spool = length (spool.bytes ++ mended spool.bytes)

-- how many bytes mend a text that ends so
abbrev pub missing : Tail → ℕ
missing tail = length (mends (ending_of tail))

-- the count of a worker in whose mailbox that many bytes stand: there is none without a quota
abbrev pub CountsTo : Option ℕ → ℕ → Option Limit → Type 0
CountsTo None n limit = limit ≡ None
CountsTo (Some quota) n limit = (quota < 2 ^ 64) × (limit ≡ Some (record { quota = quota; held = counted n }))

-- a record of that size is let in, and counted
abbrev pub IsLetIn : Option Limit → ℕ → Option Limit → Type 0
IsLetIn None size new = new ≡ None
IsLetIn (Some old) size new = (old.held + size ≤ old.quota)
    × (new ≡ Some (record { quota = old.quota; held = old.held + size }))

-- and one is kept out
abbrev pub IsKeptOut : Option Limit → ℕ → Type 0
IsKeptOut None size = ⊥
IsKeptOut (Some limit) size = limit.quota < limit.held + size

-- what a count is after a record of that size, if the record is let in
abbrev pub Admits : Limit → ℕ → Option Limit → Type 0
Admits old size None = IsKeptOut (Some old) size
Admits old size (Some new) = IsLetIn (Some old) size (Some new)
