-- What a server has before it listens, and why it hasn't.
use Rattle.std.specs.Prelude.{◌≡◌, ◌⊎◌, ◌*◌, ◌&&◌, ℕ, not, if◌then◌else◌, List, None, Option, map, nat_lt, Bool}
use Rattle.log.specs.declared.level.LevelFilter.{LevelFilter}
use Rattle.log.specs.declared.level.LevelFilter.TheVariants as filter
use Rattle.mail_world.specs.declared.limits.TheConstants.{BLOCK_SIZE}
use Rattle.lmtpd_words.specs.Words.{quotas_for}
use Rattle.lmtpd_words.specs.declared.words.ServeWords.{ServeWords}
use Rattle.lmtpd_listen.specs.Opened.{IsUnopened}
use Rattle.lmtpd_listen.specs.declared.fault.ListenFault.{ListenFault}
use Rattle.lmtpd_listen.specs.declared.listen_address.ListenAddress.{ListenAddress}
use Rattle.lmtpd_setup.specs.Faults.{listen_refusal, site_fault}
use Rattle.lmtpd_setup.specs.Mailboxes.{Held, held_at}
use Rattle.lmtpd_setup.specs.Names.{IsNoSite, is_logged}
use Rattle.lmtpd_setup.specs.Unopened.{AreNotOpen}
use Rattle.lmtpd_setup.specs.declared.ends.Ends.{Ends}
use Rattle.lmtpd_setup.specs.declared.fault.Fault.{Fault}
use Rattle.lmtpd_setup.specs.declared.access.Access.{Access}
use Rattle.lmtpd_setup.specs.declared.fault.Fault.TheVariants as fault
use Rattle.lmtpd_setup.specs.declared.stop.Stop.{Stop}
use Rattle.lmtpd_setup.specs.declared.stop.Stop.TheVariants as stop

-- what else ends the server, and a conversation
abbrev pub ends_asked : ServeWords → Ends
ends_asked words = record { stop_file = words.stop_file; session_time = words.session_time }

-- where mailboxes are and what their files have after their names, how a turn at one is waited for, how a file is made,
-- and whether one that can't be opened keeps the server from starting
abbrev pub access_asked : ServeWords → Access
access_asked words = record {
  folder = words.dir;
  suffix = words.site.mailbox_suffix;
  wait = words.lock_wait;
  mode = words.mailbox_mode;
  anyway = words.start_anyway;
}

-- how the mailboxes are to be had, in the order of the site
abbrev pub mailboxes_asked : ServeWords → List Held
mailboxes_asked words = map (held_at (access_asked words)) words.site.boxes.items

-- the quota of each: its own, and else the one of all
abbrev pub quotas_asked : ServeWords → List (Option ℕ)
quotas_asked words = quotas_for words.quota words.site

-- all blocks together can't hold one largest message
abbrev pub is_short : ServeWords → Bool
is_short words = nat_lt (words.blocks * BLOCK_SIZE) words.site.message_limit

-- up to which level it is logged: errors in any case where the words alone are checked
abbrev pub level_told : Bool → LevelFilter → LevelFilter
level_told checks_words asked = if checks_words && not (is_logged asked) then filter.Error else asked

abbrev pub told_level : ServeWords → LevelFilter
told_level words = level_told words.check_words words.log

-- why a server isn't set up: it has no site, memory is lacking, or, its site being sound, one of its mailboxes' files
-- can't be opened, or only their folder can't where it is to start anyway
abbrev pub IsNotSetUp : ServeWords → Stop → Type 0
IsNotSetUp words s = IsNoSite words s
    ⊎ ((s ≡ stop.Fault fault.Memory)
    ⊎ ((site_fault words.site ≡ None) × AreNotOpen (access_asked words) words.site.boxes.items s))

-- why nothing was opened there
abbrev pub IsUnopenedAt : ListenAddress → Fault → Type 0
IsUnopenedAt listen_address f = (refused : ListenFault) × (f ≡ listen_refusal refused)
    × IsUnopened listen_address refused
