-- What the program's words may lack, and what the program then answers.
use Rattle.std.specs.Prelude.{◌≡◌, ◌⊎◌, ℕ, Bool, true, false, not, nat_eq, nat_lt, ◌==◌, ◌&&◌, ◌-◌, List, [], ◌∷◌, ◌++◌, length}
use Rattle.std.specs.Prelude.{drop, if◌then◌else◌, take}
use Rattle.std.specs.Prelude.{Option, Some, None, codes}
use Rattle.std.specs.List.{ends_with, list_all}
use Rattle.mail_world.specs.declared.limits.TheConstants.{BOX_LIMIT}
use Rattle.mail_world.specs.Site.{Site, is_host_name, is_domain_name, is_box_name, is_listed_name, is_address, has_twice}
use Rattle.lmtp_text.specs.declared.site.SiteFault.{SiteFault}
use Rattle.lmtp_text.specs.declared.site.SiteFault.TheVariants as cause
use Rattle.lmtpd_words.specs.Boxes.{listed_boxes}
use Rattle.lmtpd_words.specs.Words.{named_site}
use Rattle.lmtpd_words.specs.declared.words.TheConstants.{COMMAND_LINE_BOX_LIMIT}
use Rattle.lmtpd_words.specs.declared.words.SiteWords.{SiteWords}
use Rattle.lmtpd_listen.specs.declared.fault.ListenFault.{ListenFault}
use Rattle.lmtpd_listen.specs.declared.fault.ListenFault.TheVariants as listen
use Rattle.lmtpd_setup.specs.declared.fault.Fault.{Fault}
use Rattle.lmtpd_setup.specs.declared.fault.Fault.TheVariants as fault
use Rattle.lmtpd_setup.specs.declared.stop.Stop.{Stop}
use Rattle.lmtpd_setup.specs.declared.stop.Stop.TheVariants as stop
use Rattle.clap.specs.Words.{kind_of}
use Rattle.clap.specs.declared.error.Error.{Error}
use Rattle.clap.specs.declared.error.kind.ErrorKind.{ErrorKind}
use Rattle.clap.specs.declared.error.kind.ErrorKind.TheVariants.{DisplayHelp, DisplayVersion, OutOfMemory}

-- the program's exit status
abbrev pub status_of : Fault → ℕ
status_of fault.Memory = 1
status_of fault.Listen = 1
status_of fault.Size = 1
status_of fault.NoThread = 1
status_of fault.ChannelGone = 1
status_of fault.Device = 1
status_of _ = 2

-- what standard error says of it
abbrev pub fault_text : Fault → List ℕ
fault_text fault.Address = codes "bad address"
fault_text fault.Port = codes "port 25"
fault_text fault.NoBox = codes "no box"
fault_text fault.Host = codes "bad host"
fault_text fault.Domain = codes "bad domain"
fault_text fault.Box = codes "bad box"
fault_text fault.TooManyBoxes = codes "too many boxes"
fault_text fault.BoxTwice = codes "box named twice"
fault_text fault.Memory = codes "memory"
fault_text fault.Listen = codes "cannot listen"
fault_text fault.Size = codes "size"
fault_text fault.NoThread = codes "no thread"
fault_text fault.ChannelGone = codes "channel gone"
fault_text fault.Device = codes "device fault"

-- the fault for a site that could not be made
abbrev pub refusal : SiteFault → Fault
refusal cause.Memory = fault.Memory
refusal cause.Host = fault.Host
refusal cause.Domain = fault.Domain
refusal cause.Box = fault.Box
refusal cause.Count = fault.TooManyBoxes
refusal cause.Twice = fault.BoxTwice

-- the fault for words that name no address to listen at, or one where nothing could be opened
abbrev pub listen_refusal : ListenFault → Fault
listen_refusal listen.Address = fault.Address
listen_refusal listen.Port = fault.Port
listen_refusal listen.Memory = fault.Memory
listen_refusal (listen.Listen reason) = fault.Listen

abbrev pub is_memory : ErrorKind → Bool
is_memory OutOfMemory = true
is_memory _ = false

-- a file is called as the lock file of another one is
abbrev pub is_lock_name : List ℕ → Bool
is_lock_name file = ends_with nat_eq file (codes ".lock")

-- a name that the words have themselves, of a mailbox whose file is called by it and that suffix
abbrev pub is_usable_name : List ℕ → List ℕ → Bool
is_usable_name suffix name = is_box_name name && not (is_lock_name (name ++ suffix))

-- the same of a name that is listed: it may be longer and have more bytes, and is no address
abbrev pub is_usable_listed_name : List ℕ → List ℕ → Bool
is_usable_listed_name suffix name = is_listed_name name && not (is_address name) && not (is_lock_name (name ++ suffix))

-- names that mailboxes can have, of which the words have so many themselves, and the others are listed
abbrev pub are_usable_names : List ℕ → ℕ → List (List ℕ) → Bool
are_usable_names suffix own names =
    list_all (is_usable_name suffix) (take own names) && list_all (is_usable_listed_name suffix) (drop own names)

-- what is wrong with a host and further domains
abbrev pub host_fault : List ℕ → List (List ℕ) → Option Fault
host_fault host domains =
    if not (is_host_name host) then Some fault.Host
    else if not (list_all is_domain_name domains) then Some fault.Domain
    else None

-- and with such names, of which there may be so many: each alone is looked at before their number
abbrev pub names_fault : ℕ → List ℕ → ℕ → List (List ℕ) → Option Fault
names_fault limit suffix own names =
    if not (are_usable_names suffix own names) then Some fault.Box
    else if nat_lt limit (length names) then Some fault.TooManyBoxes
    else if has_twice names then Some fault.BoxTwice
    else None

abbrev pub fault_or : Option Fault → Option Fault → Option Fault
fault_or (Some f) other = Some f
fault_or None other = other

-- the first fault of a site that may have so many mailboxes, whose files have that suffix, and the names of so many of
-- which the words have themselves, in the order in which the program looks: whether there is a box comes before all
-- names
abbrev pub first_fault : ℕ → List ℕ → ℕ → Site → Option Fault
first_fault limit suffix own site =
    if length site.boxes == 0 then Some fault.NoBox
    else fault_or (host_fault site.host site.domains) (names_fault limit suffix own site.boxes)

-- a site of good names isn't made because two are the same, or for lack of memory
abbrev pub IsTwiceOrMemory : List (List ℕ) → SiteFault → Type 0
IsTwiceOrMemory names f = (f ≡ cause.Memory) ⊎ ((f ≡ cause.Twice) × (has_twice names ≡ true))

-- how many names the words have themselves
abbrev pub own_count : SiteWords → ℕ
own_count words = length words.boxes.items - length (listed_boxes words.listed.now)

-- the first fault of the site that the words name, where it may have so many mailboxes
abbrev pub fault_within : ℕ → SiteWords → Option Fault
fault_within limit words = first_fault limit words.mailbox_suffix.now (own_count words) (named_site words)

-- how many mailboxes a server's words may name: those with more names of their own than a command line may have no
-- more than these
abbrev pub box_limit_of : SiteWords → ℕ
box_limit_of words = if nat_lt COMMAND_LINE_BOX_LIMIT (own_count words) then COMMAND_LINE_BOX_LIMIT else BOX_LIMIT

-- the first fault of the site that a server's words name
abbrev pub site_fault : SiteWords → Option Fault
site_fault words = fault_within (box_limit_of words) words

-- the same of a rehearsal's, wherever they name its mailboxes
abbrev pub rehearsed_fault : SiteWords → Option Fault
rehearsed_fault words = fault_within COMMAND_LINE_BOX_LIMIT words

-- why the program ends where clap answers so
abbrev pub stop_for : Error → Stop
stop_for error = if is_memory (kind_of error) then stop.Fault fault.Memory else stop.Words error

-- help was asked for, and so it is no mistake
abbrev pub is_shown : ErrorKind → Bool
is_shown DisplayHelp = true
is_shown DisplayVersion = true
is_shown _ = false

-- the exit status after clap's answer
abbrev pub words_status : ErrorKind → ℕ
words_status kind = if is_shown kind then 0 else 2

-- the program's exit status where it stops early
abbrev pub stop_status : Stop → ℕ
stop_status (stop.Words error) = words_status (kind_of error)
stop_status (stop.Fault f) = status_of f
stop_status (stop.Name f line) = status_of f
stop_status (stop.Unopened name suffix) = 1
stop_status (stop.NoFolder name suffix) = 1
stop_status (stop.Unread path) = 1
