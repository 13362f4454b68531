-- What a server is named and serves.
use Rattle.std.specs.Prelude.{◌≡◌, ◌≤◌, ℕ, Bool, false, not, ◌&&◌, ◌||◌, nat_lt, nat_le, ◌==◌, List, [], ◌∷◌, length}
use Rattle.std.specs.Prelude.{if◌then◌else◌, Option, Some, None, slice_get, unwrap_or, codes, IfSome, true}
use Rattle.std.specs.List.{list_all, list_any, before_first, after_first}
use Rattle.std.specs.Char.{is_ascii_alphanumeric, is_ascii_lowercase, is_ascii_digit}
use Rattle.std.specs.Str.{byte, bytes_eq}
use Rattle.mail_world.specs.declared.limits.TheConstants.{NAME_LIMIT, GIVEN_NAME_LIMIT, LISTED_LOCAL_LIMIT, BOX_LIMIT}
use Rattle.mail_world.specs.declared.limits.TheConstants.{LEAST_MESSAGE_LIMIT, LARGEST_MESSAGE_LIMIT}
use Rattle.mail_world.specs.Text.{has_byte, begins}
use Rattle.mail_world.specs.declared.Extensions.{Extensions}

-- the host's name, the further domains, the names of the mailboxes, how many bytes a message may have, the byte that
-- parts user and detail of a recipient's address, if one does (RFC 5233), whether addresses may be in UTF-8 (RFC 6531),
-- whether records have the marks in a message's head renamed, whether malformed messages are refused, whether copies
-- over a quota are refused for good, and whether a recipient may be told that its mailbox is busy
pub record Site : Type 0 where
  pub host : List ℕ
  pub domains : List (List ℕ)
  pub boxes : List (List ℕ)
  pub message_limit : ℕ
  pub recipient_delimiter : Option ℕ
  pub utf8 : Bool
  pub renames_marks : Bool
  pub refuses_malformed : Bool
  pub rejects_over_quota : Bool
  pub tells_busy : Bool

-- what the site offers of the extensions that name something
abbrev pub extensions_of : Site → Extensions
extensions_of site = record { message_limit = site.message_limit; utf8 = site.utf8 }

-- the name of the mailbox with the number
abbrev pub box_name : Site → ℕ → List ℕ
box_name site n = unwrap_or (slice_get site.boxes n) []

-- a host or a domain that a site may have: letters, digits, dashes and dots (RFC 5321, 2.3.5)
abbrev pub is_host_name : List ℕ → Bool
is_host_name text =
    nat_le 1 (length text) && nat_le (length text) NAME_LIMIT
    && list_all (λ b. is_ascii_alphanumeric b || has_byte (codes "-.") b) text

-- in the place of a domain, each one
abbrev pub any_domain : List ℕ
any_domain = codes "*"

abbrev pub is_domain_name : List ℕ → Bool
is_domain_name text = bytes_eq any_domain text || is_host_name text

-- a mailbox's name that is given by itself, and is a file's name too
abbrev pub is_box_name : List ℕ → Bool
is_box_name text =
    nat_le 1 (length text) && nat_le (length text) GIVEN_NAME_LIMIT && not (begins (byte ".") text)
    && list_all (λ b. is_ascii_lowercase b || is_ascii_digit b || has_byte (codes "-_.") b) text

-- the parts of a mailbox's name: what stands before its first `@`, and behind it the domain where it is an address
abbrev pub is_at : ℕ → Bool
is_at b = b == byte "@"

abbrev pub local_of : List ℕ → List ℕ
local_of name = before_first is_at name

abbrev pub domain_of : List ℕ → List ℕ
domain_of name = after_first is_at name

abbrev pub is_address : List ℕ → Bool
is_address name = list_any is_at name

-- a local part in a name that a list may have
abbrev pub is_listed_local : List ℕ → Bool
is_listed_local text =
    nat_le 1 (length text) && nat_le (length text) LISTED_LOCAL_LIMIT && not (begins (byte ".") text)
    && list_all (λ b. is_ascii_lowercase b || is_ascii_digit b || has_byte (codes "-_.'+=") b) text

-- a domain in one: a site's in small letters, which no dot begins, since a folder is called so
abbrev pub is_listed_domain : List ℕ → Bool
is_listed_domain text =
    nat_le 1 (length text) && nat_le (length text) NAME_LIMIT && not (begins (byte ".") text)
    && list_all (λ b. is_ascii_lowercase b || is_ascii_digit b || has_byte (codes "-.") b) text

-- a mailbox's name that a list may have: a local part, or an address
abbrev pub is_listed_name : List ℕ → Bool
is_listed_name text = is_listed_local (local_of text) && (not (is_address text) || is_listed_domain (domain_of text))

abbrev pub has_text : List (List ℕ) → List ℕ → Bool
has_text [] text = false
has_text (x ∷ xs) text = bytes_eq x text || has_text xs text

abbrev pub has_twice : List (List ℕ) → Bool
has_twice [] = false
has_twice (x ∷ xs) = has_text xs x || has_twice xs

-- what is wrong with a site, the first of these
pub data Fault : Type 0 where
  BadHost : Fault
  BadDomain : Fault
  BadCount : Fault
  BadBox : Fault
  NamedTwice : Fault

abbrev pub fault_by : (List ℕ → Bool) → Site → Option Fault
fault_by is_name site =
    if not (is_host_name site.host) then Some BadHost
    else if not (list_all is_domain_name site.domains) then Some BadDomain
    else if (length site.boxes == 0) || nat_lt BOX_LIMIT (length site.boxes) then Some BadCount
    else if not (list_all is_name site.boxes) then Some BadBox
    else if has_twice site.boxes then Some NamedTwice
    else None

-- of one whose mailboxes' names are given by themselves, or are those of a list
abbrev pub fault_of : Site → Option Fault
fault_of site = fault_by is_box_name site

abbrev pub listed_fault_of : Site → Option Fault
listed_fault_of site = fault_by is_listed_name site

-- a limit that a site may name for its messages
abbrev pub IsMessageLimit : ℕ → Type 0
IsMessageLimit limit = (LEAST_MESSAGE_LIMIT ≤ limit) × (limit ≤ LARGEST_MESSAGE_LIMIT)

-- a byte that may part user and detail
abbrev pub is_delimiter : ℕ → Bool
is_delimiter b = has_byte (codes "+-=#~") b

abbrev pub IsDelimiter : ℕ → Type 0
IsDelimiter b = is_delimiter b ≡ true

-- a site that a server may have
abbrev pub IsSite : Site → Type 0
IsSite site =
    (listed_fault_of site ≡ None) × IsMessageLimit site.message_limit × IfSome site.recipient_delimiter IsDelimiter
