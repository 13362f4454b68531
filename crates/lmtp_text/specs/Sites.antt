-- Sites as they are passed, owned and refused.
use Rattle.std.specs.Prelude.{◌≡◌, ℕ, Bool, false, not, ◌||◌, ◌==◌, nat_lt, List, map, Option, Some, None, Vec}
use Rattle.std.specs.Prelude.{codes, position, option_map, if◌then◌else◌, ◌⊎◌}
use Rattle.std.specs.List.{list_all}
use Rattle.std.specs.Map.{lookup}
use Rattle.std.specs.declared.alloc.Global.{Global}
use Rattle.std.specs.Borrow.{Bor}
use Rattle.std.specs.Char.{is_ascii_alphanumeric, is_ascii_lowercase, is_ascii_digit}
use Rattle.mail_world.specs.declared.limits.TheConstants.{BOX_LIMIT, MESSAGE_LIMIT}
use Rattle.mail_world.specs.Text.{has_byte}
use Rattle.mail_world.specs.Site.{Site, Fault, BadHost, BadDomain, BadCount, BadBox, NamedTwice}
use Rattle.mail_world.specs.Site.{is_host_name, is_domain_name, listed_fault_of}
use Rattle.mail_world.specs.Commands.{is_word}
use Rattle.mail_world.specs.Targets.{is_at_domain}
use Rattle.lmtp_text.specs.declared.site.SiteFault.{SiteFault}
use Rattle.lmtp_text.specs.declared.site.SiteFault.TheVariants as faults

-- the texts that are borrowed, that are owned
abbrev pub texts : List (Bor (List ℕ)) → List (List ℕ)
texts names = map (λ name. name.now) names

abbrev pub owned : List (Vec ℕ Global) → List (List ℕ)
owned names = map (λ name. name.items) names

-- the site of that host, with those further domains and those mailboxes, that names no limit of its own and no
-- delimiter, offers no UTF-8, renames no marks and refuses no malformed messages
abbrev pub site_with : List ℕ → List (List ℕ) → List (List ℕ) → Site
site_with host domains boxes =
    record {
      host = host;
      domains = domains;
      boxes = boxes;
      message_limit = MESSAGE_LIMIT;
      recipient_delimiter = None;
      utf8 = false;
      renames_marks = false;
      refuses_malformed = false;
      rejects_over_quota = false;
      tells_busy = false;
    }

abbrev pub site_of : List ℕ → List (Bor (List ℕ)) → List (Bor (List ℕ)) → Site
site_of host domains boxes = site_with host (texts domains) (texts boxes)

-- a byte that may stand in the name of a host, of a mailbox
abbrev pub is_of_host_name : ℕ → Bool
is_of_host_name b = is_ascii_alphanumeric b || has_byte (codes "-.") b

abbrev pub is_of_box_name : ℕ → Bool
is_of_box_name b = is_ascii_lowercase b || is_ascii_digit b || has_byte (codes "-_.") b

-- of the local part and the domain in a listed name
abbrev pub is_of_listed_local : ℕ → Bool
is_of_listed_local b = is_ascii_lowercase b || is_ascii_digit b || has_byte (codes "-_.'+=") b

abbrev pub is_of_listed_domain : ℕ → Bool
is_of_listed_domain b = is_ascii_lowercase b || is_ascii_digit b || has_byte (codes "-.") b

-- the first rule that a host, domains and so many mailboxes break
abbrev pub fault_of_others : List ℕ → List (List ℕ) → ℕ → Option SiteFault
fault_of_others host domains count =
    if not (is_host_name host) then Some faults.Host
    else if not (list_all is_domain_name domains) then Some faults.Domain
    else if (count == 0) || nat_lt BOX_LIMIT count then Some faults.Count
    else None

-- entries whose keys are texts
abbrev pub keyed : List (Vec ℕ Global × ℕ) → List (List ℕ × ℕ)
keyed entries = map (λ e. (e.0.items, e.1)) entries

-- for each domain the place of the first name that is an address at it, by those of which that is kept
abbrev pub place_at : List ℕ → List (List ℕ × ℕ) → Option ℕ
place_at domain places = lookup (λ name. is_word name domain) places

abbrev pub AreFirsts : List (List ℕ) → List (List ℕ × ℕ) → Type 0
AreFirsts names places = (domain : List ℕ) → place_at domain places ≡ position (is_at_domain domain) names

-- what is answered where a rule is broken
abbrev pub cause : Fault → SiteFault
cause BadHost = faults.Host
cause BadDomain = faults.Domain
cause BadCount = faults.Count
cause BadBox = faults.Box
cause NamedTwice = faults.Twice

-- why there is no such site whose names a list has: the first rule that is broken, or lack of memory
abbrev pub IsListedFault : Site → SiteFault → Type 0
IsListedFault site fault = (fault ≡ faults.Memory) ⊎ (option_map cause (listed_fault_of site) ≡ Some fault)
