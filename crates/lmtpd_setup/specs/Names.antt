-- Which name of a mailbox can't be used, where it stands, and the line of the log that says it.
use Rattle.std.specs.Prelude.{◌≡◌, ◌⊎◌, ◌<◌, ◌≤◌, ◌+◌, ◌||◌, ℕ, Bool, true, false, List, [], ◌∷◌, ◌++◌, length}
use Rattle.std.specs.Prelude.{drop, take}
use Rattle.std.specs.Prelude.{suc, Option, Some, None, String, string_bytes, codes, decimal, get_or, nat_lt}
use Rattle.std.specs.Prelude.{if◌then◌else◌}
use Rattle.std.specs.declared.alloc.Global.{Global}
use Rattle.std.specs.Borrow.{Bor}
use Rattle.std.specs.List.{prefix_len}
use Rattle.log.specs.declared.level.LevelFilter.{LevelFilter}
use Rattle.log.specs.declared.level.LevelFilter.TheVariants as filter
use Rattle.mail_world.specs.Site.{has_text}
use Rattle.mail_world.specs.Text.{lf}
use Rattle.lmtp_text.specs.Sites.{texts}
use Rattle.lmtpd_words.specs.Boxes.{IsLineOfName}
use Rattle.lmtpd_output.specs.Printable.{printable_text}
use Rattle.lmtpd_words.specs.declared.words.ServeWords.{ServeWords}
use Rattle.lmtpd_words.specs.declared.words.SiteWords.{SiteWords}
use Rattle.lmtpd_setup.specs.Faults.{box_limit_of, fault_text, is_usable_listed_name, is_usable_name, own_count}
use Rattle.lmtpd_setup.specs.Faults.{site_fault}
use Rattle.lmtpd_setup.specs.declared.names.TheConstants.{SHOWN_LIMIT}
use Rattle.lmtpd_setup.specs.declared.fault.Fault.{Fault}
use Rattle.lmtpd_setup.specs.declared.fault.Fault.TheVariants as fault
use Rattle.lmtpd_setup.specs.declared.stop.Stop.{Stop}
use Rattle.lmtpd_setup.specs.declared.stop.Stop.TheVariants as stop

-- how many names come before the first that stands among those before it, and among these
abbrev pub twice_place : List (List ℕ) → List (List ℕ) → ℕ
twice_place seen [] = 0
twice_place seen (name ∷ names) = if has_text seen name then 0 else suc (twice_place (seen ++ name ∷ []) names)

-- how many names come before the first that no mailbox can have, where the words have so many themselves and the others
-- are listed
abbrev pub bad_place : List ℕ → ℕ → List (List ℕ) → ℕ
bad_place suffix own names =
    let usable = prefix_len (is_usable_name suffix) (take own names) in
    if nat_lt usable own then usable else own + prefix_len (is_usable_listed_name suffix) (drop own names)

-- The number, from 0 on, of the name that a fault is about: the first that no mailbox can have whose file has that
-- suffix, the first too many where there may be so many, the first that was named before.
abbrev pub wrong_place : ℕ → List ℕ → ℕ → Fault → List (List ℕ) → ℕ
wrong_place limit suffix own fault.Box names = bad_place suffix own names
wrong_place limit suffix own fault.TooManyBoxes names = limit
wrong_place limit suffix own fault.BoxTwice names = twice_place [] names
wrong_place limit suffix own _ names = length names

-- the same of the names of a server's words
abbrev pub place_in : SiteWords → Fault → ℕ
place_in words f =
    wrong_place (box_limit_of words) words.mailbox_suffix.now (own_count words) f (texts words.boxes.items)

-- a place among that many names, where it is one
abbrev pub IsFoundAt : ℕ → ℕ → Option ℕ → Type 0
IsFoundAt place count None = count ≤ place
IsFoundAt place count (Some found) = (found ≡ place) × (found < count)

-- The line of the file on which the mailbox of that number stands; those that the words name themselves come first, and
-- stand on none.
abbrev pub IsPlace : SiteWords → ℕ → Option ℕ → Type 0
IsPlace words number None = number < own_count words
IsPlace words number (Some line) =
    (before : ℕ) × (number ≡ own_count words + before) × IsLineOfName words.listed.now before line

-- what is shown of a name: its first bytes, and two dots where it has more
abbrev pub shown_name : List ℕ → List ℕ
shown_name name =
    if nat_lt SHOWN_LIMIT (length name) then printable_text (take SHOWN_LIMIT name) ++ codes ".."
    else printable_text name

abbrev pub place_text : Option (Bor (List ℕ)) → Option ℕ → List ℕ
place_text (Some path) (Some line) = codes " file=" ++ (printable_text path.now ++ (codes " line=" ++ decimal line))
place_text _ _ = []

-- the line of the log, its level and target first, as the log has them
abbrev pub name_line : Fault → List ℕ → List ℕ → List ℕ
name_line f name place =
    codes "[ERROR lmtpd] " ++ (fault_text f ++ (codes " name=" ++ (shown_name name ++ (place ++ (lf ∷ [])))))

-- the line of the log for a site with that fault
pub record IsNameLine (words : SiteWords) (f : Fault) (said : List ℕ) : Type 0 where
  pub within : place_in words f < length words.boxes.items
  pub line : Option ℕ
  pub stands : IsPlace words (place_in words f) line
  pub text : said ≡ name_line f (get_or (texts words.boxes.items) (place_in words f) [])
      (place_text words.boxes_file line)

-- what ends the program where the name is said
abbrev pub IsNamed : SiteWords → Fault → Stop → Type 0
IsNamed words f s = (line : String Global) × (s ≡ stop.Name f line) × IsNameLine words f (string_bytes line)

abbrev pub IsToldOf : SiteWords → Fault → Stop → Type 0
IsToldOf words fault.Box s = IsNamed words fault.Box s
IsToldOf words fault.TooManyBoxes s = IsNamed words fault.TooManyBoxes s
IsToldOf words fault.BoxTwice s = IsNamed words fault.BoxTwice s
IsToldOf words f s = s ≡ stop.Fault f

abbrev pub is_logged : LevelFilter → Bool
is_logged filter.Off = false
is_logged _ = true

-- a name that can't be used is said where errors are logged, and where the words alone are checked
abbrev pub tells_names : ServeWords → Bool
tells_names words = words.check_words || is_logged words.log

abbrev pub IsToldIf : Bool → SiteWords → Fault → Stop → Type 0
IsToldIf true words f s = IsToldOf words f s
IsToldIf false words f s = s ≡ stop.Fault f

-- what ends a server whose site has that fault
abbrev pub IsRefusedBy : ServeWords → Fault → Stop → Type 0
IsRefusedBy words f s = IsToldIf (tells_names words) words.site f s

-- why a server has no site: memory is lacking, and else the site's first fault
abbrev pub IsNoSite : ServeWords → Stop → Type 0
IsNoSite words s = (s ≡ stop.Fault fault.Memory)
    ⊎ ((f : Fault) × (site_fault words.site ≡ Some f) × IsRefusedBy words f s)
