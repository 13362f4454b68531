-- What a command line means (RFC 5321, 4.1.1; RFC 2033, 4.1; RFC 1870, 3; RFC 6152, 2; RFC 6531, 3). The first rule
-- that fits decides.
use Rattle.std.specs.Prelude.{ℕ, ◌-◌, Bool, true, false, not, ◌&&◌, ◌||◌, ◌==◌, nat_lt, List, [], ◌∷◌, length}
use Rattle.std.specs.Prelude.{take, drop}
use Rattle.std.specs.Prelude.{filter, if◌then◌else◌, Option, Some, None, Result, Ok, Err, codes}
use Rattle.std.specs.List.{list_any, list_all, prefix_len, suffix_len, before_first, after_first, slice_split}
use Rattle.std.specs.List.{filter_map}
use Rattle.std.specs.Char.{is_ascii_digit}
use Rattle.std.specs.Str.{byte, str_eq_ignore_ascii_case}
use Rattle.std.specs.Str.Parse.{digits_value}
use Rattle.mail_world.specs.declared.BadCommand.{BadCommand}
use Rattle.mail_world.specs.declared.BadCommand.TheVariants as bad
use Rattle.mail_world.specs.declared.limits.TheConstants.{NAME_LIMIT, SIZE_DIGIT_LIMIT, MESSAGE_LIMIT}
use Rattle.mail_world.specs.Text.{has_byte, space, tab, begins}
use Rattle.mail_world.specs.declared.Extensions.{Extensions}
use Rattle.mail_world.specs.Grammar.{is_between, is_visible, Target}
use Rattle.mail_world.specs.Paths.{Found, Path, reverse_path, forward_path}

-- MAIL names the sender, and says whether it has the parameter SMTPUTF8
pub data Command : Type 0 where
  Lhlo : (client : List ℕ) → Command
  Mail : (sender : List ℕ) (utf8 : Bool) → Command
  Rcpt : (target : Target) → Command
  StartData : Command
  Rset : Command
  Noop : Command
  Quit : Command
  Vrfy : Command
  Help : Command

abbrev pub Answer : Type 0
Answer = Result Command BadCommand

-- the text without the spaces and tabs at its end, without the spaces at its beginning
abbrev pub trimmed : List ℕ → List ℕ
trimmed text = take (length text - suffix_len (has_byte (space ∷ tab ∷ [])) text) text

abbrev pub after_spaces : List ℕ → List ℕ
after_spaces text = drop (prefix_len (λ b. b == space) text) text

-- the same word, whatever the case of its letters
abbrev pub is_word : List ℕ → List ℕ → Bool
is_word word text = str_eq_ignore_ascii_case text word

-- what stands after `FROM:` or `TO:` and spaces, if the text begins so
abbrev pub after_label : List ℕ → List ℕ → Option (List ℕ)
after_label label text =
    if is_word label (take (length label) text) then Some (after_spaces (drop (length label) text)) else None

-- `LHLO` names the client
abbrev pub is_client_name : List ℕ → Bool
is_client_name text =
    is_between 1 NAME_LIMIT (length text) && list_all (λ b. is_visible b && not (has_byte (codes "()<>;,\"\\") b)) text

-- parameters: what stands before the first equals sign, and what stands after it if there is one
pub record Parameter : Type 0 where
  pub keyword : List ℕ
  pub value : Option (List ℕ)

abbrev pub parameter : List ℕ → Parameter
parameter piece = record {
  keyword = before_first (λ b. b == byte "=") piece;
  value = if has_byte piece (byte "=") then Some (after_first (λ b. b == byte "=") piece) else None;
}

abbrev pub is_empty : List ℕ → Bool
is_empty text = length text == 0

abbrev pub parameters : List ℕ → List Parameter
parameters text =
    filter_map (λ piece. if is_empty piece then None else Some (parameter piece)) (slice_split (λ b. b == space) text)

abbrev pub has_keyword : List ℕ → Parameter → Bool
has_keyword word p = is_word word p.keyword

-- a size in decimal digits (RFC 1870), the kind of the body (RFC 6152)
abbrev pub is_size_value : Option (List ℕ) → Bool
is_size_value None = false
is_size_value (Some v) = is_between 1 SIZE_DIGIT_LIMIT (length v) && list_all is_ascii_digit v

abbrev pub is_body_value : Option (List ℕ) → Bool
is_body_value None = false
is_body_value (Some v) = is_word (codes "7BIT") v || is_word (codes "8BITMIME") v

-- a parameter that has no value, not even an empty one (RFC 6531, 3.4)
abbrev pub has_no_value : Option (List ℕ) → Bool
has_no_value None = true
has_no_value (Some v) = false

-- `utf8`: the site offers SMTPUTF8
abbrev pub is_known : Bool → Parameter → Bool
is_known utf8 p =
    has_keyword (codes "SIZE") p || has_keyword (codes "BODY") p || utf8 && has_keyword (codes "SMTPUTF8") p

abbrev pub is_well_valued : Parameter → Bool
is_well_valued p =
    if has_keyword (codes "SIZE") p then is_size_value p.value
    else if has_keyword (codes "BODY") p then is_body_value p.value
    else has_no_value p.value

abbrev pub stands_twice : List ℕ → List Parameter → Bool
stands_twice word ps = nat_lt 1 (length (filter (has_keyword word) ps))

abbrev pub is_above_limit : ℕ → Option (List ℕ) → Bool
is_above_limit limit None = false
is_above_limit limit (Some digits) = nat_lt limit (digits_value 10 digits)

abbrev pub is_too_large : ℕ → Parameter → Bool
is_too_large limit p = has_keyword (codes "SIZE") p && is_above_limit limit p.value

-- MAIL with a path and parameters at a site with these extensions, RCPT with a path and parameters
abbrev pub mail_with : Extensions → List ℕ → List Parameter → Answer
mail_with offered sender ps =
    if not (list_all (is_known offered.utf8) ps) then Err bad.Parameter
    else if not (list_all is_well_valued ps) || stands_twice (codes "SIZE") ps
    || stands_twice (codes "BODY") ps || stands_twice (codes "SMTPUTF8") ps then Err bad.Arguments
    else if list_any (is_too_large offered.message_limit) ps then Err bad.TooLarge
    else Ok (Mail sender (list_any (has_keyword (codes "SMTPUTF8")) ps))

abbrev pub rcpt_with : Target → List Parameter → Answer
rcpt_with target [] = Ok (Rcpt target)
rcpt_with target (p ∷ ps) = Err bad.Parameter

-- what follows a path is nothing or a space
abbrev pub ends_path : List ℕ → Bool
ends_path rest = is_empty rest || begins space rest

-- what stands after `FROM:`, after `TO:`
abbrev pub mail_path : Extensions → Option (Found (List ℕ)) → Answer
mail_path offered None = Err bad.SenderSyntax
mail_path offered (Some found) =
    if ends_path found.rest then mail_with offered found.value (parameters found.rest) else Err bad.SenderSyntax

abbrev pub rcpt_path : Option (Found Path) → Answer
rcpt_path None = Err bad.RecipientSyntax
rcpt_path (Some found) =
    if ends_path found.rest then rcpt_with found.value.target (parameters found.rest) else Err bad.RecipientSyntax

abbrev pub mail : Extensions → Option (List ℕ) → Answer
mail offered None = Err bad.Arguments
mail offered (Some text) = mail_path offered (reverse_path offered.utf8 text)

abbrev pub rcpt : Extensions → Option (List ℕ) → Answer
rcpt offered None = Err bad.Arguments
rcpt offered (Some text) = rcpt_path (forward_path offered.utf8 text)

-- a command that stands alone
abbrev pub alone : Command → List ℕ → Answer
alone c rest = if is_empty rest then Ok c else Err bad.Arguments

abbrev pub by_verb : Extensions → List ℕ → List ℕ → Answer
by_verb offered verb rest =
    if is_word (codes "HELO") verb || is_word (codes "EHLO") verb then Err bad.NotHere
    else if is_word (codes "EXPN") verb then Err bad.NotDone
    else if is_word (codes "NOOP") verb then Ok Noop
    else if is_word (codes "VRFY") verb then Ok Vrfy
    else if is_word (codes "HELP") verb then Ok Help
    else if is_word (codes "DATA") verb then alone StartData rest
    else if is_word (codes "RSET") verb then alone Rset rest
    else if is_word (codes "QUIT") verb then alone Quit rest
    else if is_word (codes "LHLO") verb then (if is_client_name rest then Ok (Lhlo rest) else Err bad.ClientName)
    else if is_word (codes "MAIL") verb then mail offered (after_label (codes "FROM:") rest)
    else if is_word (codes "RCPT") verb then rcpt offered (after_label (codes "TO:") rest)
    else Err bad.Unknown

-- The verb stands before the first space, the rest after it and after further spaces.
unfoldable pub command_at : Extensions → List ℕ → Answer
command_at offered line =
    let w = trimmed line in
    by_verb offered (before_first (λ b. b == space) w) (after_spaces (after_first (λ b. b == space) w))

-- so it is where the site names no other limit, and offers no UTF-8
abbrev pub usual_extensions : Extensions
usual_extensions = record { message_limit = MESSAGE_LIMIT; utf8 = false }

abbrev pub command : List ℕ → Answer
command line = command_at usual_extensions line
