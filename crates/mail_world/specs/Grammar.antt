-- The grammar of paths (RFC 5321, 4.1.2; with `utf8` that of RFC 6531, 3.3): which mailboxes there are, and how they
-- are spelled.
use Rattle.std.specs.Prelude.{◌≡◌, ◌⊎◌, ⊤, ℕ, ◌<◌, ◌≤◌, Bool, true, false, not, ◌&&◌, ◌||◌, ◌==◌, nat_le, List, [], ◌∷◌}
use Rattle.std.specs.Prelude.{◌++◌, length, map, Option, Some, None, codes}
use Rattle.std.specs.List.{list_all, join_with_byte, AllByRecursion}
use Rattle.std.specs.Char.{is_ascii_alphanumeric}
use Rattle.std.specs.Str.{byte, is_utf8}
use Rattle.mail_world.specs.declared.limits.TheConstants.{NAME_LIMIT, PATH_LIMIT}
use Rattle.mail_world.specs.Text.{has_byte}

abbrev pub is_between : ℕ → ℕ → ℕ → Bool
is_between low high b = nat_le low b && nat_le b high

-- a byte of a character beyond ASCII, where there may be one
abbrev pub is_beyond : Bool → ℕ → Bool
is_beyond utf8 b = utf8 && is_between 128 255 b

-- a visible byte of ASCII, one that may stand bare in a local part, in a domain, in brackets
abbrev pub is_visible : ℕ → Bool
is_visible b = is_between 33 126 b

abbrev pub is_plain : Bool → ℕ → Bool
is_plain utf8 b = is_visible b && not (has_byte (codes "<>()[]\\,;:@\"") b) || is_beyond utf8 b

abbrev pub is_of_domain : Bool → ℕ → Bool
is_of_domain utf8 b = is_ascii_alphanumeric b || has_byte (codes "-_.") b || is_beyond utf8 b

-- one that may stand between quotes, and after a backslash there ASCII alone
abbrev pub is_of_quoted : Bool → Bool → ℕ → Bool
is_of_quoted utf8 escaped b = is_between 32 126 b || not escaped && is_beyond utf8 b

abbrev pub is_of_literal : ℕ → Bool
is_of_literal b = is_visible b && not (has_byte (codes "[]\\") b)

abbrev pub is_domain : Bool → List ℕ → Bool
is_domain utf8 text = is_between 1 NAME_LIMIT (length text) && list_all (is_of_domain utf8) text

-- a mailbox: the local part without its quotes, whether it has them, and the host part if there is one
pub record Target : Type 0 where
  pub local : List ℕ
  pub quoted : Bool
  pub domain : Option (List ℕ)

-- there is a byte at least, and each passes
pub record IsSomeOf (p : ℕ → Bool) (text : List ℕ) : Type 0 where
  pub nonempty : 0 < length text
  pub each : list_all p text ≡ true

-- what stands between the quotes of a local part: bytes that may stand there, a quote only after a backslash, and each
-- backslash before the byte that it goes with. `escaped`: such a backslash stands before the text
abbrev pub IsQuotedText : Bool → Bool → List ℕ → Type 0
IsQuotedText utf8 false [] = ⊤
IsQuotedText utf8 true [] = ⊥
IsQuotedText utf8 true (b ∷ text) = (is_of_quoted utf8 true b ≡ true) × IsQuotedText utf8 false text
IsQuotedText utf8 false (b ∷ text) = ((b == byte "\"") ≡ false) × (is_of_quoted utf8 false b ≡ true)
    × IsQuotedText utf8 (b == byte "\\") text

abbrev pub IsLocalPart : Bool → Bool → List ℕ → Type 0
IsLocalPart utf8 false text = IsSomeOf (is_plain utf8) text
IsLocalPart utf8 true text = IsQuotedText utf8 false text

-- an address in brackets
pub record IsLiteral (text : List ℕ) : Type 0 where
  pub inner : List ℕ
  pub whole : text ≡ byte "[" ∷ (inner ++ byte "]" ∷ [])
  pub bytes : IsSomeOf is_of_literal inner

abbrev pub IsHostPart : Bool → Option (List ℕ) → Type 0
IsHostPart utf8 None = ⊤
IsHostPart utf8 (Some text) = (is_domain utf8 text ≡ true) ⊎ IsLiteral text

pub record IsMailbox (utf8 : Bool) (t : Target) : Type 0 where
  pub local : IsLocalPart utf8 t.quoted t.local
  pub host : IsHostPart utf8 t.domain

-- how a mailbox is spelled
abbrev pub local_text : Bool → List ℕ → List ℕ
local_text false text = text
local_text true text = byte "\"" ∷ (text ++ byte "\"" ∷ [])

abbrev pub host_text : Option (List ℕ) → List ℕ
host_text None = []
host_text (Some text) = byte "@" ∷ text

abbrev pub mailbox_text : Target → List ℕ
mailbox_text t = local_text t.quoted t.local ++ host_text t.domain

-- a source route through these domains, which is read and dropped (Appendix C)
abbrev pub route_text : List (List ℕ) → List ℕ
route_text [] = []
route_text (d ∷ ds) = join_with_byte (byte ",") (map (λ name. byte "@" ∷ name) (d ∷ ds)) ++ byte ":" ∷ []

abbrev pub path_text : List (List ℕ) → Target → List ℕ
path_text route t = byte "<" ∷ (route_text route ++ (mailbox_text t ++ byte ">" ∷ []))

-- text that may have characters beyond ASCII is well-formed UTF-8 (RFC 3629)
abbrev pub is_encoded : Bool → List ℕ → Bool
is_encoded utf8 text = not utf8 || is_utf8 text

-- a path through these domains to the mailbox
pub record IsPath (utf8 : Bool) (route : List (List ℕ)) (t : Target) : Type 0 where
  pub hops : AllByRecursion (λ d. is_domain utf8 d ≡ true) route
  pub mailbox : IsMailbox utf8 t
  pub fits : length (mailbox_text t) ≤ PATH_LIMIT
  pub encoded : is_encoded utf8 (path_text route t) ≡ true
