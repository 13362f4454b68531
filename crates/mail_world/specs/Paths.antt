-- Paths read from the head of a text: what was found, and what follows it. The grammar has one reading of each text
-- (laws.rt).
use Rattle.std.specs.Prelude.{◌≡◌, ◌++◌, ℕ, suc, ◌+◌, ◌-◌, Bool, true, false, not, ◌&&◌, ◌||◌, ◌==◌, nat_lt, nat_le}
use Rattle.std.specs.Prelude.{List, [], ◌∷◌, length, take, drop, if◌then◌else◌, Option, Some, None, option_map}
use Rattle.std.specs.Prelude.{option_and_then, codes}
use Rattle.std.specs.List.{list_all, prefix_len, before_first, after_first, slice_split}
use Rattle.std.specs.Str.{byte}
use Rattle.mail_world.specs.declared.limits.TheConstants.{NAME_LIMIT, PATH_LIMIT}
use Rattle.mail_world.specs.Text.{has_byte, begins, begins_with}
use Rattle.mail_world.specs.Grammar.{is_of_quoted, is_plain, is_of_domain, is_of_literal, is_domain, Target, IsPath}
use Rattle.mail_world.specs.Grammar.{is_encoded, mailbox_text, path_text}

-- Of a quoted local part, how many bytes stand before the quote that closes it. `escaped`: a backslash stands before
-- the text.
abbrev pub quoted_len : Bool → Bool → List ℕ → Option ℕ
quoted_len utf8 escaped [] = None
quoted_len utf8 escaped (b ∷ text) =
    if not escaped && (b == byte "\"") then Some 0
    else if is_of_quoted utf8 escaped b
    then option_map (λ n. suc n) (quoted_len utf8 (not escaped && (b == byte "\\")) text)
    else None

-- what a text begins with, and what follows that
pub record Found (A : Type 0) : Type 0 where
  pub value : A
  pub rest : List ℕ

-- the first n bytes, if there are any
abbrev pub some_prefix : ℕ → List ℕ → Option (Found (List ℕ))
some_prefix n text = if n == 0 then None else Some (record { value = take n text; rest = drop n text })

abbrev pub plain_local : Bool → List ℕ → Option (Found (List ℕ))
plain_local utf8 text = some_prefix (prefix_len (is_plain utf8) text) text

abbrev pub quoted_local : Bool → List ℕ → Option (Found (List ℕ))
quoted_local utf8 text =
    option_map (λ n. record { value = take n text; rest = drop (n + 1) text }) (quoted_len utf8 false text)

abbrev pub domain_at : Bool → List ℕ → Option (Found (List ℕ))
domain_at utf8 text =
    let n = prefix_len (is_of_domain utf8) text in if nat_lt NAME_LIMIT n then None else some_prefix n text

-- an address in brackets, with them
abbrev pub literal_at : List ℕ → Option (Found (List ℕ))
literal_at text = let n = prefix_len is_of_literal (drop 1 text) in
    if (n == 0) || not (begins (byte "]") (drop (n + 1) text)) then None else some_prefix (n + 2) text

abbrev pub host_at : Bool → List ℕ → Option (Found (List ℕ))
host_at utf8 text = if begins (byte "[") text then literal_at text else domain_at utf8 text

-- the host part after a local part, where an at sign leads to one
abbrev pub with_host : Bool → Bool → Found (List ℕ) → Option (Found Target)
with_host utf8 quoted local =
    if begins (byte "@") local.rest
    then option_map (λ host. record {
      value = record { local = local.value; quoted = quoted; domain = Some host.value };
      rest = host.rest;
    }) (host_at utf8 (drop 1 local.rest))
    else Some (record { value = record { local = local.value; quoted = quoted; domain = None }; rest = local.rest })

abbrev pub mailbox_at : Bool → List ℕ → Option (Found Target)
mailbox_at utf8 text =
    if begins (byte "\"") text
    then option_and_then (with_host utf8 true) (quoted_local utf8 (drop 1 text))
    else option_and_then (with_host utf8 false) (plain_local utf8 text)

-- an at sign and a domain
abbrev pub is_hop : Bool → List ℕ → Bool
is_hop utf8 text = begins (byte "@") text && is_domain utf8 (drop 1 text)

-- the text after a source route, which is dropped (RFC 5321, Appendix C); the text itself where no at sign begins one
abbrev pub after_route : Bool → List ℕ → Option (List ℕ)
after_route utf8 text =
    if not (begins (byte "@") text) then Some text
    else if has_byte text (byte ":")
    && list_all (is_hop utf8) (slice_split (λ b. b == byte ",") (before_first (λ b. b == byte ":") text))
    then Some (after_first (λ b. b == byte ":") text)
    else None

-- a path: its mailbox as it was written, and taken apart
pub record Path : Type 0 where
  pub mailbox : List ℕ
  pub target : Target

-- the mailbox and the bracket that closes its path
abbrev pub closed_at : List ℕ → Found Target → Option (Found Path)
closed_at text found =
    let n = length text - length found.rest in
    if begins (byte ">") found.rest && nat_le n PATH_LIMIT
    then Some (record { value = record { mailbox = take n text; target = found.value }; rest = drop 1 found.rest })
    else None

-- what was read of the text is encoded as it has to be
abbrev pub encoded_at : Bool → List ℕ → Found Path → Option (Found Path)
encoded_at utf8 text found =
    if is_encoded utf8 (take (length text - length found.rest) text) then Some found else None

-- the path, however it is encoded
abbrev pub path_at : Bool → List ℕ → Option (Found Path)
path_at utf8 text =
    if begins (byte "<") text
    then option_and_then (λ inner. option_and_then (closed_at inner) (mailbox_at utf8 inner))
    (after_route utf8 (drop 1 text))
    else None

-- `utf8`: the path may have characters beyond ASCII
unfoldable pub forward_path : Bool → List ℕ → Option (Found Path)
forward_path utf8 text = option_and_then (encoded_at utf8 text) (path_at utf8 text)

-- of a reverse path the mailbox alone counts, which is empty for `<>`
unfoldable pub reverse_path : Bool → List ℕ → Option (Found (List ℕ))
reverse_path utf8 text =
    if begins_with (codes "<>") text then Some (record { value = []; rest = drop 2 text })
    else option_map (λ found. record { value = found.value.mailbox; rest = found.rest }) (forward_path utf8 text)

-- what stands at the beginning of the text is spelled as this path, through some route
pub record IsPathRead (utf8 : Bool) (text : List ℕ) (found : Found Path) : Type 0 where
  pub route : List (List ℕ)
  pub path : IsPath utf8 route found.value.target
  pub mailbox : found.value.mailbox ≡ mailbox_text found.value.target
  pub whole : text ≡ path_text route found.value.target ++ found.rest
