-- What a command line names is of one line.
use Rattle.std.proofs.Common.{◌≡◌, ℕ, List, [], ◌∷◌, Bool, true, false, ◌==◌, Option, Some, None, inl, inr, refl, sym}
use Rattle.std.proofs.Common.{ap, subst, rules}
use Rattle.std.proofs.Math.Bool.{and-false}
use Rattle.std.specs.Prelude.{⊤, codes, if◌then◌else◌, IfSome, Ok, Err, option_map, drop}
use Rattle.std.specs.List.{list_all, before_first, after_first}
use Rattle.std.specs.Str.{byte}
use Rattle.mail_world.specs.declared.BadCommand.TheVariants as bad
use Rattle.mail_world.specs.declared.Extensions.{Extensions}
use Rattle.mail_world.specs.Text.{lf, space, IsOneLine}
use Rattle.mail_world.specs.Grammar.{is_of_quoted, is_plain, is_of_domain, is_of_literal, Target, IsQuotedText}
use Rattle.mail_world.specs.Grammar.{IsLocalPart, IsHostPart, IsMailbox, local_text, host_text, mailbox_text}
use Rattle.mail_world.specs.Paths.{Found, Path, reverse_path, forward_path}
use Rattle.mail_world.specs.Commands.{Answer, Lhlo, Mail, mail_path, mail, rcpt_with, rcpt_path, rcpt, by_verb}
use Rattle.mail_world.specs.Commands.{command_at, Parameter, parameters, is_client_name, trimmed, after_spaces}
use Rattle.mail_world.proofs.OneLine.{other_byte, one_line-cons, one_line-append, literal}
use Rattle.mail_world.proofs.PathsSpelled.{and_parts}
use Rattle.mail_world.proofs.PathsRead.{forward_path_reads}

-- a byte that passes where LF doesn't
no_lf : (p : ℕ → Bool) (b : ℕ) → p lf ≡ false → p b ≡ true → (b == lf) ≡ false
no_lf p b fails passes = other_byte b lf (λ same. let e : p b ≡ p lf = ap p same in cc)

all_pass : (p : ℕ → Bool) (text : List ℕ) → p lf ≡ false → list_all p text ≡ true → IsOneLine text
all_pass p [] fails all = literal [] refl
all_pass p (b ∷ text) fails all =
    let parts = and_parts (p b) (list_all p text) all in
    one_line-cons b text (no_lf p b fails parts.0) (all_pass p text fails parts.1)

-- the parts of a mailbox
quoted_line : (utf8 escaped : Bool) (text : List ℕ) → IsQuotedText utf8 escaped text → IsOneLine text
quoted_line utf8 false [] h = literal [] refl
quoted_line utf8 true [] h = absurd h
quoted_line utf8 true (b ∷ text) h =
    one_line-cons b text (no_lf (is_of_quoted utf8 true) b refl h.0) (quoted_line utf8 false text h.1)
quoted_line utf8 false (b ∷ text) h =
    one_line-cons b text (no_lf (is_of_quoted utf8 false) b (simp and-false) h.1)
    (quoted_line utf8 (b == byte "\\") text h.2)

local_line : (utf8 quoted : Bool) (text : List ℕ) → IsLocalPart utf8 quoted text → IsOneLine (local_text quoted text)
local_line utf8 false text h = all_pass (is_plain utf8) text (simp and-false) h.each
local_line utf8 true text h =
    let end = literal (codes "\"") refl in
    one_line-cons (byte "\"") _ refl (one_line-append text _ (quoted_line utf8 false text h) end)

host_line : (utf8 : Bool) (host : Option (List ℕ)) → IsHostPart utf8 host → IsOneLine (host_text host)
host_line utf8 None h = literal [] refl
host_line utf8 (Some text) (inl domain) =
    one_line-cons (byte "@") text refl (all_pass (is_of_domain utf8) text (simp and-false) (and_parts _ _ domain).1)
host_line utf8 (Some text) (inr h) =
    let inner = all_pass is_of_literal h.inner refl h.bytes.each in
    let whole = one_line-cons (byte "[") _ refl (one_line-append h.inner _ inner (literal (codes "]") refl)) in
    one_line-cons (byte "@") text refl (subst IsOneLine (sym h.whole) whole)

mailbox_line : (utf8 : Bool) (t : Target) → IsMailbox utf8 t → IsOneLine (mailbox_text t)
mailbox_line utf8 t h = one_line-append _ _ (local_line utf8 t.quoted t.local h.local) (host_line utf8 t.domain h.host)

-- what MAIL names
abbrev NamesLine : Found (List ℕ) → Type 0
NamesLine found = IsOneLine found.value

reverse_by : (utf8 : Bool) (text rest : List ℕ) (t : Bool) (path : Option (Found Path))
    → forward_path utf8 text ≡ path → IfSome (if t then Some (record { value = []; rest = rest })
    else option_map (λ found. record { value = found.value.mailbox; rest = found.rest }) path) NamesLine
reverse_by utf8 text rest true path e = literal [] refl
reverse_by utf8 text rest false None e = tt
reverse_by utf8 text rest false (Some found) e =
    let read = forward_path_reads utf8 text found e in
    subst IsOneLine (sym read.mailbox) (mailbox_line utf8 found.value.target read.path.mailbox)

reverse_line : (utf8 : Bool) (text : List ℕ) → IfSome (reverse_path utf8 text) NamesLine
unfolding reverse_path
reverse_line utf8 text = reverse_by utf8 text (drop 2 text) _ (forward_path utf8 text) refl

-- what an answer names
abbrev pub NamesLines : Answer → Type 0
NamesLines (Ok (Lhlo client)) = IsOneLine client
NamesLines (Ok (Mail sender utf8)) = IsOneLine sender
NamesLines _ = ⊤

either : (t : Bool) (x y : Answer) → NamesLines x → NamesLines y → NamesLines (if t then x else y)
either true x y h k = h
either false x y h k = k

mail_path_lines : (offered : Extensions) (found : Option (Found (List ℕ))) → IfSome found NamesLine
    → NamesLines (mail_path offered found)
mail_path_lines offered None h = tt
mail_path_lines offered (Some found) h = search (rules, either, h)

mail_lines : (offered : Extensions) (text : Option (List ℕ)) → NamesLines (mail offered text)
mail_lines offered None = tt
mail_lines offered (Some text) =
    mail_path_lines offered (reverse_path offered.utf8 text) (reverse_line offered.utf8 text)

rcpt_with_lines : (target : Target) (ps : List Parameter) → NamesLines (rcpt_with target ps)
rcpt_with_lines target [] = tt
rcpt_with_lines target (p ∷ ps) = tt

rcpt_path_lines : (found : Option (Found Path)) → NamesLines (rcpt_path found)
rcpt_path_lines None = tt
rcpt_path_lines (Some found) =
    let r = rcpt_with_lines found.value.target (parameters found.rest) in search (rules, either, r)

rcpt_lines : (offered : Extensions) (text : Option (List ℕ)) → NamesLines (rcpt offered text)
rcpt_lines offered None = tt
rcpt_lines offered (Some text) = rcpt_path_lines (forward_path offered.utf8 text)

lhlo_lines : (text : List ℕ) (t : Bool) → is_client_name text ≡ t
    → NamesLines (if t then Ok (Lhlo text) else Err bad.ClientName)
lhlo_lines text true e = all_pass _ text refl (and_parts _ _ e).1
lhlo_lines text false e = tt

by_verb_lines : (offered : Extensions) (verb rest : List ℕ) → NamesLines (by_verb offered verb rest)
by_verb_lines offered verb rest =
    let c = lhlo_lines rest (is_client_name rest) refl in search (rules, either, mail_lines, rcpt_lines, c) depth 30

pub command_lines : (offered : Extensions) (line : List ℕ) → NamesLines (command_at offered line)
unfolding command_at
command_lines offered line =
    let w = trimmed line in
    by_verb_lines offered (before_first (λ b. b == space) w) (after_spaces (after_first (λ b. b == space) w))
