-- What a command line names is within its limit.
use Rattle.std.proofs.Common.{◌≡◌, ℕ, ◌≤◌, ◌-◌, Bool, true, false, ◌&&◌, nat_le, ◌==◌, List, [], ◌∷◌, length, take, drop, refl, arith, rules}
use Rattle.std.specs.Prelude.{if◌then◌else◌, Option, Some, None, IfSome, Ok, Err, option_map, option_and_then}
use Rattle.std.specs.Str.{byte}
use Rattle.std.specs.List.{before_first, after_first}
use Rattle.std.proofs.lemmas.List.{length-take}
use Rattle.mail_world.specs.declared.BadCommand.TheVariants as bad
use Rattle.mail_world.specs.declared.limits.TheConstants.{NAME_LIMIT, PATH_LIMIT}
use Rattle.mail_world.specs.Commands.{Answer, Lhlo, mail_with, mail_path, mail, rcpt_with, rcpt_path, rcpt, by_verb, command_at, Parameter, is_client_name}
use Rattle.mail_world.specs.Commands.{parameters, trimmed, after_spaces}
use Rattle.mail_world.specs.Paths.{Found, Path, reverse_path, forward_path, path_at, encoded_at, closed_at, mailbox_at, after_route}
use Rattle.mail_world.specs.Text.{begins, space}
use Rattle.mail_world.specs.declared.Extensions.{Extensions}
use Rattle.mail_world.specs.Grammar.{Target, is_encoded}
use Rattle.lmtp_session.specs.CommandLimits.{IsWithinLimits}

if_within : (b : Bool) (x y : Answer) → IsWithinLimits x → IsWithinLimits y → IsWithinLimits (if b then x else y)
if_within true x y hx hy = hx
if_within false x y hx hy = hy

-- of a test on a number, that it passed
le_if : (m n : ℕ) → nat_le m n ≡ true → m ≤ n
le_if m n e = grind (arith, e)

client_fits : (text : List ℕ) → is_client_name text ≡ true → length text ≤ NAME_LIMIT
client_fits text e = grind (arith, e)

lhlo_within : (text : List ℕ) (b : Bool) → (b ≡ true → length text ≤ NAME_LIMIT) → IsWithinLimits (if b then Ok (Lhlo text) else Err bad.ClientName)
lhlo_within text true h = h refl
lhlo_within text false h = tt

mail_with_within : (offered : Extensions) (sender : List ℕ) (ps : List Parameter) → length sender ≤ PATH_LIMIT → IsWithinLimits (mail_with offered sender ps)
mail_with_within offered sender ps h = search (rules, if_within, h)

abbrev HasShortMailbox : Found Path → Type 0
HasShortMailbox f = length f.value.mailbox ≤ PATH_LIMIT

abbrev HasShortSender : Found (List ℕ) → Type 0
HasShortSender f = length f.value ≤ PATH_LIMIT

mail_path_within : (offered : Extensions) (found : Option (Found (List ℕ))) → IfSome found HasShortSender → IsWithinLimits (mail_path offered found)
mail_path_within offered None h = tt
mail_path_within offered (Some f) h = let m = mail_with_within offered f.value (parameters f.rest) h in search (rules, if_within, m)

closed_within_if : (text : List ℕ) (found : Found Target) (n : ℕ) (a b : Bool) → (b ≡ true → n ≤ PATH_LIMIT)
    → IfSome {T = Found Path} (if a && b then Some (record { value = record { mailbox = take n text; target = found.value }; rest = drop 1 found.rest }) else
    None) HasShortMailbox
closed_within_if text found n true true h = let e = h refl in omega (arith, length-take n text)
closed_within_if text found n true false h = tt
closed_within_if text found n false b h = tt

closed_within : (text : List ℕ) (found : Found Target) → IfSome (closed_at text found) HasShortMailbox
closed_within text found =
    closed_within_if text found (length text - length found.rest) _ _ (λ e. le_if _ _ e)

then_within : {A B : Type 0} (P : B → Type 0) (f : A → Option B) (o : Option A) → ((a : A) → IfSome (f a) P) → IfSome (option_and_then f o) P
then_within P f None h = tt
then_within P f (Some a) h = h a

if_some : {A : Type 0} (P : A → Type 0) (b : Bool) (o : Option A) → IfSome o P → IfSome (if b then o else None) P
if_some P true o h = h
if_some P false o h = tt

inner_within : (utf8 : Bool) (inner : List ℕ) → IfSome (option_and_then (closed_at inner) (mailbox_at utf8 inner)) HasShortMailbox
inner_within utf8 inner = then_within HasShortMailbox (closed_at inner) (mailbox_at utf8 inner) (closed_within inner)

path_within : (utf8 : Bool) (text : List ℕ) → IfSome (path_at utf8 text) HasShortMailbox
path_within utf8 text =
    if_some HasShortMailbox (begins (byte "<") text)
    (option_and_then (λ inner. option_and_then (closed_at inner) (mailbox_at utf8 inner)) (after_route utf8 (drop 1 text)))
    (then_within HasShortMailbox (λ inner. option_and_then (closed_at inner) (mailbox_at utf8 inner)) (after_route utf8 (drop 1 text)) (inner_within utf8))

encoded_within : (utf8 : Bool) (text : List ℕ) (path : Option (Found Path)) → IfSome path HasShortMailbox
    → IfSome (option_and_then (encoded_at utf8 text) path) HasShortMailbox
encoded_within utf8 text None h = tt
encoded_within utf8 text (Some f) h = if_some HasShortMailbox (is_encoded utf8 (take (length text - length f.rest) text)) (Some f) h

forward_within : (utf8 : Bool) (text : List ℕ) → IfSome (forward_path utf8 text) HasShortMailbox
unfolding forward_path
forward_within utf8 text = encoded_within utf8 text (path_at utf8 text) (path_within utf8 text)

reverse_within_if : (b : Bool) (rest : List ℕ) (path : Option (Found Path)) → IfSome path HasShortMailbox
    → IfSome {T = Found (List ℕ)} (if b then Some (record { value = []; rest = rest }) else option_map
    (λ found. record { value = found.value.mailbox; rest = found.rest }) path) HasShortSender
reverse_within_if true rest path h = omega arith
reverse_within_if false rest None h = tt
reverse_within_if false rest (Some f) h = h

reverse_within : (utf8 : Bool) (text : List ℕ) → IfSome (reverse_path utf8 text) HasShortSender
unfolding reverse_path
reverse_within utf8 text = reverse_within_if _ _ (forward_path utf8 text) (forward_within utf8 text)

mail_within : (offered : Extensions) (text : Option (List ℕ)) → IsWithinLimits (mail offered text)
mail_within offered None = tt
mail_within offered (Some text) = mail_path_within offered (reverse_path offered.utf8 text) (reverse_within offered.utf8 text)

rcpt_with_within : (target : Target) (ps : List Parameter) → IsWithinLimits (rcpt_with target ps)
rcpt_with_within target [] = tt
rcpt_with_within target (p ∷ ps) = tt

rcpt_path_within : (found : Option (Found Path)) → IsWithinLimits (rcpt_path found)
rcpt_path_within None = tt
rcpt_path_within (Some f) = let h = rcpt_with_within f.value.target (parameters f.rest) in search (rules, if_within, h)

rcpt_within : (offered : Extensions) (text : Option (List ℕ)) → IsWithinLimits (rcpt offered text)
rcpt_within offered None = tt
rcpt_within offered (Some text) = rcpt_path_within (forward_path offered.utf8 text)

by_verb_within : (offered : Extensions) (verb rest : List ℕ) → IsWithinLimits (by_verb offered verb rest)
by_verb_within offered verb rest =
    let c = lhlo_within rest (is_client_name rest) (client_fits rest) in
    search (rules, if_within, mail_within, rcpt_within, c) depth 30

-- the client and the sender that a line names are within their limits
pub command_within : (offered : Extensions) (line : List ℕ) → IsWithinLimits (command_at offered line)
unfolding command_at
command_within offered line =
    let w = trimmed line in
    by_verb_within offered (before_first (λ b. b == space) w) (after_spaces (after_first (λ b. b == space) w))
