-- A command that is taken is taken as the same where no less is offered, and one that is refused, but for its size, is
-- refused alike whatever size is offered.
use Rattle.std.proofs.Common.{◌≡◌, ℕ, ◌≤◌, Bool, true, false, not, ◌&&◌, ◌||◌, ◌==◌, List, [], ◌∷◌, refl, sym, ap, ◌∙◌, subst, arith, rules}
use Rattle.std.specs.Prelude.{⊤, if◌then◌else◌, Option, Some, None, Ok, Err, codes, option_map}
use Rattle.std.specs.List.{list_any, list_all, before_first, after_first}
use Rattle.std.proofs.lemmas.Bool.Decides.{nat_tests}
use Rattle.mail_world.specs.declared.BadCommand.{BadCommand}
use Rattle.mail_world.specs.declared.BadCommand.TheVariants as bad
use Rattle.mail_world.specs.declared.Extensions.{Extensions}
use Rattle.mail_world.specs.Text.{begins_with, space}
use Rattle.mail_world.specs.Paths.{Found, Path, reverse_path, forward_path}
use Rattle.mail_world.specs.Commands.{Answer, Command, Mail, Parameter, is_known, is_too_large, is_above_limit, has_keyword, mail_with}
use Rattle.mail_world.specs.Commands.{mail_path, mail, rcpt_path, rcpt, by_verb, command_at, parameters, trimmed, after_spaces, ends_path}
use Rattle.mail_world.proofs.PathsSpelled.{and_parts}
use Rattle.lmtp_text.specs.Offers.{NoLess}
use Rattle.lmtp_text.proofs.PathsBeyond.{forward_too}

-- what is found in ASCII is found where UTF-8 is offered too
for_utf8 : {A : Type 0} (f : Bool → Option A) (x : A) → (f false ≡ Some x → f true ≡ Some x) → (here there : Bool) → (here ≡ true → there ≡ true)
    → f here ≡ Some x → f there ≡ Some x
for_utf8 f x h true there more e = rw (more refl) e
for_utf8 f x h false true more e = h e
for_utf8 f x h false false more e = e

map_too : {A B : Type 0} (f : A → B) (o p : Option A) (y : B) → ((x : A) → o ≡ Some x → p ≡ Some x) → option_map f o ≡ Some y → option_map f p ≡ Some y
map_too f None p y h e = cc
map_too f (Some x) p y h e = rw (h x refl) e

reverse_by : (b : Bool) (u : Found (List ℕ)) (o p : Option (Found (List ℕ))) (y : Found (List ℕ)) → (o ≡ Some y → p ≡ Some y)
    → (if b then Some u else o) ≡ Some y → (if b then Some u else p) ≡ Some y
reverse_by true u o p y h e = e
reverse_by false u o p y h e = h e

reverse_too : (text : List ℕ) (found : Found (List ℕ)) → reverse_path false text ≡ Some found → reverse_path true text ≡ Some found
unfolding reverse_path
reverse_too text found e =
    reverse_by (begins_with (codes "<>") text) _ _ _ found
    (map_too (λ found. record { value = found.value.mailbox; rest = found.rest }) (forward_path false text) (forward_path true text) found (forward_too text)) e

-- where the first is taken the second is the same
record IsKept (a b : Answer) : Type 0 where
  kept : (c : Command) → a ≡ Ok c → b ≡ Ok c

refused_kept : (why : BadCommand) (b : Answer) → IsKept (Err why) b
refused_kept why b = record { kept = λ c e. cc }

same_kept : (a : Answer) → IsKept a a
same_kept a = record { kept = λ c e. e }

kept_if : (t : Bool) (x u v : Answer) → IsKept u v → IsKept (if t then x else u) (if t then x else v)
kept_if true x u v h = same_kept x
kept_if false x u v h = h

-- the parameters
known_or : (s b u here there : Bool) → (here ≡ true → there ≡ true) → (s || b || here && u) ≡ true → (s || b || there && u) ≡ true
known_or true b u here there more e = refl
known_or false true u here there more e = refl
known_or false false u true there more e = rw (more refl) e
known_or false false u false there more e = cc

all_known : (here there : Bool) → (here ≡ true → there ≡ true) → (ps : List Parameter) → list_all (is_known here) ps ≡ true → list_all (is_known there) ps ≡ true
all_known here there more [] e = refl
all_known here there more (p ∷ ps) e =
    let parts = and_parts (is_known here p) (list_all (is_known here) ps) e in
    rw (known_or _ _ _ here there more parts.0, all_known here there more ps parts.1) refl

size_fits : (here there : ℕ) → here ≤ there → (s : Bool) (value : Option (List ℕ)) → (s && is_above_limit here value) ≡ false
    → (s && is_above_limit there value) ≡ false
size_fits here there h false value e = refl
size_fits here there h true None e = refl
size_fits here there h true (Some digits) e = grind (arith, nat_tests, h, e)

or_false : (x y : Bool) → (x || y) ≡ false → (x ≡ false) × (y ≡ false)
or_false true y e = cc
or_false false y e = (refl, e)

none_large : (here there : ℕ) → here ≤ there → (ps : List Parameter) → list_any (is_too_large here) ps ≡ false → list_any (is_too_large there) ps ≡ false
none_large here there h [] e = refl
none_large here there h (p ∷ ps) e =
    let parts = or_false (is_too_large here p) (list_any (is_too_large here) ps) e in
    rw (size_fits here there h (has_keyword (codes "SIZE") p) p.value parts.0, none_large here there h ps parts.1) refl

kept_by : (k w l known large : Bool) (x : Answer) → (k ≡ true → known ≡ true) → (l ≡ false → large ≡ false)
    → IsKept (if not k then Err bad.Parameter else if w then Err bad.Arguments else if l then Err bad.TooLarge else x)
    (if not known then Err bad.Parameter else if w then Err bad.Arguments else if large then Err bad.TooLarge else x)
kept_by false w l known large x hk hl = refused_kept _ _
kept_by true true l known large x hk hl = refused_kept _ _
kept_by true false true known large x hk hl = refused_kept _ _
kept_by true false false known large x hk hl = rw (hk refl, hl refl) (same_kept x)

with_kept : (here there : Extensions) → NoLess here there → (sender : List ℕ) (ps : List Parameter) → IsKept (mail_with here sender ps) (mail_with there sender ps)
with_kept here there less sender ps =
    kept_by (list_all (is_known here.utf8) ps) _ (list_any (is_too_large here.message_limit) ps) (list_all (is_known there.utf8) ps)
    (list_any (is_too_large there.message_limit) ps) _
    (all_known here.utf8 there.utf8 less.utf8 ps) (none_large here.message_limit there.message_limit less.limit ps)

end_kept : (t : Bool) (u v : Answer) → IsKept u v → IsKept (if t then u else Err bad.SenderSyntax) (if t then v else Err bad.SenderSyntax)
end_kept true u v h = h
end_kept false u v h = same_kept _

path_kept : (here there : Extensions) → NoLess here there → (o p : Option (Found (List ℕ))) → ((f : Found (List ℕ)) → o ≡ Some f → p ≡ Some f)
    → IsKept (mail_path here o) (mail_path there p)
path_kept here there less None p h = refused_kept _ _
path_kept here there less (Some f) p h =
    rw (h f refl) (end_kept (ends_path f.rest) _ _ (with_kept here there less f.value (parameters f.rest)))

mail_kept : (here there : Extensions) → NoLess here there → (text : Option (List ℕ)) → IsKept (mail here text) (mail there text)
mail_kept here there less None = same_kept _
mail_kept here there less (Some text) =
    path_kept here there less (reverse_path here.utf8 text) (reverse_path there.utf8 text)
    (λ f. for_utf8 (λ utf8. reverse_path utf8 text) f (reverse_too text f) here.utf8 there.utf8 less.utf8)

to_kept : (o p : Option (Found Path)) → ((f : Found Path) → o ≡ Some f → p ≡ Some f) → IsKept (rcpt_path o) (rcpt_path p)
to_kept None p h = refused_kept _ _
to_kept (Some f) p h = rw (h f refl) (same_kept (rcpt_path (Some f)))

rcpt_kept : (here there : Extensions) → NoLess here there → (text : Option (List ℕ)) → IsKept (rcpt here text) (rcpt there text)
rcpt_kept here there less None = same_kept _
rcpt_kept here there less (Some text) =
    to_kept (forward_path here.utf8 text) (forward_path there.utf8 text)
    (λ f. for_utf8 (λ utf8. forward_path utf8 text) f (forward_too text f) here.utf8 there.utf8 less.utf8)

two_kept : (t : Bool) (x y u v : Answer) → IsKept x y → IsKept u v → IsKept (if t then x else u) (if t then y else v)
two_kept true x y u v hx hu = hx
two_kept false x y u v hx hu = hu

verb_kept : (here there : Extensions) → NoLess here there → (verb rest : List ℕ) → IsKept (by_verb here verb rest) (by_verb there verb rest)
verb_kept here there less verb rest =
    let m = mail_kept here there less in
    let r = rcpt_kept here there less in
    search (rules, kept_if, two_kept, same_kept, m, r) depth 40

pub taken_alike : (here there : Extensions) (line : List ℕ) (c : Command) → NoLess here there → command_at here line ≡ Ok c → Ok c ≡ command_at there line
unfolding command_at
taken_alike here there line c less e =
    let w = trimmed line in
    sym ((verb_kept here there less (before_first (λ b. b == space) w) (after_spaces (after_first (λ b. b == space) w))).kept c e)

-- where the first is refused, but for its size, the second is too
abbrev IsSized : Answer → Type 0
IsSized (Ok c) = ⊤
IsSized (Err bad.TooLarge) = ⊤
IsSized (Err _) = ⊥

record IsAlike (a b : Answer) : Type 0 where
  alike : (IsSized a → ⊥) → a ≡ b

same_alike : (a : Answer) → IsAlike a a
same_alike a = record { alike = λ h. refl }

sized_alike : (a b : Answer) → IsSized a → IsAlike a b
sized_alike a b h = record { alike = λ other. absurd (other h) }

two_alike : (t : Bool) (x y u v : Answer) → IsAlike x y → IsAlike u v → IsAlike (if t then x else u) (if t then y else v)
two_alike true x y u v hx hu = hx
two_alike false x y u v hx hu = hu

size_alike : (l large : Bool) (c : Command) → IsAlike (if l then Err bad.TooLarge else Ok c) (if large then Err bad.TooLarge else Ok c)
size_alike true large c = sized_alike _ _ tt
size_alike false large c = sized_alike _ _ tt

path_alike : (here there : ℕ) (utf8 : Bool) (o : Option (Found (List ℕ)))
    → IsAlike (mail_path (record { message_limit = here; utf8 = utf8 }) o) (mail_path (record { message_limit = there; utf8 = utf8 }) o)
path_alike here there utf8 None = same_alike _
path_alike here there utf8 (Some f) =
    let ps = parameters f.rest in
    two_alike (ends_path f.rest) _ _ _ _
    (two_alike (not (list_all (is_known utf8) ps)) _ _ _ _ (same_alike (Err bad.Parameter))
    (two_alike _ _ _ _ _ (same_alike (Err bad.Arguments))
    (size_alike (list_any (is_too_large here) ps) (list_any (is_too_large there) ps) (Mail f.value (list_any (has_keyword (codes "SMTPUTF8")) ps)))))
    (same_alike (Err bad.SenderSyntax))

mail_alike : (here there : ℕ) (utf8 : Bool) (text : Option (List ℕ))
    → IsAlike (mail (record { message_limit = here; utf8 = utf8 }) text) (mail (record { message_limit = there; utf8 = utf8 }) text)
mail_alike here there utf8 None = same_alike _
mail_alike here there utf8 (Some text) = path_alike here there utf8 (reverse_path utf8 text)

verb_alike : (here there : ℕ) (utf8 : Bool) (verb rest : List ℕ)
    → IsAlike (by_verb (record { message_limit = here; utf8 = utf8 }) verb rest) (by_verb (record { message_limit = there; utf8 = utf8 }) verb rest)
verb_alike here there utf8 verb rest =
    let m = mail_alike here there utf8 in
    search (rules, two_alike, same_alike, m) depth 40

no_size : (why : BadCommand) → (why ≡ bad.TooLarge → ⊥) → IsSized (Err why) → ⊥
no_size bad.Unknown h s = s
no_size bad.NotHere h s = s
no_size bad.NotDone h s = s
no_size bad.Arguments h s = s
no_size bad.SenderSyntax h s = s
no_size bad.RecipientSyntax h s = s
no_size bad.Parameter h s = s
no_size bad.TooLarge h s = h refl
no_size bad.ClientName h s = s

pub refused_alike : (here there : Extensions) (line : List ℕ) (why : BadCommand) → there.utf8 ≡ here.utf8 → (why ≡ bad.TooLarge → ⊥)
    → command_at here line ≡ Err why → Err why ≡ command_at there line
unfolding command_at
refused_alike here there line why same other e =
    let w = trimmed line in
    let verb = before_first (λ b. b == space) w in
    let rest = after_spaces (after_first (λ b. b == space) w) in
    let both = verb_alike here.message_limit there.message_limit here.utf8 verb rest in
    let P : Answer → Type 0 = λ a. IsSized a → ⊥ in
    let h = subst P (sym e) (no_size why other) in
    sym e ∙ both.alike h ∙ ap (λ utf8. by_verb (record { message_limit = there.message_limit; utf8 = utf8 }) verb rest) (sym same)
