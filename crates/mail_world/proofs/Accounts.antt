-- The dispositions of a conversation's transactions are those of its account.
use Rattle.std.proofs.Common.{◌≡◌, ℕ, zero, suc, ◌+◌, take, drop, List, [], ◌∷◌, ◌++◌, length, Bool, Option, Some, None, refl, sym, ap, ◌∙◌, subst, arith}
use Rattle.std.proofs.Common.{append_assoc, length-append}
use Rattle.std.specs.Prelude.{map, option_map}
use Rattle.std.proofs.lemmas.List.{append-nil}
use Rattle.mail_world.specs.declared.State.{State}
use Rattle.mail_world.specs.declared.State.TheVariants.{Fresh, Content, Waiting, Ended}
use Rattle.mail_world.specs.Text.{crlf, place_of}
use Rattle.mail_world.specs.Data.{data_end}
use Rattle.mail_world.specs.Site.{Site}
use Rattle.mail_world.specs.Session.{Session, fresh}
use Rattle.mail_world.specs.Conversation.{Disposition, Part, CommandLine, MailData, is_busy, Cut, cut, cut_then, inputs_of, session_after, parts_within, parts}
use Rattle.mail_world.specs.Conversation.{Conversation, IsAccount}
use Rattle.mail_world.specs.Dispositions.{disposition_of, dispositions_of}
use Rattle.mail_world.specs.Lists.{transactions_of}
use Rattle.mail_world.proofs.Handled.{counted}
use Rattle.mail_world.proofs.Owed.{accepted_after_part}

record TakesPrefix (taken ds : List Disposition) : Type 0 where
  rest : List Disposition
  whole : ds ≡ taken ++ rest

-- a part takes its disposition from the head of the list
cut_one : (ds left : List Disposition) (bs : List Bool) (p : ℕ → Part) (size : ℕ → ℕ) (o : Option ℕ) (c : Cut) → ((n : ℕ) → ds ≡ disposition_of (p n) ++ left)
    → option_map (λ n. record { part = p n; size = size n; dispositions = left; busy = bs }) o ≡ Some c → ds ≡ disposition_of c.part ++ c.dispositions
cut_one ds left bs p size None c h e = cc
cut_one ds left bs p size (Some n) c h e =
    let one : Cut = record { part = p n; size = size n; dispositions = left; busy = bs } in
    let is : one ≡ c = cc in
    let P : Cut → Type 0 = λ x. ds ≡ disposition_of x.part ++ x.dispositions in
    subst P is (h n)

takes_line : (s : List ℕ) (ds : List Disposition) (bs : List Bool) (c : Cut) → cut Fresh s ds bs ≡ Some c → ds ≡ disposition_of c.part ++ c.dispositions
takes_line s ds bs c e = cut_one ds ds (drop 1 bs) (λ n. CommandLine (take n s) (is_busy bs)) (λ n. n + 2) (place_of crlf s) c (λ n. refl) e

takes_by : (state : State) (s : List ℕ) (ds : List Disposition) (bs : List Bool) (c : Cut) → cut state s ds bs ≡ Some c → ds ≡ disposition_of c.part ++ c.dispositions
takes_by Content s [] bs c e = cc
takes_by Content s (d ∷ ds) bs c e = cut_one (d ∷ ds) ds bs (λ n. MailData (take (n + 3) s) d) (λ n. n + 3) (data_end s) c (λ n. refl) e
takes_by Waiting s ds bs c e = cc
takes_by Ended s ds bs c e = cc
takes_by _ s ds bs c e = takes_line s ds bs c e

prefix_then : (o : Option Cut) (more : Cut → List Part) (ds : List Disposition) → ((c : Cut) → o ≡ Some c → ds ≡ disposition_of c.part ++ c.dispositions)
    → ((c : Cut) → TakesPrefix (dispositions_of (more c)) c.dispositions) → TakesPrefix (dispositions_of (cut_then o more)) ds
prefix_then None more ds f g = record { rest = ds; whole = refl }
prefix_then (Some c) more ds f g =
    let left = g c in
    record {
      rest = left.rest;
      whole = f c refl ∙ ap (λ l. disposition_of c.part ++ l) left.whole ∙ sym (append_assoc (disposition_of c.part) (dispositions_of (more c)) left.rest);
    }

prefix_of : (k : ℕ) (site : Site) (session : Session) (s : List ℕ) (ds : List Disposition) (bs : List Bool) → TakesPrefix (dispositions_of (parts_within k site session s ds bs)) ds
prefix_of zero site session s ds bs = record { rest = ds; whole = refl }
prefix_of (suc k) site session s ds bs =
    prefix_then (cut session.state s ds bs) (λ c. parts_within k site (session_after site session (inputs_of c.part)) (drop c.size s) c.dispositions c.busy) ds
    (takes_by session.state s ds bs)
    (λ c. prefix_of k site (session_after site session (inputs_of c.part)) (drop c.size s) c.dispositions c.busy)

nothing : (rest : List Disposition) → length rest ≡ 0 → rest ≡ []
nothing [] e = refl
nothing (d ∷ rest) e = absurd (omega (arith, e))

all_taken : (taken ds : List Disposition) → TakesPrefix taken ds → length taken ≡ length ds → taken ≡ ds
all_taken taken ds h e =
    let none : h.rest ≡ [] = nothing h.rest (omega (arith, e, ap length h.whole, length-append taken h.rest)) in
    sym (h.whole ∙ ap (λ l. taken ++ l) none ∙ append-nil taken)

-- none is left over
dispositions_are : (site : Site) (c : Conversation) → IsAccount site c → dispositions_of (parts site fresh c.bytes c.dispositions c.busy) ≡ c.dispositions
unfolding parts
dispositions_are site c h =
    all_taken _ c.dispositions (prefix_of (length c.bytes) site fresh c.bytes c.dispositions c.busy)
    (sym (counted (parts_within (length c.bytes) site fresh c.bytes c.dispositions c.busy)) ∙ h.none_left)

told_of_parts : (site : Site) (n : ℕ) (session : Session) (ps : List Part) → map (λ t. t.disposition) (transactions_of site n session ps) ≡ dispositions_of ps
told_of_parts site n session [] = refl
told_of_parts site n session (CommandLine text busy ∷ ps) =
    told_of_parts site (accepted_after_part site n session (CommandLine text busy)) (session_after site session (inputs_of (CommandLine text busy))) ps
told_of_parts site n session (MailData text d ∷ ps) =
    ap (λ l. d ∷ l) (told_of_parts site n (session_after site session (inputs_of (MailData text d))) ps)

-- the transactions of a conversation tell its account
pub account_told : (site : Site) (n : ℕ) (c : Conversation) → IsAccount site c
    → map (λ t. t.disposition) (transactions_of site n fresh (parts site fresh c.bytes c.dispositions c.busy)) ≡ c.dispositions
account_told site n c h = told_of_parts site n fresh (parts site fresh c.bytes c.dispositions c.busy) ∙ dispositions_are site c h
