-- The transactions of parts, one part at a time.
use Rattle.std.proofs.Common.{◌≡◌, ℕ, ◌+◌, List, [], ◌∷◌, ◌++◌, false, cond, refl, sym, ap, ◌∙◌}
use Rattle.std.specs.Prelude.{flat_map, if◌then◌else◌}
use Rattle.mail_world.specs.Data.{message}
use Rattle.mail_world.specs.Site.{Site}
use Rattle.mail_world.specs.declared.Verdict.{Verdict}
use Rattle.mail_world.specs.declared.Verdict.TheVariants as verdicts
use Rattle.mail_world.specs.Session.{Session, DataEnded}
use Rattle.mail_world.specs.Conversation.{Disposition, Part, CommandLine, MailData, inputs_of, outcomes_of, session_after, session_after_parts}
use Rattle.mail_world.specs.Lists.{is_content, accepted_after, transactions_of}
use Rattle.mail_world.proofs.Handled.{session_after-append}

-- how many DATA commands were accepted after one part
abbrev pub accepted_after_part : Site → ℕ → Session → Part → ℕ
accepted_after_part site n session p = if is_content (session_after site session (inputs_of p)).state then n + 1 else n

pub accepted-append : (site : Site) (n : ℕ) (session : Session) (ps qs : List Part)
    → accepted_after site n session (ps ++ qs) ≡ accepted_after site (accepted_after site n session ps) (session_after_parts site session ps) qs
accepted-append site n session [] qs = refl
accepted-append site n session (p ∷ ps) qs =
    accepted-append site (accepted_after_part site n session p) (session_after site session (inputs_of p)) ps qs
    ∙ ap (λ x. accepted_after site (accepted_after site (accepted_after_part site n session p) (session_after site session (inputs_of p)) ps) x qs)
    (sym (session_after-append site session (inputs_of p) (flat_map inputs_of ps)))

-- no DATA is accepted by data
after_the_data : (site : Site) (session : Session) (d : Disposition) (v : Verdict)
    → is_content (session_after site session (DataEnded v ∷ outcomes_of d v)).state ≡ false
after_the_data site session d verdicts.Whole = refl
after_the_data site session d verdicts.TooLarge = refl
after_the_data site session d verdicts.Malformed = refl
after_the_data site session d verdicts.NoRoom = refl

pub same_after_data : (site : Site) (n : ℕ) (session : Session) (text : List ℕ) (d : Disposition) → accepted_after_part site n session (MailData text d) ≡ n
same_after_data site n session text d = ap (λ b. cond b (n + 1) n) (after_the_data site session d d.verdict)

pub transactions-append : (site : Site) (n : ℕ) (session : Session) (ps qs : List Part)
    → transactions_of site n session (ps ++ qs)
    ≡ transactions_of site n session ps ++ transactions_of site (accepted_after site n session ps) (session_after_parts site session ps) qs
transactions-append site n session [] qs = refl
transactions-append site n session (CommandLine text busy ∷ ps) qs =
    let p : Part = CommandLine text busy in
    transactions-append site (accepted_after_part site n session p) (session_after site session (inputs_of p)) ps qs
    ∙ ap (λ x. transactions_of site n session (p ∷ ps) ++ transactions_of site (accepted_after site n session (p ∷ ps)) x qs)
    (sym (session_after-append site session (inputs_of p) (flat_map inputs_of ps)))
transactions-append site n session (MailData text d ∷ ps) qs =
    let p : Part = MailData text d in
    ap (λ l. record { number = n; session = session; message = message text; disposition = d } ∷ l)
    (transactions-append site n (session_after site session (inputs_of p)) ps qs
    ∙ ap (λ x. transactions_of site n (session_after site session (inputs_of p)) ps
    ++ transactions_of site (accepted_after site n (session_after site session (inputs_of p)) ps) x qs)
    (sym (session_after-append site session (inputs_of p) (flat_map inputs_of ps)))
    ∙ ap (λ k. transactions_of site n (session_after site session (inputs_of p)) ps
    ++ transactions_of site (accepted_after site k (session_after site session (inputs_of p)) ps) (session_after_parts site session (p ∷ ps)) qs)
    (sym (same_after_data site n session text d)))
