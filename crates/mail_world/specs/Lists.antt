-- The notes of a lane: which copies its conversations owe.
use Rattle.std.specs.List.{AllByRecursion}
use Rattle.mail_world.specs.declared.Slip.{Slip}
use Rattle.mail_world.specs.declared.limits.TheConstants.{NUMBER_LIMIT}
use Rattle.mail_world.specs.Slips.{answers}
use Rattle.std.specs.Prelude.{◌≡◌, ◌↔◌, ⊤, ◌<◌, ◌≤◌, length, map, Some, ℕ, ◌+◌, Bool, true, false, ◌==◌, List, [], ◌∷◌, ◌&&◌}
use Rattle.std.specs.Prelude.{◌++◌, filter, flat_map, if◌then◌else◌}
use Rattle.mail_world.specs.declared.Note.{Note}
use Rattle.mail_world.specs.declared.Verdict.{Verdict}
use Rattle.mail_world.specs.declared.Verdict.TheVariants as verdicts
use Rattle.mail_world.specs.declared.State.{State}
use Rattle.mail_world.specs.declared.State.TheVariants as states
use Rattle.mail_world.specs.Data.{message}
use Rattle.mail_world.specs.Site.{Site}
use Rattle.mail_world.specs.Malformed.{is_malformed}
use Rattle.mail_world.specs.Session.{Session, fresh}
use Rattle.mail_world.specs.Conversation.{Disposition, Part, CommandLine, MailData, inputs_of, session_after, parts}
use Rattle.mail_world.specs.Conversation.{Conversation}

-- the notes of a lane, in their order
abbrev pub of_lane : ℕ → List Note → List Note
of_lane lane notes = filter (λ note. note.txn.lane == lane) notes

-- data that ended: the number of its transaction, the session that it came in, the message, what became of it
pub record Transaction : Type 0 where
  pub number : ℕ
  pub session : Session
  pub message : List ℕ
  pub disposition : Disposition

abbrev pub is_content : State → Bool
is_content states.Content = true
is_content _ = false

-- how many DATA commands were accepted, n of them before
abbrev pub accepted_after : Site → ℕ → Session → List Part → ℕ
accepted_after site n session [] = n
accepted_after site n session (p ∷ ps) =
    let next = session_after site session (inputs_of p) in
    accepted_after site (if is_content next.state then n + 1 else n) next ps

-- the transactions of a conversation, before which n DATA commands were accepted
abbrev pub transactions_of : Site → ℕ → Session → List Part → List Transaction
transactions_of site n session [] = []
transactions_of site n session (CommandLine text busy ∷ ps) =
    let next = session_after site session (inputs_of (CommandLine text busy)) in
    transactions_of site (if is_content next.state then n + 1 else n) next ps
transactions_of site n session (MailData text d ∷ ps) =
    record { number = n; session = session; message = message text; disposition = d }
    ∷ transactions_of site n (session_after site session (inputs_of (MailData text d))) ps

-- the transactions of a lane's conversations
unfoldable pub transactions : Site → ℕ → List Conversation → List Transaction
transactions site n [] = []
transactions site n (c ∷ cs) =
    let ps = parts site fresh c.bytes c.dispositions c.busy in
    transactions_of site n fresh ps ++ transactions site (accepted_after site n fresh ps) cs

-- a copy for each recipient from the place on
abbrev pub copies_from : ℕ → Transaction → ℕ → List ℕ → List Note
copies_from lane t place [] = []
copies_from lane t place (box ∷ boxes) =
    record {
      txn = record { lane = lane; number = t.number };
      place = place;
      mailbox = box;
      sender = t.session.sender;
      client = t.session.client;
      utf8 = t.session.utf8;
      moment = t.disposition.moment;
      message = t.message;
    } ∷ copies_from lane t (place + 1) boxes

-- the copies that a transaction owes: those of a whole message
abbrev pub copies_if : ℕ → Transaction → Verdict → List Note
copies_if lane t verdicts.Whole = copies_from lane t 0 t.session.recipients
copies_if lane t _ = []

abbrev pub copies : ℕ → Transaction → List Note
copies lane t = copies_if lane t t.disposition.verdict

-- what these transactions of a lane owe the mailbox
abbrev pub copies_owed : ℕ → ℕ → List Transaction → List Note
copies_owed lane box ts = filter (λ note. note.mailbox == box) (flat_map (copies lane) ts)

-- what the lane's conversations owe the mailbox
unfoldable pub due : Site → ℕ → ℕ → List Conversation → List Note
due site lane box cs = copies_owed lane box (transactions site 0 cs)

-- the site refuses the message as malformed
abbrev pub is_refused : Site → List ℕ → Bool
is_refused site message = site.refuses_malformed && is_malformed message

-- the verdict is TooLarge exactly where the message is above the limit and the lane had a number left for it, and
-- Malformed exactly where it isn't and the site refuses it so; once the lane has no number the verdict is NoRoom
pub record VerdictFits (site : Site) (t : Transaction) : Type 0 where
  pub too_large : (t.disposition.verdict ≡ verdicts.TooLarge)
      ↔ ((site.message_limit < length t.message) × (t.number ≤ NUMBER_LIMIT))
  pub malformed : (t.disposition.verdict ≡ verdicts.Malformed)
      ↔ ((length t.message ≤ site.message_limit) × (is_refused site t.message ≡ true) × (t.number ≤ NUMBER_LIMIT))
  pub no_number : NUMBER_LIMIT < t.number → t.disposition.verdict ≡ verdicts.NoRoom

-- the outcomes of a whole message are those of the slips
abbrev pub OutcomesIn : ℕ → List Slip → Transaction → Verdict → Type 0
OutcomesIn lane slips t verdicts.Whole =
    map (λ o. Some o) t.disposition.outcomes
    ≡ answers (record { lane = lane; number = t.number }) (length t.session.recipients) slips
OutcomesIn lane slips t _ = ⊤

-- so it is for all transactions of a lane
abbrev pub VerdictsFit : Site → List Conversation → Type 0
VerdictsFit site cs = AllByRecursion (VerdictFits site) (transactions site 0 cs)

abbrev pub OutcomesAreAnswers : Site → ℕ → List Slip → List Conversation → Type 0
OutcomesAreAnswers site lane slips cs =
    AllByRecursion (λ t. OutcomesIn lane slips t t.disposition.verdict) (transactions site 0 cs)
