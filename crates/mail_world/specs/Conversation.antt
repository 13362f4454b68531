-- A conversation: what is read, cut into inputs, and what is written.
use Rattle.std.specs.Prelude.{◌≡◌, ⊤, ℕ, zero, suc, ◌+◌, Bool, true, false, nat_lt, List, [], ◌∷◌, ◌++◌, length, take}
use Rattle.std.specs.Prelude.{drop, flat_map, sum_by, count_by, if◌then◌else◌, Option, Some, None, option_map}
use Rattle.mail_world.specs.declared.Outcome.{Outcome}
use Rattle.mail_world.specs.declared.Verdict.{Verdict}
use Rattle.mail_world.specs.declared.Verdict.TheVariants as verdicts
use Rattle.mail_world.specs.declared.State.{State}
use Rattle.mail_world.specs.declared.State.TheVariants.{Content, Waiting, Ended}
use Rattle.mail_world.specs.declared.Reply.{Reply}
use Rattle.mail_world.specs.declared.Reply.TheVariants.{Greeting}
use Rattle.mail_world.specs.declared.limits.TheConstants.{LINE_LIMIT}
use Rattle.mail_world.specs.Text.{crlf, place_of}
use Rattle.mail_world.specs.Data.{data_end}
use Rattle.mail_world.specs.Site.{Site}
use Rattle.mail_world.specs.Replies.{reply_text, reply_texts}
use Rattle.mail_world.specs.Session.{Session, fresh, Input, Line, Busy, LongLine, DataEnded, Outcomes, Stop, step}

-- what became of data that ended: the verdict, and of a whole message the moment and an outcome for each recipient
pub record Disposition : Type 0 where
  pub verdict : Verdict
  pub moment : ℕ
  pub outcomes : List Outcome

-- what is read at once: a command line without its CRLF, and whether the mailbox that it may name was busy, or data with
-- the line of its dot
pub data Part : Type 0 where
  CommandLine : (text : List ℕ) (busy : Bool) → Part
  MailData : (text : List ℕ) (disposition : Disposition) → Part

-- whether the next line's mailbox was busy: beyond the list none was
abbrev pub is_busy : List Bool → Bool
is_busy [] = false
is_busy (b ∷ bs) = b

-- a part, how many bytes it takes, and what is left of the dispositions and of what is known of busy lines
pub record Cut : Type 0 where
  pub part : Part
  pub size : ℕ
  pub dispositions : List Disposition
  pub busy : List Bool

abbrev pub cut_line : List ℕ → List Disposition → List Bool → Option Cut
cut_line s ds bs =
    option_map (λ n.
    record { part = CommandLine (take n s) (is_busy bs); size = n + 2; dispositions = ds; busy = drop 1 bs })
    (place_of crlf s)

abbrev pub cut_data : List ℕ → List Disposition → List Bool → Option Cut
cut_data s [] bs = None
cut_data s (d ∷ ds) bs =
    option_map (λ n. record { part = MailData (take (n + 3) s) d; size = n + 3; dispositions = ds; busy = bs })
    (data_end s)

-- the part that stands at the beginning, if it has ended
abbrev pub cut : State → List ℕ → List Disposition → List Bool → Option Cut
cut Content s ds bs = cut_data s ds bs
cut Waiting s ds bs = None
cut Ended s ds bs = None
cut _ s ds bs = cut_line s ds bs

abbrev pub outcomes_of : Disposition → Verdict → List Input
outcomes_of d verdicts.Whole = Outcomes d.outcomes ∷ []
outcomes_of d _ = []

abbrev pub line_input : List ℕ → Bool → Input
line_input text false = Line text
line_input text true = Busy text

-- what the session is given for a part
abbrev pub inputs_of : Part → List Input
inputs_of (CommandLine text busy) =
    (if nat_lt LINE_LIMIT (length text + 2) then LongLine else line_input text busy) ∷ []
inputs_of (MailData text d) = DataEnded d.verdict ∷ outcomes_of d d.verdict

-- the session after inputs, and all that it says to them
abbrev pub session_after : Site → Session → List Input → Session
session_after site s [] = s
session_after site s (x ∷ xs) = session_after site (step site s x).next xs

abbrev pub replies_to : Site → Session → List Input → List Reply
replies_to site s [] = []
replies_to site s (x ∷ xs) = (step site s x).replies ++ replies_to site (step site s x).next xs

-- a part, and what goes on from it
abbrev pub cut_then : Option Cut → (Cut → List Part) → List Part
cut_then None more = []
cut_then (Some c) more = c.part ∷ more c

-- the parts of what is read in a session, at most n of them
abbrev pub parts_within : ℕ → Site → Session → List ℕ → List Disposition → List Bool → List Part
parts_within zero site session s ds bs = []
parts_within (suc n) site session s ds bs =
    cut_then (cut session.state s ds bs)
    (λ c. parts_within n site (session_after site session (inputs_of c.part)) (drop c.size s) c.dispositions c.busy)

-- all of them: each takes a byte at least
unfoldable pub parts : Site → Session → List ℕ → List Disposition → List Bool → List Part
parts site session s ds bs = parts_within (length s) site session s ds bs

-- the session after parts, how many bytes they take, and how many of them are data
abbrev pub session_after_parts : Site → Session → List Part → Session
session_after_parts site session ps = session_after site session (flat_map inputs_of ps)

abbrev pub size_of : Part → ℕ
size_of (CommandLine text busy) = length text + 2
size_of (MailData text d) = length text

abbrev pub is_data : Part → Bool
is_data (CommandLine text busy) = false
is_data (MailData text d) = true

-- a whole message has an outcome for each recipient
abbrev pub OutcomesFit : List ℕ → Disposition → Verdict → Type 0
OutcomesFit recipients d verdicts.Whole = length d.outcomes ≡ length recipients
OutcomesFit recipients d _ = ⊤

abbrev pub AllFit : Site → Session → List Part → Type 0
AllFit site session [] = ⊤
AllFit site session (CommandLine text busy ∷ ps) =
    AllFit site (session_after site session (inputs_of (CommandLine text busy))) ps
AllFit site session (MailData text d ∷ ps) = OutcomesFit session.recipients d d.verdict
    × AllFit site (session_after site session (inputs_of (MailData text d))) ps

abbrev pub NoDataEnded : State → List ℕ → Type 0
NoDataEnded Content s = data_end s ≡ None
NoDataEnded _ s = ⊤

-- there is one disposition for each data that ended, with an outcome for each recipient of a whole message, and a site
-- that tells nobody so has no busy line
pub record HasDispositions (site : Site) (session : Session) (s : List ℕ) (ds : List Disposition) (bs : List Bool)
    : Type 0 where
  pub outcomes : AllFit site session (parts site session s ds bs)
  pub none_left : count_by is_data (parts site session s ds bs) ≡ length ds
  pub none_lacks : NoDataEnded (session_after_parts site session (parts site session s ds bs)).state
      (drop (sum_by size_of (parts site session s ds bs)) s)
  pub none_busy : site.tells_busy ≡ false → bs ≡ []

-- what the peer sent until the conversation ended, what became of its data, of its lines in their order, as far as one
-- was, whether the mailbox that each may name was busy, and whether the peer said to stop
pub record Conversation : Type 0 where
  pub bytes : List ℕ
  pub dispositions : List Disposition
  pub busy : List Bool
  pub stopped : Bool

-- a conversation that nobody stopped, at mailboxes none of which was busy
abbrev pub conversation : List ℕ → List Disposition → Conversation
conversation bytes ds = record { bytes = bytes; dispositions = ds; busy = []; stopped = false }

abbrev pub stop_at : State → Bool → List Input
stop_at Ended stopped = []
stop_at _ stopped = if stopped then Stop ∷ [] else []

unfoldable pub inputs : Site → Conversation → List Input
inputs site c =
    let ps = parts site fresh c.bytes c.dispositions c.busy in
    flat_map inputs_of ps ++ stop_at (session_after_parts site fresh ps).state c.stopped

-- the account of a conversation is complete
abbrev pub IsAccount : Site → Conversation → Type 0
IsAccount site c = HasDispositions site fresh c.bytes c.dispositions c.busy

-- what is written: the greeting, and the replies
unfoldable pub replies : Site → List Input → List ℕ
replies site xs = reply_text site Greeting ++ reply_texts site (replies_to site fresh xs)
