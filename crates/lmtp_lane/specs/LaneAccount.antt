-- What the delivery of a lane has come to.
use Rattle.std.specs.Prelude.{◌≡◌, ◌≤◌, ◌<◌, ⊤, ℕ, ◌*◌, Bool, true, false, nat_lt, if◌then◌else◌, List, [], ◌∷◌, ◌++◌, length}
use Rattle.std.specs.Prelude.{map, flat_map, Option, Some, None}
use Rattle.std.specs.Option.{IfSome}
use Rattle.std.specs.List.{AllByRecursion}
use Rattle.mail_world.specs.declared.Note.{Note}
use Rattle.mail_world.specs.declared.Slip.{Slip}
use Rattle.mail_world.specs.declared.Outcome.{Outcome}
use Rattle.mail_world.specs.declared.Verdict.{Verdict}
use Rattle.mail_world.specs.declared.Verdict.TheVariants.{Whole, TooLarge, Malformed, NoRoom}
use Rattle.mail_world.specs.declared.limits.TheConstants.{NUMBER_LIMIT, RECIPIENT_LIMIT, DATA_BUFFER_SIZE}
use Rattle.mail_world.specs.Counts.{counted}
use Rattle.mail_world.specs.Slips.{answers, txn_of, Gather}
use Rattle.mail_world.specs.Lists.{Transaction, VerdictFits, OutcomesIn, copies, copies_from}
use Rattle.mail_world.specs.Site.{Site}
use Rattle.mail_form.specs.declared.form.MessageForm.{MessageForm}
use Rattle.mail_form.specs.Forms.{HasForm, ends_malformed}
use Rattle.mail_head.specs.MessageIds.{message_id_of}
use Rattle.msg_depot.specs.declared.view.Claim.{Claim}
use Rattle.mail_runs.specs.Deeds.{Deed, Gave, Heard}
use Rattle.mail_runs.specs.Timed.{whats}
use Rattle.mail_runs.specs.Ordered.{AreExchanges}
use Rattle.lmtp_lane.specs.LaneExchange.{LaneEnds, HasExchanged, HasExchangedBy, Episode, joined, IsEpisode}

-- the outcomes of a whole message are those of the slips that were heard since it was sealed
pub record IsAnswered (lane : ℕ) (heard : List Slip) (t : Transaction) : Type 0 where
  pub before : List Slip
  pub since : List Slip
  pub whole : heard ≡ before ++ since
  pub outcomes : OutcomesIn lane since t t.disposition.verdict

-- an episode for each transaction, one after the other, and the outcomes of a whole message are those of its own slips
abbrev pub AreEpisodes : ℕ → List Transaction → List Episode → Type 0
AreEpisodes lane [] [] = ⊤
AreEpisodes lane [] (e ∷ es) = ⊥
AreEpisodes lane (t ∷ ts) [] = ⊥
AreEpisodes lane (t ∷ ts) (e ∷ es) =
    IsEpisode (txn_of lane t.number) e × OutcomesIn lane e.heard t t.disposition.verdict × AreEpisodes lane ts es

-- All was heard transaction by transaction. So a lane's own slips of a transaction name each place once, and none that
-- its channel had given a slip for.
pub record IsHeardInTurn (lane : ℕ) (ts : List Transaction) (all : Episode) : Type 0 where
  pub episodes : List Episode
  pub each : AreEpisodes lane ts episodes
  pub came_is : all.came ≡ flat_map (λ e. e.came) episodes
  pub own_is : all.own ≡ flat_map (λ e. e.own) episodes
  pub heard_is : all.heard ≡ flat_map (λ e. e.heard) episodes

-- the moments that a clock may answer are such
abbrev pub AgreesWith : (ℕ → Type 0) → (ℕ → Type 0) → Type 0
AgreesWith May Known = (moment : ℕ) → May moment → Known moment

-- Where n DATA commands were accepted, and this became of the data that ended: the senders gave what is owed, the
-- outcomes are those of the slips, each verdict fits the site, and each moment is one that the clock may answer. There
-- are deeds that are an exchange for each, one after the other, and where no channel was found gone the lane did them.
pub record HasOffered (site : Site) (May : ℕ → Type 0) (accepted : ℕ) (old new : LaneEnds) (n : ℕ)
    (ts : List Transaction) : Type 0 where
  pub count : accepted ≡ counted n
  pub came : List Slip
  pub own : List Slip
  pub heard : List Slip
  pub exchanged : HasExchanged (flat_map (copies old.lane) ts)
      (record { came = came; own = own; heard = heard }) old new
  pub did : List Deed
  pub in_order : new.gone ≡ false → whats exchanged.done.deeds ≡ did
  pub exchanges : AreExchanges RECIPIENT_LIMIT old.lane ts did
  pub turns : IsHeardInTurn old.lane ts (record { came = came; own = own; heard = heard })
  pub answered : AllByRecursion (IsAnswered old.lane heard) ts
  pub verdicts : AllByRecursion (VerdictFits site) ts
  pub moments : AllByRecursion (λ t. May t.disposition.moment) ts

-- what is known of the form of these bytes, where malformed messages are refused
abbrev pub IsKnownForm : Bool → Option MessageForm → List ℕ → Type 0
IsKnownForm refuses None bytes = refuses ≡ false
IsKnownForm refuses (Some form) bytes = (refuses ≡ true) × HasForm form bytes

-- and what it says of a message that ends so
abbrev pub says_malformed : Option MessageForm → Bool
says_malformed None = false
says_malformed (Some form) = ends_malformed form

-- these bytes came after those whose form was known
abbrev pub FormsOn : Option MessageForm → Option MessageForm → List ℕ → Type 0
FormsOn (Some old) (Some new) bytes = (begun : List ℕ) → HasForm old begun → HasForm new (begun ++ bytes)
FormsOn None (Some new) bytes = ⊥
FormsOn (Some old) None bytes = ⊥
FormsOn None None bytes = ⊤

-- what is kept of a message on its way: its length, its bytes while there is a draft, and its form
pub record HoldsDraft (refuses : Bool) (draft : Option Claim) (size : ℕ) (form : Option MessageForm) (message : List ℕ)
    : Type 0 where
  pub long : size ≡ counted (length message)
  pub bytes : IfSome draft (λ claim. claim.bytes ≡ message)
  pub formed : IsKnownForm refuses form message

-- bytes that fill that many whole rooms
abbrev pub FillRooms : List ℕ → Type 0
FillRooms bytes = (rooms : ℕ) × (length bytes ≡ rooms * DATA_BUFFER_SIZE)

-- What is kept of a message on its way, of which these bytes wait: its length; while there is a draft its other bytes,
-- which came into it as whole rooms; whether there is a draft or not, the form of these, and once there were any, its
-- Message-ID.
pub record IsComing (refuses : Bool) (draft : Option Claim) (waiting : List ℕ) (size : ℕ) (id : Option (List ℕ))
    (form : Option MessageForm) (message : List ℕ) : Type 0 where
  pub long : size ≡ counted (length message)
  pub before : List ℕ
  pub whole : before ++ waiting ≡ message
  pub rooms : FillRooms before
  pub bytes : IfSome draft (λ claim. claim.bytes ≡ before)
  pub named : 0 < length before → id ≡ message_id_of before
  pub formed : IsKnownForm refuses form before

-- these bytes were put into the draft, or there is none any more
abbrev pub PutsOn : Option Claim → Option Claim → List ℕ → Type 0
PutsOn (Some old) (Some new) bytes = new.bytes ≡ old.bytes ++ bytes
PutsOn None (Some new) bytes = ⊥
PutsOn (Some old) None bytes = ⊤
PutsOn None None bytes = ⊤

-- the verdict where there is no draft any more, and where there is one
abbrev pub verdict_with : Option Claim → Verdict
verdict_with None = NoRoom
verdict_with (Some claim) = Whole

-- the verdict under a limit on a message of that number, of that length, which is malformed or not
abbrev pub verdict_on : ℕ → ℕ → ℕ → Bool → Option Claim → Verdict
verdict_on limit accepted size malformed draft =
    if nat_lt NUMBER_LIMIT accepted then NoRoom
    else if nat_lt limit size then TooLarge
    else if malformed then Malformed
    else verdict_with draft

-- the outcomes that a gatherer has
abbrev pub outcomes_in : List (Option Outcome) → List Outcome
outcomes_in [] = []
outcomes_in (Some outcome ∷ places) = outcome ∷ outcomes_in places
outcomes_in (None ∷ places) = outcomes_in places

abbrev pub told_by : Gather → List Outcome
told_by gather = outcomes_in gather.places

-- A whole message went to its recipients, who aren't too many: its copies are owed too, and its outcomes are those of
-- slips heard since. It is one more exchange.
pub record IsDelivered (t : Transaction) (told : List Outcome) (notes : List Note) (past : Episode) (did : List Deed)
    (old new : LaneEnds) : Type 0 where
  pub few : length t.session.recipients ≤ RECIPIENT_LIMIT
  pub now : Episode
  pub is : IsEpisode (txn_of old.lane t.number) now
  pub exchanged : HasExchangedBy (notes ++ copies_from old.lane t 0 t.session.recipients) (joined past now)
      (did ++ map Gave (copies_from old.lane t 0 t.session.recipients) ++ map Heard now.heard) old new
  pub outcomes : map (λ o. Some o) told ≡ answers (txn_of old.lane t.number) (length t.session.recipients) now.heard

-- so it is, whatever was exchanged before
abbrev pub Delivers : Transaction → List Outcome → LaneEnds → LaneEnds → Type 0
Delivers t told now next = (notes : List Note) (past : Episode) (did : List Deed) (old : LaneEnds)
    → HasExchangedBy notes past did old now → IsDelivered t told notes past did old next
