-- What a lane gave to the worker threads' channels, and what it heard of the copies.
use Rattle.std.specs.Prelude.{◌≡◌, ◌⊎◌, ℕ, ◌==◌, Bool, true, false, ◌||◌, List, [], ◌∷◌, ◌++◌}
use Rattle.std.specs.Prelude.{filter, map, flat_map, length, None, is_some, Result, Ok, Err}
use Rattle.std.specs.List.{AllByRecursion}
use Rattle.mail_world.specs.declared.Txn.{Txn}
use Rattle.mail_world.specs.declared.Note.{Note}
use Rattle.mail_world.specs.declared.Slip.{Slip}
use Rattle.mail_world.specs.declared.Verdict.TheVariants.{Whole}
use Rattle.mail_world.specs.Session.{Session}
use Rattle.mail_world.specs.Lists.{Transaction, copies_from}
use Rattle.mail_world.specs.Slips.{times_named, Gather, own_slip, txn_of, IsMerged}
use Rattle.mail_runs.specs.Deeds.{Deed, Gave, Heard, given_in, heard_in}
use Rattle.mail_runs.specs.Known.{is_heard, is_of_lanes}
use Rattle.mail_runs.specs.Timed.{TimedDeed, whats}
use Rattle.mail_post.specs.Channel.{Sender, Inbox, taken}
use Rattle.mail_post.specs.InTime.{Ends, Sorts, AreInTime}
use Rattle.mail_post.specs.Gathering.{HasGathered}
use Rattle.mail_post.specs.Offered.{any_gone, HaveSent}
use Rattle.mail_post.specs.WorkerThreads.{worker_thread}
use Rattle.lmtp_lane.specs.declared.exchange.Exchange.{Exchange}

-- a lane's ends of the channels
pub record LaneEnds : Type 0 where
  pub lane : ℕ
  pub senders : List (Sender Note)
  pub inbox : Inbox Slip
  pub gone : Bool  -- a channel was found gone

-- the ends as those of a thread, and which of its deeds are of its senders and of its receiver
abbrev pub thread_of : LaneEnds → Ends Note Slip
thread_of ends = record { senders = ends.senders; inbox = ends.inbox }

-- the deed gives to that worker thread's channel
abbrev pub gives_to_thread : ℕ → Deed → Bool
gives_to_thread t (Gave note) = worker_thread note.mailbox == t
gives_to_thread t _ = false

abbrev pub lane_sorts : Sorts
lane_sorts = record { gives = gives_to_thread; takes = is_heard }

-- What a lane did, in its order and with times that rise: it gave these copies to their channels, and heard these
-- slips.
pub record HasDone (accepted : List Note) (came : List Slip) (old new : LaneEnds) : Type 0 where
  pub deeds : List TimedDeed
  pub gave : flat_map given_in (whats deeds) ≡ accepted
  pub heard : flat_map heard_in (whats deeds) ≡ came
  pub only : AllByRecursion (λ deed. is_of_lanes deed ≡ true) (whats deeds)
  pub in_time : AreInTime lane_sorts deeds (thread_of old) (thread_of new)

-- a lane while it sends a message
pub record Sending : Type 0 where
  pub ends : LaneEnds
  pub gather : Gather

abbrev pub ends_of : {N : Type 0} → Exchange N → LaneEnds
ends_of x = record { lane = x.lane; senders = x.senders.items; inbox = x.slips; gone = x.gone }

abbrev pub sending_of : {N : Type 0} → Exchange N → Sending
sending_of x = record { ends = ends_of x; gather = x.gather.gather }

-- the ends with a channel found gone
abbrev pub found_gone : LaneEnds → LaneEnds
found_gone ends = record { lane = ends.lane; senders = ends.senders; inbox = ends.inbox; gone = true }

-- nothing more comes on the channel of slips
abbrev pub slips_gone : LaneEnds → Bool
slips_gone ends = is_some ends.inbox.gone

-- a channel is gone: a worker thread's handed a copy back, or the channel of slips is gone
abbrev pub is_gone : LaneEnds → Bool
is_gone ends = any_gone ends.senders || slips_gone ends

-- as many senders, and as many places for outcomes
pub record KeepsRoom (old new : Sending) : Type 0 where
  pub lane : new.ends.lane ≡ old.ends.lane
  pub senders : length new.ends.senders ≡ length old.ends.senders
  pub places : length new.gather.places ≡ length old.gather.places

-- a whole message, before its outcomes are known
abbrev pub sent_as : ℕ → Session → ℕ → List ℕ → Transaction
sent_as number session moment message = record {
  number = number;
  session = session;
  message = message;
  disposition = record { verdict = Whole; moment = moment; outcomes = [] };
}

-- a transaction's copy for the recipient at a place
abbrev pub copy_at : ℕ → Transaction → ℕ → ℕ → Note
copy_at lane t place box = record {
  txn = txn_of lane t.number;
  place = place;
  mailbox = box;
  sender = t.session.sender;
  client = t.session.client;
  utf8 = t.session.utf8;
  moment = t.disposition.moment;
  message = t.message;
}

-- the copy is one of these
abbrev pub IsAmong : Note → List Note → Type 0
IsAmong note [] = ⊥
IsAmong note (x ∷ xs) = (note ≡ x) ⊎ IsAmong note xs

-- the copies for the mailboxes of a worker thread
abbrev pub for_thread : ℕ → List Note → List Note
for_thread t notes = filter (λ note. worker_thread note.mailbox == t) notes

-- the slip that a lane makes itself of a copy
abbrev pub own_slip_of : ℕ → Note → Slip
own_slip_of lane note = own_slip lane note.txn.number note.place note.mailbox

-- a slip that a lane made itself: of one of the copies that are left, or, once the channel of slips is gone, of any
pub record IsOwnSlip (lane : ℕ) (notes left : List Note) (lost : Bool) (slip : Slip) : Type 0 where
  pub note : Note
  pub owed : IsAmong note left ⊎ (IsAmong note notes × (lost ≡ true))
  pub made : slip ≡ own_slip_of lane note

-- whether a channel took what was offered
abbrev pub is_ok : {A E : Type 0} → Result A E → Bool
is_ok (Ok x) = true
is_ok (Err e) = false

-- what a lane heard in a stretch of time, and of it what its channel gave and its own slips
pub record Episode : Type 0 where
  pub came : List Slip
  pub own : List Slip
  pub heard : List Slip

-- two, one after the other
abbrev pub joined : Episode → Episode → Episode
joined a b = record { came = a.came ++ b.came; own = a.own ++ b.own; heard = a.heard ++ b.heard }

-- What a lane that owed these copies gave to the channels: a prefix of them, and once a channel handed one back no
-- more. And what it heard: slips that its channel gave, in their order, and between them its own, each of a copy that
-- was left, or of one whose slip can't come any more. It says that a channel is gone just where one is, unless the
-- channel of slips was gone from the first.
pub record HasExchanged (notes : List Note) (e : Episode) (old new : LaneEnds) : Type 0 where
  pub lane : new.lane ≡ old.lane
  pub accepted : List Note
  pub left : List Note
  pub first : notes ≡ accepted ++ left
  pub offered : HaveSent (λ t. for_thread t accepted) old.senders new.senders
  pub all : any_gone new.senders ≡ false → left ≡ []
  pub whole : new.gone ≡ false → any_gone new.senders ≡ false
  pub tells : old.inbox.gone ≡ None → new.gone ≡ is_gone new
  pub channel : new.inbox.channel ≡ old.inbox.channel
  pub lanes : new.inbox.lanes ≡ old.inbox.lanes
  pub took : taken new.inbox ≡ taken old.inbox ++ e.came
  pub merged : IsMerged e.came e.own e.heard
  pub made : AllByRecursion (IsOwnSlip old.lane notes left (slips_gone new)) e.own
  pub sound : new.gone ≡ false → e.own ≡ []
  pub done : HasDone accepted e.came old new

-- that much was exchanged, and where no channel was found gone the lane did these deeds, in this order
pub record HasExchangedBy (notes : List Note) (e : Episode) (did : List Deed) (old new : LaneEnds) : Type 0 where
  pub exchanged : HasExchanged notes e old new
  pub in_order : new.gone ≡ false → whats exchanged.done.deeds ≡ did

-- What was heard is merged of what came and of a lane's own slips, and one of its own stands only where none of these
-- before it names its place.
abbrev pub IsTimely : List Slip → List Slip → List Slip → List Slip → Type 0
IsTimely before came own [] = (came ≡ []) × (own ≡ [])
IsTimely before came own (slip ∷ heard) =
    ((rest : List Slip) × (came ≡ slip ∷ rest) × IsTimely (before ++ slip ∷ []) rest own heard)
    ⊎ ((rest : List Slip) × (own ≡ slip ∷ rest) × (times_named slip.txn slip.place before ≡ 0)
    × IsTimely (before ++ slip ∷ []) came rest heard)

-- an episode of that transaction: the lane's own slips are of it, each for a place that had no slip
pub record IsEpisode (txn : Txn) (e : Episode) : Type 0 where
  pub timely : IsTimely [] e.came e.own e.heard
  pub named : AllByRecursion (λ slip. slip.txn ≡ txn) e.own

-- Within a message of n recipients, before which this was heard: its gatherer has the answers of the slips heard since.
-- Where no channel was found gone, what was done is these deeds, the last of them the message's copies, and then that
-- these slips were heard.
pub record IsUnderWay (notes : List Note) (gave : List Deed) (txn : Txn) (n : ℕ) (past : Episode) (old : LaneEnds)
    (new : Sending) : Type 0 where
  pub now : Episode
  pub is : IsEpisode txn now
  pub exchanged : HasExchangedBy notes (joined past now) (gave ++ map Heard now.heard) old new.ends
  pub gathered : HasGathered txn n now.heard new.gather

-- the same while copies are still offered: where no channel was found gone, no slip was heard since
pub record IsOffering (notes : List Note) (gave : List Deed) (txn : Txn) (n : ℕ) (past : Episode) (old : LaneEnds)
    (new : Sending) : Type 0 where
  pub way : IsUnderWay notes gave txn n past old new
  pub none_heard : new.ends.gone ≡ false → way.now.heard ≡ []

-- a gatherer that was given a slip for a place that had none, or for one that keeps what it has
abbrev pub GathersOne : Slip → Gather → Gather → Bool → Type 0
GathersOne slip old new true = (txn : Txn) (n : ℕ) (heard : List Slip) → HasGathered txn n heard old
    → (times_named slip.txn slip.place heard ≡ 0) × HasGathered txn n (heard ++ slip ∷ []) new
GathersOne slip old new false = new ≡ old

-- what was offered is so with these further copies
abbrev pub Continues : Txn → List Note → Sending → Sending → Type 0
Continues txn more now next = (notes : List Note) (gave : List Deed) (n : ℕ) (past : Episode) (old : LaneEnds)
    → IsOffering notes gave txn n past old now → IsOffering (notes ++ more) (gave ++ map Gave more) txn n past old next

-- what was under way with the copies of the transaction of that number is so, whatever was heard since
abbrev pub Awaits : ℕ → Session → Sending → Sending → Type 0
Awaits number session now next =
    (moment : ℕ) (message : List ℕ) (notes : List Note) (gave : List Deed) (n : ℕ) (past : Episode) (old : LaneEnds)
    → IsUnderWay (notes ++ copies_from now.ends.lane (sent_as number session moment message) 0 session.recipients) gave
    (txn_of now.ends.lane number) n past old now
    → IsUnderWay (notes ++ copies_from now.ends.lane (sent_as number session moment message) 0 session.recipients) gave
    (txn_of now.ends.lane number) n past old next

-- a message that was sent, from its first offer to its last answer
abbrev pub Sends : Transaction → LaneEnds → Sending → Type 0
Sends t now next = (notes : List Note) (did : List Deed) (past : Episode) (old : LaneEnds)
    → HasExchangedBy notes past did old now
    → IsUnderWay (notes ++ copies_from now.lane t 0 t.session.recipients)
    (did ++ map Gave (copies_from now.lane t 0 t.session.recipients)) (txn_of now.lane t.number)
    (length t.session.recipients) past old next
