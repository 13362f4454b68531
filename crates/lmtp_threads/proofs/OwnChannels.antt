-- What a thread's channel is to each of its mailboxes, whether or not copies wait beside it.
use Rattle.std.proofs.Common.{◌≡◌, ℕ, zero, suc, ◌+◌, ◌<◌, Bool, List, [], ◌∷◌, length, drop, refl, ap, sym, ◌∙◌, subst, arith, append-nil, Some}
use Rattle.std.specs.Prelude.{slice_get}
use Rattle.mail_world.specs.declared.Note.{Note}
use Rattle.mail_world.specs.declared.Slip.{Slip}
use Rattle.mail_world.specs.Site.{Site}
use Rattle.mail_runs.specs.Timed.{RisesTo}
use Rattle.mail_runs.specs.Ordered.{AreBefore, MakesRoom}
use Rattle.mail_post.specs.Channel.{Sender, Inbox, taken, HasPassedThrough}
use Rattle.mail_post.specs.InTime.{Ends}
use Rattle.mail_post.specs.Parcels.{of}
use Rattle.box_worker.specs.Limits.{Setting, setting_by}
use Rattle.box_worker.specs.Turned.{Manner}
use Rattle.box_worker.specs.PutOff.{IsShare, roomier, HaveWorkedPatiently}
use Rattle.box_worker.specs.Worked.{WorkerState, idle, HasWorked}
use Rattle.box_worker.specs.Shares.{for_box, inbox_for, senders_for, Start, KeptState, worker_lost, HaveWorked}
use Rattle.box_worker.proofs.Passing.{passes_for_each}
use Rattle.box_worker.proofs.PutOff.{passes_for_patient}
use Rattle.box_worker.proofs.Shares.{messages_copies}
use Rattle.lmtp_threads.specs.OwnChannel.{IsOwnChannel}

-- Of what rises, what was accepted next was accepted later still.
before_next : (lo hi a : ℕ) (accepted took : List ℕ) → RisesTo lo hi (a ∷ accepted) → AreBefore took (a ∷ accepted) → AreBefore took accepted
before_next lo hi a [] took rises before = tt
before_next lo hi a (b ∷ accepted) [] rises before = absurd before
before_next lo hi a (b ∷ accepted) (t ∷ took) rises before =
    let x : t < a = before.0 in
    let y : a < b = rises.1.0 in
    (omega arith, before_next a hi b accepted took rises.1 before.1)

room_for_one : (capacity lo hi : ℕ) (accepted took : List ℕ) → RisesTo lo hi accepted → MakesRoom capacity accepted took → MakesRoom (suc capacity) accepted took
room_for_one capacity lo hi [] took rises room = tt
room_for_one zero lo hi (a ∷ accepted) took rises room = before_next lo hi a accepted took rises room
room_for_one (suc n) lo hi (a ∷ accepted) took rises room = room_for_one n a hi accepted took rises.1 room

-- A channel makes room where it has room for more.
pub room_for_more : (more capacity lo hi : ℕ) (accepted took : List ℕ) → RisesTo lo hi accepted → MakesRoom capacity accepted took
    → MakesRoom (capacity + more) accepted took
room_for_more zero capacity lo hi accepted took rises room =
    let n : capacity ≡ capacity + 0 = omega arith in
    subst (λ (c : ℕ). MakesRoom c accepted took) n room
room_for_more (suc more) capacity lo hi accepted took rises room =
    let n : suc capacity + more ≡ capacity + suc more = omega arith in
    subst (λ (c : ℕ). MakesRoom c accepted took) n
    (room_for_more more (suc capacity) lo hi accepted took rises (room_for_one capacity lo hi accepted took rises room))

-- a thread's channel beside which nothing waits, to a mailbox that is told that it has room for that many more
pub own_channel : (room b : ℕ) (inbox : Inbox Note) → IsOwnChannel room b inbox (roomier room (inbox_for b inbox))
own_channel room b inbox = record {
  channel = refl;
  lanes = refl;
  capacity = refl;
  gone = refl;
  took = messages_copies (of for_box b (taken inbox));
  passes = λ sent sent_at long took_long x.
      let p = passes_for_each b inbox sent sent_at long took_long x in
      record {
        accepted = p.accepted;
        accepted_at = p.accepted_at;
        as_many = p.as_many;
        until = p.until;
        rises = p.rises;
        same = p.same;
        same_at = p.same_at;
        waiting = p.waiting;
        waiting_at = p.waiting_at;
        first = p.first;
        first_at = p.first_at;
        takes_rise = p.takes_rise;
        later = p.later;
        all = p.all;
        makes_room = room_for_more room inbox.capacity 0 p.until p.accepted_at (inbox_for b inbox).took_at p.rises p.makes_room;
      };
}

-- and one beside which copies waited, all of which had their turns
pub own_of_patient : (room b : ℕ) (senders : List (Sender Slip)) (inbox share : Inbox Note) → IsShare room b senders inbox [] share
    → IsOwnChannel room b inbox share
own_of_patient room b senders inbox share is = record {
  channel = is.channel;
  lanes = is.lanes;
  capacity = is.capacity;
  gone = is.gone;
  took = sym (is.all ∙ append-nil (taken share));
  passes = λ sent sent_at long took_long x. passes_for_patient room b senders inbox share sent sent_at long took_long x is;
}

-- Who worked over a channel did so over one with room for more.
pub worked_with_room : (room : ℕ) (at : Setting) (manner : Manner) (before after : Inbox Note) (old new : WorkerState)
    → HasWorked at manner before after old new → HasWorked at manner (roomier room before) (roomier room after) old new
worked_with_room room at manner before after old new h =
    let t = h.turns in
    record {
      channel = h.channel;
      lanes = h.lanes;
      capacity = ap (λ n. n + room) h.capacity;
      ended = h.ended;
      lost = h.lost;
      handled = h.handled;
      turns = record {
        deeds = t.deeds;
        in_time = record { rises = t.in_time.rises; as_many = t.in_time.as_many; gave = t.in_time.gave; took = t.in_time.took };
        all = t.all;
        some = t.some;
      };
    }

-- What a thread's mailbox came to over a channel of its own, with room for that many more copies.
abbrev pub HasWorkedAlone : ℕ → Site → Manner → Start → Ends Slip Note → Ends Slip Note → Bool → ℕ → KeptState → Type 0
HasWorkedAlone room site manner start old now lost b kept = (share : Inbox Note) × IsOwnChannel room b now.inbox share
    × HasWorked (setting_by site start.quota b) manner (roomier room (inbox_for b old.inbox)) share
    (idle (senders_for b old.senders) start.spool start.told) (worker_lost (senders_for b now.senders) kept lost)

abbrev pub HaveWorkedAlone : ℕ → Site → Manner → (ℕ → Start) → Ends Slip Note → Ends Slip Note → Bool → List KeptState → Type 0
HaveWorkedAlone room site manner starts old now lost boxes = (i : ℕ) (kept : KeptState) → slice_get boxes i ≡ Some kept
    → HasWorkedAlone room site manner (starts i) old now lost kept.number kept

module _ (room : ℕ) (site : Site) (manner : Manner) (starts : ℕ → Start) (old now : Ends Slip Note) (lost : Bool) (boxes : List KeptState) where
  pub alone_in_order : HaveWorked site manner starts old now lost boxes → HaveWorkedAlone room site manner starts old now lost boxes
  alone_in_order each i kept is =
      let b = kept.number in (
        roomier room (inbox_for b now.inbox),
        own_channel room b now.inbox,
        worked_with_room room (setting_by site (starts i).quota b) manner
            (inbox_for b old.inbox) (inbox_for b now.inbox) (idle (senders_for b old.senders) (starts i).spool (starts i).told)
            (worker_lost (senders_for b now.senders) kept lost) (each i kept is),
      )

  pub alone_patiently : HaveWorkedPatiently room site manner starts old now lost boxes → HaveWorkedAlone room site manner starts old now lost boxes
  alone_patiently each i kept is =
      let x = each i kept is in
      (x.share, own_of_patient room kept.number now.senders now.inbox x.share x.is, x.worked)
