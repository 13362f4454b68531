-- Each slip that a thread gave is of one of its mailboxes, whose numbers stay.
use Rattle.std.proofs.Common.{◌≡◌, ℕ, List, [], ◌∷◌, ◌++◌, Bool, true, false, Some, ⊎_elim, inl, inr, ap, sym, ◌∙◌, subst}
use Rattle.std.specs.Prelude.{slice_get, slice_set}
use Rattle.std.specs.List.{AllByRecursion}
use Rattle.mail_world.proofs.Accepted.{get_set}
use Rattle.mail_world.specs.declared.Note.{Note}
use Rattle.mail_world.specs.declared.Slip.{Slip}
use Rattle.mail_world.specs.Site.{Site}
use Rattle.mail_world.specs.Slips.{slip_of}
use Rattle.mail_post.specs.Channel.{Sender, Inbox}
use Rattle.mail_post.specs.Offered.{given}
use Rattle.box_worker.specs.Turned.{Manner}
use Rattle.box_worker.specs.TurnEnds.{outcome_of}
use Rattle.box_worker.specs.Shares.{KeptState, numbers_of, AreFresh, IsAt, IsNone, IsHandled, IsHandledOrNot, GaveForItsOwn}
use Rattle.box_worker.proofs.Shares.{get_map, from_map, map_set, set_same}

abbrev number : KeptState → ℕ
number kept = kept.number

-- where these are the numbers a mailbox of each is at the same place
at_still : (boxes after : List KeptState) → numbers_of after ≡ numbers_of boxes → (n i : ℕ) → IsAt boxes n i → IsAt after n i
at_still boxes after same n i at =
    let was : slice_get (numbers_of boxes) i ≡ Some n = get_map number boxes i at.0 at.1 ∙ ap (λ (m : ℕ). Some m) at.2 in
    from_map number after i n (ap (λ (l : List ℕ). slice_get l i) same ∙ was)

-- the slip is of one of these mailboxes
abbrev IsOwn : List KeptState → Slip → Type 0
IsOwn boxes slip = (i : ℕ) × IsAt boxes slip.worker i

own_still : (boxes after : List KeptState) → numbers_of after ≡ numbers_of boxes → (slips : List Slip) → AllByRecursion (IsOwn boxes) slips
    → AllByRecursion (IsOwn after) slips
own_still boxes after same [] all = tt
own_still boxes after same (slip ∷ slips) all =
    ((all.0.0, at_still boxes after same slip.worker all.0.0 all.0.1), own_still boxes after same slips all.1)

one_more : (boxes : List KeptState) (slips : List Slip) (slip : Slip) → AllByRecursion (IsOwn boxes) slips → IsOwn boxes slip
    → AllByRecursion (IsOwn boxes) (slips ++ slip ∷ [])
one_more boxes [] slip all own = (own, tt)
one_more boxes (x ∷ slips) slip all own = (all.0, one_more boxes slips slip all.1 own)

given_own : (boxes : List KeptState) (sender : Sender Slip) (slip : Slip) (t : ℕ) (accepted : Bool) → AllByRecursion (IsOwn boxes) sender.sent → IsOwn boxes slip
    → AllByRecursion (IsOwn boxes) (given sender slip t accepted).sent
given_own boxes sender slip t true all own = one_more boxes sender.sent slip all own
given_own boxes sender slip t false all own = all

-- before the first copy
pub none_given : (senders : List (Sender Slip)) (inbox : Inbox Note) (boxes : List KeptState) → AreFresh senders inbox → GaveForItsOwn boxes senders
none_given senders inbox boxes fresh k sender is = subst (AllByRecursion (IsOwn boxes)) (sym (fresh.sent k sender is).0) tt

-- and after one copy more
module _ (site : Site) (manner : Manner) (note : Note) (inbox : Inbox Note) (senders next : List (Sender Slip)) (boxes after : List KeptState) where
  numbers_kept : IsHandled site manner note inbox senders next boxes after → numbers_of after ≡ numbers_of boxes
  numbers_kept y =
      ap numbers_of y.others ∙ map_set number boxes y.at y.next ∙ ap (slice_set (numbers_of boxes) y.at) y.handles.number
      ∙ set_same (numbers_of boxes) y.at y.kept.number (get_map number boxes y.at y.kept y.is)

  pub numbers_still : IsHandledOrNot site manner note inbox senders next boxes after → numbers_of after ≡ numbers_of boxes
  numbers_still h = ⊎_elim numbers_kept (λ (y : IsNone boxes note.mailbox × (next ≡ senders) × (after ≡ boxes)). ap numbers_of y.2) h

  own_of : (y : IsHandled site manner note inbox senders next boxes after) → GaveForItsOwn boxes senders
      → (k : ℕ) (sender : Sender Slip) → slice_get next k ≡ Some sender → AllByRecursion (IsOwn boxes) sender.sent
  own_of y only k sender is =
      let o = y.handles.told in
      let slip : Slip = slip_of note.mailbox note (outcome_of y.handles.end) in
      let changed : Sender Slip = given o.sender slip o.when y.handles.accepted in
      elim (get_set senders note.txn.lane k changed sender (ap (λ l. slice_get l k) (sym o.after) ∙ is)) [
        | inl here ↦ subst (λ (s : Sender Slip). AllByRecursion (IsOwn boxes) s.sent) here.1
            (given_own boxes o.sender slip o.when y.handles.accepted (only note.txn.lane o.sender o.is) (y.at, (y.kept, y.is, y.mine)))
        | inr other ↦ only k sender other.1
      ]

  pub still_its_own : GaveForItsOwn boxes senders → IsHandledOrNot site manner note inbox senders next boxes after → GaveForItsOwn after next
  still_its_own only h = ⊎_elim
      (λ (y : IsHandled site manner note inbox senders next boxes after). λ k sender is.
      own_still boxes after (numbers_kept y) sender.sent (own_of y only k sender is))
      (λ (y : IsNone boxes note.mailbox × (next ≡ senders) × (after ≡ boxes)).
      subst (λ (z : List KeptState × List (Sender Slip)). GaveForItsOwn z.0 z.1) (λ i. (sym y.2 i, sym y.1 i)) only)
      h
