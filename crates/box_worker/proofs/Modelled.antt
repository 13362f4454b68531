-- What a mailbox of a thread that puts copies off came to, as the model's worker of it.
use Rattle.std.proofs.Common.{◌≡◌, ℕ, ◌+◌, ◌<◌, List, [], ◌++◌, length, false, Some, refl, ap, sym, ◌∙◌, subst, arith, append-nil}
use Rattle.std.specs.Prelude.{slice_get}
use Rattle.std.proofs.lemmas.Option.{slice_get_within}
use Rattle.mail_world.specs.declared.Note.{Note}
use Rattle.mail_world.specs.declared.Slip.{Slip}
use Rattle.mail_world.proofs.OtherSteps.{there_is}
use Rattle.mail_runs.specs.Known.{HavePassed, times_of, is_taken}
use Rattle.mail_runs.specs.Ordered.{MakesRoom}
use Rattle.mail_runs.specs.Timed.{times, those, tells_to, RisesTo}
use Rattle.mail_runs.proofs.Known.{later_many}
use Rattle.mail_post.specs.Channel.{Sender, Inbox, taken, HasPassedThrough}
use Rattle.mail_post.specs.InTime.{clock_of}
use Rattle.mail_post.specs.Offered.{any_gone}
use Rattle.mail_post.specs.declared.channel.Gone.TheVariants.{Closed}
use Rattle.mail_post.specs.Parcels.{of}
use Rattle.mail_post.proofs.Offered.{none_gone}
use Rattle.box_worker.specs.Limits.{Setting, setting_by}
use Rattle.box_worker.specs.Turned.{Manner}
use Rattle.box_worker.specs.Worked.{WorkerState, idle, HasWorked}
use Rattle.box_worker.specs.Shares.{for_box, by_box, inbox_for, sender_for, senders_for, Start, KeptState, worker_lost, AreFresh}
use Rattle.box_worker.specs.Passing.{sent_for, sent_at_for}
use Rattle.box_worker.specs.PutOff.{roomier}
use Rattle.box_worker.specs.Modelled.{lane_of, ThreadEnd, MailboxEnd, IsKnownMailbox, EachIsKnownPatiently}
use Rattle.box_worker.proofs.Handling.{none_came_back, was_closed}
use Rattle.box_worker.proofs.Shares.{messages_copies, rises_lower, from_map, get_map}
use Rattle.box_worker.proofs.Passing.{map_or, times_or}
use Rattle.box_worker.proofs.PutOff.{passes_for_patient}

-- all that a closed channel accepted was taken
module _ {M : Type 0} (lane : M → ℕ) (inbox : Inbox M) (sent : List (List M)) (sent_at : List (List ℕ))
    (p : HasPassedThrough lane inbox sent sent_at) (closed : inbox.gone ≡ Some Closed) where
  pub all_taken : taken inbox ≡ p.accepted
  all_taken = sym (p.first ∙ ap (λ l. taken inbox ++ l) (p.all closed).0 ∙ append-nil (taken inbox))

  pub all_taken_at : inbox.got_at ≡ p.accepted_at
  all_taken_at = sym (p.first_at ∙ ap (λ l. inbox.got_at ++ l) (p.all closed).1 ∙ append-nil inbox.got_at)

  pub got_long : length inbox.got_at ≡ length (taken inbox)
  got_long = ap length all_taken_at ∙ p.as_many ∙ sym (ap length all_taken)

  pub took_long : length inbox.took_at ≡ length (taken inbox)
  took_long = sym (later_many inbox.got_at inbox.took_at p.later) ∙ got_long

  pub moments_passed : HavePassed (record { accepted = inbox.got_at; taken = inbox.took_at })
  moments_passed = record {
    until = p.until;
    rises = subst (λ ts. RisesTo 0 p.until ts) (sym all_taken_at) p.rises;
    later = p.later;
  }

-- ---- one mailbox of a thread that has ended, by its receiver
module _ (manner : Manner) (at : Setting) (start : Start) (x : ThreadEnd) (fresh : AreFresh x.old.senders x.old.inbox) (kept : KeptState)
    (before inbox : Inbox Note) (capacity : ℕ) (none_took : before.took_at ≡ [])
    (worked : HasWorked at manner before inbox (idle (senders_for at.worker x.old.senders) start.spool start.told)
    (worker_lost (senders_for at.worker x.now.senders) kept false))
    (pass : HasPassedThrough lane_of inbox (sent_for at.worker x.sent) (sent_at_for at.worker x.sent x.sent_at)) (same : inbox.capacity ≡ capacity) where
  abbrev b : ℕ
  b = at.worker

  abbrev slips : List (Sender Slip)
  slips = senders_for b x.now.senders

  abbrev old : WorkerState
  old = idle (senders_for b x.old.senders) start.spool start.told

  abbrev new : WorkerState
  new = worker_lost slips kept false

  sound : any_gone slips ≡ false
  sound = none_came_back at manner before inbox old new worked refl

  closed : inbox.gone ≡ Some Closed
  closed = was_closed at manner before inbox old new worked refl

  mine : taken inbox ≡ pass.accepted
  mine = all_taken lane_of inbox (sent_for b x.sent) (sent_at_for b x.sent x.sent_at) pass closed

  mine_at : inbox.got_at ≡ pass.accepted_at
  mine_at = all_taken_at lane_of inbox (sent_for b x.sent) (sent_at_for b x.sent x.sent_at) pass closed

  abbrev box : MailboxEnd
  box = record {
    taken = taken inbox;
    turns = worked.handled.turns;
    deeds = worked.turns.deeds;
    copies = record { accepted = inbox.got_at; taken = inbox.took_at };
  }

  -- its sender to a lane, before anything was told
  record First (k : ℕ) : Type 0 where
    sender : Sender Slip
    there : slice_get (senders_for b x.old.senders) k ≡ Some sender
    sent : sender.sent ≡ []
    sent_at : sender.sent_at ≡ []

  first : (k : ℕ) (sender : Sender Slip) → slice_get x.now.senders k ≡ Some sender → First k
  first k sender there =
      let now : slice_get slips k ≡ Some (sender_for b sender) = get_map (sender_for b) x.now.senders k sender there in
      let within : k < length slips = slice_get_within slips k (sender_for b sender) now in
      let many = worked.turns.in_time.as_many in
      let was = there_is (senders_for b x.old.senders) k (omega (arith, many, within)) in
      let from = from_map (sender_for b) x.old.senders k was.0 was.1 in
      let none = fresh.sent k from.0 from.1 in
      record {
        sender = was.0;
        there = was.1;
        sent = ap (λ (s : Sender Slip). s.sent) (sym from.2) ∙ ap (of by_box b) none.0;
        sent_at = ap (λ (s : Sender Slip). s.sent_at) (sym from.2) ∙ (λ j. times_of by_box b (none.0 j) (none.1 j));
      }

  pub is_known : IsKnownMailbox capacity at x box
  is_known = record {
    have = worked.handled.each.are;
    keep = worked.handled.each.keep;
    did = record {
      until = clock_of slips inbox;
      rises = rises_lower 0 (clock_of (senders_for b x.old.senders) before) (clock_of slips inbox) (times worked.turns.deeds) (omega arith)
          worked.turns.in_time.rises;
      turned = worked.turns.all sound;
    };
    passed = moments_passed lane_of inbox (sent_for b x.sent) (sent_at_for b x.sent x.sent_at) pass closed;
    got = λ k. ap (of lane_of k) mine ∙ pass.same k ∙ map_or (of for_box b) x.sent k refl;
    gave = λ k. (λ j. times_of lane_of k (mine j) (mine_at j)) ∙ pass.same_at k ∙ times_or b x.sent x.sent_at k;
    took = worked.turns.in_time.took ∙ ap (λ l. l ++ times (those is_taken worked.turns.deeds)) none_took;
    said = λ k sender there.
        let f = first k sender there in
        let now : slice_get slips k ≡ Some (sender_for b sender) = get_map (sender_for b) x.now.senders k sender there in
        let o = worked.handled.told.each k f.sender (sender_for b sender) f.there now in
        o.sent.sent ∙ ap (λ l. l ++ o.accepted) f.sent ∙ o.all (none_gone slips k (sender_for b sender) sound now);
    told = λ k sender there.
        let f = first k sender there in
        let now : slice_get slips k ≡ Some (sender_for b sender) = get_map (sender_for b) x.now.senders k sender there in
        worked.turns.in_time.gave k f.sender (sender_for b sender) f.there now
        ∙ ap (λ l. l ++ times (those (tells_to k) worked.turns.deeds)) f.sent_at;
    makes_room = subst (λ n. MakesRoom n inbox.got_at inbox.took_at) same
        (subst (λ ts. MakesRoom inbox.capacity ts inbox.took_at) (sym mine_at) pass.makes_room);
  }

none_took_yet : (b : ℕ) (x : ThreadEnd) → AreFresh x.old.senders x.old.inbox → (inbox_for b x.old.inbox).took_at ≡ []
none_took_yet b x fresh = λ j. times_of for_box b (fresh.got j) (fresh.took_at j)

-- where copies may wait beside the channel
pub each_is_known_patiently : (manner : Manner) → EachIsKnownPatiently manner
each_is_known_patiently manner room site starts x h i kept is =
    let b = kept.number in
    let at : Setting = setting_by site (starts i).quota b in
    let p = h.worked i kept is in
    let before = roomier room (inbox_for b x.old.inbox) in
    let new = worker_lost (senders_for b x.now.senders) kept false in
    let old = idle (senders_for b x.old.senders) (starts i).spool (starts i).told in
    let closed : x.now.inbox.gone ≡ Some Closed = sym p.is.gone ∙ was_closed at manner before p.share old new p.worked refl in
    let pass = passes_for_patient room b x.now.senders x.now.inbox p.share x.sent x.sent_at (got_long lane_of x.now.inbox x.sent x.sent_at h.passed closed)
    (took_long lane_of x.now.inbox x.sent x.sent_at h.passed closed) h.passed p.is in (
      box manner at (starts i) x h.fresh kept before p.share (x.now.inbox.capacity + room) (none_took_yet b x h.fresh) p.worked pass p.is.capacity,
      sym (p.is.all ∙ append-nil (taken p.share)) ∙ sym (messages_copies (of for_box b (taken x.now.inbox))),
      is_known manner at (starts i) x h.fresh kept before p.share (x.now.inbox.capacity + room) (none_took_yet b x h.fresh) p.worked pass p.is.capacity,
    )
