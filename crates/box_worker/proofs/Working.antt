-- What a worker did with one more copy, in order of time.
use Rattle.std.proofs.Common.{◌≡◌, ◌||◌, ℕ, ◌+◌, List, [], ◌∷◌, ◌++◌, length, Bool, true, false, Option, IsSome, refl, ap, sym, ◌∙◌, subst, arith}
use Rattle.std.proofs.lemmas.Bool.{eq-eqb, ne_eqb}
use Rattle.std.proofs.lemmas.List.{map-append}
use Rattle.mail_world.specs.declared.Note.{Note}
use Rattle.mail_world.specs.declared.Slip.{Slip}
use Rattle.mail_world.specs.declared.Outcome.{Outcome}
use Rattle.mail_world.specs.Counts.{counted}
use Rattle.mail_world.specs.Records.{record_of}
use Rattle.mail_world.specs.Slips.{slip_of}
use Rattle.mail_runs.specs.Courses.{outcomes_in}
use Rattle.mail_runs.specs.Deeds.{Deed, Took, Told, turns_of}
use Rattle.mail_runs.specs.Timed.{TimedDeed, whats}
use Rattle.mbox_spool.specs.Spool.{SpoolState}
use Rattle.mail_post.specs.Channel.{Sender, Inbox, taken, IsTimed, HasSameTimes}
use Rattle.mail_post.specs.InTime.{Ends, clock_of, AreInTime}
use Rattle.mail_post.specs.Offered.{IsPart, HaveNumber, IsOffered, any_gone}
use Rattle.mail_post.proofs.InTime.{deed, none_done, gave_more, gone_keeps_time, took_more, took_none}
use Rattle.mail_post.proofs.Offered.{part_more, part_both, gone_now, gone_as_before}
use Rattle.box_worker.specs.declared.limit.Limit.{Limit}
use Rattle.box_worker.specs.declared.turn.TurnEnd.{TurnEnd}
use Rattle.box_worker.specs.Limits.{Setting, CountsTo}
use Rattle.box_worker.specs.Stored.{mailbox_of, CountedMailbox, CountsOutcome}
use Rattle.box_worker.specs.Told.{slip_by}
use Rattle.box_worker.specs.Turned.{Manner, TurnsCopy}
use Rattle.box_worker.specs.TurnEnds.{outcome_of, with_ends}
use Rattle.box_worker.specs.TurnTimes.{worker_sorts, TakeTurns}
use Rattle.box_worker.specs.Worked.{WorkerState, counted_of, idle, is_lost, HasHandled, worker_ends, IsWorking, HasWorked}
use Rattle.box_worker.proofs.Handling.{as_many, handled_more, counting_none, handled_lost}

turns_more : (worker : ℕ) (copies : List Note) (outcomes : List Outcome) (note : Note) (outcome : Outcome) → length outcomes ≡ length copies
    → turns_of worker (copies ++ note ∷ []) (outcomes ++ outcome ∷ []) ≡ (turns_of worker copies outcomes ++ Took note ∷ [])
    ++ Told (slip_of worker note outcome) ∷ []
turns_more worker [] [] note outcome e = refl
turns_more worker [] (o ∷ os) note outcome e = absurd (omega arith)
turns_more worker (n ∷ ns) [] note outcome e = absurd (omega arith)
turns_more worker (n ∷ ns) (o ∷ os) note outcome e = ap (λ l. Took n ∷ Told (slip_of worker n o) ∷ l) (turns_more worker ns os note outcome (omega arith))

whats_more : (deeds : List TimedDeed) (what : Deed) (t : ℕ) → whats (deeds ++ deed what t ∷ []) ≡ whats deeds ++ what ∷ []
whats_more deeds what t = map-append (λ (d : TimedDeed). d.what) deeds (deed what t ∷ [])

-- nothing was taken
turns_none : (worker : ℕ) (ends : Ends Slip Note) → TakeTurns worker [] [] ends ends
turns_none worker ends = record { deeds = []; in_time = none_done worker_sorts ends; all = λ sound. refl; some = tt }

module _ (worker : ℕ) (copies : List Note) (outcomes : List Outcome) (note : Note) (outcome : Outcome) (before : Ends Slip Note)
    (slips next : List (Sender Slip)) (was now : Inbox Note)
    (long : length outcomes ≡ length copies) (x : TakeTurns worker copies outcomes before (record { senders = slips; inbox = was }))
    (took : IsTimed (clock_of slips was) was now) where
  abbrev copy : TimedDeed
  copy = deed (Took note) took.taken_at

  taken_first : AreInTime worker_sorts (x.deeds ++ copy ∷ []) before (record { senders = slips; inbox = now })
  taken_first = took_more worker_sorts x.deeds before (record { senders = slips; inbox = was }) now took.taken_at (Took note) x.in_time took.took_more
      took.moment refl (λ at. refl)

  -- a copy was taken, and its lane told of it after that; a slip that was handed back has no time
  pub turn_more : (accepted : Bool) (o : IsOffered (clock_of slips now) note.txn.lane (slip_by note.txn note.place outcome) accepted slips next)
      → o.sender.number ≡ worker
      → TakeTurns worker (copies ++ note ∷ []) (outcomes ++ outcome ∷ []) before (record { senders = next; inbox = now })
  turn_more true o mine =
      let slip : Slip = slip_by note.txn note.place outcome o.sender in
      let slip_is : slip ≡ slip_of worker note outcome =
      ap (λ (w : ℕ). let s : Slip = record { txn = note.txn; place = note.place; worker = w; outcome = outcome } in s) mine in
      let deeds : List TimedDeed = (x.deeds ++ copy ∷ []) ++ deed (Told slip) o.when ∷ [] in
      let told = gave_more worker_sorts (x.deeds ++ copy ∷ []) before (record { senders = slips; inbox = now }) note.txn.lane o.when o.sender slip (Told slip)
      taken_first o.is o.later
      (eq-eqb note.txn.lane note.txn.lane refl) (λ c away. ne_eqb note.txn.lane c (λ e. away (sym e))) refl in
      let whats_are : whats deeds ≡ (whats x.deeds ++ Took note ∷ []) ++ Told slip ∷ [] =
      whats_more (x.deeds ++ copy ∷ []) (Told slip) o.when ∙ ap (λ l. l ++ Told slip ∷ []) (whats_more x.deeds (Took note) took.taken_at) in
      let turns_are : (turns_of worker copies outcomes ++ Took note ∷ []) ++ Told slip ∷ [] ≡ turns_of worker (copies ++ note ∷ []) (outcomes ++ outcome ∷ []) =
      ap (λ (s : Slip). (turns_of worker copies outcomes ++ Took note ∷ []) ++ Told s ∷ []) slip_is
      ∙ sym (turns_more worker copies outcomes note outcome long) in
      let parts = part_both (whats x.deeds ++ Took note ∷ []) (turns_of worker copies outcomes ++ Took note ∷ []) (Told slip)
      (part_both (whats x.deeds) (turns_of worker copies outcomes) (Took note) x.some) in
      record {
        deeds = deeds;
        in_time = subst (λ (l : List (Sender Slip)). AreInTime worker_sorts deeds before (record { senders = l; inbox = now })) (sym o.after) told;
        all = λ sound. whats_are
            ∙ ap (λ l. (l ++ Took note ∷ []) ++ Told slip ∷ [])
            (x.all (sym (gone_as_before (clock_of slips now) note.txn.lane (slip_by note.txn note.place outcome) slips next o) ∙ sound))
            ∙ turns_are;
        some = subst (λ (y : List Deed × List Deed). IsPart y.0 y.1) (λ i. (sym whats_are i, turns_are i)) parts;
      }
  turn_more false o mine =
      let slip : Slip = slip_by note.txn note.place outcome o.sender in
      let slip_is : slip ≡ slip_of worker note outcome =
      ap (λ (w : ℕ). let s : Slip = record { txn = note.txn; place = note.place; worker = w; outcome = outcome } in s) mine in
      let deeds : List TimedDeed = x.deeds ++ copy ∷ [] in
      let back = gone_keeps_time worker_sorts deeds before (record { senders = slips; inbox = now }) note.txn.lane o.when o.sender slip taken_first o.is in
      let slip_gone = gone_now (clock_of slips now) note.txn.lane (slip_by note.txn note.place outcome) slips next o in
      let whats_are : whats deeds ≡ whats x.deeds ++ Took note ∷ [] = whats_more x.deeds (Took note) took.taken_at in
      let turns_are : (turns_of worker copies outcomes ++ Took note ∷ []) ++ Told slip ∷ [] ≡ turns_of worker (copies ++ note ∷ []) (outcomes ++ outcome ∷ []) =
      ap (λ (s : Slip). (turns_of worker copies outcomes ++ Took note ∷ []) ++ Told s ∷ []) slip_is
      ∙ sym (turns_more worker copies outcomes note outcome long) in
      let parts = part_more (whats x.deeds ++ Took note ∷ []) (turns_of worker copies outcomes ++ Took note ∷ []) (Told slip)
      (part_both (whats x.deeds) (turns_of worker copies outcomes) (Took note) x.some) in
      record {
        deeds = deeds;
        in_time = subst (λ (l : List (Sender Slip)). AreInTime worker_sorts deeds before (record { senders = l; inbox = now })) (sym o.after) back;
        all = λ sound. let bad : true ≡ false = sym slip_gone ∙ sound in cc;
        some = subst (λ (y : List Deed × List Deed). IsPart y.0 y.1) (λ i. (sym whats_are i, turns_are i)) parts;
      }

-- the same where no more was taken, though the channel may have ended
turns_end : (worker : ℕ) (copies : List Note) (outcomes : List Outcome) (before : Ends Slip Note) (slips : List (Sender Slip)) (was now : Inbox Note)
    → HasSameTimes was now → TakeTurns worker copies outcomes before (record { senders = slips; inbox = was })
    → TakeTurns worker copies outcomes before (record { senders = slips; inbox = now })
turns_end worker copies outcomes before slips was now same x = record {
  deeds = x.deeds;
  in_time = took_none worker_sorts x.deeds before (record { senders = slips; inbox = was }) now x.in_time same.1;
  all = x.all;
  some = x.some;
}

-- one more copy
pub working_more : (at : Setting) (manner : Manner) (copies : List Note) (before was inbox : Inbox Note) (old now : WorkerState) (limit : Option Limit)
    (next : List (Sender Slip)) (note : Note) (accepted : Bool)
    → IsWorking at manner copies before was old now limit → IsTimed (clock_of now.slips was) was inbox → (end : TurnEnd) (after : CountedMailbox) (told : Option (List TurnEnd))
    → CountsOutcome (outcome_of end) now.mailbox after.mailbox
    → TurnsCopy manner (record_of at.calendar at.site note) end (counted_of now limit) after
    → told ≡ with_ends now.told (end ∷ [])
    → IsOffered (clock_of now.slips inbox) note.txn.lane (slip_by note.txn note.place (outcome_of end)) accepted now.slips next
    → IsWorking at manner (copies ++ note ∷ []) before inbox old (record {
      slips = next;
      mailbox = after.mailbox;
      in_use = after.in_use;
      taken = counted (now.taken + 1);
      lost = any_gone next;
      told = told;
    }) after.limit
working_more at manner copies before was inbox old now limit next note accepted x timed end after told tallied turns tells offered =
    let h = x.counting.handled in
    let outcome : Outcome = outcome_of end in
    let y = handled_more at manner copies old now limit next note accepted x.counting (clock_of now.slips inbox) end after told tallied turns tells offered in
    record {
      counting = y.0;
      turns = subst (λ os. TakeTurns at.worker (copies ++ note ∷ []) os (worker_ends old before) (record { senders = next; inbox = inbox })) (sym y.1)
          (turn_more at.worker copies (outcomes_in h.turns) note outcome (worker_ends old before) now.slips next was inbox
          (as_many at copies h.turns h.each.are) x.turns timed accepted offered (h.numbered note.txn.lane offered.sender offered.is));
    }

-- a worker that took nothing
pub working_none : (at : Setting) (manner : Manner) (slips : List (Sender Slip)) (inbox : Inbox Note) (old : SpoolState) (new : CountedMailbox)
    (told : Option (List TurnEnd)) → HaveNumber at.worker slips → new.mailbox ≡ mailbox_of old 0 0 false → new.in_use ≡ 0 → CountsTo at.quota 0 new.limit
    → IsWorking at manner [] inbox inbox (idle slips old told)
    (record { slips = slips; mailbox = new.mailbox; in_use = new.in_use; taken = 0; lost = any_gone slips; told = told }) new.limit
working_none at manner slips inbox old new told mine left none begins =
    let y = counting_none at manner slips old new told mine left none begins in
    let ends : Ends Slip Note = record { senders = slips; inbox = inbox } in
    record { counting = y.0; turns = subst (λ os. TakeTurns at.worker [] os ends ends) (sym y.1) (turns_none at.worker ends) }

-- a worker whose channel has ended
pub worked : (at : Setting) (manner : Manner) (before was after : Inbox Note) (old now : WorkerState) (limit : Option Limit)
    → IsWorking at manner (taken was) before was old now limit
    → after.channel ≡ before.channel → after.lanes ≡ before.lanes → after.capacity ≡ before.capacity
    → taken after ≡ taken was → HasSameTimes was after → IsSome after.gone
    → (lost : Bool) → lost ≡ (any_gone now.slips || is_lost after.gone) → HasWorked at manner before after old (record now { lost = lost })
worked at manner before was after old now limit x channel lanes capacity took same over lost found =
    let new : WorkerState = record now { lost = lost } in
    let P : List Note → Type 0 = λ copies. (h : HasHandled at manner copies old new)
    × TakeTurns at.worker copies (outcomes_in h.turns) (worker_ends old before) (worker_ends new after) in
    let h : HasHandled at manner (taken was) old new = handled_lost at manner (taken was) old now lost x.counting.handled in
    let all = subst P (sym took) (h, turns_end at.worker (taken was) (outcomes_in h.turns) (worker_ends old before) now.slips was after same x.turns) in
    record { channel = channel; lanes = lanes; capacity = capacity; ended = over; lost = found; handled = all.0; turns = all.1 }
