-- All mailboxes of a thread, one copy after the other: each goes on as if it had a worker of its own.
use Rattle.std.proofs.Common.{◌≡◌, ◌≢◌, ◌||◌, ℕ, ◌+◌, ◌≤◌, List, [], ◌∷◌, ◌++◌, length, Bool, true, false, Option, Some, IsSome, inl, inr}
use Rattle.std.proofs.Common.{refl, ap, sym, ◌∙◌, subst, ⊎_elim, arith, length-append}
use Rattle.std.specs.Prelude.{slice_get}
use Rattle.mail_world.proofs.Accepted.{get_set}
use Rattle.mail_world.specs.declared.Note.{Note}
use Rattle.mail_world.specs.declared.Slip.{Slip}
use Rattle.mail_world.specs.declared.Outcome.{Outcome}
use Rattle.mail_world.specs.Counts.{counted}
use Rattle.mail_world.specs.Slips.{slip_of}
use Rattle.mail_world.specs.Site.{Site}
use Rattle.mail_post.specs.Channel.{Sender, Inbox, taken, IsTimed, HasSameTimes}
use Rattle.mail_post.specs.InTime.{Ends, clock_of, AreInTime}
use Rattle.mail_post.specs.Offered.{given, IsOffered, HaveNumber, HasAccepted, HaveAccepted, any_gone}
use Rattle.mail_post.specs.WorkerThreads.{worker_thread}
use Rattle.mail_post.proofs.InTime.{gone_keeps_time}
use Rattle.mail_post.proofs.Offered.{gone_now, still_numbered}
use Rattle.box_worker.specs.declared.limit.Limit.{Limit}
use Rattle.box_worker.specs.Limits.{Setting, setting_by}
use Rattle.box_worker.specs.Turned.{Manner}
use Rattle.box_worker.specs.TurnEnds.{outcome_of}
use Rattle.box_worker.specs.Told.{slip_by}
use Rattle.box_worker.specs.TurnTimes.{worker_sorts}
use Rattle.box_worker.specs.Worked.{WorkerState, idle, is_lost, worker_ends, IsWorking}
use Rattle.box_worker.specs.Shares.{inbox_for, senders_for, total_of, telling_of, KeepsTimes, Start, KeptState, worker_at, slot_of, AreInPlace, AreOfThread}
use Rattle.box_worker.specs.Shares.{AreNew, AreWorking, HaveWorked, HandlesCopy, IsNone, IsHandled, IsHandledOrNot, AreFresh}
use Rattle.box_worker.proofs.Shares.{timed_for, taken_for, same_for, taken_still, times_still, IsTold, offered_for, accepted_else, back_else, gone_for}
use Rattle.box_worker.proofs.Shares.{numbered_for, clock_within, none_taken, length_kept}
use Rattle.box_worker.proofs.Working.{working_more, worked}

-- one of the senders had a message handed back, which is owed to nobody here
accepted_back : (owed : List Slip) (m : Slip) (t : ℕ) (old now : Sender Slip) → HasAccepted owed old now → HasAccepted owed old (given now m t false)
accepted_back owed m t old now x = record {
  accepted = x.accepted;
  sent = record { channel = x.sent.channel; number = x.sent.number; sent = x.sent.sent; stays = λ e. refl };
  all = λ sound. let bad : true ≡ false = sound in cc;
  some = x.some;
}

accepted_none_more : (owed : ℕ → List Slip) (moment at : ℕ) (message : Sender Slip → Slip) (old now next : List (Sender Slip)) → HaveAccepted owed old now
    → IsOffered moment at message false now next → HaveAccepted owed old next
accepted_none_more owed moment at message old now next x o =
    let changed : Sender Slip = given o.sender (message o.sender) o.when false in
    record {
      as_many = ap length o.after ∙ length_kept now at changed ∙ x.as_many;
      each = λ k before sender was there. elim (get_set now at k changed sender (ap (λ l. slice_get l k) (sym o.after) ∙ there)) [
        | inl here ↦
            let Q : Sender Slip → Type 0 = λ s. HasAccepted (owed k) before s in
            subst Q here.1 (accepted_back (owed k) (message o.sender) o.when before o.sender
            (x.each k before o.sender was (ap (slice_get now) here.0 ∙ o.is)))
        | inr other ↦ x.each k before sender was other.1
      ];
    }

-- a worker one of whose channels was found gone by another mailbox of its thread
working_gone : (at : Setting) (manner : Manner) (copies : List Note) (before now : Inbox Note) (old state : WorkerState) (limit : Option Limit) (moment lane : ℕ)
    (message : Sender Slip → Slip) (next : List (Sender Slip))
    → IsWorking at manner copies before now old state limit → IsOffered moment lane message false state.slips next
    → IsWorking at manner copies before now old (record state { slips = next; lost = any_gone next }) limit
working_gone at manner copies before now old state limit moment lane message next x o =
    let h = x.counting.handled in
    let gone = gone_now moment lane message state.slips next o in
    record {
      counting = record {
        handled = record {
          turns = h.turns;
          told = accepted_none_more _ moment lane message old.slips state.slips next h.told o;
          numbered = still_numbered at.worker moment lane message false state.slips next h.numbered o;
          taken_count = h.taken_count;
          stored_count = h.stored_count;
          over_count = h.over_count;
          each = h.each;
          observed = h.observed;
        };
        counts = x.counting.counts;
      };
      turns = record {
        deeds = x.turns.deeds;
        in_time = subst (λ (l : List (Sender Slip)). AreInTime worker_sorts x.turns.deeds (worker_ends old before) (record { senders = l; inbox = now })) (sym o.after)
            (gone_keeps_time worker_sorts x.turns.deeds (worker_ends old before) (worker_ends state now) lane o.when o.sender (message o.sender) x.turns.in_time o.is);
        all = λ sound. let bad : true ≡ false = sym gone ∙ sound in cc;
        some = x.turns.some;
      };
    }

-- the same of senders that are otherwise named
working_as : (at : Setting) (manner : Manner) (copies : List Note) (before now : Inbox Note) (old : WorkerState) (slips next : List (Sender Slip)) (kept : KeptState)
    → next ≡ slips → IsWorking at manner copies before now old (worker_at slips kept) kept.mailbox.limit
    → IsWorking at manner copies before now old (worker_at next kept) kept.mailbox.limit
working_as at manner copies before now old slips next kept same x =
    subst (λ (l : List (Sender Slip)). IsWorking at manner copies before now old (worker_at l kept) kept.mailbox.limit) (sym same) x

-- One copy of the thread's channel: its own mailbox handled it, and any other goes on as before.
module _ (site : Site) (manner : Manner) (starts : ℕ → Start) (old : Ends Slip Note) (senders next : List (Sender Slip)) (was now : Inbox Note)
    (boxes : List KeptState) (note : Note) (keeps : KeepsTimes senders was) (took : taken now ≡ taken was ++ note ∷ [])
    (x : IsTimed (total_of senders was) was now) (channel : now.channel ≡ was.channel) (capacity : now.capacity ≡ was.capacity)
    (lanes : now.lanes ≡ was.lanes) (gone : now.gone ≡ was.gone)
    (work : AreWorking site manner starts old (record { senders = senders; inbox = was }) boxes) where
  -- a mailbox that the copy isn't for, before any slip is told
  untouched : (i : ℕ) (kept : KeptState) → slice_get boxes i ≡ Some kept → note.mailbox ≢ kept.number
      → IsWorking (setting_by site (starts i).quota kept.number) manner (taken (inbox_for kept.number now)) (inbox_for kept.number old.inbox) (inbox_for kept.number now)
      (idle (senders_for kept.number old.senders) (starts i).spool (starts i).told) (worker_at (senders_for kept.number senders) kept) kept.mailbox.limit
  untouched i kept is away =
      let b = kept.number in
      let same : inbox_for b now ≡ inbox_for b was = same_for senders was now note keeps took x channel capacity lanes gone b away in
      let P : Inbox Note → Type 0 = λ y. IsWorking (setting_by site (starts i).quota b) manner (taken y) (inbox_for b old.inbox) y
      (idle (senders_for b old.senders) (starts i).spool (starts i).told) (worker_at (senders_for b senders) kept) kept.mailbox.limit in
      subst P (sym same) (work i kept is)

  -- and after a slip was told by the copy's own
  others_go_on : (outcome : Outcome) (accepted : Bool) (o : IsTold (telling_of senders now) note.txn.lane (slip_of note.mailbox note outcome) senders next accepted)
      (i : ℕ) (kept : KeptState) → slice_get boxes i ≡ Some kept → note.mailbox ≢ kept.number
      → IsWorking (setting_by site (starts i).quota kept.number) manner (taken (inbox_for kept.number now)) (inbox_for kept.number old.inbox) (inbox_for kept.number now)
      (idle (senders_for kept.number old.senders) (starts i).spool (starts i).told) (worker_at (senders_for kept.number next) kept) kept.mailbox.limit
  others_go_on outcome true o i kept is away =
      let b = kept.number in
      let same = accepted_else (telling_of senders now) note.txn.lane (slip_of note.mailbox note outcome) senders next o b away (keeps.sent note.txn.lane o.sender o.is) in
      working_as (setting_by site (starts i).quota b) manner (taken (inbox_for b now)) (inbox_for b old.inbox) (inbox_for b now) (idle (senders_for b old.senders) (starts i).spool (starts i).told)
      (senders_for b senders) (senders_for b next) kept same (untouched i kept is away)
  others_go_on outcome false o i kept is away =
      let b = kept.number in
      let back = back_else (telling_of senders now) note.txn.lane (slip_of note.mailbox note outcome) senders next o b in
      working_gone (setting_by site (starts i).quota b) manner (taken (inbox_for b now)) (inbox_for b old.inbox) (inbox_for b now) (idle (senders_for b old.senders) (starts i).spool (starts i).told)
      (worker_at (senders_for b senders) kept) kept.mailbox.limit (telling_of senders now) note.txn.lane (λ (s : Sender Slip). slip_of note.mailbox note outcome)
      (senders_for b next) (untouched i kept is away) back

  -- the copy's own mailbox
  own_goes_on : (i : ℕ) (kept after : KeptState) → slice_get boxes i ≡ Some kept → kept.number ≡ note.mailbox
      → (h : HandlesCopy site manner note now senders next kept after)
      → IsWorking (setting_by site (starts i).quota after.number) manner (taken (inbox_for after.number now)) (inbox_for after.number old.inbox) (inbox_for after.number now)
      (idle (senders_for after.number old.senders) (starts i).spool (starts i).told) (worker_at (senders_for after.number next) after) after.mailbox.limit
  own_goes_on i kept after is mine h =
      let b = kept.number in
      let at = setting_by site (starts i).quota b in
      let slips = senders_for b senders in
      let state = worker_at slips kept in
      let timed = timed_for senders was now note keeps took x b (sym mine) in
      let within = clock_within b senders now in
      let low : clock_of slips (inbox_for b now) ≤ telling_of senders now = omega arith in
      let offered = offered_for (telling_of senders now) note.txn.lane (slip_of note.mailbox note (outcome_of h.end)) senders next h.accepted h.told
      (clock_of slips (inbox_for b now)) b (slip_by note.txn note.place (outcome_of h.end)) low (sym mine)
      (ap (λ (w : ℕ). slip_of w note (outcome_of h.end)) mine) (keeps.sent note.txn.lane h.told.sender h.told.is) in
      let more = working_more at manner (taken (inbox_for b was)) (inbox_for b old.inbox) (inbox_for b was) (inbox_for b now)
      (idle (senders_for b old.senders) (starts i).spool (starts i).told) state kept.mailbox.limit (senders_for b next) note h.accepted (work i kept is) timed h.end after.mailbox
      after.told h.tallied h.turns h.observed offered in
      let P : List Note → Type 0 = λ copies. IsWorking at manner copies (inbox_for b old.inbox) (inbox_for b now) (idle (senders_for b old.senders) (starts i).spool (starts i).told)
      (record {
        slips = senders_for b next;
        mailbox = after.mailbox.mailbox;
        in_use = after.mailbox.in_use;
        taken = counted (kept.taken + 1);
        lost = any_gone (senders_for b next);
        told = after.told;
      }) after.mailbox.limit in
      let Q : ℕ → Type 0 = λ n. IsWorking at manner (taken (inbox_for b now)) (inbox_for b old.inbox) (inbox_for b now) (idle (senders_for b old.senders) (starts i).spool (starts i).told)
      (record {
        slips = senders_for b next;
        mailbox = after.mailbox.mailbox;
        in_use = after.mailbox.in_use;
        taken = n;
        lost = any_gone (senders_for b next);
        told = after.told;
      }) after.mailbox.limit in
      let R : ℕ → Type 0 = λ n. IsWorking (setting_by site (starts i).quota n) manner (taken (inbox_for n now)) (inbox_for n old.inbox) (inbox_for n now)
      (idle (senders_for n old.senders) (starts i).spool (starts i).told) (worker_at (senders_for n next) after) after.mailbox.limit in
      subst R (sym h.number)
      (subst Q (sym h.counted_one) (subst P (sym (taken_for senders was now note keeps took x b (sym mine))) more))

  -- all of them
  pub all_go_on : (after : List KeptState) → AreInPlace boxes → IsHandledOrNot site manner note now senders next boxes after
      → AreWorking site manner starts old (record { senders = next; inbox = now }) after
  all_go_on after places h = ⊎_elim
      (λ (y : IsHandled site manner note now senders next boxes after).
      let P : List KeptState → Type 0 = λ l. AreWorking site manner starts old (record { senders = next; inbox = now }) l in
      subst P (sym y.others) (λ i kept is. elim (get_set boxes y.at i y.next kept is) [
        | inl here ↦
            let R : ℕ → KeptState → Type 0 = λ j k. IsWorking (setting_by site (starts j).quota k.number) manner (taken (inbox_for k.number now)) (inbox_for k.number old.inbox)
            (inbox_for k.number now) (idle (senders_for k.number old.senders) (starts j).spool (starts j).told) (worker_at (senders_for k.number next) k) k.mailbox.limit in
            subst (λ (j : ℕ). R j kept) (sym here.0) (subst (λ (k : KeptState). R y.at k) here.1 (own_goes_on y.at y.kept y.next y.is y.mine y.handles))
        | inr other ↦
            let away : note.mailbox ≢ kept.number = λ e. other.0 (sym (places i kept other.1) ∙ ap slot_of (sym e ∙ sym y.mine) ∙ places y.at y.kept y.is) in
            others_go_on (outcome_of y.handles.end) y.handles.accepted y.handles.told i kept other.1 away
      ]))
      (λ (y : IsNone boxes note.mailbox × (next ≡ senders) × (after ≡ boxes)).
      let P : List (Sender Slip) × List KeptState → Type 0 = λ z. AreWorking site manner starts old (record { senders = z.0; inbox = now }) z.1 in
      subst P (λ i. (sym y.1 i, sym y.2 i)) (λ i kept is. untouched i kept is (λ e. y.0 i kept is (sym e))))
      h

-- what stays of the thread's mailboxes and of its ends
module _ (site : Site) (manner : Manner) (note : Note) (inbox : Inbox Note) (senders next : List (Sender Slip)) (boxes after : List KeptState) where
  same_number : (h : IsHandled site manner note inbox senders next boxes after) (i : ℕ) (kept : KeptState) → slice_get after i ≡ Some kept
      → (before : KeptState) × (slice_get boxes i ≡ Some before) × (kept.number ≡ before.number)
  same_number h i kept is = elim (get_set boxes h.at i h.next kept (ap (λ l. slice_get l i) (sym h.others) ∙ is)) [
    | inl here ↦ (h.kept, ap (slice_get boxes) here.0 ∙ h.is, ap (λ (k : KeptState). k.number) (sym here.1) ∙ h.handles.number)
    | inr other ↦ (kept, other.1, refl)
  ]

  pub still_in_place : AreInPlace boxes → IsHandledOrNot site manner note inbox senders next boxes after → AreInPlace after
  still_in_place places h = ⊎_elim
      (λ (y : IsHandled site manner note inbox senders next boxes after). λ i kept is.
      let from = same_number y i kept is in
      ap slot_of from.2 ∙ places i from.0 from.1)
      (λ (y : IsNone boxes note.mailbox × (next ≡ senders) × (after ≡ boxes)). subst AreInPlace (sym y.2) places)
      h

  pub still_of_thread : AreOfThread boxes senders → IsHandledOrNot site manner note inbox senders next boxes after → AreOfThread after next
  still_of_thread of h = ⊎_elim
      (λ (y : IsHandled site manner note inbox senders next boxes after). λ i kept is.
      let from = same_number y i kept is in
      let told = y.handles.told in
      let number = still_numbered (worker_thread from.0.number) (telling_of senders inbox) note.txn.lane (λ (s : Sender Slip). slip_of note.mailbox note (outcome_of y.handles.end))
      y.handles.accepted senders next (of i from.0 from.1) told in
      subst (λ (n : ℕ). HaveNumber (worker_thread n) next) (sym from.2) number)
      (λ (y : IsNone boxes note.mailbox × (next ≡ senders) × (after ≡ boxes)).
      subst (λ (z : List KeptState × List (Sender Slip)). AreOfThread z.0 z.1) (λ i. (sym y.2 i, sym y.1 i)) of)
      h

  given_times : (sender : Sender Slip) (slip : Slip) (t : ℕ) (accepted : Bool) → length sender.sent_at ≡ length sender.sent
      → length (given sender slip t accepted).sent_at ≡ length (given sender slip t accepted).sent
  given_times sender slip t true e =
      length-append sender.sent_at (t ∷ []) ∙ ap (λ n. n + 1) e ∙ sym (length-append sender.sent (slip ∷ []))
  given_times sender slip t false e = e

  pub still_timed : KeepsTimes senders inbox → IsHandledOrNot site manner note inbox senders next boxes after → KeepsTimes next inbox
  still_timed keeps h = ⊎_elim
      (λ (y : IsHandled site manner note inbox senders next boxes after).
      let o = y.handles.told in
      let slip = slip_of note.mailbox note (outcome_of y.handles.end) in
      let changed : Sender Slip = given o.sender slip o.when y.handles.accepted in
      let k : KeepsTimes next inbox = record {
        got = keeps.got;
        took = keeps.took;
        sent = λ k sender is. elim (get_set senders note.txn.lane k changed sender (ap (λ l. slice_get l k) (sym o.after) ∙ is)) [
          | inl here ↦ subst (λ (s : Sender Slip). length s.sent_at ≡ length s.sent) here.1
              (given_times o.sender slip o.when y.handles.accepted (keeps.sent note.txn.lane o.sender o.is))
          | inr other ↦ keeps.sent k sender other.1
        ];
      } in k)
      (λ (y : IsNone boxes note.mailbox × (next ≡ senders) × (after ≡ boxes)). subst (λ (l : List (Sender Slip)). KeepsTimes l inbox) (sym y.1) keeps)
      h

  pub still_as_many : IsHandledOrNot site manner note inbox senders next boxes after → length next ≡ length senders
  still_as_many h = ⊎_elim
      (λ (y : IsHandled site manner note inbox senders next boxes after).
      let o = y.handles.told in
      ap length o.after ∙ length_kept senders note.txn.lane (given o.sender (slip_of note.mailbox note (outcome_of y.handles.end)) o.when y.handles.accepted))
      (λ (y : IsNone boxes note.mailbox × (next ≡ senders) × (after ≡ boxes)). ap length y.1)
      h

-- before the first copy
pub none_yet : (site : Site) (manner : Manner) (starts : ℕ → Start) (senders : List (Sender Slip)) (inbox : Inbox Note) (boxes : List KeptState)
    → AreFresh senders inbox → AreNew site manner starts boxes
    → AreWorking site manner starts (record { senders = senders; inbox = inbox }) (record { senders = senders; inbox = inbox }) boxes
none_yet site manner starts senders inbox boxes fresh new i kept is =
    let b = kept.number in
    let P : List Note → Type 0 = λ copies. IsWorking (setting_by site (starts i).quota b) manner copies (inbox_for b inbox) (inbox_for b inbox)
    (idle (senders_for b senders) (starts i).spool (starts i).told) (worker_at (senders_for b senders) kept) kept.mailbox.limit in
    let none : taken (inbox_for b inbox) ≡ [] = none_taken b inbox fresh.got in
    subst P (sym none) (new i kept is (senders_for b senders) (inbox_for b inbox) (numbered_for b senders))

pub timed_at_first : (senders : List (Sender Slip)) (inbox : Inbox Note) → AreFresh senders inbox → KeepsTimes senders inbox
timed_at_first senders inbox fresh = record {
  got = ap length fresh.got_at ∙ sym (ap length fresh.got);
  took = ap length fresh.took_at ∙ sym (ap length fresh.got);
  sent = λ k sender is. let y = fresh.sent k sender is in ap length y.1 ∙ sym (ap length y.0);
}

-- once the channel has ended
pub all_worked : (site : Site) (manner : Manner) (starts : ℕ → Start) (old : Ends Slip Note) (senders : List (Sender Slip)) (was now : Inbox Note)
    (boxes : List KeptState)
    → AreWorking site manner starts old (record { senders = senders; inbox = was }) boxes
    → now.channel ≡ old.inbox.channel → now.lanes ≡ old.inbox.lanes → now.capacity ≡ old.inbox.capacity → taken now ≡ taken was → HasSameTimes was now
    → IsSome now.gone → (lost : Bool) → lost ≡ (any_gone senders || is_lost now.gone)
    → HaveWorked site manner starts old (record { senders = senders; inbox = now }) lost boxes
all_worked site manner starts old senders was now boxes work channel lanes capacity took same over lost found i kept is =
    let b = kept.number in
    let state = worker_at (senders_for b senders) kept in
    worked (setting_by site (starts i).quota b) manner (inbox_for b old.inbox) (inbox_for b was) (inbox_for b now) (idle (senders_for b old.senders) (starts i).spool (starts i).told) state
    kept.mailbox.limit (work i kept is) channel lanes capacity (taken_still b was now took) (times_still b was now took same) over lost
    (found ∙ ap (λ t. t || is_lost now.gone) (sym (gone_for b senders)))
