-- All mailboxes of a thread that puts copies off: each goes on as if it had a worker of its own.
use Rattle.std.proofs.Common.{◌≡◌, ◌≢◌, ◌==◌, ◌||◌, ℕ, zero, suc, ◌+◌, ◌<◌, List, [], ◌∷◌, ◌++◌, length, take, drop, Bool, true, false, Option, Some, None, IsSome, inl, inr}
use Rattle.std.proofs.Common.{refl, ap, sym, ◌∙◌, subst, ⊎_elim, arith, append-nil}
use Rattle.std.specs.Prelude.{slice_get, Result, Ok, Err, IfOk, IfErr, OnOk, OnErr}
use Rattle.std.specs.List.{list_any, AllByRecursion}
use Rattle.std.proofs.lemmas.Bool.{or_parts}
use Rattle.mail_world.proofs.Accepted.{get_set}
use Rattle.mail_world.specs.declared.Note.{Note}
use Rattle.mail_world.specs.declared.Slip.{Slip}
use Rattle.mail_world.specs.declared.Outcome.{Outcome}
use Rattle.mail_world.specs.Counts.{counted}
use Rattle.mail_world.specs.Slips.{slip_of}
use Rattle.mail_runs.proofs.Parts.{fails}
use Rattle.mail_runs.specs.Timed.{RisesTo}
use Rattle.mail_runs.specs.Known.{AreLater, times_of}
use Rattle.mail_runs.specs.Ordered.{MakesRoom}
use Rattle.mail_post.proofs.Rooms.{room_none}
use Rattle.mail_world.specs.Site.{Site}
use Rattle.mail_post.specs.Channel.{Sender, Inbox, taken, IsTimed, HasSameTimes, IsNext, IsDrained}
use Rattle.mail_post.specs.Times.{HaveMoments}
use Rattle.mail_post.specs.Parcels.{of}
use Rattle.mail_post.specs.InTime.{Ends, clock_of}
use Rattle.mail_post.specs.Offered.{IsOffered, any_gone}
use Rattle.mail_post.specs.declared.channel.Gone.{Gone}
use Rattle.mail_post.specs.declared.channel.Gone.TheVariants.{Closed}
use Rattle.mail_post.proofs.InTime.{took_none}
use Rattle.mail_post.proofs.Offered.{gone_now, gone_as_before}
use Rattle.box_worker.specs.Limits.{setting_by}
use Rattle.box_worker.specs.Turned.{Manner}
use Rattle.box_worker.specs.TurnEnds.{outcome_of}
use Rattle.box_worker.specs.Told.{slip_by}
use Rattle.box_worker.specs.TurnTimes.{worker_sorts}
use Rattle.box_worker.specs.Worked.{idle, is_lost, worker_ends, IsWorking}
use Rattle.box_worker.specs.Shares.{for_box, inbox_for, senders_for, sum_all, total_of, moment_of, telling_of, KeepsTimes, Start, KeptState, worker_at, slot_of, AreInPlace}
use Rattle.box_worker.specs.Shares.{AreNew, HandlesCopy, IsNone, IsHandled, IsHandledOrNot, AreFresh}
use Rattle.box_worker.specs.PutOff.{IsShare, roomier, IsPatient, ArePatient, IsNextOf, HaveWorkedPatiently}
use Rattle.box_worker.proofs.Shares.{IsTold, offered_for, accepted_else, gone_for, numbered_for, none_taken, messages_copies, clock_within}
use Rattle.box_worker.proofs.PutOff.{put_off, own_turn, other_turn, of_others}
use Rattle.box_worker.proofs.Working.{working_more, worked}

-- a copy was taken off the channel, and waits
module _ (room : ℕ) (site : Site) (manner : Manner) (starts : ℕ → Start) (old : Ends Slip Note) (senders : List (Sender Slip)) (was now : Inbox Note)
    (boxes : List KeptState) (note : Note) (waits : List Note) (keeps : KeepsTimes senders was) (took : taken now ≡ taken was ++ note ∷ [])
    (x : IsTimed (moment_of senders was) was now) (channel : now.channel ≡ was.channel) (capacity : now.capacity ≡ was.capacity)
    (lanes : now.lanes ≡ was.lanes) (gone : now.gone ≡ was.gone) (fits : length waits < room) where
  pub all_put_off : ArePatient room site manner starts old (record { senders = senders; inbox = was }) waits boxes
      → ArePatient room site manner starts old (record { senders = senders; inbox = now }) (waits ++ note ∷ []) boxes
  all_put_off patient i kept is =
      let p = patient i kept is in
      record {
        share = p.share;
        is = put_off room kept.number senders was now note waits p.share keeps took x channel capacity lanes gone fits p.is;
        working = p.working;
      }

-- a copy that waited has its turn, and the slip for it was accepted
module _ (room : ℕ) (site : Site) (manner : Manner) (starts : ℕ → Start) (old : Ends Slip Note) (senders next : List (Sender Slip)) (inbox : Inbox Note)
    (boxes : List KeptState) (note : Note) (waits rest : List Note) (keeps : KeepsTimes senders inbox) (m : HaveMoments inbox.got_at inbox.took_at)
    (y : IsNextOf waits note rest)
    (patient : ArePatient room site manner starts old (record { senders = senders; inbox = inbox }) waits boxes) where
  module _ (outcome : Outcome) (o : IsTold (telling_of senders inbox) note.txn.lane (slip_of note.mailbox note outcome) senders next true) where
    others_wait : (i : ℕ) (kept : KeptState) → slice_get boxes i ≡ Some kept → note.mailbox ≢ kept.number
        → IsPatient room site manner (starts i) old (record { senders = next; inbox = inbox }) rest kept
    others_wait i kept is away =
        let p = patient i kept is in
        let b = kept.number in
        let long = keeps.sent note.txn.lane o.sender o.is in
        let slip = slip_of note.mailbox note outcome in
        let same : senders_for b next ≡ senders_for b senders = accepted_else (telling_of senders inbox) note.txn.lane slip senders next o b away long in
        let P : List (Sender Slip) → Type 0 = λ l. IsWorking (setting_by site (starts i).quota b) manner (taken p.share) (roomier room (inbox_for b old.inbox)) p.share
        (idle (senders_for b old.senders) (starts i).spool (starts i).told) (worker_at l kept) kept.mailbox.limit in
        record {
          share = p.share;
          is = other_turn room b senders next inbox note waits rest p.share note.txn.lane slip o m y p.is away away long;
          working = subst P (sym same) p.working;
        }

  own_has_turn : (i : ℕ) (kept after : KeptState) → slice_get boxes i ≡ Some kept → kept.number ≡ note.mailbox
      → (outcome : Outcome) (o : IsTold (telling_of senders inbox) note.txn.lane (slip_of note.mailbox note outcome) senders next true)
      → (h : HandlesCopy site manner note inbox senders next kept after) → outcome_of h.end ≡ outcome
      → IsPatient room site manner (starts i) old (record { senders = next; inbox = inbox }) rest after
  own_has_turn i kept after is mine outcome o h told =
      let p = patient i kept is in
      let b = kept.number in
      let at = setting_by site (starts i).quota b in
      let slip = slip_of note.mailbox note outcome in
      let slips = senders_for b senders in
      let state = worker_at slips kept in
      let turn = own_turn room b senders next inbox note waits rest p.share note.txn.lane slip o m y p.is (sym mine) in
      let offered = offered_for (telling_of senders inbox) note.txn.lane slip senders next true o (clock_of slips turn.after) b
      (slip_by note.txn note.place outcome) turn.low (sym mine) (ap (λ (w : ℕ). slip_of w note outcome) mine) (keeps.sent note.txn.lane o.sender o.is) in
      let I : Outcome → Type 0 = λ u. IsOffered (clock_of slips turn.after) note.txn.lane (slip_by note.txn note.place u) true slips (senders_for b next) in
      let more = working_more at manner (taken p.share) (roomier room (inbox_for b old.inbox)) p.share turn.after
      (idle (senders_for b old.senders) (starts i).spool (starts i).told) state kept.mailbox.limit (senders_for b next) note true p.working turn.timed h.end after.mailbox
      after.told h.tallied h.turns h.observed (subst I (sym told) offered) in
      let P : List Note → Type 0 = λ copies. IsWorking at manner copies (roomier room (inbox_for b old.inbox)) turn.after (idle (senders_for b old.senders) (starts i).spool (starts i).told)
      (record {
        slips = senders_for b next;
        mailbox = after.mailbox.mailbox;
        in_use = after.mailbox.in_use;
        taken = counted (kept.taken + 1);
        lost = any_gone (senders_for b next);
        told = after.told;
      }) after.mailbox.limit in
      let Q : ℕ → Type 0 = λ n. IsWorking at manner (taken turn.after) (roomier room (inbox_for b old.inbox)) turn.after (idle (senders_for b old.senders) (starts i).spool (starts i).told)
      (record {
        slips = senders_for b next;
        mailbox = after.mailbox.mailbox;
        in_use = after.mailbox.in_use;
        taken = n;
        lost = any_gone (senders_for b next);
        told = after.told;
      }) after.mailbox.limit in
      let R : ℕ → Type 0 = λ n. (share : Inbox Note) × IsShare room n next inbox rest share
      × IsWorking (setting_by site (starts i).quota n) manner (taken share) (roomier room (inbox_for n old.inbox)) share
      (idle (senders_for n old.senders) (starts i).spool (starts i).told) (worker_at (senders_for n next) after) after.mailbox.limit in
      let z = subst R (sym h.number) (turn.after, turn.is, subst Q (sym h.counted_one) (subst P (sym turn.took) more)) in
      record { share = z.0; is = z.1; working = z.2 }

  -- a copy of no mailbox of this thread is given up
  stray_gone : (i : ℕ) (kept : KeptState) → slice_get boxes i ≡ Some kept → note.mailbox ≢ kept.number
      → IsPatient room site manner (starts i) old (record { senders = senders; inbox = inbox }) rest kept
  stray_gone i kept is away =
      let p = patient i kept is in
      let b = kept.number in
      let wait : of for_box b waits ≡ of for_box b rest =
      ap (of for_box b) y.was ∙ of_others b y.front note y.back away ∙ ap (of for_box b) (sym y.is) in
      record {
        share = p.share;
        is = record {
          channel = p.is.channel;
          lanes = p.is.lanes;
          capacity = p.is.capacity;
          gone = p.is.gone;
          waiting_at = p.is.waiting_at;
          as_many = p.is.as_many ∙ ap length wait;
          as_many_took = p.is.as_many_took;
          all = p.is.all ∙ ap (λ l. taken p.share ++ l) wait;
          all_at = p.is.all_at;
          makes_room = p.is.makes_room;
          takes_rise = p.is.takes_rise;
          later = p.is.later;
          within = p.is.within;
        };
        working = p.working;
      }

  with_turn : (after : List KeptState) (h : IsHandled site manner note inbox senders next boxes after) (accepted : Bool) → h.handles.accepted ≡ accepted
      → any_gone next ≡ false → AreInPlace boxes
      → ArePatient room site manner starts old (record { senders = next; inbox = inbox }) rest after
  with_turn after h false back sound places =
      let slip = slip_of note.mailbox note (outcome_of h.handles.end) in
      let o : IsTold (telling_of senders inbox) note.txn.lane slip senders next false =
      subst (λ (t : Bool). IsTold (telling_of senders inbox) note.txn.lane slip senders next t) back h.handles.told in
      let bad : true ≡ false = sym (gone_now (telling_of senders inbox) note.txn.lane (λ (s : Sender Slip). slip) senders next o) ∙ sound in
      absurd (cc)
  with_turn after h true told sound places =
      let slip = slip_of note.mailbox note (outcome_of h.handles.end) in
      let o : IsTold (telling_of senders inbox) note.txn.lane slip senders next true =
      subst (λ (t : Bool). IsTold (telling_of senders inbox) note.txn.lane slip senders next t) told h.handles.told in
      let P : List KeptState → Type 0 = λ l. ArePatient room site manner starts old (record { senders = next; inbox = inbox }) rest l in
      subst P (sym h.others) (λ i kept is. elim (get_set boxes h.at i h.next kept is) [
        | inl here ↦
            let R : ℕ → KeptState → Type 0 = λ j k. IsPatient room site manner (starts j) old (record { senders = next; inbox = inbox }) rest k in
            subst (λ (j : ℕ). R j kept) (sym here.0) (subst (λ (k : KeptState). R h.at k) here.1
            (own_has_turn h.at h.kept h.next h.is h.mine (outcome_of h.handles.end) o h.handles refl))
        | inr other ↦
            let away : note.mailbox ≢ kept.number = λ e. other.0 (sym (places i kept other.1) ∙ ap slot_of (sym e ∙ sym h.mine) ∙ places h.at h.kept h.is) in
            others_wait (outcome_of h.handles.end) o i kept other.1 away
      ])

  pub all_take_turns : (after : List KeptState) → AreInPlace boxes → IsHandledOrNot site manner note inbox senders next boxes after → any_gone next ≡ false
      → ArePatient room site manner starts old (record { senders = next; inbox = inbox }) rest after
  all_take_turns after places h sound = ⊎_elim
      (λ (z : IsHandled site manner note inbox senders next boxes after). with_turn after z z.handles.accepted refl sound places)
      (λ (z : IsNone boxes note.mailbox × (next ≡ senders) × (after ≡ boxes)).
      let P : List (Sender Slip) × List KeptState → Type 0 = λ q. ArePatient room site manner starts old (record { senders = q.0; inbox = inbox }) rest q.1 in
      subst P (λ i. (sym z.1 i, sym z.2 i)) (λ i kept is. stray_gone i kept is (λ e. z.0 i kept is (sym e))))
      h

-- a channel that is found gone stays so
pub sound_before : (site : Site) (manner : Manner) (note : Note) (inbox : Inbox Note) (senders next : List (Sender Slip)) (boxes after : List KeptState)
    → IsHandledOrNot site manner note inbox senders next boxes after → any_gone next ≡ false → any_gone senders ≡ false
sound_before site manner note inbox senders next boxes after h sound = ⊎_elim
    (λ (z : IsHandled site manner note inbox senders next boxes after).
    let slip = slip_of note.mailbox note (outcome_of z.handles.end) in
    let at : (accepted : Bool) → IsTold (telling_of senders inbox) note.txn.lane slip senders next accepted → any_gone senders ≡ false =
    λ accepted. elim accepted as (λ t. IsTold (telling_of senders inbox) note.txn.lane slip senders next t → any_gone senders ≡ false) [
      | true ↦ λ o. sym (gone_as_before (telling_of senders inbox) note.txn.lane (λ (s : Sender Slip). slip) senders next o) ∙ sound
      | false ↦ λ o. let bad : true ≡ false = sym (gone_now (telling_of senders inbox) note.txn.lane (λ (s : Sender Slip). slip) senders next o) ∙ sound in absurd (cc)
    ] in
    at z.handles.accepted z.handles.told)
    (λ (z : IsNone boxes note.mailbox × (next ≡ senders) × (after ≡ boxes)). ap any_gone (sym z.1) ∙ sound)
    h

-- the channel has ended, and copies may still wait
pub all_wait_still : (room : ℕ) (site : Site) (manner : Manner) (starts : ℕ → Start) (old : Ends Slip Note) (senders : List (Sender Slip))
    (was now : Inbox Note) (waits : List Note) (boxes : List KeptState) → now.channel ≡ was.channel → now.capacity ≡ was.capacity → now.lanes ≡ was.lanes
    → taken now ≡ taken was → HasSameTimes was now
    → ArePatient room site manner starts old (record { senders = senders; inbox = was }) waits boxes
    → ArePatient room site manner starts old (record { senders = senders; inbox = now }) waits boxes
all_wait_still room site manner starts old senders was now waits boxes channel capacity lanes same at patient i kept is =
    let p = patient i kept is in
    let b = kept.number in
    let share : Inbox Note = record p.share { gone = now.gone } in
    let got : sum_all now.got_at ≡ sum_all was.got_at = ap sum_all at.0 in
    let took : sum_all now.took_at ≡ sum_all was.took_at = ap sum_all at.1 in
    let moments : moment_of senders was ≡ moment_of senders now = omega arith in
    let low = p.is.within in
    let took_at : times_of for_box b (taken now) now.took_at ≡ times_of for_box b (taken was) was.took_at =
    λ j. times_of for_box b (same j) (at.1 j) in
    let T = p.working.turns in
    record {
      share = share;
      is = record {
        channel = p.is.channel ∙ sym channel;
        lanes = p.is.lanes ∙ sym lanes;
        capacity = p.is.capacity ∙ ap (λ n. n + room) (sym capacity);
        gone = refl;
        waiting_at = p.is.waiting_at;
        as_many = p.is.as_many;
        as_many_took = p.is.as_many_took;
        all = ap (of for_box b) same ∙ p.is.all;
        all_at = (λ j. times_of for_box b (same j) (at.0 j)) ∙ p.is.all_at;
        makes_room = subst (λ (l : List ℕ). MakesRoom room l p.share.took_at) (sym took_at) p.is.makes_room;
        takes_rise = subst (λ (n : ℕ). RisesTo 0 n p.share.took_at) moments p.is.takes_rise;
        later = p.is.later;
        within = omega arith;
      };
      working = record {
        counting = p.working.counting;
        turns = record {
          deeds = T.deeds;
          in_time = took_none worker_sorts T.deeds (worker_ends (idle (senders_for b old.senders) (starts i).spool (starts i).told) (roomier room (inbox_for b old.inbox)))
              (worker_ends (worker_at (senders_for b senders) kept) p.share) share T.in_time refl;
          all = T.all;
          some = T.some;
        };
      };
    }

-- before the first copy
module _ (room b : ℕ) (senders : List (Sender Slip)) (inbox : Inbox Note) (fresh : AreFresh senders inbox) where
  first_share : IsShare room b senders inbox [] (roomier room (inbox_for b inbox))
  first_share =
      let took_at : times_of for_box b (taken inbox) inbox.took_at ≡ [] = λ i. times_of for_box b (fresh.got i) (fresh.took_at i) in
      let got_at : times_of for_box b (taken inbox) inbox.got_at ≡ [] = λ i. times_of for_box b (fresh.got i) (fresh.got_at i) in
      let none : taken (inbox_for b inbox) ≡ [] = none_taken b inbox fresh.got in
      let low = clock_within b senders inbox in
      record {
        channel = refl;
        lanes = refl;
        capacity = refl;
        gone = refl;
        waiting_at = [];
        as_many = refl;
        as_many_took = ap length took_at ∙ sym (ap length none);
        all = sym (append-nil (taken (inbox_for b inbox)) ∙ messages_copies (of for_box b (taken inbox)));
        all_at = sym (append-nil (times_of for_box b (taken inbox) inbox.got_at));
        makes_room = subst (λ (l : List ℕ). MakesRoom room l l) (sym took_at) (room_none room []);
        takes_rise = subst (λ (l : List ℕ). RisesTo 0 (moment_of senders inbox) l) (sym took_at) (omega arith);
        later = subst (λ (l : List ℕ × List ℕ). AreLater l.0 l.1) (λ i. (sym got_at i, sym took_at i)) tt;
        within = omega arith;
      }

pub all_patient_yet : (room : ℕ) (site : Site) (manner : Manner) (starts : ℕ → Start) (senders : List (Sender Slip)) (inbox : Inbox Note)
    (boxes : List KeptState) → AreFresh senders inbox → AreNew site manner starts boxes
    → ArePatient room site manner starts (record { senders = senders; inbox = inbox }) (record { senders = senders; inbox = inbox }) [] boxes
all_patient_yet room site manner starts senders inbox boxes fresh new i kept is =
    let b = kept.number in
    let share = roomier room (inbox_for b inbox) in
    let P : List Note → Type 0 = λ copies. IsWorking (setting_by site (starts i).quota b) manner copies share share
    (idle (senders_for b senders) (starts i).spool (starts i).told) (worker_at (senders_for b senders) kept) kept.mailbox.limit in
    record {
      share = share;
      is = first_share room b senders inbox fresh;
      working = subst P (sym (none_taken b inbox fresh.got)) (new i kept is (senders_for b senders) share (numbered_for b senders));
    }

-- once the channel has ended and no copy waits
pub all_done : (room : ℕ) (site : Site) (manner : Manner) (starts : ℕ → Start) (old : Ends Slip Note) (senders : List (Sender Slip)) (inbox : Inbox Note)
    (boxes : List KeptState) → ArePatient room site manner starts old (record { senders = senders; inbox = inbox }) [] boxes
    → inbox.channel ≡ old.inbox.channel → inbox.lanes ≡ old.inbox.lanes → inbox.capacity ≡ old.inbox.capacity
    → IsSome inbox.gone → (lost : Bool) → lost ≡ (any_gone senders || is_lost inbox.gone)
    → HaveWorkedPatiently room site manner starts old (record { senders = senders; inbox = inbox }) lost boxes
all_done room site manner starts old senders inbox boxes patient channel lanes capacity over lost found i kept is =
    let p = patient i kept is in
    let b = kept.number in
    record {
      share = p.share;
      is = p.is;
      worked = worked (setting_by site (starts i).quota b) manner (roomier room (inbox_for b old.inbox)) p.share p.share (idle (senders_for b old.senders) (starts i).spool (starts i).told)
          (worker_at (senders_for b senders) kept) kept.mailbox.limit p.working (p.is.channel ∙ channel) (p.is.lanes ∙ lanes)
          (p.is.capacity ∙ ap (λ n. n + room) capacity) refl (refl, refl) (subst (λ (g : Option Gone). IsSome g) (sym p.is.gone) over) lost
          (found ∙ (λ j. sym (gone_for b senders) j || is_lost (sym p.is.gone j)));
    }

-- the copy at a place that is the first of its mailbox
pub parts_at : {A : Type 0} (xs : List A) (i : ℕ) (x : A) → slice_get xs i ≡ Some x → xs ≡ take i xs ++ x ∷ drop (suc i) xs
parts_at [] i x e = cc
parts_at (y ∷ xs) zero x e = let same : y ≡ x = cc in ap (λ z. z ∷ xs) same
parts_at (y ∷ xs) (suc i) x e = ap (λ l. y ∷ l) (parts_at xs i x e)

pub none_of : (b : ℕ) (notes : List Note) → list_any (λ (note : Note). note.mailbox == b) notes ≡ false → of for_box b notes ≡ []
none_of b [] e = refl
none_of b (note ∷ notes) e =
    let parts = or_parts (note.mailbox == b) (list_any (λ (n : Note). n.mailbox == b) notes) e in
    fails (λ n. for_box n == b) note notes parts.0 ∙ none_of b notes parts.1

pub all_more : (P : Note → Type 0) (notes : List Note) (note : Note) → AllByRecursion P notes → P note → AllByRecursion P (notes ++ note ∷ [])
all_more P [] note all one = (one, tt)
all_more P (n ∷ notes) note all one = (all.0, all_more P notes note all.1 one)

without : (P : Note → Type 0) (note : Note) (front back : List Note) → AllByRecursion P (front ++ note ∷ back) → AllByRecursion P (front ++ back)
without P note [] back all = all.1
without P note (n ∷ front) back all = (all.0, without P note front back all.1)

-- what holds of each that waits
pub all_rest : (P : Note → Type 0) (waits : List Note) (note : Note) (rest : List Note) → IsNextOf waits note rest → AllByRecursion P waits
    → AllByRecursion P rest
all_rest P waits note rest y all =
    let split : (front back : List Note) → AllByRecursion P (front ++ note ∷ back) → AllByRecursion P (front ++ back) = without P note in
    subst (λ (l : List Note). AllByRecursion P l) (sym y.is) (split y.front y.back (subst (λ (l : List Note). AllByRecursion P l) y.was all))

pub first_moments : (senders : List (Sender Slip)) (inbox : Inbox Note) → AreFresh senders inbox → HaveMoments inbox.got_at inbox.took_at
first_moments senders inbox fresh =
    let none : HaveMoments [] [] = record { until = 0; rises = omega arith; takes_rise = omega arith; later = tt } in
    subst (λ (z : List ℕ × List ℕ). HaveMoments z.0 z.1) (λ i. (sym fresh.got_at i, sym fresh.took_at i)) none

pub no_some : {A : Type 0} (o : Option A) → ((x : A) → o ≡ Some x → ⊥) → o ≡ None
no_some None n = refl
no_some (Some x) n = absurd (n x refl)

pub fits_after : (must : Bool) (count room : ℕ) (waits : List Note) → count ≡ length waits → 0 < room → (must ≡ false → count < room)
    → (must ≡ true → waits ≡ []) → count < room
fits_after true count room waits is some full empty = let e = ap length (empty refl) in omega arith
fits_after false count room waits is some full empty = full refl

pub must_be : (must : Bool) (ended : Option Gone) (why : Gone) → (must ≡ false → ended ≡ None) → ended ≡ Some why → must ≡ true
must_be true ended why none some = refl
must_be false ended why none some = let bad : Some why ≡ None = sym some ∙ none refl in absurd (cc)

pub sooner : (senders : List (Sender Slip)) (was now : Inbox Note) → IsTimed (moment_of senders was) was now → IsTimed (total_of senders was) was now
sooner senders was now x =
    let moment = x.moment in record {
      accepted_at = x.accepted_at;
      taken_at = x.taken_at;
      moment = omega arith;
      later = x.later;
      got_more = x.got_more;
      took_more = x.took_more;
      timed = x.timed;
    }

pub times_kept : (senders : List (Sender Slip)) (was now : Inbox Note) → taken now ≡ taken was → HasSameTimes was now → KeepsTimes senders was
    → KeepsTimes senders now
times_kept senders was now same at keeps = record {
  got = ap length at.0 ∙ keeps.got ∙ sym (ap length same);
  took = ap length at.1 ∙ keeps.took ∙ sym (ap length same);
  sent = keeps.sent;
}

pub moments_kept : (was now : Inbox Note) → HasSameTimes was now → HaveMoments was.got_at was.took_at → HaveMoments now.got_at now.took_at
moments_kept was now at h = subst (λ (z : List ℕ × List ℕ). HaveMoments z.0 z.1) (λ i. (sym at.0 i, sym at.1 i)) h

-- what a receive that waits says, as one that doesn't says it
pub next_taken : (after : ℕ) (old new : Inbox Note) (r : Result Note Gone) → IfOk r (λ note. taken new ≡ taken old ++ note ∷ [])
    → IfOk r (λ note. note.txn.lane < old.lanes) → OnOk r (IsTimed after old new) → OnOk r ((old.gone ≡ None) × (new.gone ≡ None))
    → OnErr r (taken new ≡ taken old) → OnErr r (HasSameTimes old new) → IfErr r (λ why. new.gone ≡ Some why)
    → IfErr r (λ why. why ≡ Closed → IsDrained (λ (note : Note). note.txn.lane) new)
    → IsNext (λ (note : Note). note.txn.lane) after old new (Some r)
next_taken after old new (Ok note) post lane timed open_still nothing no_time gone closed = (open_still.1, post, lane, timed)
next_taken after old new (Err why) post lane timed open_still nothing no_time gone closed = (gone, nothing, closed, no_time)
