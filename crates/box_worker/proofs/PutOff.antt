-- A copy is put off, and has its turn later.
use Rattle.std.proofs.Common.{◌≡◌, ◌≢◌, ◌==◌, ℕ, zero, suc, ◌+◌, ◌≤◌, ◌<◌, ◌⊎◌, List, [], ◌∷◌, ◌++◌, length, drop, Bool, true, false, cond}
use Rattle.std.proofs.Common.{refl, ap, sym, ◌∙◌, subst, ⊎_elim, arith, append-nil, append_assoc, length-append}
use Rattle.std.specs.Prelude.{sum_by}
use Rattle.std.proofs.lemmas.List.{drop-drop}
use Rattle.std.proofs.lemmas.List.Elements.{filter-append}
use Rattle.mail_world.proofs.Holds.{sum_set}
use Rattle.mail_world.specs.declared.Note.{Note}
use Rattle.mail_world.specs.declared.Slip.{Slip}
use Rattle.mail_runs.specs.Timed.{RisesTo}
use Rattle.mail_runs.specs.Known.{AreLater, times_of}
use Rattle.mail_runs.specs.Ordered.{AreBefore, MakesRoom}
use Rattle.mail_post.specs.Times.{last_of, HaveMoments}
use Rattle.mail_post.specs.Parcels.{of, messages}
use Rattle.mail_post.specs.declared.rule.Parcel.{Parcel}
use Rattle.mail_post.specs.declared.rule.Parcel.TheVariants.{Copy, Mark}
use Rattle.mail_post.specs.Channel.{Sender, Inbox, taken, IsTimed}
use Rattle.mail_post.specs.InTime.{clock_of}
use Rattle.mail_post.specs.Offered.{given}
use Rattle.mail_post.proofs.Rooms.{room_accepts, room_taken}
use Rattle.mail_post.proofs.Timing.{rises_snoc, rises_more, rises_prefix}
use Rattle.box_worker.specs.Shares.{for_box, inbox_for, senders_for, sum_all, moment_of, telling_of, KeepsTimes}
use Rattle.box_worker.specs.PutOff.{IsShare, IsNextOf, PassesForPatient}
use Rattle.box_worker.proofs.Shares.{of_here, of_else, times_snoc, times_here, times_else, rises_for, IsTold, accepted_else, sums_low, messages_copies}
use Rattle.box_worker.proofs.Passing.{passes_for_each, as_many_times}

same? : (j k : ℕ) → (j ≡ k) ⊎ (j ≢ k)
same? j k = grind arith

-- One channel after the other is a channel with room for both.
before_drop : (n : ℕ) (out mid : List ℕ) → AreBefore out mid → AreBefore (drop n out) (drop n mid)
before_drop zero out mid h = h
before_drop (suc n) out [] h = tt
before_drop (suc n) [] (m ∷ mid) h = absurd h
before_drop (suc n) (o ∷ out) (m ∷ mid) h = before_drop n out mid h.1

before_before : (out mid acc : List ℕ) → AreBefore out mid → AreBefore mid acc → AreBefore out acc
before_before out mid [] h k = tt
before_before out [] (a ∷ acc) h k = absurd k
before_before [] (m ∷ mid) (a ∷ acc) h k = absurd h
before_before (o ∷ out) (m ∷ mid) (a ∷ acc) h k = let x : o < m = h.0 in let y : m < a = k.0 in (omega arith, before_before out mid acc h.1 k.1)

pub room_joined : (c p : ℕ) (acc mid out : List ℕ) → MakesRoom c acc mid → MakesRoom p mid out → MakesRoom (c + p) acc out
room_joined c p acc mid out h k =
    subst (λ (l : List ℕ). AreBefore out l) (drop-drop p c acc) (before_before out (drop p mid) (drop p (drop c acc)) k (before_drop p mid (drop c acc) h))

-- sums
sum_more : (ts : List ℕ) (t : ℕ) → sum_all (ts ++ t ∷ []) ≡ sum_all ts + t
sum_more [] t = omega arith
sum_more (x ∷ ts) t = let rest = sum_more ts t in omega arith

sum_has : (xs : List ℕ) (a : ℕ) (ys : List ℕ) → a ≤ sum_all (xs ++ a ∷ ys)
sum_has [] a ys = omega arith
sum_has (x ∷ xs) a ys = let rest = sum_has xs a ys in omega arith

module _ {M : Type 0} (f : M → ℕ) (k : ℕ) where
  sum_fewer : (ms : List M) (ts : List ℕ) → sum_all (times_of f k ms ts) ≤ sum_all ts
  sum_fewer [] ts = omega arith
  sum_fewer (m ∷ ms) [] = omega arith
  sum_fewer (m ∷ ms) (t ∷ ts) =
      let rest = sum_fewer ms ts in
      elim (f m == k) as (λ b. sum_all (cond b (t ∷ times_of f k ms ts) (times_of f k ms ts)) ≤ t + sum_all ts) [
        | true ↦ omega arith
        | false ↦ omega arith
      ]

  of_fewer : (ms : List M) → length (of f k ms) ≤ length ms
  of_fewer [] = omega arith
  of_fewer (m ∷ ms) =
      let rest = of_fewer ms in
      elim (f m == k) as (λ b. length (cond b (m ∷ of f k ms) (of f k ms)) ≤ length (m ∷ ms)) [
        | true ↦ omega arith
        | false ↦ omega arith
      ]

messages_more : (xs : List (Parcel Note)) (m : Note) → messages (xs ++ Copy m ∷ []) ≡ messages xs ++ m ∷ []
messages_more [] m = refl
messages_more (Copy x ∷ xs) m = ap (λ l. x ∷ l) (messages_more xs m)
messages_more (Mark j ∷ xs) m = messages_more xs m

later_more : (got took : List ℕ) (s t : ℕ) → AreLater got took → s < t → AreLater (got ++ s ∷ []) (took ++ t ∷ [])
later_more [] [] s t h below = (below, tt)
later_more [] (u ∷ us) s t h below = absurd h
later_more (x ∷ xs) [] s t h below = absurd h
later_more (x ∷ xs) (u ∷ us) s t h below = (h.0, later_more xs us s t h.1 below)

last_one : (lo : ℕ) (ts : List ℕ) (t : ℕ) → last_of lo (ts ++ t ∷ []) ≡ t
last_one lo [] t = refl
last_one lo (x ∷ ts) t = last_one x ts t

no_time : (ts : List ℕ) → length ts ≡ 0 → ts ≡ []
no_time [] e = refl
no_time (t ∷ ts) e = absurd (omega arith)

messages_are : (b : ℕ) (inbox : Inbox Note) → taken (inbox_for b inbox) ≡ of for_box b (taken inbox)
messages_are b inbox = messages_copies (of for_box b (taken inbox))

-- a copy was taken off the channel, and waits
module _ (room b : ℕ) (senders : List (Sender Slip)) (was now : Inbox Note) (note : Note) (waits : List Note) (share : Inbox Note)
    (keeps : KeepsTimes senders was) (took : taken now ≡ taken was ++ note ∷ []) (x : IsTimed (moment_of senders was) was now)
    (channel : now.channel ≡ was.channel) (capacity : now.capacity ≡ was.capacity) (lanes : now.lanes ≡ was.lanes) (gone : now.gone ≡ was.gone)
    (fits : length waits < room) (h : IsShare room b senders was waits share) where
  abbrev X : List ℕ
  X = times_of for_box b (taken was) was.took_at

  goes_up : moment_of senders was ≤ moment_of senders now
  goes_up =
      let a : sum_all now.took_at ≡ sum_all was.took_at + x.taken_at = ap sum_all x.took_more ∙ sum_more was.took_at x.taken_at in
      let c : sum_all now.got_at ≡ sum_all was.got_at + x.accepted_at = ap sum_all x.got_more ∙ sum_more was.got_at x.accepted_at in
      omega arith

  has_room : MakesRoom room (times_of for_box b (taken now) now.took_at) share.took_at
  has_room = ⊎_elim
      (λ (e : note.mailbox ≡ b).
      let all : times_of for_box b (taken now) now.took_at ≡ X ++ x.taken_at ∷ [] =
      (λ i. times_of for_box b (took i) (x.took_more i)) ∙ times_here for_box b (taken was) was.took_at note x.taken_at keeps.took e in
      let p = as_many_times for_box b (taken was) was.took_at keeps.took in
      let q : length (of for_box b (taken was)) ≡ length (taken share) + length (of for_box b waits) =
      ap length h.all ∙ length-append (taken share) (of for_box b waits) in
      let r = of_fewer for_box b waits in
      let s = h.as_many_took in
      let short : length X < room + length share.took_at = omega arith in
      subst (λ (l : List ℕ). MakesRoom room l share.took_at) (sym all)
      (room_accepts room (moment_of senders was) share.took_at X x.taken_at h.makes_room h.takes_rise x.moment short))
      (λ (n : note.mailbox ≢ b).
      let all : times_of for_box b (taken now) now.took_at ≡ X =
      (λ i. times_of for_box b (took i) (x.took_more i)) ∙ times_else for_box b (taken was) was.took_at note x.taken_at keeps.took n in
      subst (λ (l : List ℕ). MakesRoom room l share.took_at) (sym all) h.makes_room)
      (same? note.mailbox b)

  pub put_off : IsShare room b senders now (waits ++ note ∷ []) share
  put_off =
      let up = goes_up in
      let low = h.within in
      let mine : of for_box b (waits ++ note ∷ []) ≡ of for_box b waits ++ of for_box b (note ∷ []) =
      filter-append (λ n. for_box n == b) waits (note ∷ []) in
      record {
        channel = h.channel ∙ sym channel;
        lanes = h.lanes ∙ sym lanes;
        capacity = h.capacity ∙ ap (λ n. n + room) (sym capacity);
        gone = h.gone ∙ sym gone;
        waiting_at = h.waiting_at ++ times_of for_box b (note ∷ []) (x.accepted_at ∷ []);
        as_many = length-append h.waiting_at (times_of for_box b (note ∷ []) (x.accepted_at ∷ []))
            ∙ (λ i. h.as_many i + as_many_times for_box b (note ∷ []) (x.accepted_at ∷ []) refl i)
            ∙ sym (ap length mine ∙ length-append (of for_box b waits) (of for_box b (note ∷ [])));
        as_many_took = h.as_many_took;
        all = ap (of for_box b) took ∙ filter-append (λ n. for_box n == b) (taken was) (note ∷ [])
            ∙ ap (λ l. l ++ of for_box b (note ∷ [])) h.all ∙ append_assoc (taken share) (of for_box b waits) (of for_box b (note ∷ []))
            ∙ ap (λ l. taken share ++ l) (sym mine);
        all_at = (λ i. times_of for_box b (took i) (x.got_more i)) ∙ times_snoc for_box b (taken was) was.got_at note x.accepted_at keeps.got
            ∙ ap (λ l. l ++ times_of for_box b (note ∷ []) (x.accepted_at ∷ [])) h.all_at
            ∙ append_assoc share.got_at h.waiting_at (times_of for_box b (note ∷ []) (x.accepted_at ∷ []));
        makes_room = has_room;
        takes_rise = rises_more 0 (moment_of senders was) share.took_at (moment_of senders now) h.takes_rise up;
        later = h.later;
        within = omega arith;
      }

-- a slip was accepted, so much later is what the thread knows
told_later : (lane : ℕ) (slip : Slip) (senders next : List (Sender Slip)) (inbox : Inbox Note)
    → (o : IsTold (telling_of senders inbox) lane slip senders next true)
    → (sum_by (λ (s : Sender Slip). sum_all s.sent_at) next ≡ sum_by (λ (s : Sender Slip). sum_all s.sent_at) senders + o.when)
told_later lane slip senders next inbox o =
    let f : Sender Slip → ℕ = λ s. sum_all s.sent_at in
    let set = sum_set f senders lane o.sender (given o.sender slip o.when true) o.is in
    let more : sum_all (o.sender.sent_at ++ o.when ∷ []) ≡ sum_all o.sender.sent_at + o.when = sum_more o.sender.sent_at o.when in
    ap (sum_by f) o.after ∙ omega arith

-- what is left of the copies that wait
of_next : (b : ℕ) (front : List Note) (note : Note) (back : List Note) → note.mailbox ≡ b → of for_box b front ≡ []
    → of for_box b (front ++ note ∷ back) ≡ note ∷ of for_box b (front ++ back)
of_next b front note back e none =
    let p : Note → Bool = λ n. for_box n == b in
    filter-append p front (note ∷ back) ∙ ap (λ l. l ++ of for_box b (note ∷ back)) none
    ∙ filter-append p (note ∷ []) back ∙ ap (λ l. l ++ of for_box b back) (of_here for_box b [] note e)
    ∙ ap (λ l. note ∷ l) (sym (filter-append p front back ∙ ap (λ l. l ++ of for_box b back) none))

pub of_others : (b : ℕ) (front : List Note) (note : Note) (back : List Note) → note.mailbox ≢ b
    → of for_box b (front ++ note ∷ back) ≡ of for_box b (front ++ back)
of_others b front note back n =
    let p : Note → Bool = λ m. for_box m == b in
    filter-append p front (note ∷ back)
    ∙ ap (λ l. of for_box b front ++ l) (filter-append p (note ∷ []) back ∙ ap (λ l. l ++ of for_box b back) (of_else for_box b [] note n))
    ∙ sym (filter-append p front back)

-- What the copy's own mailbox has after its turn.
pub record TakesTurn (room b : ℕ) (senders next : List (Sender Slip)) (inbox : Inbox Note) (note : Note) (rest : List Note) (share : Inbox Note) : Type 0 where
  pub after : Inbox Note
  pub took : taken after ≡ taken share ++ note ∷ []
  pub timed : IsTimed (clock_of (senders_for b senders) share) share after
  pub low : clock_of (senders_for b senders) after ≤ telling_of senders inbox
  pub is : IsShare room b next inbox rest after

module _ (room b : ℕ) (senders next : List (Sender Slip)) (inbox : Inbox Note) (note : Note) (waits rest : List Note) (share : Inbox Note) (lane : ℕ) (slip : Slip)
    (o : IsTold (telling_of senders inbox) lane slip senders next true) (m : HaveMoments inbox.got_at inbox.took_at)
    (y : IsNextOf waits note rest) (h : IsShare room b senders inbox waits share) where
  abbrev at : ℕ
  at = moment_of senders inbox + 1

  left : note.mailbox ≡ b → of for_box b waits ≡ note ∷ of for_box b rest
  left e =
      let none : of for_box b y.front ≡ [] = ap (λ n. of for_box n y.front) (sym e) ∙ y.first in
      ap (of for_box b) y.was ∙ of_next b y.front note y.back e none ∙ ap (λ l. note ∷ of for_box b l) (sym y.is)

  turn_of : (e : note.mailbox ≡ b) (q : List ℕ) → h.waiting_at ≡ q → TakesTurn room b senders next inbox note rest share
  turn_of e [] is = let a = ap length is in let c = ap length (left e) in let d = h.as_many in absurd (omega arith)
  turn_of e (a ∷ q) is =
      let after : Inbox Note = record {
        channel = share.channel;
        capacity = share.capacity;
        lanes = share.lanes;
        got = share.got ++ Copy note ∷ [];
        got_at = share.got_at ++ a ∷ [];
        took_at = share.took_at ++ at ∷ [];
        gone = share.gone;
      } in
      let took : taken after ≡ taken share ++ note ∷ [] = messages_more share.got note in
      let there : times_of for_box b (taken inbox) inbox.got_at ≡ share.got_at ++ a ∷ q = h.all_at ∙ ap (λ l. share.got_at ++ l) is in
      let parts : (share.got_at ++ a ∷ []) ++ q ≡ times_of for_box b (taken inbox) inbox.got_at = append_assoc share.got_at (a ∷ []) q ∙ sym there in
      let s1 = sum_has share.got_at a q in
      let s2 : sum_all (share.got_at ++ a ∷ q) ≡ sum_all (times_of for_box b (taken inbox) inbox.got_at) = ap sum_all (sym there) in
      let s3 = sum_fewer for_box b (taken inbox) inbox.got_at in
      let early : a < at = omega arith in
      let rise : RisesTo 0 m.until (share.got_at ++ a ∷ []) =
      rises_prefix 0 m.until (share.got_at ++ a ∷ []) q
      (subst (λ (l : List ℕ). RisesTo 0 m.until l) (sym parts) (rises_for for_box b 0 m.until (taken inbox) inbox.got_at m.rises)) in
      let low = h.within in
      let later = o.later in
      let sum = told_later lane slip senders next inbox o in
      let sums = sums_low b next in
      let was = sums_low b senders in
      let last : last_of 0 (share.took_at ++ at ∷ []) ≡ at = last_one 0 share.took_at at in
      let some = length-append share.took_at (at ∷ []) in
      let long : length (share.took_at ++ at ∷ []) ≡ length (taken after) =
      some ∙ ap (λ n. n + 1) h.as_many_took ∙ sym (length-append (taken share) (note ∷ [])) ∙ ap length (sym took) in
      let count : length q ≡ length (of for_box b rest) =
      let u = ap length is in let v = ap length (left e) in let w = h.as_many in omega arith in
      record {
        after = after;
        took = took;
        timed = record {
          accepted_at = a;
          taken_at = at;
          moment = omega arith;
          later = early;
          got_more = refl;
          took_more = refl;
          timed = record {
            until = m.until + at;
            rises = rises_more 0 m.until (share.got_at ++ a ∷ []) (m.until + at) rise (omega arith);
            takes_rise = rises_snoc 0 (moment_of senders inbox) share.took_at at (m.until + at) h.takes_rise (omega arith) (omega arith);
            later = later_more share.got_at share.took_at a at h.later early;
          };
        };
        low = omega arith;
        is = record {
          channel = h.channel;
          lanes = h.lanes;
          capacity = h.capacity;
          gone = h.gone;
          waiting_at = q;
          as_many = count;
          as_many_took = long;
          all = h.all ∙ ap (λ l. taken share ++ l) (left e) ∙ sym (append_assoc (taken share) (note ∷ []) (of for_box b rest))
              ∙ ap (λ l. l ++ of for_box b rest) (sym took);
          all_at = sym parts;
          makes_room = room_taken room share.took_at (times_of for_box b (taken inbox) inbox.took_at) at h.makes_room;
          takes_rise = rises_snoc 0 (moment_of senders inbox) share.took_at at (moment_of next inbox) h.takes_rise (omega arith) (omega arith);
          later = later_more share.got_at share.took_at a at h.later early;
          within = omega arith;
        };
      }

  pub own_turn : note.mailbox ≡ b → TakesTurn room b senders next inbox note rest share
  own_turn e = turn_of e h.waiting_at refl

  -- another mailbox's copies wait as before
  pub other_turn : note.mailbox ≢ b → slip.worker ≢ b → length o.sender.sent_at ≡ length o.sender.sent → IsShare room b next inbox rest share
  other_turn n away long =
      let same : senders_for b next ≡ senders_for b senders = accepted_else (telling_of senders inbox) lane slip senders next o b away long in
      let wait : of for_box b waits ≡ of for_box b rest =
      ap (of for_box b) y.was ∙ of_others b y.front note y.back n ∙ ap (of for_box b) (sym y.is) in
      let sum = told_later lane slip senders next inbox o in
      let up : moment_of senders inbox ≤ moment_of next inbox = omega arith in
      let low = h.within in
      let clock : clock_of (senders_for b next) share ≡ clock_of (senders_for b senders) share = ap (λ l. clock_of l share) same in
      record {
        channel = h.channel;
        lanes = h.lanes;
        capacity = h.capacity;
        gone = h.gone;
        waiting_at = h.waiting_at;
        as_many = h.as_many ∙ ap length wait;
        as_many_took = h.as_many_took;
        all = h.all ∙ ap (λ l. taken share ++ l) wait;
        all_at = h.all_at;
        makes_room = h.makes_room;
        takes_rise = rises_more 0 (moment_of senders inbox) share.took_at (moment_of next inbox) h.takes_rise up;
        later = h.later;
        within = omega arith;
      }

-- What passed through the thread's channel, to a mailbox of a thread at which nothing waits any more.
pub passes_for_patient : PassesForPatient
passes_for_patient room b senders inbox share sent sent_at long took_long x h =
    let p = passes_for_each b inbox sent sent_at long took_long x in
    let none : h.waiting_at ≡ [] = no_time h.waiting_at h.as_many in
    let got_at : times_of for_box b (taken inbox) inbox.got_at ≡ share.got_at = h.all_at ∙ ap (λ l. share.got_at ++ l) none ∙ append-nil share.got_at in
    let noted : of for_box b (taken inbox) ≡ taken share = h.all ∙ append-nil (taken share) in
    record {
      accepted = p.accepted;
      accepted_at = p.accepted_at;
      as_many = p.as_many;
      until = p.until + moment_of senders inbox;
      rises = rises_more 0 p.until p.accepted_at (p.until + moment_of senders inbox) p.rises (omega arith);
      same = p.same;
      same_at = p.same_at;
      waiting = p.waiting;
      waiting_at = p.waiting_at;
      first = p.first ∙ ap (λ l. l ++ p.waiting) (messages_are b inbox ∙ noted);
      first_at = p.first_at ∙ ap (λ l. l ++ p.waiting_at) got_at;
      takes_rise = rises_more 0 (moment_of senders inbox) share.took_at (p.until + moment_of senders inbox) h.takes_rise (omega arith);
      later = h.later;
      all = λ gone. p.all (sym h.gone ∙ gone);
      makes_room = subst (λ (n : ℕ). MakesRoom n p.accepted_at share.took_at) (sym h.capacity)
          (room_joined inbox.capacity room p.accepted_at (times_of for_box b (taken inbox) inbox.took_at) share.took_at p.makes_room h.makes_room);
    }
