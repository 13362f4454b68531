-- What one thread's ends are to each of its mailboxes, and what one copy more makes of them.
use Rattle.std.proofs.Common.{◌≡◌, ◌≢◌, ◌==◌, ℕ, zero, suc, ◌+◌, ◌≤◌, ◌<◌, List, [], ◌∷◌, ◌++◌, length, Bool, true, false, ◌||◌, cond, Some}
use Rattle.std.proofs.Common.{refl, ap, sym, ◌∙◌, arith, append-nil, length-append}
use Rattle.std.specs.Prelude.{map, sum_by, slice_get, slice_set}
use Rattle.std.proofs.lemmas.Bool.{eq-eqb, ne_eqb, cond-true, cond-false}
use Rattle.std.proofs.lemmas.List.Elements.{filter-append}
use Rattle.std.proofs.lemmas.List.Sums.{sum_by-cons}
use Rattle.mail_world.specs.declared.Note.{Note}
use Rattle.mail_world.specs.declared.Slip.{Slip}
use Rattle.mail_runs.specs.Timed.{RisesTo}
use Rattle.mail_runs.specs.Known.{AreLater, times_of}
use Rattle.mail_post.specs.Times.{last_of, HaveMoments}
use Rattle.mail_post.specs.Parcels.{of, messages}
use Rattle.mail_post.specs.declared.rule.Parcel.TheVariants.{Copy}
use Rattle.mail_post.specs.Channel.{Sender, Inbox, taken, IsTimed, HasSameTimes}
use Rattle.mail_post.specs.Offered.{given, IsOffered, any_gone, HaveNumber}
use Rattle.mail_post.specs.InTime.{clock_of}
use Rattle.box_worker.specs.Shares.{for_box, by_box, inbox_for, sender_for, senders_for, sum_all, total_of, KeepsTimes}

-- lists
pub get_map : {A B : Type 0} (f : A → B) (xs : List A) (i : ℕ) (x : A) → slice_get xs i ≡ Some x → slice_get (map f xs) i ≡ Some (f x)
get_map f [] i x e = cc
get_map f (y ∷ xs) zero x e = let same : y ≡ x = cc in ap (λ z. Some (f z)) same
get_map f (y ∷ xs) (suc i) x e = get_map f xs i x e

-- an element of a mapped list comes from one
pub from_map : {A B : Type 0} (f : A → B) (xs : List A) (i : ℕ) (y : B) → slice_get (map f xs) i ≡ Some y
    → (x : A) × (slice_get xs i ≡ Some x) × (f x ≡ y)
from_map f [] i y e = absurd (cc)
from_map f (x ∷ xs) zero y e = let same : f x ≡ y = cc in (x, refl, same)
from_map f (x ∷ xs) (suc i) y e = from_map f xs i y e

pub map_set : {A B : Type 0} (f : A → B) (xs : List A) (i : ℕ) (y : A) → map f (slice_set xs i y) ≡ slice_set (map f xs) i (f y)
map_set f [] i y = refl
map_set f (x ∷ xs) zero y = refl
map_set f (x ∷ xs) (suc i) y = ap (λ l. f x ∷ l) (map_set f xs i y)

pub set_same : {A : Type 0} (xs : List A) (i : ℕ) (x : A) → slice_get xs i ≡ Some x → slice_set xs i x ≡ xs
set_same [] i x e = refl
set_same (y ∷ xs) zero x e = let same : x ≡ y = cc in ap (λ z. z ∷ xs) same
set_same (y ∷ xs) (suc i) x e = ap (λ l. y ∷ l) (set_same xs i x e)

pub length_kept : {A : Type 0} (xs : List A) (i : ℕ) (x : A) → length (slice_set xs i x) ≡ length xs
length_kept [] i x = refl
length_kept (y ∷ xs) zero x = refl
length_kept (y ∷ xs) (suc i) x = ap suc (length_kept xs i x)

pub messages_copies : {M : Type 0} (ms : List M) → messages (map (λ m. Copy m) ms) ≡ ms
messages_copies [] = refl
messages_copies (m ∷ ms) = ap (λ l. m ∷ l) (messages_copies ms)

-- rising times
pub rises_le : (lo hi : ℕ) (ts : List ℕ) → RisesTo lo hi ts → lo ≤ hi
rises_le lo hi [] r = r
rises_le lo hi (t ∷ ts) r = let a = rises_le t hi ts r.1 in let b : lo < t = r.0 in omega arith

pub rises_lower : (lo mid hi : ℕ) (ts : List ℕ) → lo ≤ mid → RisesTo mid hi ts → RisesTo lo hi ts
rises_lower lo mid hi [] le r = let a : mid ≤ hi = r in omega arith
rises_lower lo mid hi (t ∷ ts) le r = let b : mid < t = r.0 in (omega arith, r.1)

module _ {M : Type 0} (f : M → ℕ) (k : ℕ) where
  pub of_here : (ms : List M) (m : M) → f m ≡ k → of f k (ms ++ m ∷ []) ≡ of f k ms ++ m ∷ []
  of_here ms m e =
      let one : of f k (m ∷ []) ≡ m ∷ [] = cond-true (f m == k) (m ∷ []) [] (eq-eqb (f m) k e) in
      filter-append (λ x. f x == k) ms (m ∷ []) ∙ ap (λ l. of f k ms ++ l) one

  pub of_else : (ms : List M) (m : M) → f m ≢ k → of f k (ms ++ m ∷ []) ≡ of f k ms
  of_else ms m n =
      let none : of f k (m ∷ []) ≡ [] = cond-false (f m == k) (m ∷ []) [] (ne_eqb (f m) k n) in
      filter-append (λ x. f x == k) ms (m ∷ []) ∙ ap (λ l. of f k ms ++ l) none ∙ append-nil (of f k ms)

  pub times_snoc : (ms : List M) (ts : List ℕ) (m : M) (t : ℕ) → length ts ≡ length ms
      → times_of f k (ms ++ m ∷ []) (ts ++ t ∷ []) ≡ times_of f k ms ts ++ times_of f k (m ∷ []) (t ∷ [])
  times_snoc [] [] m t e = refl
  times_snoc [] (x ∷ ts) m t e = absurd (omega arith)
  times_snoc (y ∷ ms) [] m t e = absurd (omega arith)
  times_snoc (y ∷ ms) (x ∷ ts) m t e =
      let more = times_snoc ms ts m t (omega arith) in
      elim (f y == k) as (λ b. cond b (x ∷ times_of f k (ms ++ m ∷ []) (ts ++ t ∷ [])) (times_of f k (ms ++ m ∷ []) (ts ++ t ∷ []))
      ≡ cond b (x ∷ times_of f k ms ts) (times_of f k ms ts) ++ times_of f k (m ∷ []) (t ∷ [])) [
        | true ↦ ap (λ l. x ∷ l) more
        | false ↦ more
      ]

  pub times_here : (ms : List M) (ts : List ℕ) (m : M) (t : ℕ) → length ts ≡ length ms → f m ≡ k
      → times_of f k (ms ++ m ∷ []) (ts ++ t ∷ []) ≡ times_of f k ms ts ++ t ∷ []
  times_here ms ts m t long e =
      let one : times_of f k (m ∷ []) (t ∷ []) ≡ t ∷ [] = cond-true (f m == k) (t ∷ []) [] (eq-eqb (f m) k e) in
      times_snoc ms ts m t long ∙ ap (λ l. times_of f k ms ts ++ l) one

  pub times_else : (ms : List M) (ts : List ℕ) (m : M) (t : ℕ) → length ts ≡ length ms → f m ≢ k
      → times_of f k (ms ++ m ∷ []) (ts ++ t ∷ []) ≡ times_of f k ms ts
  times_else ms ts m t long n =
      let none : times_of f k (m ∷ []) (t ∷ []) ≡ [] = cond-false (f m == k) (t ∷ []) [] (ne_eqb (f m) k n) in
      times_snoc ms ts m t long ∙ ap (λ l. times_of f k ms ts ++ l) none ∙ append-nil (times_of f k ms ts)

  -- those of one mailbox rise as all do
  pub rises_for : (lo hi : ℕ) (ms : List M) (ts : List ℕ) → RisesTo lo hi ts → RisesTo lo hi (times_of f k ms ts)
  rises_for lo hi [] ts r = rises_le lo hi ts r
  rises_for lo hi (m ∷ ms) [] r = r
  rises_for lo hi (m ∷ ms) (t ∷ ts) r =
      let rest = rises_for t hi ms ts r.1 in
      let low : lo < t = r.0 in
      elim (f m == k) as (λ b. RisesTo lo hi (cond b (t ∷ times_of f k ms ts) (times_of f k ms ts))) [
        | true ↦ (low, rest)
        | false ↦ rises_lower lo t hi (times_of f k ms ts) (omega arith) rest
      ]

  pub later_for : (ms : List M) (ss ts : List ℕ) → AreLater ss ts → AreLater (times_of f k ms ss) (times_of f k ms ts)
  later_for [] ss ts h = tt
  later_for (m ∷ ms) [] [] h = tt
  later_for (m ∷ ms) [] (t ∷ ts) h = absurd h
  later_for (m ∷ ms) (s ∷ ss) [] h = absurd h
  later_for (m ∷ ms) (s ∷ ss) (t ∷ ts) h =
      let rest = later_for ms ss ts h.1 in
      elim (f m == k) as (λ b. AreLater (cond b (s ∷ times_of f k ms ss) (times_of f k ms ss)) (cond b (t ∷ times_of f k ms ts) (times_of f k ms ts))) [
        | true ↦ (h.0, rest)
        | false ↦ rest
      ]

  pub moments_for : (ms : List M) (ss ts : List ℕ) → HaveMoments ss ts → HaveMoments (times_of f k ms ss) (times_of f k ms ts)
  moments_for ms ss ts h = record {
    until = h.until;
    rises = rises_for 0 h.until ms ss h.rises;
    takes_rise = rises_for 0 h.until ms ts h.takes_rise;
    later = later_for ms ss ts h.later;
  }

  -- no time of one mailbox is above the sum of all
  last_low : (lo : ℕ) (ms : List M) (ts : List ℕ) → last_of lo (times_of f k ms ts) ≤ lo + sum_all ts
  last_low lo [] ts = omega arith
  last_low lo (m ∷ ms) [] = omega arith
  last_low lo (m ∷ ms) (t ∷ ts) =
      let here : last_of t (times_of f k ms ts) ≤ t + sum_all ts = last_low t ms ts in
      let else : last_of lo (times_of f k ms ts) ≤ lo + sum_all ts = last_low lo ms ts in
      elim (f m == k) as (λ b. last_of lo (cond b (t ∷ times_of f k ms ts) (times_of f k ms ts)) ≤ lo + (t + sum_all ts)) [
        | true ↦ omega arith
        | false ↦ omega arith
      ]

  pub last_within : (ms : List M) (ts : List ℕ) → last_of 0 (times_of f k ms ts) ≤ sum_all ts
  last_within ms ts = let a = last_low 0 ms ts in omega arith

pub sums_low : (b : ℕ) (senders : List (Sender Slip))
    → sum_by (λ (s : Sender Slip). last_of 0 s.sent_at) (senders_for b senders) ≤ sum_by (λ (s : Sender Slip). sum_all s.sent_at) senders
sums_low b [] = omega arith
sums_low b (s ∷ senders) =
    let rest = sums_low b senders in
    let one = last_within by_box b s.sent s.sent_at in
    omega (
      arith,
      sum_by-cons (λ (x : Sender Slip). last_of 0 x.sent_at) (sender_for b s) (senders_for b senders),
      sum_by-cons (λ (x : Sender Slip). sum_all x.sent_at) s senders,
    )

-- what a mailbox's ends know is within what the thread knows
pub clock_within : (b : ℕ) (senders : List (Sender Slip)) (inbox : Inbox Note) → clock_of (senders_for b senders) (inbox_for b inbox) ≤ total_of senders inbox
clock_within b senders inbox =
    let a = sums_low b senders in
    let c = last_within for_box b (taken inbox) inbox.took_at in
    omega arith

-- a copy was taken
module _ (senders : List (Sender Slip)) (was now : Inbox Note) (note : Note) (keeps : KeepsTimes senders was) (took : taken now ≡ taken was ++ note ∷ [])
    (x : IsTimed (total_of senders was) was now) where
  got_at_is : (b : ℕ) → note.mailbox ≡ b → times_of for_box b (taken now) now.got_at ≡ times_of for_box b (taken was) was.got_at ++ x.accepted_at ∷ []
  got_at_is b e = (λ i. times_of for_box b (took i) (x.got_more i)) ∙ times_here for_box b (taken was) was.got_at note x.accepted_at keeps.got e

  took_at_is : (b : ℕ) → note.mailbox ≡ b → times_of for_box b (taken now) now.took_at ≡ times_of for_box b (taken was) was.took_at ++ x.taken_at ∷ []
  took_at_is b e = (λ i. times_of for_box b (took i) (x.took_more i)) ∙ times_here for_box b (taken was) was.took_at note x.taken_at keeps.took e

  -- of its mailbox
  pub timed_for : (b : ℕ) → note.mailbox ≡ b → IsTimed (clock_of (senders_for b senders) (inbox_for b was)) (inbox_for b was) (inbox_for b now)
  timed_for b e =
      let low = clock_within b senders was in
      let moment = x.moment in record {
        accepted_at = x.accepted_at;
        taken_at = x.taken_at;
        moment = omega arith;
        later = x.later;
        got_more = got_at_is b e;
        took_more = took_at_is b e;
        timed = moments_for for_box b (taken now) now.got_at now.took_at x.timed;
      }

  pub taken_for : (b : ℕ) → note.mailbox ≡ b → taken (inbox_for b now) ≡ taken (inbox_for b was) ++ note ∷ []
  taken_for b e =
      messages_copies (of for_box b (taken now)) ∙ ap (of for_box b) took ∙ of_here for_box b (taken was) note e
      ∙ ap (λ l. l ++ note ∷ []) (sym (messages_copies (of for_box b (taken was))))

  -- of any other mailbox nothing changes
  pub same_for : (channel : now.channel ≡ was.channel) (capacity : now.capacity ≡ was.capacity) (lanes : now.lanes ≡ was.lanes) (gone : now.gone ≡ was.gone)
      (b : ℕ) → note.mailbox ≢ b → inbox_for b now ≡ inbox_for b was
  same_for channel capacity lanes gone b n =
      let got : of for_box b (taken now) ≡ of for_box b (taken was) = ap (of for_box b) took ∙ of_else for_box b (taken was) note n in
      let got_at : times_of for_box b (taken now) now.got_at ≡ times_of for_box b (taken was) was.got_at =
      (λ i. times_of for_box b (took i) (x.got_more i)) ∙ times_else for_box b (taken was) was.got_at note x.accepted_at keeps.got n in
      let took_at : times_of for_box b (taken now) now.took_at ≡ times_of for_box b (taken was) was.took_at =
      (λ i. times_of for_box b (took i) (x.took_more i)) ∙ times_else for_box b (taken was) was.took_at note x.taken_at keeps.took n in
      λ i. record {
        channel = channel i;
        capacity = capacity i;
        lanes = lanes i;
        got = map (λ m. Copy m) (got i);
        got_at = got_at i;
        took_at = took_at i;
        gone = gone i;
      }

  -- and each copy still has its times
  pub keeps_took : KeepsTimes senders now
  keeps_took = record {
    got = ap length x.got_more ∙ length-append was.got_at (x.accepted_at ∷ []) ∙ ap (λ n. n + 1) keeps.got
        ∙ sym (length-append (taken was) (note ∷ [])) ∙ ap length (sym took);
    took = ap length x.took_more ∙ length-append was.took_at (x.taken_at ∷ []) ∙ ap (λ n. n + 1) keeps.took
        ∙ sym (length-append (taken was) (note ∷ [])) ∙ ap length (sym took);
    sent = keeps.sent;
  }

-- no copy was taken, though the channel may have ended
pub taken_still : (b : ℕ) (was now : Inbox Note) → taken now ≡ taken was → taken (inbox_for b now) ≡ taken (inbox_for b was)
taken_still b was now same = messages_copies (of for_box b (taken now)) ∙ ap (of for_box b) same ∙ sym (messages_copies (of for_box b (taken was)))

pub none_taken : (b : ℕ) (inbox : Inbox Note) → taken inbox ≡ [] → taken (inbox_for b inbox) ≡ []
none_taken b inbox none = messages_copies (of for_box b (taken inbox)) ∙ ap (of for_box b) none

pub times_still : (b : ℕ) (was now : Inbox Note) → taken now ≡ taken was → HasSameTimes was now → HasSameTimes (inbox_for b was) (inbox_for b now)
times_still b was now same at = ((λ i. times_of for_box b (same i) (at.0 i)), (λ i. times_of for_box b (same i) (at.1 i)))

-- a slip was offered
sender_given : (b : ℕ) (sender : Sender Slip) (slip : Slip) (t : ℕ) (accepted : Bool) → length sender.sent_at ≡ length sender.sent → slip.worker ≡ b
    → sender_for b (given sender slip t accepted) ≡ given (sender_for b sender) slip t accepted
sender_given b sender slip t true long e =
    λ i. record {
      channel = sender.channel;
      number = b;
      sent = of_here by_box b sender.sent slip e i;
      sent_at = times_here by_box b sender.sent sender.sent_at slip t long e i;
      gone = sender.gone;
    }
sender_given b sender slip t false long e = refl

sender_else : (b : ℕ) (sender : Sender Slip) (slip : Slip) (t : ℕ) → length sender.sent_at ≡ length sender.sent → slip.worker ≢ b
    → sender_for b (given sender slip t true) ≡ sender_for b sender
sender_else b sender slip t long n =
    λ i. record {
      channel = sender.channel;
      number = b;
      sent = of_else by_box b sender.sent slip n i;
      sent_at = times_else by_box b sender.sent sender.sent_at slip t long n i;
      gone = sender.gone;
    }

module _ (after lane : ℕ) (slip : Slip) (old new : List (Sender Slip)) where
  abbrev pub IsTold : Bool → Type 0
  IsTold accepted = IsOffered after lane (λ (s : Sender Slip). slip) accepted old new

  -- by its own mailbox
  pub offered_for : (accepted : Bool) (o : IsTold accepted) (low b : ℕ) (message : Sender Slip → Slip) → low ≤ after → slip.worker ≡ b
      → message (sender_for b o.sender) ≡ slip → length o.sender.sent_at ≡ length o.sender.sent
      → IsOffered low lane message accepted (senders_for b old) (senders_for b new)
  offered_for accepted o low b message le e same long =
      let later = o.later in record {
        sender = sender_for b o.sender;
        is = get_map (sender_for b) old lane o.sender o.is;
        when = o.when;
        later = omega arith;
        after = ap (map (sender_for b)) o.after ∙ map_set (sender_for b) old lane (given o.sender slip o.when accepted)
            ∙ ap (slice_set (senders_for b old) lane) (sender_given b o.sender slip o.when accepted long e
            ∙ ap (λ (s : Slip). given (sender_for b o.sender) s o.when accepted) (sym same));
      }

  -- any other mailbox's senders stay, or one of them tells from now on that its channel is gone
  pub accepted_else : (o : IsTold true) (b : ℕ) → slip.worker ≢ b → length o.sender.sent_at ≡ length o.sender.sent
      → senders_for b new ≡ senders_for b old
  accepted_else o b n long =
      ap (map (sender_for b)) o.after ∙ map_set (sender_for b) old lane (given o.sender slip o.when true)
      ∙ ap (slice_set (senders_for b old) lane) (sender_else b o.sender slip o.when long n)
      ∙ set_same (senders_for b old) lane (sender_for b o.sender) (get_map (sender_for b) old lane o.sender o.is)

  pub back_else : (o : IsTold false) (b : ℕ) → IsOffered after lane (λ (s : Sender Slip). slip) false (senders_for b old) (senders_for b new)
  back_else o b = record {
    sender = sender_for b o.sender;
    is = get_map (sender_for b) old lane o.sender o.is;
    when = o.when;
    later = o.later;
    after = ap (map (sender_for b)) o.after ∙ map_set (sender_for b) old lane (given o.sender slip o.when false);
  }

-- whether a channel was found gone is the thread's to say
pub gone_for : (b : ℕ) (senders : List (Sender Slip)) → any_gone (senders_for b senders) ≡ any_gone senders
gone_for b [] = refl
gone_for b (s ∷ senders) = ap (λ t. s.gone || t) (gone_for b senders)

-- each sender has the mailbox's number
pub numbered_for : (b : ℕ) (senders : List (Sender Slip)) → HaveNumber b (senders_for b senders)
numbered_for b senders at sender is =
    let from = from_map (sender_for b) senders at sender is in
    ap (λ (s : Sender Slip). s.number) (sym from.2)
