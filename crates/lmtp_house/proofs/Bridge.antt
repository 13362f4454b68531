-- From what threads were told at their ends of the channels to one order of all that they did.
use Rattle.std.proofs.Common.{◌≡◌, ℕ, suc, ◌+◌, ◌<◌, ◌≤◌, ◌==◌, List, [], ◌∷◌, ◌++◌, length, get_or, Some, inl, inr, refl, ap, sym, ◌∙◌, subst, append-nil}
use Rattle.std.proofs.Common.{arith, length-append}
use Rattle.std.specs.Prelude.{◌⊎◌, flat_map, slice_get, sum_by}
use Rattle.std.proofs.lemmas.Bool.{cases_lt}
use Rattle.std.proofs.lemmas.List.{append_cancel_left, get_or_past}
use Rattle.std.proofs.lemmas.List.Elements.{filter-append}
use Rattle.std.proofs.lemmas.List.Sums.{sum_by-cons}
use Rattle.std.proofs.lemmas.Option.{slice_get_within, get_or_from_slice_get}
use Rattle.mail_world.specs.Slips.{slips_from}
use Rattle.mail_world.specs.Lists.{copies, copies_owed}
use Rattle.mail_world.proofs.OtherSteps.{there_is}
use Rattle.mail_runs.specs.Deeds.{Deed, slips_to, turns_of}
use Rattle.mail_runs.specs.Courses.{Server, outcomes_in}
use Rattle.mail_runs.specs.Histories.{Threads}
use Rattle.mail_runs.specs.Timed.{TimedDeed, whats, times, those, gives_to, tells_to, RisesTo}
use Rattle.mail_runs.specs.Known.{ComeOut, Moments, HavePassed, times_of, is_heard, is_taken, AreLaneDeeds, AreWorkerDeeds, Known, AreKnown}
use Rattle.mail_runs.specs.Ordered.{AreExchanges, MakesRoom, IsOrderlyHistory, AreKnownInOrder}
use Rattle.mail_post.specs.Parcels.{of}
use Rattle.mail_post.specs.Times.{last_of}
use Rattle.mail_post.specs.Channel.{Sender, Inbox, Sent, taken, HasPassedThrough}
use Rattle.mail_post.specs.InTime.{Ends, clock_of, Sorts, AreInTime}
use Rattle.mail_runs.proofs.Parts.{passes, same_number}
use Rattle.mail_runs.proofs.Known.{later_many, heard_many, taken_many}
use Rattle.mail_runs.proofs.KnownInOrder.{known_in_order}

-- a thread's ends before it did anything
pub record AreFresh {A B : Type 0} (ends : Ends A B) : Type 0 where
  pub senders : (at : ℕ) (sender : Sender A) → slice_get ends.senders at ≡ Some sender → sender.sent_at ≡ []
  pub inbox : ends.inbox.took_at ≡ []

-- all that a thread did at its ends
pub record HasDoneAll {A B : Type 0} (sorts : Sorts) (deeds : List TimedDeed) (ends : Ends A B) : Type 0 where
  pub until : ℕ
  pub rises : RisesTo 0 until (times deeds)
  pub gave : (at : ℕ) (sender : Sender A) → slice_get ends.senders at ≡ Some sender → sender.sent_at ≡ times (those (sorts.gives at) deeds)
  pub took : ends.inbox.took_at ≡ times (those sorts.takes deeds)

no_sum : {A : Type 0} (f : A → ℕ) (xs : List A) → ((i : ℕ) (x : A) → slice_get xs i ≡ Some x → f x ≡ 0) → sum_by f xs ≡ 0
no_sum f [] each = refl
no_sum f (x ∷ xs) each =
    let here : f x ≡ 0 = each 0 x refl in
    let more : sum_by f xs ≡ 0 = no_sum f xs (λ i y is. each (suc i) y is) in omega (arith, sum_by-cons f x xs)

module _ {A B : Type 0} where
  fresh_clock : (ends : Ends A B) → AreFresh ends → clock_of ends.senders ends.inbox ≡ 0
  fresh_clock ends fresh =
      let given : sum_by (λ (s : Sender A). last_of 0 s.sent_at) ends.senders ≡ 0 =
      no_sum (λ (s : Sender A). last_of 0 s.sent_at) ends.senders (λ i s is. ap (last_of 0) (fresh.senders i s is)) in
      let took : last_of 0 ends.inbox.took_at ≡ 0 = ap (last_of 0) fresh.inbox in omega arith

  pub has_ended : (sorts : Sorts) (deeds : List TimedDeed) (old new : Ends A B) → AreFresh old → AreInTime sorts deeds old new → HasDoneAll sorts deeds new
  has_ended sorts deeds old new fresh h = record {
    until = clock_of new.senders new.inbox;
    rises = subst (λ lo. RisesTo lo (clock_of new.senders new.inbox) (times deeds)) (fresh_clock old fresh) h.rises;
    gave = λ at sender is.
        let before = there_is old.senders at (let low : at < length new.senders = slice_get_within new.senders at sender is in omega (arith, h.as_many)) in
        h.gave at before.0 sender before.1 is ∙ ap (λ l. l ++ times (those (sorts.gives at) deeds)) (fresh.senders at before.0 before.1);
    took = h.took ∙ ap (λ l. l ++ times (those sorts.takes deeds)) fresh.inbox;
  }

-- A channel of n senders and that capacity that was closed and settled: what each was told was accepted, and when, what
-- was taken, and when.
pub record IsSettledAs {M : Type 0} (lane : M → ℕ) (n capacity : ℕ) (sent : ℕ → List M) (sent_at : ℕ → List ℕ) (got : List M) (took_at : List ℕ) : Type 0 where
  pub inbox : Inbox M
  pub closed : Sent M
  pub passed : HasPassedThrough lane inbox closed.sent closed.sent_at
  pub capacity_is : inbox.capacity ≡ capacity
  pub count : length closed.sent ≡ n
  pub sent_is : (k : ℕ) → k < n → slice_get closed.sent k ≡ Some (sent k)
  pub sent_at_is : (k : ℕ) → k < n → slice_get closed.sent_at k ≡ Some (sent_at k)
  pub got_is : taken inbox ≡ got
  pub took_at_is : inbox.took_at ≡ took_at

-- the same, where it is said otherwise
pub said_otherwise : {M : Type 0} (lane : M → ℕ) (n capacity : ℕ) (sent sent' : ℕ → List M) (sent_at sent_at' : ℕ → List ℕ) (got got' : List M)
    (took_at took_at' : List ℕ) → ((k : ℕ) → k < n → sent k ≡ sent' k) → ((k : ℕ) → k < n → sent_at k ≡ sent_at' k) → got ≡ got' → took_at ≡ took_at'
    → IsSettledAs lane n capacity sent sent_at got took_at → IsSettledAs lane n capacity sent' sent_at' got' took_at'
said_otherwise lane n capacity sent sent' sent_at sent_at' got got' took_at took_at' same same_at same_got same_took c = record {
  inbox = c.inbox;
  closed = c.closed;
  passed = c.passed;
  capacity_is = c.capacity_is;
  count = c.count;
  sent_is = λ k low. c.sent_is k low ∙ (λ i. Some (same k low i));
  sent_at_is = λ k low. c.sent_at_is k low ∙ (λ i. Some (same_at k low i));
  got_is = c.got_is ∙ same_got;
  took_at_is = c.took_at_is ∙ same_took;
}

-- its moments
pub record HasMoments {M : Type 0} (lane : M → ℕ) (n capacity : ℕ) (sent_at : ℕ → List ℕ) (got : List M) (took_at : List ℕ) (at : Moments) : Type 0 where
  pub passed : HavePassed at
  pub gave : (k : ℕ) → k < n → times_of lane k got at.accepted ≡ sent_at k
  pub took : at.taken ≡ took_at
  pub makes_room : MakesRoom capacity at.accepted at.taken

no_first : {A : Type 0} (xs ys : List A) → xs ++ ys ≡ [] → xs ≡ []
no_first [] ys e = refl
no_first (x ∷ xs) ys e = absurd (cc)

no_length : {A : Type 0} (xs : List A) → length xs ≡ 0 → xs ≡ []
no_length [] e = refl
no_length (x ∷ xs) e = absurd (omega arith)

module _ {M : Type 0} (lane : M → ℕ) where
  -- nothing is of any lane
  of_none : (ms : List M) → ((k : ℕ) → of lane k ms ≡ []) → ms ≡ []
  of_none [] each = refl
  of_none (m ∷ ms) each =
      let here : m ∷ of lane (lane m) ms ≡ [] = sym (passes (λ (x : M). lane x == lane m) m ms (same_number (lane m) (lane m) refl)) ∙ each (lane m) in
      absurd (cc)

  module _ (n capacity : ℕ) (sent : ℕ → List M) (sent_at : ℕ → List ℕ) (got : List M) (took_at : List ℕ)
      (c : IsSettledAs lane n capacity sent sent_at got took_at) (each : (k : ℕ) → k < n → of lane k got ≡ sent k) (many : length took_at ≡ length got) where
    all_split : (k : ℕ) → of lane k (taken c.inbox) ++ of lane k c.passed.waiting ≡ get_or c.closed.sent k []
    all_split k = sym (ap (of lane k) c.passed.first ∙ filter-append (λ (m : M). lane m == k) (taken c.inbox) c.passed.waiting) ∙ c.passed.same k

    -- all was taken, and nothing waits
    took_all : (k : ℕ) → of lane k (taken c.inbox) ≡ get_or c.closed.sent k []
    took_all k = elim (cases_lt k n) [
      | inl low ↦ ap (of lane k) c.got_is ∙ each k low ∙ sym (get_or_from_slice_get c.closed.sent k (sent k) [] (c.sent_is k low))
      | inr high ↦
          let none : get_or c.closed.sent k [] ≡ [] = get_or_past c.closed.sent k [] (omega (arith, c.count, high)) in
          no_first (of lane k (taken c.inbox)) (of lane k c.passed.waiting) (all_split k ∙ none) ∙ sym none
    ]

    none_waits : c.passed.waiting ≡ []
    none_waits = of_none c.passed.waiting (λ k. append_cancel_left (of lane k (taken c.inbox)) (of lane k c.passed.waiting) []
        (all_split k ∙ sym (took_all k) ∙ sym (append-nil (of lane k (taken c.inbox)))))

    accepted_is : c.passed.accepted ≡ got
    accepted_is = c.passed.first ∙ ap (λ l. taken c.inbox ++ l) none_waits ∙ append-nil (taken c.inbox) ∙ c.got_is

    got_many : length c.inbox.got_at ≡ length got
    got_many = later_many c.inbox.got_at c.inbox.took_at c.passed.later ∙ ap length c.took_at_is ∙ many

    accepted_at_is : c.passed.accepted_at ≡ c.inbox.got_at
    accepted_at_is =
        let both : length c.passed.accepted_at ≡ length c.inbox.got_at + length c.passed.waiting_at =
        ap length c.passed.first_at ∙ length-append c.inbox.got_at c.passed.waiting_at in
        let all : length c.passed.accepted_at ≡ length got = c.passed.as_many ∙ ap length accepted_is in
        let none : c.passed.waiting_at ≡ [] = no_length c.passed.waiting_at (let g = got_many in omega arith) in
        c.passed.first_at ∙ ap (λ l. c.inbox.got_at ++ l) none ∙ append-nil c.inbox.got_at

    abbrev moments : Moments
    moments = record { accepted = c.inbox.got_at; taken = c.inbox.took_at }

    has_moments : HasMoments lane n capacity sent_at got took_at moments
    has_moments = record {
      passed = record {
        until = c.passed.until;
        rises = subst (λ ts. RisesTo 0 c.passed.until ts) accepted_at_is c.passed.rises;
        later = c.passed.later;
      };
      gave = λ k low. sym (λ i. times_of lane k (accepted_is i) (accepted_at_is i)) ∙ c.passed.same_at k
          ∙ get_or_from_slice_get c.closed.sent_at k (sent_at k) [] (c.sent_at_is k low);
      took = c.took_at_is;
      makes_room = subst (λ m. MakesRoom m c.inbox.got_at c.inbox.took_at) c.capacity_is
          (subst (λ ts. MakesRoom c.inbox.capacity ts c.inbox.took_at) accepted_at_is c.passed.makes_room);
    }

-- those of channel i, where it is below n, and else none
module _ (n : ℕ) (P : ℕ → Moments → Type 0) where
  abbrev Chosen : ℕ → Type 0
  Chosen i = (m : Moments) × (i < n → P i m)

  choose_by : (i : ℕ) → (i < n) ⊎ (n ≤ i) → ((low : i < n) → (m : Moments) × P i m) → Chosen i
  choose_by i (inl low) each = let e = each low in (e.0, λ l. e.1)
  choose_by i (inr high) each = (record { accepted = []; taken = [] }, λ low. absurd (omega arith))

  choose : ((i : ℕ) → i < n → (m : Moments) × P i m) → (i : ℕ) → Chosen i
  choose each i = choose_by i (cases_lt i n) (λ low. each i low)

-- All threads were joined and all channels settled, those of the mailboxes of that capacity, and each lane sent one
-- message after the other.
pub record AreJoined (room capacity : ℕ) (s : Server) (t : Threads) : Type 0 where
  pub came_out : ComeOut s t
  pub lane_deeds : ℕ → List TimedDeed
  pub worker_deeds : ℕ → List TimedDeed
  pub lanes : (k : ℕ) → k < s.lanes → AreLaneDeeds (flat_map (copies k) (t.transactions k)) (t.heard k) (lane_deeds k)
  pub workers : (b : ℕ) → b < s.boxes → AreWorkerDeeds (turns_of b (t.courses b).taken (outcomes_in (t.courses b).turns)) (worker_deeds b)
  pub exchanges : (k : ℕ) → k < s.lanes → AreExchanges room k (t.transactions k) (whats (lane_deeds k))
  pub mail : (b : ℕ) → b < s.boxes → IsSettledAs (λ note. note.txn.lane) s.lanes capacity (λ k. copies_owed k b (t.transactions k))
      (λ k. times (those (gives_to b) (lane_deeds k))) (t.courses b).taken (times (those is_taken (worker_deeds b)))
  pub slip_room : ℕ → ℕ
  pub slips : (k : ℕ) → k < s.lanes → IsSettledAs (λ slip. slip.worker) s.boxes (slip_room k)
      (λ b. slips_to k (slips_from b (outcomes_in (t.courses b).turns) (t.courses b).taken))
      (λ b. times (those (tells_to k) (worker_deeds b))) (t.heard k) (times (those is_heard (lane_deeds k)))

module _ (room capacity : ℕ) (s : Server) (t : Threads) (j : AreJoined room capacity s t) where
  abbrev IsMail : ℕ → Moments → Type 0
  IsMail b at = HasMoments (λ note. note.txn.lane) s.lanes capacity (λ k. times (those (gives_to b) (j.lane_deeds k))) (t.courses b).taken
      (times (those is_taken (j.worker_deeds b))) at

  abbrev IsSlips : ℕ → Moments → Type 0
  IsSlips k at = HasMoments (λ slip. slip.worker) s.boxes (j.slip_room k) (λ b. times (those (tells_to k) (j.worker_deeds b))) (t.heard k)
      (times (those is_heard (j.lane_deeds k))) at

  mail_moments : (b : ℕ) → b < s.boxes → (m : Moments) × IsMail b m
  mail_moments b box =
      let c = j.mail b box in (
        _,
        has_moments (λ note. note.txn.lane) s.lanes capacity (λ k. copies_owed k b (t.transactions k)) (λ k. times (those (gives_to b) (j.lane_deeds k)))
            (t.courses b).taken (times (those is_taken (j.worker_deeds b))) c (λ k low. j.came_out.taken k b low box)
            (taken_many s b (t.courses b) (j.worker_deeds b) (j.came_out.courses b box) (j.workers b box).turned),
      )

  slip_moments : (k : ℕ) → k < s.lanes → (m : Moments) × IsSlips k m
  slip_moments k low =
      let c = j.slips k low in (
        _,
        has_moments (λ slip. slip.worker) s.boxes (j.slip_room k) (λ b. slips_to k (slips_from b (outcomes_in (t.courses b).turns) (t.courses b).taken))
            (λ b. times (those (tells_to k) (j.worker_deeds b))) (t.heard k) (times (those is_heard (j.lane_deeds k))) c (λ b box. j.came_out.heard k b low box)
            (heard_many (t.heard k) (j.lane_deeds k) (j.lanes k low).heard),
      )

  mail_at : (b : ℕ) → Chosen s.boxes IsMail b
  mail_at = choose s.boxes IsMail mail_moments

  slips_at : (k : ℕ) → Chosen s.lanes IsSlips k
  slips_at = choose s.lanes IsSlips slip_moments

  abbrev known : Known
  known = record { lanes = j.lane_deeds; workers = j.worker_deeds; copies = λ b. (mail_at b).0; slips = λ k. (slips_at k).0 }

  are_known : AreKnown s t known
  are_known = record {
    came_out = j.came_out;
    lanes = j.lanes;
    workers = j.workers;
    copies = λ b box. ((mail_at b).1 box).passed;
    slips = λ k low. ((slips_at k).1 low).passed;
    gave = λ k b low box. ((mail_at b).1 box).gave k low;
    took = λ b box. ((mail_at b).1 box).took;
    told = λ k b low box. ((slips_at k).1 low).gave b box;
    heard = λ k low. ((slips_at k).1 low).took;
  }

  are_in_order : AreKnownInOrder room capacity s t known
  are_in_order = record { known = are_known; exchanges = j.exchanges; makes_room = λ b box. ((mail_at b).1 box).makes_room }

  -- then there is an order of all that they did
  pub joined_in_order : (deeds : List Deed) × IsOrderlyHistory room capacity s t deeds
  joined_in_order = known_in_order room capacity s t known are_in_order
