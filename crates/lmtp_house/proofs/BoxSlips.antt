-- A lane's channel of slips that was closed and settled, by the worker threads that gave them, is one by their mailboxes.
use Rattle.std.proofs.Common.{◌≡◌, ℕ, zero, suc, ◌<◌, ◌≤◌, ◌==◌, Bool, true, false, cond, List, [], ◌∷◌, length, get_or, Some, inl, inr, refl, sym, ap, ◌∙◌}
use Rattle.std.proofs.Common.{subst, arith}
use Rattle.std.specs.Prelude.{slice_get}
use Rattle.std.specs.List.{AllByRecursion}
use Rattle.std.proofs.lemmas.Bool.{cases_lt}
use Rattle.std.proofs.lemmas.List.{get_or_past}
use Rattle.std.proofs.lemmas.Option.{get_or_from_slice_get}
use Rattle.mail_world.specs.declared.Slip.{Slip}
use Rattle.mail_runs.specs.Known.{times_of}
use Rattle.mail_runs.proofs.Parts.{fails, other_number}
use Rattle.mail_post.specs.Channel.{Sent, HasPassedThrough}
use Rattle.mail_post.specs.Parcels.{of}
use Rattle.mail_post.specs.WorkerThreads.{worker_thread}
use Rattle.box_worker.specs.Shares.{by_box}
use Rattle.box_worker.proofs.Within.{of_within, times_within}
use Rattle.lmtp_house.proofs.Bridge.{IsSettledAs}

-- the worker thread that gave a slip
abbrev pub by_thread : Slip → ℕ
by_thread slip = worker_thread slip.worker

-- what is said of 0, 1, .. below n
abbrev each_of : {A : Type 0} → (ℕ → A) → ℕ → List A
each_of f zero = []
each_of f (suc n) = f 0 ∷ each_of (λ k. f (suc k)) n

length_each : {A : Type 0} (f : ℕ → A) (n : ℕ) → length (each_of f n) ≡ n
length_each f zero = refl
length_each f (suc n) = ap suc (length_each (λ k. f (suc k)) n)

get_each : {A : Type 0} (f : ℕ → A) (n k : ℕ) → k < n → slice_get (each_of f n) k ≡ Some (f k)
get_each f zero k low = absurd (omega arith)
get_each f (suc n) zero low = refl
get_each f (suc n) (suc k) low = get_each (λ j. f (suc j)) n k (omega arith)

-- slips of mailboxes below n, of which none is of one from n on
abbrev AreBelow : ℕ → List Slip → Type 0
AreBelow n slips = AllByRecursion (λ slip. slip.worker < n) slips

none_above : (n b : ℕ) → n ≤ b → (slips : List Slip) → AreBelow n slips → of by_box b slips ≡ []
none_above n b high [] all = refl
none_above n b high (slip ∷ slips) all =
    let low : slip.worker < n = all.0 in
    fails (λ (s : Slip). s.worker == b) slip slips (other_number slip.worker b (λ e. omega arith)) ∙ none_above n b high slips all.1

-- and where there is none, there is no time of one
no_time_by : (slip : Slip) (slips : List Slip) (t : ℕ) (ts : List ℕ) (is : Bool) → cond is (slip ∷ slips) slips ≡ [] → (slips ≡ [] → ts ≡ [])
    → cond is (t ∷ ts) ts ≡ []
no_time_by slip slips t ts true e rest = absurd (cc)
no_time_by slip slips t ts false e rest = rest e

no_times : (b : ℕ) (slips : List Slip) (ts : List ℕ) → of by_box b slips ≡ [] → times_of by_box b slips ts ≡ []
no_times b [] ts e = refl
no_times b (slip ∷ slips) [] e = refl
no_times b (slip ∷ slips) (t ∷ ts) e = no_time_by slip (of by_box b slips) t (times_of by_box b slips ts) (slip.worker == b) e (no_times b slips ts)

-- n mailboxes, each served by one of those threads, whose slips alone the threads gave
module _ (n threads room : ℕ) (gave : ℕ → List Slip) (gave_at : ℕ → List ℕ) (heard : List Slip) (took_at : List ℕ)
    (c : IsSettledAs by_thread threads room gave gave_at heard took_at) (within : (b : ℕ) → b < n → worker_thread b < threads)
    (only : (t : ℕ) → t < threads → AreBelow n (gave t)) where
  abbrev given : List Slip
  given = c.passed.accepted

  abbrev given_at : List ℕ
  given_at = c.passed.accepted_at

  abbrev box_gave : ℕ → List Slip
  box_gave b = of by_box b (gave (worker_thread b))

  abbrev box_gave_at : ℕ → List ℕ
  box_gave_at b = times_of by_box b (gave (worker_thread b)) (gave_at (worker_thread b))

  thread_gave : (t : ℕ) → t < threads → of by_thread t given ≡ gave t
  thread_gave t low = c.passed.same t ∙ get_or_from_slice_get c.closed.sent t (gave t) [] (c.sent_is t low)

  thread_gave_at : (t : ℕ) → t < threads → times_of by_thread t given given_at ≡ gave_at t
  thread_gave_at t low = c.passed.same_at t ∙ get_or_from_slice_get c.closed.sent_at t (gave_at t) [] (c.sent_at_is t low)

  gave_below : (t : ℕ) → AreBelow n (of by_thread t given)
  gave_below t = elim (cases_lt t threads) [
    | inl low ↦ subst (AreBelow n) (sym (thread_gave t low)) (only t low)
    | inr high ↦
        let none : of by_thread t given ≡ [] = c.passed.same t ∙ get_or_past c.closed.sent t [] (omega (arith, c.count, high)) in
        subst (AreBelow n) (sym none) tt
  ]

  gave_for : (b : ℕ) → b < n → of by_box b given ≡ box_gave b
  gave_for b low = sym (of_within by_box b given) ∙ ap (of by_box b) (thread_gave (worker_thread b) (within b low))

  gave_at_for : (b : ℕ) → b < n → times_of by_box b given given_at ≡ box_gave_at b
  gave_at_for b low =
      let t = worker_thread b in
      sym (times_within by_box b given given_at) ∙ (λ i. times_of by_box b (thread_gave t (within b low) i) (thread_gave_at t (within b low) i))

  gave_none : (b : ℕ) → n ≤ b → of by_box b given ≡ []
  gave_none b high = sym (of_within by_box b given) ∙ none_above n b high (of by_thread (worker_thread b) given) (gave_below (worker_thread b))

  abbrev by_boxes : Sent Slip
  by_boxes = record { channel = c.closed.channel; sent = each_of box_gave n; sent_at = each_of box_gave_at n }

  same_slips : (b : ℕ) → of by_box b given ≡ get_or by_boxes.sent b []
  same_slips b = elim (cases_lt b n) [
    | inl low ↦ gave_for b low ∙ sym (get_or_from_slice_get by_boxes.sent b (box_gave b) [] (get_each box_gave n b low))
    | inr high ↦ gave_none b high ∙ sym (get_or_past by_boxes.sent b [] (omega (arith, length_each box_gave n, high)))
  ]

  same_times : (b : ℕ) → times_of by_box b given given_at ≡ get_or by_boxes.sent_at b []
  same_times b = elim (cases_lt b n) [
    | inl low ↦ gave_at_for b low ∙ sym (get_or_from_slice_get by_boxes.sent_at b (box_gave_at b) [] (get_each box_gave_at n b low))
    | inr high ↦ no_times b given given_at (gave_none b high) ∙ sym (get_or_past by_boxes.sent_at b [] (omega (arith, length_each box_gave_at n, high)))
  ]

  passed : HasPassedThrough by_box c.inbox by_boxes.sent by_boxes.sent_at
  passed = record {
    accepted = given;
    accepted_at = given_at;
    as_many = c.passed.as_many;
    until = c.passed.until;
    rises = c.passed.rises;
    same = same_slips;
    same_at = same_times;
    waiting = c.passed.waiting;
    waiting_at = c.passed.waiting_at;
    first = c.passed.first;
    first_at = c.passed.first_at;
    takes_rise = c.passed.takes_rise;
    later = c.passed.later;
    all = c.passed.all;
    makes_room = c.passed.makes_room;
  }

  pub slips_by : IsSettledAs by_box n room box_gave box_gave_at heard took_at
  slips_by = record {
    inbox = c.inbox;
    closed = by_boxes;
    passed = passed;
    capacity_is = c.capacity_is;
    count = length_each box_gave n;
    sent_is = get_each box_gave n;
    sent_at_is = get_each box_gave_at n;
    got_is = c.got_is;
    took_at_is = c.took_at_is;
  }
