-- What passed through a channel, mailbox by mailbox.
use Rattle.std.proofs.Common.{◌≡◌, ◌==◌, ℕ, zero, suc, ◌≤◌, ◌<◌, List, [], ◌∷◌, ◌++◌, length, drop, Bool, true, false, cond}
use Rattle.std.proofs.Common.{refl, ap, sym, ◌∙◌, subst, arith, append-nil, slice_index_or}
use Rattle.std.specs.Prelude.{map}
use Rattle.std.proofs.lemmas.Bool.{cond-true, cond-false}
use Rattle.std.proofs.lemmas.List.Elements.{filter-append}
use Rattle.mail_world.specs.declared.Note.{Note}
use Rattle.mail_runs.proofs.Parts.{passes, fails}
use Rattle.mail_runs.proofs.ByTime.{filter_twice}
use Rattle.mail_runs.specs.Timed.{RisesTo}
use Rattle.mail_runs.specs.Known.{times_of}
use Rattle.mail_runs.specs.Ordered.{AreBefore, MakesRoom}
use Rattle.mail_post.specs.Parcels.{of}
use Rattle.mail_post.specs.Channel.{taken}
use Rattle.box_worker.specs.Shares.{for_box, inbox_for}
use Rattle.box_worker.specs.Passing.{sent_at_for, PassesForEach}
use Rattle.box_worker.proofs.Shares.{rises_for, later_for, messages_copies}

-- no room is left, so no more was accepted
no_more : (n : ℕ) (xs : List ℕ) → AreBefore [] (drop n xs) → length xs ≤ n
no_more n [] h = omega arith
no_more zero (x ∷ xs) h = absurd h
no_more (suc n) (x ∷ xs) h = let rest = no_more n xs h in omega arith

as_few : (n : ℕ) (xs : List ℕ) → length xs ≤ n → AreBefore [] (drop n xs)
as_few zero [] le = tt
as_few (suc n) [] le = tt
as_few zero (x ∷ xs) le = absurd (omega arith)
as_few (suc n) (x ∷ xs) le = as_few n xs (omega arith)

-- the element at that place, if there is one, is above t
abbrev IsAbove : ℕ → ℕ → List ℕ → Type 0
IsAbove t n [] = Unit {0}
IsAbove t zero (x ∷ xs) = t < x
IsAbove t (suc n) (x ∷ xs) = IsAbove t n xs

above_first : (t n : ℕ) (took acc : List ℕ) → AreBefore (t ∷ took) (drop n acc) → IsAbove t n acc
above_first t n took [] h = tt
above_first t zero took (x ∷ acc) h = h.0
above_first t (suc n) took (x ∷ acc) h = above_first t n took acc h

before_rest : (t n : ℕ) (took acc : List ℕ) → AreBefore (t ∷ took) (drop n acc) → AreBefore took (drop (suc n) acc)
before_rest t n took [] h = tt
before_rest t zero took (x ∷ acc) h = h.1
before_rest t (suc n) took (x ∷ acc) h = before_rest t n took acc h

before_first : (t n : ℕ) (took acc : List ℕ) → IsAbove t n acc → AreBefore took (drop (suc n) acc) → AreBefore (t ∷ took) (drop n acc)
before_first t zero took [] above rest = tt
before_first t (suc n) took [] above rest = tt
before_first t zero took (x ∷ acc) above rest = (above, rest)
before_first t (suc n) took (x ∷ acc) above rest = before_first t n took acc above rest

-- above what rises
above_low : (t n lo hi : ℕ) (xs : List ℕ) → RisesTo lo hi xs → t ≤ lo → IsAbove t n xs
above_low t n lo hi [] r le = tt
above_low t zero lo hi (x ∷ xs) r le = let a : lo < x = r.0 in omega arith
above_low t (suc n) lo hi (x ∷ xs) r le = let a : lo < x = r.0 in above_low t n x hi xs r.1 (omega arith)

above_next : (t n lo hi : ℕ) (xs : List ℕ) → RisesTo lo hi xs → IsAbove t n xs → IsAbove t (suc n) xs
above_next t n lo hi [] r h = tt
above_next t zero lo hi (x ∷ xs) r h = let a : t < x = h in above_low t zero x hi xs r.1 (omega arith)
above_next t (suc n) lo hi (x ∷ xs) r h = above_next t n x hi xs r.1 h

module _ {M : Type 0} (f : M → ℕ) (k : ℕ) where
  fewer : (ms : List M) (ts : List ℕ) → length (times_of f k ms ts) ≤ length ts
  fewer [] ts = omega arith
  fewer (m ∷ ms) [] = omega arith
  fewer (m ∷ ms) (t ∷ ts) =
      let rest = fewer ms ts in
      elim (f m == k) as (λ b. length (cond b (t ∷ times_of f k ms ts) (times_of f k ms ts)) ≤ length (t ∷ ts)) [
        | true ↦ omega arith
        | false ↦ omega arith
      ]

  -- of what rises, what is left at a place is no earlier than what stood there
  above_for : (t n lo hi : ℕ) (ms : List M) (ts : List ℕ) → RisesTo lo hi ts → IsAbove t n ts → IsAbove t n (times_of f k ms ts)
  above_for t n lo hi [] ts r h = tt
  above_for t n lo hi (m ∷ ms) [] r h = tt
  above_for t zero lo hi (m ∷ ms) (x ∷ ts) r h =
      let above : t < x = h in
      let rest = above_low t zero x hi (times_of f k ms ts) (rises_for f k x hi ms ts r.1) (omega arith) in
      elim (f m == k) as (λ b. IsAbove t zero (cond b (x ∷ times_of f k ms ts) (times_of f k ms ts))) [
        | true ↦ above
        | false ↦ rest
      ]
  above_for t (suc n) lo hi (m ∷ ms) (x ∷ ts) r h =
      let rest = above_for t n x hi ms ts r.1 h in
      let next = above_next t n x hi (times_of f k ms ts) (rises_for f k x hi ms ts r.1) rest in
      elim (f m == k) as (λ b. IsAbove t (suc n) (cond b (x ∷ times_of f k ms ts) (times_of f k ms ts))) [
        | true ↦ rest
        | false ↦ next
      ]

  before_for : (ms : List M) (took acc : List ℕ) → AreBefore took acc → AreBefore (times_of f k ms took) (times_of f k ms acc)
  before_for [] took acc h = tt
  before_for (m ∷ ms) took [] h = tt
  before_for (m ∷ ms) [] (a ∷ acc) h = absurd h
  before_for (m ∷ ms) (t ∷ took) (a ∷ acc) h =
      let rest = before_for ms took acc h.1 in
      elim (f m == k) as (λ b. AreBefore (cond b (t ∷ times_of f k ms took) (times_of f k ms took)) (cond b (a ∷ times_of f k ms acc) (times_of f k ms acc))) [
        | true ↦ (h.0, rest)
        | false ↦ rest
      ]

  -- A channel that makes room for all makes it for each mailbox: of those in between some are others'.
  pub room_for : (capacity lo hi : ℕ) (ms : List M) (acc took : List ℕ) → RisesTo lo hi acc → MakesRoom capacity acc took
      → MakesRoom capacity (times_of f k ms acc) (times_of f k ms took)
  room_for zero lo hi ms acc took r h = before_for ms took acc h
  room_for (suc n) lo hi [] acc took r h = tt
  room_for (suc n) lo hi (m ∷ ms) [] took r h = tt
  room_for (suc n) lo hi (m ∷ ms) (a ∷ acc) [] r h =
      as_few (suc n) (times_of f k (m ∷ ms) (a ∷ acc))
      (let few = no_more (suc n) (a ∷ acc) h in let less = fewer (m ∷ ms) (a ∷ acc) in omega arith)
  room_for (suc n) lo hi (m ∷ ms) (a ∷ acc) (t ∷ took) r h =
      let rest : MakesRoom (suc n) (times_of f k ms acc) (times_of f k ms took) =
      room_for (suc n) a hi ms acc took r.1 (before_rest t n took acc h) in
      let above = above_for t n a hi ms acc r.1 (above_first t n took acc h) in
      elim (f m == k) as (λ b. MakesRoom (suc n) (cond b (a ∷ times_of f k ms acc) (times_of f k ms acc))
      (cond b (t ∷ times_of f k ms took) (times_of f k ms took))) [
        | true ↦ before_first t n (times_of f k ms took) (times_of f k ms acc) above rest
        | false ↦ rest
      ]

  times_append : (ms ns : List M) (ts us : List ℕ) → length ts ≡ length ms
      → times_of f k (ms ++ ns) (ts ++ us) ≡ times_of f k ms ts ++ times_of f k ns us
  times_append [] ns [] us e = refl
  times_append [] ns (t ∷ ts) us e = absurd (omega arith)
  times_append (m ∷ ms) ns [] us e = absurd (omega arith)
  times_append (m ∷ ms) ns (t ∷ ts) us e =
      let more = times_append ms ns ts us (omega arith) in
      elim (f m == k) as (λ b. cond b (t ∷ times_of f k (ms ++ ns) (ts ++ us)) (times_of f k (ms ++ ns) (ts ++ us))
      ≡ cond b (t ∷ times_of f k ms ts) (times_of f k ms ts) ++ times_of f k ns us) [
        | true ↦ ap (λ l. t ∷ l) more
        | false ↦ more
      ]

  none_at_all : (ns : List M) → times_of f k ns [] ≡ []
  none_at_all [] = refl
  none_at_all (n ∷ ns) = refl

  times_prefix : (ms ns : List M) (ts : List ℕ) → length ts ≡ length ms → times_of f k (ms ++ ns) ts ≡ times_of f k ms ts
  times_prefix ms ns ts e =
      ap (times_of f k (ms ++ ns)) (sym (append-nil ts)) ∙ times_append ms ns ts [] e ∙ ap (λ l. times_of f k ms ts ++ l) (none_at_all ns)
      ∙ append-nil (times_of f k ms ts)

  pub as_many_times : (ms : List M) (ts : List ℕ) → length ts ≡ length ms → length (times_of f k ms ts) ≡ length (of f k ms)
  as_many_times [] ts e = refl
  as_many_times (m ∷ ms) [] e = absurd (omega arith)
  as_many_times (m ∷ ms) (t ∷ ts) e =
      let rest = as_many_times ms ts (omega arith) in
      elim (f m == k) as (λ b. length (cond b (t ∷ times_of f k ms ts) (times_of f k ms ts)) ≡ length (cond b (m ∷ of f k ms) (of f k ms))) [
        | true ↦ ap suc rest
        | false ↦ rest
      ]

module _ {M : Type 0} where
  no_times : (f : M → ℕ) (k : ℕ) (ms : List M) → times_of f k ms [] ≡ []
  no_times f k [] = refl
  no_times f k (m ∷ ms) = refl

  first_time : (f : M → ℕ) (k : ℕ) (m : M) (ms : List M) (t : ℕ) (ts : List ℕ) → (f m == k) ≡ true
      → times_of f k (m ∷ ms) (t ∷ ts) ≡ t ∷ times_of f k ms ts
  first_time f k m ms t ts e = cond-true (f m == k) (t ∷ times_of f k ms ts) (times_of f k ms ts) e

  other_time : (f : M → ℕ) (k : ℕ) (m : M) (ms : List M) (t : ℕ) (ts : List ℕ) → (f m == k) ≡ false
      → times_of f k (m ∷ ms) (t ∷ ts) ≡ times_of f k ms ts
  other_time f k m ms t ts e = cond-false (f m == k) (t ∷ times_of f k ms ts) (times_of f k ms ts) e

-- lane by lane, and mailbox by mailbox, in either order
module _ {M : Type 0} (f g : M → ℕ) (j k : ℕ) where
  abbrev Swaps : List M → List ℕ → Type 0
  Swaps ms ts = times_of f j (of g k ms) (times_of g k ms ts) ≡ times_of g k (of f j ms) (times_of f j ms ts)

  swaps_at : (m : M) (ms : List M) (t : ℕ) (ts : List ℕ) (a : Bool) → (f m == j) ≡ a → (c : Bool) → (g m == k) ≡ c → Swaps ms ts
      → Swaps (m ∷ ms) (t ∷ ts)
  swaps_at m ms t ts true fa true gc rest =
      (λ i. times_of f j (passes (λ x. g x == k) m ms gc i) (first_time g k m ms t ts gc i))
      ∙ first_time f j m (of g k ms) t (times_of g k ms ts) fa ∙ ap (λ l. t ∷ l) rest
      ∙ sym ((λ i. times_of g k (passes (λ x. f x == j) m ms fa i) (first_time f j m ms t ts fa i))
      ∙ first_time g k m (of f j ms) t (times_of f j ms ts) gc)
  swaps_at m ms t ts true fa false gc rest =
      (λ i. times_of f j (fails (λ x. g x == k) m ms gc i) (other_time g k m ms t ts gc i)) ∙ rest
      ∙ sym ((λ i. times_of g k (passes (λ x. f x == j) m ms fa i) (first_time f j m ms t ts fa i))
      ∙ other_time g k m (of f j ms) t (times_of f j ms ts) gc)
  swaps_at m ms t ts false fa true gc rest =
      (λ i. times_of f j (passes (λ x. g x == k) m ms gc i) (first_time g k m ms t ts gc i))
      ∙ other_time f j m (of g k ms) t (times_of g k ms ts) fa ∙ rest
      ∙ sym (λ i. times_of g k (fails (λ x. f x == j) m ms fa i) (other_time f j m ms t ts fa i))
  swaps_at m ms t ts false fa false gc rest =
      (λ i. times_of f j (fails (λ x. g x == k) m ms gc i) (other_time g k m ms t ts gc i)) ∙ rest
      ∙ sym (λ i. times_of g k (fails (λ x. f x == j) m ms fa i) (other_time f j m ms t ts fa i))

  times_swap : (ms : List M) (ts : List ℕ) → times_of f j (of g k ms) (times_of g k ms ts) ≡ times_of g k (of f j ms) (times_of f j ms ts)
  times_swap [] ts = refl
  times_swap (m ∷ ms) [] = no_times f j (of g k (m ∷ ms)) ∙ sym (no_times g k (of f j (m ∷ ms)))
  times_swap (m ∷ ms) (t ∷ ts) = swaps_at m ms t ts (f m == j) refl (g m == k) refl (times_swap ms ts)

-- places of lists
pub map_or : {M : Type 0} (f : List M → List M) (xs : List (List M)) (k : ℕ) → f [] ≡ [] → slice_index_or (map f xs) k [] ≡ f (slice_index_or xs k [])
map_or f [] k none = sym none
map_or f (x ∷ xs) zero none = refl
map_or f (x ∷ xs) (suc k) none = map_or f xs k none

pub times_or : (b : ℕ) (sent : List (List Note)) (sent_at : List (List ℕ)) (k : ℕ)
    → slice_index_or (sent_at_for b sent sent_at) k [] ≡ times_of for_box b (slice_index_or sent k []) (slice_index_or sent_at k [])
times_or b [] sent_at k = refl
times_or b (s ∷ sent) [] k = sym (no_times for_box b (slice_index_or (s ∷ sent) k []))
times_or b (s ∷ sent) (t ∷ sent_at) zero = refl
times_or b (s ∷ sent) (t ∷ sent_at) (suc k) = times_or b sent sent_at k

abbrev lane_of : Note → ℕ
lane_of note = note.txn.lane

pub passes_for_each : PassesForEach
passes_for_each b inbox sent sent_at long took_long x =
    let noted : taken (inbox_for b inbox) ≡ of for_box b (taken inbox) = messages_copies (of for_box b (taken inbox)) in
    let mine = of for_box b (taken inbox) in
    record {
      accepted = of for_box b x.accepted;
      accepted_at = times_of for_box b x.accepted x.accepted_at;
      as_many = as_many_times for_box b x.accepted x.accepted_at x.as_many;
      until = x.until;
      rises = rises_for for_box b 0 x.until x.accepted x.accepted_at x.rises;
      same = λ k. filter_twice (λ note. lane_of note == k) (λ note. for_box note == b) x.accepted ∙ ap (of for_box b) (x.same k)
          ∙ sym (map_or (of for_box b) sent k refl);
      same_at = λ k. times_swap lane_of for_box k b x.accepted x.accepted_at
          ∙ (λ i. times_of for_box b (x.same k i) (x.same_at k i)) ∙ sym (times_or b sent sent_at k);
      waiting = of for_box b x.waiting;
      waiting_at = times_of for_box b x.waiting x.waiting_at;
      first = ap (of for_box b) x.first ∙ filter-append (λ note. for_box note == b) (taken inbox) x.waiting
          ∙ ap (λ l. l ++ of for_box b x.waiting) (sym noted);
      first_at = (λ i. times_of for_box b (x.first i) (x.first_at i))
          ∙ times_append for_box b (taken inbox) x.waiting inbox.got_at x.waiting_at long;
      takes_rise = rises_for for_box b 0 x.until (taken inbox) inbox.took_at x.takes_rise;
      later = later_for for_box b (taken inbox) inbox.got_at inbox.took_at x.later;
      all = λ gone. let none = x.all gone in (ap (of for_box b) none.0, (λ i. times_of for_box b (none.0 i) (none.1 i)));
      makes_room = subst (λ (l : List ℕ). MakesRoom inbox.capacity (times_of for_box b x.accepted x.accepted_at) l)
          (ap (λ (notes : List Note). times_of for_box b notes inbox.took_at) x.first ∙ times_prefix for_box b (taken inbox) x.waiting inbox.took_at took_long)
          (room_for for_box b inbox.capacity 0 x.until x.accepted x.accepted_at inbox.took_at x.rises x.makes_room);
    }
