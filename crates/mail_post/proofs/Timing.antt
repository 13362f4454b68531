-- Times that rise, and one more after them.
use Rattle.std.proofs.Common.{◌≡◌, ◌≢◌, ◌==◌, ◌+◌, ◌≤◌, ◌<◌, ◌⊎◌, ℕ, true, false, cond, List, [], ◌∷◌, ◌++◌, length, refl, sym, ap, ◌∙◌, subst, ⊎_elim, arith}
use Rattle.std.proofs.Common.{append_assoc, append-nil, length-append}
use Rattle.std.proofs.lemmas.Bool.{eq-eqb, ne_eqb, cond-true, cond-false}
use Rattle.mail_runs.specs.Timed.{RisesTo}
use Rattle.mail_post.specs.Times.{HaveMoments, Times, KeepsTime}
use Rattle.mail_runs.specs.Known.{AreLater, times_of}
use Rattle.mail_runs.specs.Ordered.{MakesRoom}
use Rattle.mail_post.proofs.Rooms.{rises_le, later_length, room_none, room_taken, room_accepts}

pub rises_snoc : (lo hi : ℕ) (xs : List ℕ) (y z : ℕ) → RisesTo lo hi xs → hi < y → y ≤ z → RisesTo lo z (xs ++ y ∷ [])
rises_snoc lo hi [] y z r above le = ((omega arith), le)
rises_snoc lo hi (x ∷ xs) y z r above le = (r.0, rises_snoc x hi xs y z r.1 above le)

pub rises_more : (lo hi : ℕ) (xs : List ℕ) (z : ℕ) → RisesTo lo hi xs → hi ≤ z → RisesTo lo z xs
rises_more lo hi [] z r le = omega arith
rises_more lo hi (x ∷ xs) z r le = (r.0, rises_more x hi xs z r.1 le)

pub rises_prefix : (lo hi : ℕ) (xs ys : List ℕ) → RisesTo lo hi (xs ++ ys) → RisesTo lo hi xs
rises_prefix lo hi [] ys r = rises_le lo hi ys r
rises_prefix lo hi (x ∷ xs) ys r = (r.0, rises_prefix x hi xs ys r.1)

rises_mid : (lo hi : ℕ) (xs : List ℕ) (y : ℕ) (ys : List ℕ) → RisesTo lo hi (xs ++ y ∷ ys) → y ≤ hi
rises_mid lo hi [] y ys r = rises_le y hi ys r.1
rises_mid lo hi (x ∷ xs) y ys r = rises_mid x hi xs y ys r.1

later_snoc : (got took : List ℕ) (s t : ℕ) → AreLater got took → s < t → AreLater (got ++ s ∷ []) (took ++ t ∷ [])
later_snoc [] [] s t h below = (below, tt)
later_snoc [] (u ∷ us) s t h below = absurd h
later_snoc (x ∷ xs) [] s t h below = absurd h
later_snoc (x ∷ xs) (u ∷ us) s t h below = (h.0, later_snoc xs us s t h.1 below)

same? : (j k : ℕ) → (j ≡ k) ⊎ (j ≢ k)
same? j k = grind arith

pub timed_none : HaveMoments [] []
timed_none = record { until = 0; rises = omega arith; takes_rise = omega arith; later = tt }

module _ {M : Type 0} (lane : M → ℕ) where
  times_snoc : (k : ℕ) (ms : List M) (ts : List ℕ) (m : M) (t : ℕ) → length ts ≡ length ms
      → times_of lane k (ms ++ m ∷ []) (ts ++ t ∷ []) ≡ times_of lane k ms ts ++ times_of lane k (m ∷ []) (t ∷ [])
  times_snoc k [] [] m t e = refl
  times_snoc k [] (x ∷ ts) m t e = absurd (omega arith)
  times_snoc k (y ∷ ms) [] m t e = absurd (omega arith)
  times_snoc k (y ∷ ms) (x ∷ ts) m t e =
      let more = times_snoc k ms ts m t (omega arith) in
      elim (lane y == k) as (λ b. cond b (x ∷ times_of lane k (ms ++ m ∷ []) (ts ++ t ∷ [])) (times_of lane k (ms ++ m ∷ []) (ts ++ t ∷ []))
      ≡ cond b (x ∷ times_of lane k ms ts) (times_of lane k ms ts) ++ times_of lane k (m ∷ []) (t ∷ [])) [
        | true ↦ ap (λ l. x ∷ l) more
        | false ↦ more
      ]

  times_here : (k : ℕ) (m : M) (t : ℕ) → lane m ≡ k → times_of lane k (m ∷ []) (t ∷ []) ≡ t ∷ []
  times_here k m t e = cond-true (lane m == k) (t ∷ []) [] (eq-eqb (lane m) k e)

  times_else : (k : ℕ) (m : M) (t : ℕ) → lane m ≢ k → times_of lane k (m ∷ []) (t ∷ []) ≡ []
  times_else k m t n = cond-false (lane m == k) (t ∷ []) [] (ne_eqb (lane m) k n)

  pub begin_time : KeepsTime lane 0 [] [] (λ _. []) (record { got_at = []; took_at = []; queue_at = []; latest = 0 })
  begin_time = record { got_as_many = refl; queue_as_many = refl; each = λ k. refl; rises = omega arith; takes_rise = omega arith; later = tt; makes_room = tt }

  -- the times of the lanes, said otherwise
  pub same_time : (room : ℕ) (got queue : List M) (f g : ℕ → List ℕ) (times : Times) → ((j : ℕ) → g j ≡ f j) → KeepsTime lane room got queue f times
      → KeepsTime lane room got queue g times
  same_time room got queue f g times same h =
      record {
        got_as_many = h.got_as_many;
        queue_as_many = h.queue_as_many;
        each = λ k. h.each k ∙ sym (same k);
        rises = h.rises;
        takes_rise = h.takes_rise;
        later = h.later;
        makes_room = h.makes_room;
      }

  none_timed : (ms : List M) (ts : List ℕ) → length ts ≡ length ms → ((k : ℕ) → times_of lane k ms ts ≡ []) → ts ≡ []
  none_timed ms [] e none = refl
  none_timed [] (t ∷ ts) e none = absurd (omega arith)
  none_timed (m ∷ ms) (t ∷ ts) e none =
      let first : times_of lane (lane m) (m ∷ ms) (t ∷ ts) ≡ t ∷ times_of lane (lane m) ms ts =
      cond-true (lane m == lane m) (t ∷ times_of lane (lane m) ms ts) (times_of lane (lane m) ms ts) (eq-eqb (lane m) (lane m) refl) in
      let none_first : t ∷ times_of lane (lane m) ms ts ≡ [] = sym first ∙ none (lane m) in
      absurd (cc)

  -- each message that was taken or waits has its time
  pub all_timed : (room : ℕ) (got queue : List M) (f : ℕ → List ℕ) (times : Times) → KeepsTime lane room got queue f times
      → length (times.got_at ++ times.queue_at) ≡ length (got ++ queue)
  all_timed room got queue f times h = omega (arith, length-append times.got_at times.queue_at, length-append got queue, h.got_as_many, h.queue_as_many)

  -- where no lane was told of a time, any room is enough
  pub any_room : (room more : ℕ) (got queue : List M) (f : ℕ → List ℕ) (times : Times) → KeepsTime lane room got queue f times → ((k : ℕ) → f k ≡ [])
      → MakesRoom more (times.got_at ++ times.queue_at) times.took_at
  any_room room more got queue f times h none =
      let nothing : times.got_at ++ times.queue_at ≡ [] =
      none_timed (got ++ queue) (times.got_at ++ times.queue_at) (all_timed room got queue f times h) (λ k. h.each k ∙ none k) in
      subst (λ (l : List ℕ). MakesRoom more l times.took_at) (sym nothing) (room_none more times.took_at)

  -- the same with another room that is enough
  pub roomier : (room more : ℕ) (got queue : List M) (f : ℕ → List ℕ) (times : Times) → KeepsTime lane room got queue f times
      → MakesRoom more (times.got_at ++ times.queue_at) times.took_at → KeepsTime lane more got queue f times
  roomier room more got queue f times h makes =
      record {
        got_as_many = h.got_as_many;
        queue_as_many = h.queue_as_many;
        each = h.each;
        rises = h.rises;
        takes_rise = h.takes_rise;
        later = h.later;
        makes_room = makes;
      }

  -- a message of lane k is accepted after all that was, and after any given time, while there is room
  pub put_time : (room after : ℕ) (got queue : List M) (f g : ℕ → List ℕ) (times : Times) (m : M) (k : ℕ) → lane m ≡ k → length queue < room
      → KeepsTime lane room got queue f times
      → g k ≡ f k ++ ((times.latest + after) + 1) ∷ [] → ((j : ℕ) → j ≢ k → g j ≡ f j)
      → KeepsTime lane room got (queue ++ m ∷ []) g (record times {
        queue_at = times.queue_at ++ ((times.latest + after) + 1) ∷ [];
        latest = (times.latest + after) + 1;
      })
  put_time room after got queue f g times m k is fits h here else =
      let t : ℕ = (times.latest + after) + 1 in
      let all_at : List ℕ = times.got_at ++ times.queue_at in
      let len : length all_at ≡ length (got ++ queue) = all_timed room got queue f times h in
      let short : length all_at < room + length times.took_at =
      omega (arith, length-append times.got_at times.queue_at, h.queue_as_many, later_length times.got_at times.took_at h.later, fits) in
      let snoc : (j : ℕ) → times_of lane j (got ++ (queue ++ m ∷ [])) (times.got_at ++ (times.queue_at ++ t ∷ [])) ≡ times_of lane j (got ++ queue) all_at
      ++ times_of lane j (m ∷ []) (t ∷ []) =
      λ j. (λ i. times_of lane j (sym (append_assoc got queue (m ∷ [])) i) (sym (append_assoc times.got_at times.queue_at (t ∷ [])) i))
      ∙ times_snoc j (got ++ queue) all_at m t len in record {
        got_as_many = h.got_as_many;
        queue_as_many = omega (arith, length-append times.queue_at (t ∷ []), length-append queue (m ∷ []), h.queue_as_many);
        each = λ j. ⊎_elim
            (λ (e : j ≡ k). snoc j ∙ (λ i. h.each j i ++ times_here j m t (is ∙ sym e) i) ∙ subst (λ i. f i ++ t ∷ [] ≡ g i) (sym e) (sym here))
            (λ (n : j ≢ k). snoc j ∙ (λ i. h.each j i ++ times_else j m t (λ e. n (sym e ∙ is)) i) ∙ append-nil (f j) ∙ sym (else j n))
            (same? j k);
        rises = subst (λ (l : List ℕ). RisesTo 0 t l) (append_assoc times.got_at times.queue_at (t ∷ []))
            (rises_snoc 0 times.latest all_at t t h.rises (omega arith) (omega arith));
        takes_rise = rises_more 0 times.latest times.took_at t h.takes_rise (omega arith);
        later = h.later;
        makes_room = subst (λ (l : List ℕ). MakesRoom room l times.took_at) (append_assoc times.got_at times.queue_at (t ∷ []))
            (room_accepts room times.latest times.took_at all_at t h.makes_room h.takes_rise (omega arith) short);
      }

  -- the oldest message is taken after all that was, and after any given time
  pub record TakeTime (room after : ℕ) (got queue : List M) (f : ℕ → List ℕ) (times : Times) (m : M) : Type 0 where
    pub accepted_at : ℕ
    pub rest : List ℕ
    pub below : accepted_at ≤ times.latest
    pub keeps : KeepsTime lane room (got ++ m ∷ []) queue f (record {
      got_at = times.got_at ++ accepted_at ∷ [];
      took_at = times.took_at ++ ((times.latest + after) + 1) ∷ [];
      queue_at = rest;
      latest = (times.latest + after) + 1;
    })

  take_of : (room after : ℕ) (got queue : List M) (f : ℕ → List ℕ) (times : Times) (m : M) → KeepsTime lane room got (m ∷ queue) f times → (q : List ℕ)
      → times.queue_at ≡ q → TakeTime room after got queue f times m
  take_of room after got queue f times m h [] is = let e = ap length is in absurd (omega (arith, e, h.queue_as_many))
  take_of room after got queue f times m h (s ∷ rest) is =
      let t : ℕ = (times.latest + after) + 1 in
      let there : (times.got_at ++ s ∷ []) ++ rest ≡ times.got_at ++ times.queue_at =
      append_assoc times.got_at (s ∷ []) rest ∙ ap (λ l. times.got_at ++ l) (sym is) in
      let below : s ≤ times.latest =
      rises_mid 0 times.latest times.got_at s rest (subst (λ (l : List ℕ). RisesTo 0 times.latest (times.got_at ++ l)) is h.rises) in
      let all : RisesTo 0 times.latest ((times.got_at ++ s ∷ []) ++ rest) = subst (λ (l : List ℕ). RisesTo 0 times.latest l) (sym there) h.rises in record {
        accepted_at = s;
        rest = rest;
        below = below;
        keeps = record {
          got_as_many = omega (arith, length-append times.got_at (s ∷ []), length-append got (m ∷ []), h.got_as_many);
          queue_as_many = let e = ap length is in omega (arith, e, h.queue_as_many);
          each = λ j. (λ i. times_of lane j (append_assoc got (m ∷ []) queue i) (there i)) ∙ h.each j;
          rises = rises_more 0 times.latest ((times.got_at ++ s ∷ []) ++ rest) t all (omega arith);
          takes_rise = rises_snoc 0 times.latest times.took_at t t h.takes_rise (omega arith) (omega arith);
          later = later_snoc times.got_at times.took_at s t h.later (omega arith);
          makes_room = room_taken room times.took_at ((times.got_at ++ s ∷ []) ++ rest) t
              (subst (λ (l : List ℕ). MakesRoom room l times.took_at) (sym there) h.makes_room);
        };
      }

  pub take_time : (room after : ℕ) (got queue : List M) (f : ℕ → List ℕ) (times : Times) (m : M) → KeepsTime lane room got (m ∷ queue) f times
      → TakeTime room after got queue f times m
  take_time room after got queue f times m h = take_of room after got queue f times m h times.queue_at refl

  -- what was taken is in order of time
  pub timed_of : (room : ℕ) (got queue : List M) (f : ℕ → List ℕ) (times : Times) → KeepsTime lane room got queue f times
      → HaveMoments times.got_at times.took_at
  timed_of room got queue f times h = record {
    until = times.latest;
    rises = rises_prefix 0 times.latest times.got_at times.queue_at h.rises;
    takes_rise = h.takes_rise;
    later = h.later;
  }
