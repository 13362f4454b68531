-- What a close takes together.
use Rattle.std.proofs.Common.{◌≡◌, ◌==◌, ◌<◌, ◌≤◌, ◌⊎◌, ℕ, true, false, Option, Some, List, [], ◌∷◌, ◌++◌, length, length-append, slice_index_or, append-nil}
use Rattle.std.proofs.Common.{refl, sym, ap, ◌∙◌, subst, ⊎_elim, arith}
use Rattle.std.proofs.lemmas.Bool.{eq-eqb, cond-true}
use Rattle.std.proofs.lemmas.List.Elements.{filter-append}
use Rattle.std.proofs.Math.ListN.{get_or-eq_default}
use Rattle.crossbeam_channel.specs.Fifo.{Pushes}
use Rattle.mail_post.specs.declared.rule.Parcel.TheVariants.{Mark}
use Rattle.mail_post.specs.Parcels.{of, messages, has_mark}
use Rattle.mail_post.specs.declared.rule.View.{View}
use Rattle.mail_post.specs.Views.{sender, IsPut}
use Rattle.mail_post.specs.declared.channel.Gone.{Gone}
use Rattle.mail_post.specs.declared.channel.Gone.TheVariants.{Closed}
use Rattle.mail_runs.specs.Timed.{RisesTo}
use Rattle.mail_runs.specs.Known.{AreLater}
use Rattle.mail_runs.specs.Ordered.{MakesRoom}
use Rattle.mail_post.specs.Channel.{IsInbox, Inbox, taken, TookSome, TookAll, HasPassedThrough}
use Rattle.mail_post.proofs.Parcels.{of-copies}
use Rattle.mail_post.proofs.Counts.{count_all}
use Rattle.mail_post.specs.Rule.{Carries, Agrees, HasPassed}
use Rattle.mail_post.proofs.Keeps.{marks}
use Rattle.mail_post.proofs.Timing.{any_room}

module _ {M : Type 0} (lane : M → ℕ) where
  -- the mark of a lane, by its number
  pub marks_of : (after n pass : ℕ) (v : View M) (k room : ℕ) → v ≡ sender room k v.sent v.sent_at false
      → Pushes (Carries lane) n pass v (Mark k) (IsPut after v (Mark k))
  marks_of after n pass v k room is = subst (λ (j : ℕ). Pushes (Carries lane) n pass v (Mark j) (IsPut after v (Mark j))) (ap (λ (t : View M). t.lane) is)
      (marks lane after n pass v (ap (λ (t : View M). t.sends) is) (ap (λ (t : View M). t.shut) is))

  below? : (k n : ℕ) → (k < n) ⊎ (n ≤ k)
  below? k n = grind arith

  -- a receiver beside what is known of all lanes
  module _ (lanes marks : ℕ) (gone : Option Gone) (v w : View M) (sent : List (List M)) (h : IsInbox lane lanes marks gone v) (got : w.got ≡ v.got)
      (known : w.known ≡ sent) (len : length sent ≡ lanes) (agrees : Agrees lane w) where
    fits : (k : ℕ) → k < lanes → k < length w.known
    fits k low = let e : length w.known ≡ length sent = ap length known in omega arith

    of_no_lane : (k : ℕ) → lanes ≤ k → of lane k (messages v.got) ≡ slice_index_or sent k []
    of_no_lane k le = of-copies lane k v.got ∙ ap messages ((h.fair k).1 le) ∙ sym (get_or-eq_default sent [] {n = k} (omega arith))

    pub some_taken : TookSome lane (messages v.got) sent
    some_taken k = ⊎_elim
        (λ (low : k < lanes).
        let r = (agrees k (fits k low)).0 in
        record { rest = r.rest; whole = ap (λ l. slice_index_or l k []) (sym known) ∙ r.whole ∙ (λ i. of lane k (messages (got i)) ++ r.rest) })
        (λ (le : lanes ≤ k). record { rest = []; whole = sym (append-nil (of lane k (messages v.got)) ∙ of_no_lane k le) })
        (below? k lanes)

    -- one that has taken every mark
    pub all_taken : gone ≡ Some Closed → TookAll lane (messages v.got) sent
    all_taken is k = ⊎_elim
        (λ (low : k < lanes).
        let there : has_mark k v.got ≡ true = count_all (λ j. has_mark j v.got) lanes (h.counted ∙ h.all is) k low in
        ap (λ g. of lane k (messages g)) (sym got) ∙ (agrees k (fits k low)).1 (ap (has_mark k) got ∙ there) ∙ ap (λ l. slice_index_or l k []) known)
        (λ (le : lanes ≤ k). of_no_lane k le)
        (below? k lanes)

  -- nothing is left where no lane has more
  none_waits : (ms rest : List M) → ((k : ℕ) → of lane k (ms ++ rest) ≡ of lane k ms) → rest ≡ []
  none_waits ms [] same = refl
  none_waits ms (m ∷ rest) same =
      let k = lane m in
      let parts : of lane k (ms ++ m ∷ rest) ≡ of lane k ms ++ of lane k (m ∷ rest) = filter-append (λ x. lane x == k) ms (m ∷ rest) in
      let first : of lane k (m ∷ rest) ≡ m ∷ of lane k rest = cond-true (lane m == k) (m ∷ of lane k rest) (of lane k rest) (eq-eqb (lane m) k refl) in
      let a = ap length (sym parts ∙ same k) in
      let b = length-append (of lane k ms) (of lane k (m ∷ rest)) in
      let c = ap length first in
      absurd (omega (arith, a, b, c))

  no_times : (ts : List ℕ) → length ts ≡ 0 → ts ≡ []
  no_times [] e = refl
  no_times (t ∷ ts) e = absurd (omega arith)

  -- a receiver beside what is known of all lanes, and when each was accepted
  module _ (lanes marks : ℕ) (v w : View M) (inbox : Inbox M) (sent : List (List M)) (sent_at : List (List ℕ)) (h : IsInbox lane lanes marks inbox.gone v)
      (is : (inbox.got ≡ v.got) × (inbox.got_at ≡ v.got_at) × (inbox.took_at ≡ v.took_at))
      (lanes_are : w.lanes ≡ lanes) (got : w.got ≡ v.got) (got_at : w.got_at ≡ v.got_at) (took_at : w.took_at ≡ v.took_at) (known : w.known ≡ sent)
      (known_at : w.known_at ≡ sent_at)
      (len : length sent ≡ lanes) (as_many : length sent_at ≡ length sent) (room : 0 < lanes → w.room ≡ inbox.capacity)
      (agrees : Agrees lane w) (passed : HasPassed lane w) where
    mine : messages w.got ≡ taken inbox
    mine = ap messages (got ∙ sym is.0)

    got_at_is : passed.times.got_at ≡ inbox.got_at
    got_at_is = sym passed.got_is ∙ got_at ∙ sym is.1

    took_at_is : passed.times.took_at ≡ inbox.took_at
    took_at_is = sym passed.took_is ∙ took_at ∙ sym is.2

    all_sent : (k : ℕ) → (of lane k (messages w.got ++ passed.waiting) ≡ slice_index_or sent k []) × (passed.sent_at k ≡ slice_index_or sent_at k [])
    all_sent k = ⊎_elim
        (λ (low : k < lanes).
        let q = passed.same k (let e : length w.known ≡ length sent = ap length known in omega arith) in
        (q.0 ∙ ap (λ l. slice_index_or l k []) known, q.1 ∙ ap (λ l. slice_index_or l k []) known_at))
        (λ (le : lanes ≤ k).
        let q = passed.others k (omega (arith, lanes_are)) in
        (q.0 ∙ sym (get_or-eq_default sent [] {n = k} (omega arith)), q.1 ∙ sym (get_or-eq_default sent_at [] {n = k} (omega arith))))
        (below? k lanes)

    -- where there is no lane, nothing was accepted
    makes_room : MakesRoom inbox.capacity (passed.times.got_at ++ passed.times.queue_at) passed.times.took_at
    makes_room =
        let times = passed.times in ⊎_elim
        (λ (some : 0 < lanes). subst (λ (n : ℕ). MakesRoom n (times.got_at ++ times.queue_at) times.took_at) (room some) passed.keeps.makes_room)
        (λ (none : lanes ≤ 0). any_room lane w.room inbox.capacity (messages w.got) passed.waiting passed.sent_at times passed.keeps
        (λ k. (passed.others k (omega (arith, lanes_are))).1))
        (below? 0 lanes)

    pub passed_through : HasPassedThrough lane inbox sent sent_at
    passed_through =
        let times = passed.times in
        let keeps = passed.keeps in
        let none : inbox.gone ≡ Some Closed → passed.waiting ≡ [] = λ gone.
        let everything = all_taken lanes marks inbox.gone v w sent h got known len agrees gone in
        none_waits (messages w.got) passed.waiting (λ k. (all_sent k).0 ∙ sym (everything k) ∙ (λ i. of lane k (messages (sym got i)))) in record {
          accepted = messages w.got ++ passed.waiting;
          accepted_at = times.got_at ++ times.queue_at;
          as_many = omega (
            arith,
            length-append times.got_at times.queue_at,
            length-append (messages w.got) passed.waiting,
            keeps.got_as_many,
            keeps.queue_as_many,
          );
          until = times.latest;
          rises = keeps.rises;
          same = λ k. (all_sent k).0;
          same_at = λ k. keeps.each k ∙ (all_sent k).1;
          waiting = passed.waiting;
          waiting_at = times.queue_at;
          first = ap (λ l. l ++ passed.waiting) mine;
          first_at = ap (λ l. l ++ times.queue_at) got_at_is;
          takes_rise = subst (λ (l : List ℕ). RisesTo 0 times.latest l) took_at_is keeps.takes_rise;
          later = subst (λ (y : List ℕ × List ℕ). AreLater y.0 y.1) (λ i. (got_at_is i, took_at_is i)) keeps.later;
          all = λ gone. let e = ap length (none gone) in (none gone, no_times times.queue_at (omega (arith, keeps.queue_as_many, e)));
          makes_room = subst (λ (l : List ℕ). MakesRoom inbox.capacity (times.got_at ++ times.queue_at) l) took_at_is makes_room;
        }
