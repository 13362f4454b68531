-- Each move keeps the rule of the channel.
use Rattle.std.proofs.Common.{◌≡◌, ◌≢◌, ◌==◌, ◌+◌, ◌≤◌, ◌<◌, ◌⊎◌, ℕ, zero, suc, Bool, true, false, cond, List, [], ◌∷◌, ◌++◌, length, get_or, slice_index_or}
use Rattle.std.proofs.Common.{set, refl, sym, ap, ◌∙◌, subst, ⊎_elim, inl, inr, arith, append_assoc, append-nil, length-append, true≢false}
use Rattle.std.proofs.lemmas.Bool.{eq-eqb, ne_eqb, cond-true, cond-false}
use Rattle.std.proofs.lemmas.List.{get_or_append_left}
use mathlib.Core.Option.{Option, some, none, some-ne-none, some-injective}
use lib.ListN.{get_elem?}
use Rattle.crossbeam_channel.specs.Fifo.{Pushes, Pops, Forks, Merges, Learns}
use Rattle.atomic_table.proofs.Lists.{at_set}
use Rattle.mail_post.specs.declared.rule.Parcel.{Parcel}
use Rattle.mail_post.specs.declared.rule.Parcel.TheVariants.{Copy, Mark}
use Rattle.mail_post.specs.declared.rule.View.{View}
use Rattle.mail_runs.specs.Ordered.{MakesRoom}
use Rattle.mail_post.specs.Times.{HaveMoments, Times, KeepsTime}
use Rattle.mail_post.specs.Views.{sender, taker, knower, settled, IsPut, IsTook}
use Rattle.mail_post.specs.Parcels.{of, lane_of, part, messages, all_of_lane}
use Rattle.mail_post.specs.Rule.{Traffic, FitsKnown, Fits, Carries, IsFair, Agrees, HasPassed}
use Rattle.mail_post.proofs.Parcels.{part-append, part-here, part-else, messages_at_most, of-copies, copies-append, copies-all_of_lane, all_of_lane-put}
use Rattle.mail_post.proofs.Parcels.{all_of_lane-end, prefix, all-there, has_mark-part}
use Rattle.mail_post.proofs.Timing.{begin_time, same_time, put_time, take_time, timed_of, any_room, roomier}

module _ {M : Type 0} (lane : M → ℕ) where
  -- f, but a at k
  abbrev changed : {A : Type 0} → (ℕ → A) → ℕ → A → ℕ → A
  changed f k a j = cond (j == k) a (f j)

  changed_here : {A : Type 0} (f : ℕ → A) (k : ℕ) (a : A) → changed f k a k ≡ a
  changed_here f k a = cond-true (k == k) a (f k) (eq-eqb k k refl)

  changed_else : {A : Type 0} (f : ℕ → A) (k : ℕ) (a : A) (j : ℕ) → j ≢ k → changed f k a j ≡ f j
  changed_else f k a j n = cond-false (j == k) a (f j) (ne_eqb j k n)

  -- whether two numbers are one
  same? : (j k : ℕ) → (j ≡ k) ⊎ (j ≢ k)
  same? j k = grind arith

  at_end : (l : List (View M)) (a b : View M) (j : ℕ) → get_elem? (l ++ a ∷ []) j ≡ some b → (get_elem? l j ≡ some b) ⊎ ((j ≡ length l) × (a ≡ b))
  at_end [] a b zero e = inr (refl, some-injective a b e)
  at_end [] a b (suc j) e = absurd (some-ne-none b (sym e))
  at_end (x ∷ xs) a b zero e = inl e
  at_end (x ∷ xs) a b (suc j) e = ⊎_elim inl (λ (t : (j ≡ length xs) × (a ≡ b)). inr (ap suc t.0, t.1)) (at_end xs a b j e)

  abbrev All : (ℕ → View M → Type 0) → List (View M) → Type 0
  All F views = (pass : ℕ) (v : View M) → get_elem? views pass ≡ some v → F pass v

  all_set : (F : ℕ → View M → Type 0) (views : List (View M)) (pass : ℕ) (w : View M) → F pass w
      → ((j : ℕ) (u : View M) → j ≢ pass → get_elem? views j ≡ some u → F j u) → All F (set views pass w)
  all_set F views pass w mine others j u e = ⊎_elim (λ (x : (j ≡ pass) × (w ≡ u)). subst (λ (y : ℕ × View M). F y.0 y.1) (λ i. (sym x.0 i, x.1 i)) mine)
      (λ (x : (j ≢ pass) × (get_elem? views j ≡ some u)). others j u x.0 x.1) (at_set views pass j w u e)

  -- what is put at the back of one lane
  part_after : (k : ℕ) (got items : List (Parcel M)) (x : Parcel M)
      → part lane k (got ++ (items ++ x ∷ [])) ≡ part lane k (got ++ items) ++ part lane k (x ∷ [])
  part_after k got items x = ap (part lane k) (sym (append_assoc got items (x ∷ []))) ∙ part-append lane k (got ++ items) (x ∷ [])

  -- the equation of each lane, after x at the back, where it is so of the lane of x
  grows : (got : List (Parcel M)) (items : List (Parcel M)) (x : Parcel M) (f g : ℕ → List (Parcel M)) (k : ℕ) → lane_of lane x ≡ k
      → ((j : ℕ) → part lane j (got ++ items) ≡ f j)
      → g k ≡ f k ++ x ∷ [] → ((j : ℕ) → j ≢ k → g j ≡ f j) → (j : ℕ) → part lane j (got ++ (items ++ x ∷ [])) ≡ g j
  grows got items x f g k is was here else j = ⊎_elim
      (λ (e : j ≡ k). part_after j got items x ∙ ap (λ l. l ++ part lane j (x ∷ [])) (was j) ∙ ap (λ l. f j ++ l) (part-here lane j (x) (is ∙ sym e))
      ∙ subst (λ i. f i ++ x ∷ [] ≡ g i) (sym e) (sym here))
      (λ (n : j ≢ k). part_after j got items x ∙ ap (λ l. l ++ part lane j (x ∷ [])) (was j) ∙ ap (λ l. f j ++ l) (part-else lane j (x) (λ e. n (sym e ∙ is)))
      ∙ append-nil (f j) ∙ sym (else j n))
      (same? j k)

  below? : (k n : ℕ) → (k < n) ⊎ (n ≤ k)
  below? k n = grind arith

  last? : (l : List (List M)) (a : List M) (k : ℕ) → k < length (l ++ a ∷ []) → (k < length l) ⊎ (k ≡ length l)
  last? l a k h = let e = length-append l (a ∷ []) in let h' : k < length l + 1 = rw e at h in grind arith

  get_or_last : {A : Type 0} (l : List A) (a d : A) → get_or (l ++ a ∷ []) (length l) d ≡ a
  get_or_last [] a d = refl
  get_or_last (x ∷ xs) a d = get_or_last xs a d

  nil_left : (xs ys : List (Parcel M)) → xs ++ ys ≡ [] → xs ≡ []
  nil_left [] ys e = refl
  nil_left (x ∷ xs) ys e = absurd (cc)

  -- what is there before the first step
  abbrev none_yet : Traffic M
  none_yet = record {
    seat = λ _. none;
    sent = λ _. [];
    closed = λ _. false;
    reader = 0;
    lanes = 0;
    got = [];
    sent_at = λ _. [];
    times = record { got_at = []; took_at = []; queue_at = []; latest = 0 };
    room = 0;
  }

  pub begins : Carries lane [] (taker 0 0 [] [] [] ∷ [])
  begins = record {
    traffic = none_yet;
    order = λ _. refl;
    others = λ _ _. (refl, refl, refl, refl);
    timed = begin_time lane;
    fits = all_set (Fits none_yet) (taker 0 0 [] [] [] ∷ []) 0 (taker 0 0 [] [] [])
        ((λ p. absurd (true≢false (sym p))), (λ _. (refl, refl, refl, refl, refl, refl)), (λ k h. absurd (omega arith)))
        (λ j u other e. ⊎_elim (λ x. absurd (some-ne-none u (sym x))) (λ x. absurd (other x.0)) (at_end [] (taker 0 0 [] [] []) u j e));
  }

  -- a lane's pass puts x, after which it was told that s was accepted, at these times
  moved : (pass : ℕ) (v : View M) (x : Parcel M) (s : List M) (told : List ℕ) (b : Bool) (items : List (Parcel M)) (views : List (View M))
      (h : Carries lane items views) (q : Times)
      → v.sends ≡ true → lane_of lane x ≡ v.lane → all_of_lane v.lane s b ≡ all_of_lane v.lane v.sent v.shut ++ x ∷ [] → get_elem? views pass ≡ some v
      → (q.got_at ≡ h.traffic.times.got_at) × (q.took_at ≡ h.traffic.times.took_at)
      → KeepsTime lane h.traffic.room (messages h.traffic.got) (messages (items ++ x ∷ [])) (changed h.traffic.sent_at v.lane told) q
      → Carries lane (items ++ x ∷ []) (set views pass (sender v.room v.lane s told b))
  moved pass v x s told b items views h q may is grown at same timed =
      let w : View M = sender v.room v.lane s told b in
      let mine = (h.fits pass v at).0 may in
      let sent : ℕ → List M = changed h.traffic.sent v.lane s in
      let closed : ℕ → Bool = changed h.traffic.closed v.lane b in
      let sent_at : ℕ → List ℕ = changed h.traffic.sent_at v.lane told in
      let new : Traffic M = record h.traffic { sent = sent; closed = closed; sent_at = sent_at; times = q } in
      let here : all_of_lane v.lane (sent v.lane) (closed v.lane) ≡ all_of_lane v.lane (h.traffic.sent v.lane) (h.traffic.closed v.lane) ++ x ∷ [] =
      (λ i. all_of_lane v.lane (changed_here h.traffic.sent v.lane s i) (changed_here h.traffic.closed v.lane b i)) ∙ grown
      ∙ (λ i. all_of_lane v.lane (sym mine.1 i) (sym mine.2 i) ++ x ∷ []) in
      let taken : (k : ℕ) → h.traffic.seat k ≡ none → k ≢ v.lane = λ k e q. some-ne-none pass (sym mine.0 ∙ ap h.traffic.seat (sym q) ∙ e) in record {
        traffic = new;
        order = grows h.traffic.got items x (λ j. all_of_lane j (h.traffic.sent j) (h.traffic.closed j)) (λ j. all_of_lane j (sent j) (closed j)) v.lane is
            h.order here (λ j other i. all_of_lane j (changed_else h.traffic.sent v.lane s j other i) (changed_else h.traffic.closed v.lane b j other i));
        others = λ k le. let q = h.others k le in let other = taken k q.0 in (
          q.0,
          changed_else h.traffic.sent v.lane s k other ∙ q.1,
          changed_else h.traffic.closed v.lane b k other
              ∙ q.2,
          changed_else h.traffic.sent_at v.lane told k other ∙ q.3,
        );
        timed = timed;
        fits = all_set (Fits new) views pass w (
          (λ _. (mine.0, changed_here h.traffic.sent v.lane s, changed_here h.traffic.closed v.lane b, changed_here h.traffic.sent_at v.lane told, mine.4)),
          (λ p. absurd (true≢false (sym p))),
          (λ k l. absurd (omega arith)),
        )
            (λ j u apart e. let f = h.fits j u e in (
              (λ p. let q = f.0 p in let other : u.lane ≢ v.lane = λ t. apart (some-injective j pass (sym q.0 ∙ ap h.traffic.seat t ∙ mine.0)) in (
                q.0,
                changed_else h.traffic.sent v.lane s u.lane other ∙ q.1,
                changed_else h.traffic.closed v.lane b u.lane other ∙ q.2,
                changed_else h.traffic.sent_at v.lane told u.lane other ∙ q.3,
                q.4,
              )),
              (λ p. let r = f.1 p in (r.0, r.1, r.2, r.3 ∙ sym same.0, r.4 ∙ sym same.1, r.5)),
              (λ k l. let q = f.2 k l in let other = taken k q.1 in
                  (q.0, q.1, q.2 ∙ sym (changed_else h.traffic.sent v.lane s k other), q.3 ∙ sym (changed_else h.traffic.sent_at v.lane told k other))),
            ));
      }

  -- a copy of the lane is accepted, after any given time, where the channel has the room that the lane knows
  pub offers : (after n pass : ℕ) (v : View M) (p : M) → v.sends ≡ true → v.shut ≡ false → v.room ≡ n → lane p ≡ v.lane
      → Pushes (Carries lane) n pass v (Copy p) (IsPut after v (Copy p))
  offers after n pass v p may not_shut room is items views short h at =
      let old = h.traffic in
      let mine = (h.fits pass v at).0 may in
      let t : ℕ = (old.times.latest + after) + 1 in
      let told : List ℕ = v.sent_at ++ t ∷ [] in
      let g : ℕ → List ℕ = changed old.sent_at v.lane told in
      let q : Times = record old.times { queue_at = old.times.queue_at ++ t ∷ []; latest = t } in
      let here : g v.lane ≡ old.sent_at v.lane ++ t ∷ [] = changed_here old.sent_at v.lane told ∙ ap (λ l. l ++ t ∷ []) (sym mine.3) in
      let fits : length (messages items) < old.room = omega (arith, messages_at_most lane items, short, room, mine.4) in
      let timed = put_time lane old.room after (messages old.got) (messages items) old.sent_at g old.times p v.lane is fits h.timed here
      (changed_else old.sent_at v.lane told) in
      let grown : all_of_lane v.lane (v.sent ++ p ∷ []) false ≡ all_of_lane v.lane v.sent v.shut ++ Copy p ∷ [] =
      sym (all_of_lane-put lane v.lane v.sent p) ∙ (λ i. all_of_lane v.lane v.sent (sym not_shut i) ++ Copy p ∷ []) in (
        sender v.room v.lane (v.sent ++ p ∷ []) told false,
        moved pass v (Copy p) (v.sent ++ p ∷ []) told false items views h q may is grown at (refl, refl)
            (subst (λ (l : List M). KeepsTime lane old.room (messages old.got) l g q) (sym (copies-append lane items (Copy p ∷ []))) timed),
        (t, (omega arith), refl),
      )

  -- the lane's mark is put
  pub marks : (after n pass : ℕ) (v : View M) → v.sends ≡ true → v.shut ≡ false → Pushes (Carries lane) n pass v (Mark v.lane) (IsPut after v (Mark v.lane))
  marks after n pass v may not_shut items views _ h at =
      let old = h.traffic in
      let mine = (h.fits pass v at).0 may in
      let g : ℕ → List ℕ = changed old.sent_at v.lane v.sent_at in
      let same : (j : ℕ) → g j ≡ old.sent_at j = λ j. ⊎_elim
      (λ (e : j ≡ v.lane). ap g e ∙ changed_here old.sent_at v.lane v.sent_at ∙ sym mine.3 ∙ ap old.sent_at (sym e))
      (λ (n : j ≢ v.lane). changed_else old.sent_at v.lane v.sent_at j n) (same? j v.lane) in
      let grown : all_of_lane v.lane v.sent true ≡ all_of_lane v.lane v.sent v.shut ++ Mark v.lane ∷ [] =
      sym (all_of_lane-end lane v.lane v.sent) ∙ (λ i. all_of_lane v.lane v.sent (sym not_shut i) ++ Mark v.lane ∷ []) in
      let none_more : messages items ≡ messages (items ++ Mark v.lane ∷ []) =
      sym (copies-append lane items (Mark v.lane ∷ []) ∙ append-nil (messages items)) in (
        sender v.room v.lane v.sent v.sent_at true,
        moved pass v (Mark v.lane) v.sent v.sent_at true items views h old.times may refl grown at (refl, refl)
            (subst (λ (l : List M). KeepsTime lane old.room (messages old.got) l g old.times) none_more
            (same_time lane old.room (messages old.got) (messages items) old.sent_at g old.times same h.timed)),
        refl,
      )

  -- what a taken parcel leaves
  abbrev Leaves : ℕ → List (Parcel M) → List (View M) → View M → Type 0
  Leaves pass items views w = Carries lane items (set views pass w) × IsFair lane w.lanes w.got × HaveMoments w.got_at w.took_at

  taken_as : (pass : ℕ) (v : View M) (x : Parcel M) (items : List (Parcel M)) (views : List (View M)) (h : Carries lane (x ∷ items) views)
      (accepted_at taken_at : List ℕ) (q : Times)
      → v.takes ≡ true → get_elem? views pass ≡ some v → accepted_at ≡ q.got_at → taken_at ≡ q.took_at
      → KeepsTime lane h.traffic.room (messages (h.traffic.got ++ x ∷ [])) (messages items) h.traffic.sent_at q
      → Leaves pass items views (taker v.room v.lanes (v.got ++ x ∷ []) accepted_at taken_at)
  taken_as pass v x items views h accepted_at taken_at q may at got_is took_is timed =
      let w : View M = taker v.room v.lanes (v.got ++ x ∷ []) accepted_at taken_at in
      let mine = (h.fits pass v at).1 may in
      let got : List (Parcel M) = h.traffic.got ++ x ∷ [] in
      let new : Traffic M = record h.traffic { got = got; times = q } in
      let there : (k : ℕ) → part lane k (got ++ items) ≡ all_of_lane k (h.traffic.sent k) (h.traffic.closed k) =
      λ k. ap (part lane k) (append_assoc h.traffic.got (x ∷ []) items) ∙ h.order k in
      let split : (k : ℕ) → part lane k got ++ part lane k items ≡ all_of_lane k (h.traffic.sent k) (h.traffic.closed k) =
      λ k. sym (part-append lane k got items) ∙ there k in
      let fair : IsFair lane h.traffic.lanes got = λ k. (
        prefix lane k (part lane k got) (part lane k items) (h.traffic.sent k) (h.traffic.closed k) (split k),
        λ le. let q = h.others k le in nil_left (part lane k got) (part lane k items) (split k ∙ (λ i. all_of_lane k (q.1 i) (q.2 i))),
      ) in (
        record {
          traffic = new;
          order = there;
          others = h.others;
          timed = timed;
          fits = all_set (Fits new) views pass w (
            (λ p. absurd (true≢false (sym p))),
            (λ _. (mine.0, mine.1, ap (λ l. l ++ x ∷ []) mine.2, got_is, took_is, mine.5)),
            (λ k l. absurd (omega arith)),
          )
              (λ j u apart e. let f = h.fits j u e in (f.0, (λ p. absurd (apart ((f.1 p).0 ∙ sym mine.0))), f.2));
        },
        subst (λ (y : ℕ × List (Parcel M)). IsFair lane y.0 y.1) (λ i. (sym mine.1 i, sym mine.2 i ++ x ∷ [])) fair,
        subst (λ (y : List ℕ × List ℕ). HaveMoments y.0 y.1) (λ i. (sym got_is i, sym took_is i))
            (timed_of lane h.traffic.room (messages got) (messages items) h.traffic.sent_at q timed),
      )

  -- the oldest parcel is taken, a message after any given time
  pub takes : (after pass : ℕ) (v : View M) → v.takes ≡ true
      → Pops (Carries lane) pass v (λ x w. IsTook after v x w × IsFair lane w.lanes w.got × HaveMoments w.got_at w.took_at)
  takes after pass v may (Copy m) items views h at =
      let old = h.traffic in
      let mine = (h.fits pass v at).1 may in
      let t : ℕ = (old.times.latest + after) + 1 in
      let step = take_time lane old.room after (messages old.got) (messages items) old.sent_at old.times m h.timed in
      let s : ℕ = step.accepted_at in
      let q : Times = record { got_at = old.times.got_at ++ s ∷ []; took_at = old.times.took_at ++ t ∷ []; queue_at = step.rest; latest = t } in
      let all = taken_as pass v (Copy m) items views h (v.got_at ++ s ∷ []) (v.took_at ++ t ∷ []) q may at (ap (λ l. l ++ s ∷ []) mine.3)
      (ap (λ l. l ++ t ∷ []) mine.4)
      (subst (λ (l : List M). KeepsTime lane old.room l (messages items) old.sent_at q) (sym (copies-append lane old.got (Copy m ∷ []))) step.keeps) in
      let below : s ≤ old.times.latest = step.below in (
        taker v.room v.lanes (v.got ++ Copy m ∷ []) (v.got_at ++ s ∷ []) (v.took_at ++ t ∷ []),
        all.0,
        ((s, t, (omega arith), (omega arith), refl), all.1, all.2),
      )
  takes after pass v may (Mark k) items views h at =
      let old = h.traffic in
      let mine = (h.fits pass v at).1 may in
      let all = taken_as pass v (Mark k) items views h v.got_at v.took_at old.times may at mine.3 mine.4
      (subst (λ (l : List M). KeepsTime lane old.room l (messages items) old.sent_at old.times)
      (sym (copies-append lane old.got (Mark k ∷ []) ∙ append-nil (messages old.got))) h.timed) in (
        taker v.room v.lanes (v.got ++ Mark k ∷ []) v.got_at v.took_at,
        all.0,
        (refl, all.1, all.2),
      )

  -- the next lane gets its pass; which room there is may be picked with the first
  pub lanes : (room pass : ℕ) (v : View M) → v.takes ≡ true → (0 < v.lanes → v.room ≡ room)
      → Forks (Carries lane) pass v (taker room (v.lanes + 1) v.got v.got_at v.took_at) (sender room v.lanes [] [] false)
  lanes room pass v may picked items views h at =
      let left : View M = taker room (v.lanes + 1) v.got v.got_at v.took_at in
      let right : View M = sender room v.lanes [] [] false in
      let mine = (h.fits pass v at).1 may in
      let old_room : 0 < h.traffic.lanes → h.traffic.room ≡ room = λ some. let is : v.lanes ≡ h.traffic.lanes = mine.1 in sym mine.5 ∙ picked (omega arith) in
      let makes_room : MakesRoom room (h.traffic.times.got_at ++ h.traffic.times.queue_at) h.traffic.times.took_at = ⊎_elim
      (λ (some : 0 < h.traffic.lanes). subst (λ (n : ℕ). MakesRoom n (h.traffic.times.got_at ++ h.traffic.times.queue_at) h.traffic.times.took_at)
      (old_room some) h.timed.makes_room)
      (λ (none : h.traffic.lanes ≤ 0). any_room lane h.traffic.room room (messages h.traffic.got) (messages items)
      h.traffic.sent_at h.traffic.times h.timed (λ k. (h.others k (omega arith)).3))
      (below? 0 h.traffic.lanes) in
      let vs : List (View M) = set views pass left in
      let seat : ℕ → Option ℕ = changed h.traffic.seat v.lanes (some (length vs)) in
      let free = h.others v.lanes (let e : v.lanes ≡ h.traffic.lanes = mine.1 in omega arith) in
      let new : Traffic M = record h.traffic { seat = seat; lanes = v.lanes + 1; room = room } in
      let old : All (Fits new) vs = all_set (Fits new) views pass left
      ((λ p. absurd (true≢false (sym p))), (λ _. (mine.0, refl, mine.2, mine.3, mine.4, refl)), (λ k l. absurd (omega arith)))
      (λ j u apart e. let f = h.fits j u e in (
        (λ p. let q = f.0 p in (
          changed_else h.traffic.seat v.lanes (some (length vs)) u.lane (λ t. some-ne-none j (sym q.0 ∙ ap h.traffic.seat t ∙ free.0)) ∙ q.0,
          q.1,
          q.2,
          q.3,
          q.4 ∙ old_room (⊎_elim (λ (low : u.lane < h.traffic.lanes). omega arith)
              (λ (le : h.traffic.lanes ≤ u.lane). absurd (some-ne-none j (sym q.0 ∙ (h.others u.lane le).0)))
              (below? u.lane h.traffic.lanes)),
        )),
        (λ p. absurd (apart ((f.1 p).0 ∙ sym mine.0))),
        (λ k l. let q = f.2 k l in let below : k < h.traffic.lanes = q.0 in let is : v.lanes ≡ h.traffic.lanes = mine.1 in (
          (omega arith),
          changed_else h.traffic.seat v.lanes (some (length vs)) k (λ t. omega arith) ∙ q.1,
          q.2,
          q.3,
        )),
      )) in record {
        traffic = new;
        order = h.order;
        others = λ k le. let is : v.lanes ≡ h.traffic.lanes = mine.1 in let q = h.others k (omega arith) in
            (changed_else h.traffic.seat v.lanes (some (length vs)) k (λ t. omega arith) ∙ q.0, q.1, q.2, q.3);
        timed = roomier lane h.traffic.room room (messages h.traffic.got) (messages items) h.traffic.sent_at h.traffic.times h.timed makes_room;
        fits = (λ j u e. ⊎_elim (old j u)
            (λ (is : (j ≡ length vs) × (right ≡ u)). subst (λ (y : ℕ × View M). Fits new y.0 y.1) (λ i. (sym is.0 i, is.1 i)) (
              (λ _. (changed_here h.traffic.seat v.lanes (some (length vs)), free.1, free.2, free.3, refl)),
              (λ p. absurd (true≢false (sym p))),
              (λ k l. absurd (omega arith)),
            ))
            (at_end vs right u j e));
      }

  -- a pass that knows nothing
  pub opens : (pass : ℕ) (v : View M) → Forks (Carries lane) pass v v (knower [] [])
  opens pass v items views h at =
      let vs : List (View M) = set views pass v in
      let F : ℕ → View M → Type 0 = Fits h.traffic in
      let old : All F vs = all_set F views pass v (h.fits pass v at) (λ j u apart e. h.fits j u e) in record {
        traffic = h.traffic;
        order = h.order;
        others = h.others;
        timed = h.timed;
        fits = (λ j u e. ⊎_elim (old j u)
            (λ (is : (j ≡ length vs) × (knower [] [] ≡ u)). subst (F j) is.1
            ((λ p. absurd (true≢false (sym p))), (λ p. absurd (true≢false (sym p))), (λ k l. absurd (omega arith))))
            (at_end vs (knower [] []) u j e));
      }

  -- what a lane's pass knows joins what is known of the lanes before
  pub ends : (pass : ℕ) (v : View M) (other : ℕ) (w : View M) → w.sends ≡ true → length v.known ≡ w.lane → length v.known_at ≡ length v.known
      → Merges (Carries lane) pass v other w (knower (v.known ++ w.sent ∷ []) (v.known_at ++ w.sent_at ∷ [])) (knower [] [])
  ends pass v other w may next as_many items views h at apart at' =
      let ls : List (List M) = v.known ++ w.sent ∷ [] in
      let ts : List (List ℕ) = v.known_at ++ w.sent_at ∷ [] in
      let both : View M = knower ls ts in
      let was : get_elem? views other ≡ some w = ⊎_elim (λ x. absurd (apart x.0)) (λ x. x.1) (at_set views pass other both w at') in
      let theirs = (h.fits other w was).0 may in
      let mine = (h.fits pass v at).2 in
      let seat : ℕ → Option ℕ = changed h.traffic.seat w.lane none in
      let gone : (k : ℕ) → h.traffic.seat k ≡ none → seat k ≡ none =
      λ k e. ⊎_elim (λ t. ap seat t ∙ changed_here h.traffic.seat w.lane none) (λ n. changed_else h.traffic.seat w.lane none k n ∙ e) (same? k w.lane) in
      let F : ℕ → View M → Type 0 = Fits (record h.traffic { seat = seat }) in
      let known : FitsKnown (record h.traffic { seat = seat }) both = λ k l. ⊎_elim
      (λ (low : k < length v.known). let q = mine k
      low in (
        q.0,
        gone k q.1,
        get_or_append_left v.known (w.sent ∷ []) [] k low
            ∙ q.2,
        get_or_append_left v.known_at (w.sent_at ∷ []) [] k (omega (arith, as_many)) ∙ q.3,
      ))
      (λ (is : k ≡ length v.known). let at_k : k ≡ w.lane = is ∙ next in (
        ⊎_elim (λ (x : k < h.traffic.lanes). x)
            (λ (le : h.traffic.lanes ≤ k). absurd (some-ne-none other (sym theirs.0 ∙ ap h.traffic.seat (sym at_k) ∙ (h.others k le).0)))
            (below? k h.traffic.lanes),
        ap seat at_k ∙ changed_here h.traffic.seat w.lane none,
        ap (λ (i : ℕ). get_or ls i []) is ∙ get_or_last v.known w.sent [] ∙ sym theirs.1 ∙ ap h.traffic.sent (sym at_k),
        ap (λ (i : ℕ). get_or ts i []) (is ∙ sym as_many) ∙ get_or_last v.known_at w.sent_at [] ∙ sym theirs.3 ∙ ap h.traffic.sent_at (sym at_k),
      ))
      (last? v.known w.sent k l) in
      let now : (j : ℕ) (u : View M) → j ≢ other → get_elem? (set views pass both) j ≡ some u → F j u = λ j u away e. ⊎_elim
      (λ (is : (j ≡ pass) × (both ≡ u)). subst (F j) is.1 ((λ p. absurd (true≢false (sym p))), (λ p. absurd (true≢false (sym p))), known))
      (λ (is : (j ≢ pass) × (get_elem? views j ≡ some u)). let f = h.fits j u is.1 in (
        (λ p. let q = f.0 p in (
          changed_else h.traffic.seat w.lane none u.lane (λ t. away (some-injective j other (sym q.0 ∙ ap h.traffic.seat t ∙ theirs.0)))
              ∙ q.0,
          q.1,
          q.2,
          q.3,
          q.4,
        )),
        f.1,
        (λ k l. let q = f.2 k l in (q.0, gone k q.1, q.2, q.3)),
      ))
      (at_set views pass j both u e) in record {
        traffic = record h.traffic { seat = seat };
        order = h.order;
        others = λ k le. let q = h.others k le in (gone k q.0, q.1, q.2, q.3);
        timed = h.timed;
        fits = all_set F (set views pass both) other (knower [] [])
            ((λ p. absurd (true≢false (sym p))), (λ p. absurd (true≢false (sym p))), (λ k l. absurd (omega arith))) now;
      }

  -- what is known of the lanes joins what was taken
  pub settles : (pass : ℕ) (v : View M) (other : ℕ) (w : View M) → w.takes ≡ true → Merges (Carries lane) pass v other w (settled v w) (knower [] [])
  settles pass v other w may items views h at apart at' =
      let both : View M = settled v w in
      let was : get_elem? views other ≡ some w = ⊎_elim (λ x. absurd (apart x.0)) (λ x. x.1) (at_set views pass other both w at') in
      let theirs = (h.fits other w was).1 may in
      let F : ℕ → View M → Type 0 = Fits (record h.traffic { reader = pass }) in
      let now : (j : ℕ) (u : View M) → j ≢ other → get_elem? (set views pass both) j ≡ some u → F j u = λ j u away e. ⊎_elim
      (λ (is : (j ≡ pass) × (both ≡ u)). subst (λ (y : ℕ × View M). F y.0 y.1) (λ i. (sym is.0 i, is.1 i))
      ((λ p. absurd (true≢false (sym p))), (λ _. (refl, theirs.1, theirs.2, theirs.3, theirs.4, theirs.5)), (h.fits pass v at).2))
      (λ (is : (j ≢ pass) × (get_elem? views j ≡ some u)). let f = h.fits j u is.1 in (f.0, (λ p. absurd (away ((f.1 p).0 ∙ sym theirs.0))), f.2))
      (at_set views pass j both u e) in record {
        traffic = record h.traffic { reader = pass };
        order = h.order;
        others = h.others;
        timed = h.timed;
        fits = all_set F (set views pass both) other (knower [] [])
            ((λ p. absurd (true≢false (sym p))), (λ p. absurd (true≢false (sym p))), (λ k l. absurd (omega arith))) now;
      }

  -- what was taken of the known lanes
  agrees : (pass : ℕ) (v : View M) → v.takes ≡ true → Learns (Carries lane) pass v (λ items. Agrees lane v)
  agrees pass v may items views h at k l =
      let f = h.fits pass v at in
      let got : v.got ≡ h.traffic.got = (f.1 may).2 in
      let split : part lane k v.got ++ part lane k items ≡ all_of_lane k (h.traffic.sent k) (h.traffic.closed k) =
      (λ i. part lane k (got i) ++ part lane k items) ∙ sym (part-append lane k h.traffic.got items) ∙ h.order k in
      let sent : h.traffic.sent k ≡ slice_index_or v.known k [] = sym (f.2 k l).2 in
      let rest : List M = messages (part lane k items) in
      let both : messages (part lane k v.got) ++ rest ≡ h.traffic.sent k =
      sym (copies-append lane (part lane k v.got) (part lane k items)) ∙ ap messages split
      ∙ copies-all_of_lane lane k (h.traffic.sent k) (h.traffic.closed k) in (
        record { rest = rest; whole = sym ((λ i. of-copies lane k v.got i ++ rest) ∙ both ∙ sent) },
        (λ mark. of-copies lane k v.got
            ∙ all-there lane k (part lane k v.got) (part lane k items) (h.traffic.sent k) (h.traffic.closed k) split (has_mark-part lane k v.got ∙ mark)
            ∙ sent),
      )

  -- what the channel accepted, beside what was taken
  passed : (pass : ℕ) (v : View M) → v.takes ≡ true → Learns (Carries lane) pass v (λ items. HasPassed lane v)
  passed pass v may items views h at =
      let f = h.fits pass v at in
      let mine = f.1 may in
      let got : v.got ≡ h.traffic.got = mine.2 in
      let all : (k : ℕ) → of lane k (messages v.got ++ messages items) ≡ h.traffic.sent k = λ k.
      ap (of lane k) ((λ i. messages (got i) ++ messages items) ∙ sym (copies-append lane h.traffic.got items)) ∙ of-copies lane k (h.traffic.got ++ items)
      ∙ ap messages (h.order k) ∙ copies-all_of_lane lane k (h.traffic.sent k) (h.traffic.closed k) in record {
        waiting = messages items;
        sent_at = h.traffic.sent_at;
        times = h.traffic.times;
        got_is = mine.3;
        took_is = mine.4;
        keeps = subst (λ (y : ℕ × List (Parcel M)). KeepsTime lane y.0 (messages y.1) (messages items) h.traffic.sent_at h.traffic.times)
            (λ i. (sym mine.5 i, sym got i)) h.timed;
        same = λ k l. let q = f.2 k l in (all k ∙ sym q.2, sym q.3);
        others = λ k le. let is : v.lanes ≡ h.traffic.lanes = mine.1 in let q = h.others k (omega arith) in (all k ∙ q.1, q.3);
      }

  pub learns : (pass : ℕ) (v : View M) → v.takes ≡ true → Learns (Carries lane) pass v (λ items. Agrees lane v × HasPassed lane v)
  learns pass v may items views h at = (agrees pass v may items views h at, passed pass v may items views h at)
