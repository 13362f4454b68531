-- One deed more of a thread, at a time after all that it knows.
use Rattle.std.proofs.Common.{◌≡◌, ◌≢◌, ℕ, zero, suc, ◌<◌, ◌≤◌, List, [], ◌∷◌, ◌++◌, Bool, true, false, Some, inl, inr, refl, ap, sym, ◌∙◌, subst, append-nil}
use Rattle.std.proofs.Common.{append_assoc, arith}
use Rattle.std.specs.Prelude.{sum_by, slice_get, slice_set}
use Rattle.std.proofs.lemmas.List.{map-append}
use Rattle.std.proofs.lemmas.List.Elements.{filter-append}
use Rattle.std.proofs.lemmas.List.Sums.{sum_by-cons}
use Rattle.mail_world.proofs.Accepted.{get_set}
use Rattle.mail_world.proofs.Holds.{sum_set}
use Rattle.mail_world.proofs.LastSeal.{length_set}
use Rattle.mail_runs.specs.Deeds.{Deed}
use Rattle.mail_runs.specs.Timed.{TimedDeed, times, those, RisesTo}
use Rattle.mail_post.specs.Channel.{Sender, Inbox}
use Rattle.mail_post.specs.Times.{last_of}
use Rattle.mail_post.specs.Offered.{given}
use Rattle.mail_post.specs.InTime.{Ends, clock_of, Sorts, AreInTime}

-- one more time, after all
rises_more : (lo mid hi t : ℕ) (ts : List ℕ) → RisesTo lo mid ts → mid < t → t ≤ hi → RisesTo lo hi (ts ++ t ∷ [])
rises_more lo mid hi t [] low later within = let le : lo ≤ mid = low in (omega arith, within)
rises_more lo mid hi t (x ∷ ts) r later within = (r.0, rises_more x mid hi t ts r.1 later within)

rises_within : (lo mid hi : ℕ) (ts : List ℕ) → RisesTo lo mid ts → mid ≤ hi → RisesTo lo hi ts
rises_within lo mid hi [] low le = let first : lo ≤ mid = low in omega arith
rises_within lo mid hi (x ∷ ts) r le = (r.0, rises_within x mid hi ts r.1 le)

last_more : (lo : ℕ) (ts : List ℕ) (t : ℕ) → last_of lo (ts ++ t ∷ []) ≡ t
last_more lo [] t = refl
last_more lo (x ∷ ts) t = last_more x ts t

-- the times of one more deed, where it is one of those, and where it isn't
times_of_more : (f : Deed → Bool) (deeds : List TimedDeed) (d : TimedDeed)
    → times (those f (deeds ++ d ∷ [])) ≡ times (those f deeds) ++ times (those f (d ∷ []))
times_of_more f deeds d =
    ap times (filter-append (λ (x : TimedDeed). f x.what) deeds (d ∷ [])) ∙ map-append (λ (x : TimedDeed). x.at) (those f deeds) (those f (d ∷ []))

one_of_those : (f : Deed → Bool) (d : TimedDeed) → f d.what ≡ true → times (those f (d ∷ [])) ≡ d.at ∷ []
one_of_those f d is = rw is refl

none_of_those : (f : Deed → Bool) (d : TimedDeed) → f d.what ≡ false → times (those f (d ∷ [])) ≡ []
none_of_those f d no_such = rw no_such refl

abbrev pub deed : Deed → ℕ → TimedDeed
deed what at = record { what = what; at = at }

-- a part of one more deed
part_more : (f : Deed → Bool) (deeds : List TimedDeed) (what : Deed) (t : ℕ) (old new : List ℕ) → new ≡ old ++ times (those f deeds) → f what ≡ true
    → new ++ t ∷ [] ≡ old ++ times (those f (deeds ++ deed what t ∷ []))
part_more f deeds what t old new e is =
    ap (λ l. l ++ t ∷ []) e ∙ append_assoc old (times (those f deeds)) (t ∷ [])
    ∙ ap (λ l. old ++ (times (those f deeds) ++ l)) (sym (one_of_those f (deed what t) is)) ∙ ap (λ l. old ++ l) (sym (times_of_more f deeds (deed what t)))

part_same : (f : Deed → Bool) (deeds : List TimedDeed) (what : Deed) (t : ℕ) (old new : List ℕ) → new ≡ old ++ times (those f deeds) → f what ≡ false
    → new ≡ old ++ times (those f (deeds ++ deed what t ∷ []))
part_same f deeds what t old new e none_such =
    e ∙ ap (λ l. old ++ l) (sym (append-nil (times (those f deeds))))
    ∙ ap (λ l. old ++ (times (those f deeds) ++ l)) (sym (none_of_those f (deed what t) none_such))
    ∙ ap (λ l. old ++ l) (sym (times_of_more f deeds (deed what t)))

times_more : (deeds : List TimedDeed) (what : Deed) (t : ℕ) → times (deeds ++ deed what t ∷ []) ≡ times deeds ++ t ∷ []
times_more deeds what t = map-append (λ (x : TimedDeed). x.at) deeds (deed what t ∷ [])

-- an element counts no more than all
sum_part : {A : Type 0} (f : A → ℕ) (xs : List A) (i : ℕ) (x : A) → slice_get xs i ≡ Some x → f x ≤ sum_by f xs
sum_part f [] i x e = cc
sum_part f (y ∷ xs) zero x e =
    let same : y ≡ x = cc in
    let count : f y ≡ f x = ap f same in
    omega (arith, sum_by-cons f y xs)
sum_part f (y ∷ xs) (suc i) x e = omega (arith, sum_part f xs i x e, sum_by-cons f y xs)

module _ {A B : Type 0} (sorts : Sorts) where
  -- nothing was done
  pub none_done : (ends : Ends A B) → AreInTime sorts [] ends ends
  none_done ends = record {
    rises = omega arith;
    as_many = refl;
    gave = λ at before after is is'. let same : before ≡ after = cc in sym (append-nil before.sent_at ∙ ap (λ (s : Sender A). s.sent_at) same);
    took = sym (append-nil ends.inbox.took_at);
  }

  -- a sender's channel accepted a message
  pub gave_more : (deeds : List TimedDeed) (old now : Ends A B) (at t : ℕ) (sender : Sender A) (message : A) (what : Deed) → AreInTime sorts deeds old now
      → slice_get now.senders at ≡ Some sender → clock_of now.senders now.inbox < t → sorts.gives at what ≡ true
      → ((c : ℕ) → c ≢ at → sorts.gives c what ≡ false) → sorts.takes what ≡ false
      → AreInTime sorts (deeds ++ deed what t ∷ []) old (record { senders = slice_set now.senders at (given sender message t true); inbox = now.inbox })
  gave_more deeds old now at t sender message what x is later gives elsewhere none_taken =
      let next : Sender A = given sender message t true in
      let last : Sender A → ℕ = λ s. last_of 0 s.sent_at in
      let sum = sum_set last now.senders at sender next is in
      let now_last : last_of 0 (sender.sent_at ++ t ∷ []) ≡ t = last_more 0 sender.sent_at t in
      let low : last_of 0 sender.sent_at ≤ sum_by last now.senders = sum_part last now.senders at sender is in
      let within : t ≤ clock_of (slice_set now.senders at next) now.inbox = omega arith in
      record {
        rises = subst (RisesTo (clock_of old.senders old.inbox) (clock_of (slice_set now.senders at next) now.inbox)) (sym (times_more deeds what t))
            (rises_more (clock_of old.senders old.inbox) (clock_of now.senders now.inbox) (clock_of (slice_set now.senders at next) now.inbox) t (times deeds)
            x.rises later within);
        as_many = length_set now.senders at next ∙ x.as_many;
        gave = λ c before after was is'. elim (get_set now.senders at c next after is') [
          | inl here ↦
              let was_at : slice_get old.senders at ≡ Some before = subst (λ n. slice_get old.senders n ≡ Some before) here.0 was in
              sym (ap (λ (s : Sender A). s.sent_at) here.1)
              ∙ part_more (sorts.gives at) deeds what t before.sent_at sender.sent_at (x.gave at before sender was_at is) gives
              ∙ ap (λ n. before.sent_at ++ times (those (sorts.gives n) (deeds ++ deed what t ∷ []))) (sym here.0)
          | inr other ↦ part_same (sorts.gives c) deeds what t before.sent_at after.sent_at (x.gave c before after was other.1) (elsewhere c other.0)
        ];
        took = part_same sorts.takes deeds what t old.inbox.took_at now.inbox.took_at x.took none_taken;
      }

  -- a sender's channel handed a message back
  pub gone_keeps_time : (deeds : List TimedDeed) (old now : Ends A B) (at t : ℕ) (sender : Sender A) (message : A) → AreInTime sorts deeds old now
      → slice_get now.senders at ≡ Some sender
      → AreInTime sorts deeds old (record { senders = slice_set now.senders at (given sender message t false); inbox = now.inbox })
  gone_keeps_time deeds old now at t sender message x is =
      let next : Sender A = given sender message t false in
      let last : Sender A → ℕ = λ s. last_of 0 s.sent_at in
      let sum = sum_set last now.senders at sender next is in
      record {
        rises = rises_within (clock_of old.senders old.inbox) (clock_of now.senders now.inbox) (clock_of (slice_set now.senders at next) now.inbox)
            (times deeds) x.rises (omega arith);
        as_many = length_set now.senders at next ∙ x.as_many;
        gave = λ c before after was is'. elim (get_set now.senders at c next after is') [
          | inl here ↦
              let was_at : slice_get old.senders at ≡ Some before = subst (λ n. slice_get old.senders n ≡ Some before) here.0 was in
              sym (ap (λ (s : Sender A). s.sent_at) here.1) ∙ x.gave at before sender was_at is
              ∙ ap (λ n. before.sent_at ++ times (those (sorts.gives n) deeds)) (sym here.0)
          | inr other ↦ x.gave c before after was other.1
        ];
        took = x.took;
      }

  -- a message was taken
  pub took_more : (deeds : List TimedDeed) (old now : Ends A B) (inbox : Inbox B) (t : ℕ) (what : Deed) → AreInTime sorts deeds old now
      → inbox.took_at ≡ now.inbox.took_at ++ t ∷ [] → clock_of now.senders now.inbox < t → sorts.takes what ≡ true → ((at : ℕ) → sorts.gives at what ≡ false)
      → AreInTime sorts (deeds ++ deed what t ∷ []) old (record { senders = now.senders; inbox = inbox })
  took_more deeds old now inbox t what x took later takes gives_none =
      let now_last : last_of 0 inbox.took_at ≡ t = ap (last_of 0) took ∙ last_more 0 now.inbox.took_at t in
      let within : t ≤ clock_of now.senders inbox = omega arith in
      record {
        rises = subst (RisesTo (clock_of old.senders old.inbox) (clock_of now.senders inbox)) (sym (times_more deeds what t))
            (rises_more (clock_of old.senders old.inbox) (clock_of now.senders now.inbox) (clock_of now.senders inbox) t (times deeds) x.rises later within);
        as_many = x.as_many;
        gave = λ c before after was is. part_same (sorts.gives c) deeds what t before.sent_at after.sent_at (x.gave c before after was is) (gives_none c);
        took = took ∙ part_more sorts.takes deeds what t old.inbox.took_at now.inbox.took_at x.took takes;
      }

  -- none was
  pub took_none : (deeds : List TimedDeed) (old now : Ends A B) (inbox : Inbox B) → AreInTime sorts deeds old now → inbox.took_at ≡ now.inbox.took_at
      → AreInTime sorts deeds old (record { senders = now.senders; inbox = inbox })
  took_none deeds old now inbox x same =
      let still : last_of 0 inbox.took_at ≡ last_of 0 now.inbox.took_at = ap (last_of 0) same in
      record {
        rises = rises_within (clock_of old.senders old.inbox) (clock_of now.senders now.inbox) (clock_of now.senders inbox) (times deeds) x.rises (omega arith);
        as_many = x.as_many;
        gave = x.gave;
        took = same ∙ x.took;
      }
