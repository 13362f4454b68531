-- What is known of each thread and each channel gives times that agree.
use Rattle.std.proofs.Common.{◌≡◌, ℕ, zero, suc, ◌+◌, ◌<◌, ◌≤◌, ◌==◌, if◌then◌else◌, List, [], ◌∷◌, ◌++◌, length, map, filter, Bool, true, false, refl, ap, sym}
use Rattle.std.proofs.Common.{◌∙◌, subst, ⊎_elim, arith}
use Rattle.std.specs.Prelude.{flat_map}
use Rattle.std.specs.List.{AllByRecursion}
use Rattle.std.proofs.lemmas.Bool.{eqb-true}
use Rattle.std.proofs.lemmas.List.{map-append, length-map}
use Rattle.std.proofs.lemmas.List.Elements.{filter-append}
use Rattle.mail_world.specs.declared.Note.{Note}
use Rattle.mail_world.specs.declared.Slip.{Slip}
use Rattle.mail_world.specs.declared.Outcome.{Outcome}
use Rattle.mail_world.specs.Slips.{slip_of, slips_from}
use Rattle.mail_world.specs.Lists.{copies}
use Rattle.mail_runs.specs.Deeds.{Deed, Gave, Took, Told, Heard, given_in, taken_in, told_in, heard_in, of_mailbox, slips_to, is_of_worker, turns_of}
use Rattle.mail_runs.specs.Courses.{Server, Course, outcomes_in, IsCourse}
use Rattle.mail_runs.specs.Histories.{Threads, IsWithin}
use Rattle.mail_runs.specs.Timed.{TimedDeed, Timed, whats, times, those, is_of_lane, gives_to, takes_from, tells_to, hears_from, accepted_by, taken_of, RisesTo}
use Rattle.mail_runs.specs.Timed.{AreTimed}
use Rattle.mail_runs.specs.Known.{AreLater, times_of, passed, is_of_lanes, is_heard, is_taken, Known, AreKnown, timed_of}
use Rattle.mail_runs.proofs.Parts.{passes, fails, same_number}
use Rattle.mail_runs.proofs.ByTime.{low?}
use Rattle.mail_runs.proofs.OneLane.{of_transactions, many}
use Rattle.mail_runs.proofs.Timed.{whats_those, taken_in_turns}

-- what deeds are and when they were done is all of them
same_deeds : (xs ys : List TimedDeed) → whats xs ≡ whats ys → times xs ≡ times ys → xs ≡ ys
same_deeds [] [] w t = refl
same_deeds [] (y ∷ ys) w t = absurd (cc)
same_deeds (x ∷ xs) [] w t = absurd (cc)
same_deeds (x ∷ xs) (y ∷ ys) w t =
    let what : x.what ≡ y.what = cc in
    let at : x.at ≡ y.at = cc in
    let more : xs ≡ ys = same_deeds xs ys (cc) (cc) in λ i. record { what = what i; at = at i } ∷ more i

module _ {A : Type 0} where
  -- where two tests say the same of each, the same pass
  same_at : (p q : A → Bool) (x : A) (xs : List A) (b : Bool) → q x ≡ b → p x ≡ q x → filter p xs ≡ filter q xs → filter p (x ∷ xs) ≡ filter q (x ∷ xs)
  same_at p q x xs true e same more = passes p x xs (same ∙ e) ∙ ap (λ l. x ∷ l) more ∙ sym (passes q x xs e)
  same_at p q x xs false e same more = fails p x xs (same ∙ e) ∙ more ∙ sym (fails q x xs e)

  same_pass : (p q : A → Bool) (xs : List A) → AllByRecursion (λ x. p x ≡ q x) xs → filter p xs ≡ filter q xs
  same_pass p q [] all = refl
  same_pass p q (x ∷ xs) all = same_at p q x xs (q x) refl all.0 (same_pass p q xs all.1)

  all_pass : (p : A → Bool) (xs : List A) → AllByRecursion (λ x. p x ≡ true) xs → filter p xs ≡ xs
  all_pass p [] all = refl
  all_pass p (x ∷ xs) all = passes p x xs all.0 ∙ ap (λ l. x ∷ l) (all_pass p xs all.1)

  -- what holds of each that passes
  passing_at : (p : A → Bool) (x : A) (xs : List A) (b : Bool) → p x ≡ b → AllByRecursion (λ y. p y ≡ true) (filter p xs)
      → AllByRecursion (λ y. p y ≡ true) (filter p (x ∷ xs))
  passing_at p x xs true e more = subst (λ l. AllByRecursion (λ y. p y ≡ true) l) (sym (passes p x xs e)) (e, more)
  passing_at p x xs false e more = subst (λ l. AllByRecursion (λ y. p y ≡ true) l) (sym (fails p x xs e)) more

  each_passes : (p : A → Bool) (xs : List A) → AllByRecursion (λ x. p x ≡ true) (filter p xs)
  each_passes p [] = tt
  each_passes p (x ∷ xs) = passing_at p x xs (p x) refl (each_passes p xs)

  implied : (P Q : A → Type 0) (xs : List A) → ((x : A) → P x → Q x) → AllByRecursion P xs → AllByRecursion Q xs
  implied P Q [] f all = tt
  implied P Q (x ∷ xs) f all = (f x all.0, implied P Q xs f all.1)

  both_hold : (P Q R : A → Type 0) (xs : List A) → ((x : A) → P x → Q x → R x) → AllByRecursion P xs → AllByRecursion Q xs → AllByRecursion R xs
  both_hold P Q R [] f a b = tt
  both_hold P Q R (x ∷ xs) f a b = (f x a.0 b.0, both_hold P Q R xs f a.1 b.1)

  -- what holds of each part, of all
  tail_at : (P : A → Type 0) (p : A → Bool) (x : A) (xs : List A) (b : Bool) → p x ≡ b → AllByRecursion P (filter p (x ∷ xs)) → AllByRecursion P (filter p xs)
  tail_at P p x xs true e all = (subst (λ l. AllByRecursion P l) (passes p x xs e) all).1
  tail_at P p x xs false e all = subst (λ l. AllByRecursion P l) (fails p x xs e) all

  from_parts : (P : A → Type 0) (of : A → ℕ) (n : ℕ) (xs : List A) → AllByRecursion (λ x. of x < n) xs
      → ((k : ℕ) → k < n → AllByRecursion P (filter (λ x. of x == k) xs)) → AllByRecursion P xs
  from_parts P of n [] low parts = tt
  from_parts P of n (x ∷ xs) low parts = (
    (subst (λ l. AllByRecursion P l) (passes (λ y. of y == of x) x xs (same_number (of x) (of x) refl)) (parts (of x) low.0)).0,
    from_parts P of n xs low.1 (λ k below. tail_at P (λ y. of y == k) x xs (of x == k) refl (parts k below)),
  )

-- of deeds those that pass a test are made of what is picked of them
module _ {A : Type 0} (make : A → Deed) (pick : Deed → List A) (p : A → Bool) (test : Deed → Bool) where
  abbrev Makes : Deed → Type 0
  Makes d = filter test (d ∷ []) ≡ map make (filter p (pick d))

  makes_if : (x : A) (b : Bool) → p x ≡ b → test (make x) ≡ p x → filter test (make x ∷ []) ≡ map make (filter p (x ∷ []))
  makes_if x true e same = passes test (make x) [] (same ∙ e) ∙ sym (ap (map make) (passes p x [] e))
  makes_if x false e same = fails test (make x) [] (same ∙ e) ∙ sym (ap (map make) (fails p x [] e))

  made : ((d : Deed) → Makes d) → (ds : List Deed) → filter test ds ≡ map make (filter p (flat_map pick ds))
  made each [] = refl
  made each (d ∷ ds) =
      filter-append test (d ∷ []) ds ∙ (λ i. each d i ++ made each ds i)
      ∙ sym (ap (map make) (filter-append p (pick d) (flat_map pick ds)) ∙ map-append make (filter p (pick d)) (filter p (flat_map pick ds)))

made_given : (b : ℕ) (ds : List Deed) → filter (gives_to b) ds ≡ map Gave (of_mailbox b (flat_map given_in ds))
made_given b = made Gave given_in (λ (n : Note). n.mailbox == b) (gives_to b) each
  where
    each : (d : Deed) → Makes Gave given_in (λ (n : Note). n.mailbox == b) (gives_to b) d
    each (Gave note) = makes_if Gave given_in (λ (n : Note). n.mailbox == b) (gives_to b) note (note.mailbox == b) refl refl
    each (Took note) = refl
    each (Told slip) = refl
    each (Heard slip) = refl

made_taken : (b : ℕ) (ds : List Deed) → filter (takes_from b) ds ≡ map Took (of_mailbox b (flat_map taken_in ds))
made_taken b = made Took taken_in (λ (n : Note). n.mailbox == b) (takes_from b) each
  where
    each : (d : Deed) → Makes Took taken_in (λ (n : Note). n.mailbox == b) (takes_from b) d
    each (Gave note) = refl
    each (Took note) = makes_if Took taken_in (λ (n : Note). n.mailbox == b) (takes_from b) note (note.mailbox == b) refl refl
    each (Told slip) = refl
    each (Heard slip) = refl

made_told : (k : ℕ) (ds : List Deed) → filter (tells_to k) ds ≡ map Told (slips_to k (flat_map told_in ds))
made_told k = made Told told_in (λ (x : Slip). x.txn.lane == k) (tells_to k) each
  where
    each : (d : Deed) → Makes Told told_in (λ (x : Slip). x.txn.lane == k) (tells_to k) d
    each (Gave note) = refl
    each (Took note) = refl
    each (Told slip) = makes_if Told told_in (λ (x : Slip). x.txn.lane == k) (tells_to k) slip (slip.txn.lane == k) refl refl
    each (Heard slip) = refl

made_heard : (k : ℕ) (ds : List Deed) → filter (hears_from k) ds ≡ map Heard (slips_to k (flat_map heard_in ds))
made_heard k = made Heard heard_in (λ (x : Slip). x.txn.lane == k) (hears_from k) each
  where
    each : (d : Deed) → Makes Heard heard_in (λ (x : Slip). x.txn.lane == k) (hears_from k) d
    each (Gave note) = refl
    each (Took note) = refl
    each (Told slip) = refl
    each (Heard slip) = makes_if Heard heard_in (λ (x : Slip). x.txn.lane == k) (hears_from k) slip (slip.txn.lane == k) refl refl

told_in_turns : (b : ℕ) (notes : List Note) (outcomes : List Outcome) → flat_map told_in (turns_of b notes outcomes) ≡ slips_from b outcomes notes
told_in_turns b [] [] = refl
told_in_turns b [] (outcome ∷ outcomes) = refl
told_in_turns b (note ∷ notes) [] = refl
told_in_turns b (note ∷ notes) (outcome ∷ outcomes) = ap (λ l. slip_of b note outcome ∷ l) (told_in_turns b notes outcomes)

turns_take : (s : Server) (b : ℕ) (c : Course) → IsCourse s c → flat_map taken_in (turns_of b c.taken (outcomes_in c.turns)) ≡ c.taken
turns_take s b c is =
    taken_in_turns b c.taken (outcomes_in c.turns) (many s c.quota c.taken c.turns is.0)

-- what passed a channel, as deeds: what they are, their times, and those of one lane or worker
module _ {A : Type 0} (make : A → Deed) where
  pub accepted_times : (ms : List A) (ts us : List ℕ) → length ts ≡ length ms → AreLater ts us → times (accepted_by make (passed ms ts us)) ≡ ts
  accepted_times [] [] us e later = refl
  accepted_times [] (t ∷ ts) us e later = absurd (omega arith)
  accepted_times (a ∷ ms) [] us e later = absurd (omega arith)
  accepted_times (a ∷ ms) (t ∷ ts) [] e later = absurd later
  accepted_times (a ∷ ms) (t ∷ ts) (u ∷ us) e later = ap (λ l. t ∷ l) (accepted_times ms ts us (omega arith) later.1)

  pub taken_times : (ms : List A) (ts us : List ℕ) → length ts ≡ length ms → AreLater ts us → times (taken_of make (passed ms ts us)) ≡ us
  taken_times [] [] [] e later = refl
  taken_times [] [] (u ∷ us) e later = absurd later
  taken_times [] (t ∷ ts) us e later = absurd (omega arith)
  taken_times (a ∷ ms) [] us e later = absurd (omega arith)
  taken_times (a ∷ ms) (t ∷ ts) [] e later = absurd later
  taken_times (a ∷ ms) (t ∷ ts) (u ∷ us) e later = ap (λ l. u ∷ l) (taken_times ms ts us (omega arith) later.1)

  accepted_whats : (ms : List A) (ts us : List ℕ) → length ts ≡ length ms → AreLater ts us → whats (accepted_by make (passed ms ts us)) ≡ map make ms
  accepted_whats [] ts us e later = refl
  accepted_whats (a ∷ ms) [] us e later = absurd (omega arith)
  accepted_whats (a ∷ ms) (t ∷ ts) [] e later = absurd later
  accepted_whats (a ∷ ms) (t ∷ ts) (u ∷ us) e later = ap (λ l. make a ∷ l) (accepted_whats ms ts us (omega arith) later.1)

  taken_whats : (ms : List A) (ts us : List ℕ) → length ts ≡ length ms → AreLater ts us → whats (taken_of make (passed ms ts us)) ≡ map make ms
  taken_whats [] ts us e later = refl
  taken_whats (a ∷ ms) [] us e later = absurd (omega arith)
  taken_whats (a ∷ ms) (t ∷ ts) [] e later = absurd later
  taken_whats (a ∷ ms) (t ∷ ts) (u ∷ us) e later = ap (λ l. make a ∷ l) (taken_whats ms ts us (omega arith) later.1)

  passed_later : (ms : List A) (ts us : List ℕ) → AreLater ts us → AllByRecursion (λ p. p.accepted < p.taken) (passed ms ts us)
  passed_later [] ts us later = tt
  passed_later (a ∷ ms) [] us later = tt
  passed_later (a ∷ ms) (t ∷ ts) [] later = tt
  passed_later (a ∷ ms) (t ∷ ts) (u ∷ us) later = (later.0, passed_later ms ts us later.1)

  module _ (of : A → ℕ) (test : Deed → Bool) (k : ℕ) (same : (a : A) → test (make a) ≡ (of a == k)) where
    part_whats : (ms : List A) → filter test (map make ms) ≡ map make (filter (λ a. of a == k) ms)
    part_whats [] = refl
    part_whats (a ∷ ms) =
        filter-append test (make a ∷ []) (map make ms)
        ∙ (λ i. makes_if make (λ d. []) (λ x. of x == k) test a (of a == k) refl (same a) i ++ part_whats ms i)
        ∙ sym (ap (map make) (filter-append (λ x. of x == k) (a ∷ []) ms) ∙ map-append make (filter (λ x. of x == k) (a ∷ [])) (filter (λ x. of x == k) ms))

    part_at : (d : TimedDeed) (ds : List TimedDeed) (ts : List ℕ) (b c : Bool) → test d.what ≡ b → c ≡ b → times (those test ds) ≡ ts
        → times (those test (d ∷ ds)) ≡ (if c then d.at ∷ ts else ts)
    part_at d ds ts true c e is more = ap times (passes (λ (x : TimedDeed). test x.what) d ds e) ∙ ap (λ l. d.at ∷ l) more
        ∙ sym (ap (λ (t : Bool). if t then d.at ∷ ts else ts) is)
    part_at d ds ts false c e is more = ap times (fails (λ (x : TimedDeed). test x.what) d ds e) ∙ more
        ∙ sym (ap (λ (t : Bool). if t then d.at ∷ ts else ts) is)

    part_times : (ms : List A) (ts us : List ℕ) → length ts ≡ length ms → AreLater ts us
        → times (those test (accepted_by make (passed ms ts us))) ≡ times_of of k ms ts
    part_times [] ts us e later = refl
    part_times (a ∷ ms) [] us e later = absurd (omega arith)
    part_times (a ∷ ms) (t ∷ ts) [] e later = absurd later
    part_times (a ∷ ms) (t ∷ ts) (u ∷ us) e later =
        part_at (record { what = make a; at = t }) (accepted_by make (passed ms ts us)) (times_of of k ms ts) (of a == k) (of a == k) (same a) refl
        (part_times ms ts us (omega arith) later.1)

-- one bound above all
rises_up : (lo hi top : ℕ) (ts : List ℕ) → RisesTo lo hi ts → hi ≤ top → RisesTo lo top ts
rises_up lo hi top [] r le = let low : lo ≤ hi = r in omega arith
rises_up lo hi top (t ∷ ts) r le = (r.0, rises_up t hi top ts r.1 le)

record AllRise (n : ℕ) (lists : ℕ → List ℕ) : Type 0 where
  top : ℕ
  rise : (i : ℕ) → i < n → RisesTo 0 top (lists i)

abbrev TimesRise : List ℕ → Type 0
TimesRise ts = (hi : ℕ) × RisesTo 0 hi ts

all_rise : (n : ℕ) (lists : ℕ → List ℕ) → ((i : ℕ) → i < n → TimesRise (lists i)) → AllRise n lists
all_rise zero lists each = record { top = 0; rise = λ i low. absurd (omega arith) }
all_rise (suc n) lists each =
    let r : AllRise n lists = all_rise n lists (λ i low. each i (omega arith)) in
    let o : TimesRise (lists n) = each n (omega arith) in
    record {
      top = r.top + o.0;
      rise = λ i low. ⊎_elim
          (λ (less : i < n). rises_up 0 r.top (r.top + o.0) (lists i) (r.rise i less) (omega arith))
          (λ (is : i ≡ n). subst (λ j. RisesTo 0 (r.top + o.0) (lists j)) (sym is) (rises_up 0 o.0 (r.top + o.0) (lists n) o.1 (omega arith)))
          (low? i n low);
    }

-- a lane's deeds are its own and of the server, and so are a worker's
record IsLaneDeed (s : Server) (k : ℕ) (d : Deed) : Type 0 where
  own : is_of_lane k d ≡ true
  within : IsWithin s d
  hears : hears_from k d ≡ is_heard d

lane_deeds : (s : Server) (k : ℕ) (ds : List Deed) → k < s.lanes → AllByRecursion (λ d. is_of_lanes d ≡ true) ds
    → AllByRecursion (λ note. (note.txn.lane ≡ k) × (note.mailbox < s.boxes)) (flat_map given_in ds)
    → AllByRecursion (λ slip. (slip.txn.lane ≡ k) × (slip.worker < s.boxes)) (flat_map heard_in ds) → AllByRecursion (IsLaneDeed s k) ds
lane_deeds s k [] low only notes slips = tt
lane_deeds s k (Gave note ∷ ds) low only notes slips = (
  let lane : note.txn.lane ≡ k = notes.0.0 in
      record { own = same_number note.txn.lane k lane; within = ((omega arith), notes.0.1); hears = refl },
  lane_deeds s k ds low only.1 notes.1 slips,
)
lane_deeds s k (Took note ∷ ds) low only notes slips = absurd (cc only.0)
lane_deeds s k (Told slip ∷ ds) low only notes slips = absurd (cc only.0)
lane_deeds s k (Heard slip ∷ ds) low only notes slips = (
  let lane : slip.txn.lane ≡ k = slips.0.0 in
      record { own = same_number slip.txn.lane k lane; within = ((omega arith), slips.0.1); hears = same_number slip.txn.lane k lane },
  lane_deeds s k ds low only.1 notes slips.1,
)

record IsWorkerDeed (s : Server) (b : ℕ) (d : Deed) : Type 0 where
  own : is_of_worker b d ≡ true
  within : IsWithin s d
  takes : takes_from b d ≡ is_taken d

worker_deeds : (s : Server) (b : ℕ) (notes : List Note) (outcomes : List Outcome) → b < s.boxes
    → AllByRecursion (λ note. (note.txn.lane < s.lanes) × (note.mailbox ≡ b)) notes → AllByRecursion (IsWorkerDeed s b) (turns_of b notes outcomes)
worker_deeds s b [] outcomes low all = tt
worker_deeds s b (note ∷ notes) [] low all = tt
worker_deeds s b (note ∷ notes) (outcome ∷ outcomes) low all = (
  let box : note.mailbox ≡ b = all.0.1 in
      record { own = same_number note.mailbox b box; within = (all.0.0, (omega arith)); takes = same_number note.mailbox b box },
  (record { own = same_number b b refl; within = (all.0.0, low); takes = refl }, worker_deeds s b notes outcomes low all.1),
)

-- as many times as copies or slips
pub later_many : (ts us : List ℕ) → AreLater ts us → length ts ≡ length us
later_many [] [] later = refl
later_many [] (u ∷ us) later = absurd later
later_many (t ∷ ts) [] later = absurd later
later_many (t ∷ ts) (u ∷ us) later = let more = later_many ts us later.1 in omega arith

taken_deeds : (ds : List Deed) → length (filter is_taken ds) ≡ length (flat_map taken_in ds)
taken_deeds [] = refl
taken_deeds (Gave note ∷ ds) = taken_deeds ds
taken_deeds (Took note ∷ ds) = let more = taken_deeds ds in omega arith
taken_deeds (Told slip ∷ ds) = taken_deeds ds
taken_deeds (Heard slip ∷ ds) = taken_deeds ds

heard_deeds : (ds : List Deed) → length (filter is_heard ds) ≡ length (flat_map heard_in ds)
heard_deeds [] = refl
heard_deeds (Gave note ∷ ds) = heard_deeds ds
heard_deeds (Took note ∷ ds) = heard_deeds ds
heard_deeds (Told slip ∷ ds) = heard_deeds ds
heard_deeds (Heard slip ∷ ds) = let more = heard_deeds ds in omega arith

times_many : (test : Deed → Bool) (ds : List TimedDeed) → length (times (those test ds)) ≡ length (filter test (whats ds))
times_many test ds =
    length-map (those test ds) (λ (d : TimedDeed). d.at) ∙ sym (length-map (those test ds) (λ (d : TimedDeed). d.what)) ∙ sym (ap length (whats_those test ds))

-- a lane heard as many slips as there are times at which it did, and a worker took as many copies
pub heard_many : (slips : List Slip) (ds : List TimedDeed) → flat_map heard_in (whats ds) ≡ slips → length (times (those is_heard ds)) ≡ length slips
heard_many slips ds is = times_many is_heard ds ∙ heard_deeds (whats ds) ∙ ap length is

pub taken_many : (s : Server) (b : ℕ) (c : Course) (ds : List TimedDeed) → IsCourse s c → whats ds ≡ turns_of b c.taken (outcomes_in c.turns)
    → length (times (those is_taken ds)) ≡ length c.taken
taken_many s b c ds is turned =
    times_many is_taken ds ∙ taken_deeds (whats ds) ∙ ap (λ l. length (flat_map taken_in l)) turned ∙ ap length (turns_take s b c is)

-- what holds of what deeds are, of the deeds
of_whats : (P : Deed → Type 0) (ds : List TimedDeed) → AllByRecursion P (whats ds) → AllByRecursion (λ d. P d.what) ds
of_whats P [] all = tt
of_whats P (d ∷ ds) all = (all.0, of_whats P ds all.1)

module _ (s : Server) (t : Threads) (x : Known) (h : AreKnown s t x) where
  notes_are : (k : ℕ) → k < s.lanes
      → AllByRecursion (λ note. (note.txn.lane ≡ k) × (note.mailbox < s.boxes)) (flat_map (copies k) (t.transactions k))
  notes_are k low = both_hold (λ note. note.txn.lane ≡ k) (λ note. note.mailbox < s.boxes) (λ note. (note.txn.lane ≡ k) × (note.mailbox < s.boxes))
      (flat_map (copies k) (t.transactions k)) (λ note lane box. (lane, box)) (of_transactions k (t.transactions k)) (h.came_out.for_boxes k low)

  slips_are : (k : ℕ) → k < s.lanes → AllByRecursion (λ slip. slip.txn.lane ≡ k) (t.heard k)
  slips_are k low = from_parts (λ slip. slip.txn.lane ≡ k) (λ slip. slip.worker) s.boxes (t.heard k) (h.came_out.heard_only k low) (λ b box.
      let all = slips_from b (outcomes_in (t.courses b).turns) (t.courses b).taken in
      subst (λ l. AllByRecursion (λ slip. slip.txn.lane ≡ k) l) (sym (h.came_out.heard k b low box))
      (implied (λ slip. (slip.txn.lane == k) ≡ true) (λ slip. slip.txn.lane ≡ k) (slips_to k all) (λ slip e. eqb-true slip.txn.lane k e)
      (each_passes (λ (slip : Slip). slip.txn.lane == k) all)))

  taken_are : (b : ℕ) → b < s.boxes → AllByRecursion (λ note. note.mailbox ≡ b) (t.courses b).taken
  taken_are b box = from_parts (λ note. note.mailbox ≡ b) (λ note. note.txn.lane) s.lanes (t.courses b).taken (h.came_out.taken_only b box) (λ k low.
      let all = flat_map (copies k) (t.transactions k) in
      subst (λ l. AllByRecursion (λ note. note.mailbox ≡ b) l) (sym (h.came_out.taken k b low box))
      (implied (λ note. (note.mailbox == b) ≡ true) (λ note. note.mailbox ≡ b) (of_mailbox b all) (λ note e. eqb-true note.mailbox b e)
      (each_passes (λ (note : Note). note.mailbox == b) all)))

  lane_all : (k : ℕ) → k < s.lanes → AllByRecursion (IsLaneDeed s k) (whats (x.lanes k))
  lane_all k low =
      let l = h.lanes k low in
      lane_deeds s k (whats (x.lanes k)) low l.only
      (subst (λ ns. AllByRecursion (λ note. (note.txn.lane ≡ k) × (note.mailbox < s.boxes)) ns) (sym l.gave) (notes_are k low))
      (subst (λ ss. AllByRecursion (λ slip. (slip.txn.lane ≡ k) × (slip.worker < s.boxes)) ss) (sym l.heard)
      (both_hold (λ slip. slip.txn.lane ≡ k) (λ slip. slip.worker < s.boxes) (λ slip. (slip.txn.lane ≡ k) × (slip.worker < s.boxes)) (t.heard k)
      (λ slip lane worker. (lane, worker)) (slips_are k low) (h.came_out.heard_only k low)))

  worker_all : (b : ℕ) → b < s.boxes → AllByRecursion (IsWorkerDeed s b) (whats (x.workers b))
  worker_all b box =
      subst (λ ds. AllByRecursion (IsWorkerDeed s b) ds) (sym (h.workers b box).turned)
      (worker_deeds s b (t.courses b).taken (outcomes_in (t.courses b).turns) box
      (both_hold (λ note. note.txn.lane < s.lanes) (λ note. note.mailbox ≡ b) (λ note. (note.txn.lane < s.lanes) × (note.mailbox ≡ b)) (t.courses b).taken
      (λ note lane mailbox. (lane, mailbox)) (h.came_out.taken_only b box) (taken_are b box)))

  abbrev y : Timed
  y = timed_of t x

  -- as many moments as copies and slips
  pub copies_many : (b : ℕ) → b < s.boxes → length (x.copies b).accepted ≡ length (t.courses b).taken
  copies_many b box =
      later_many (x.copies b).accepted (x.copies b).taken (h.copies b box).later ∙ ap length (h.took b box)
      ∙ taken_many s b (t.courses b) (x.workers b) (h.came_out.courses b box) (h.workers b box).turned

  slips_many : (k : ℕ) → k < s.lanes → length (x.slips k).accepted ≡ length (t.heard k)
  slips_many k low =
      later_many (x.slips k).accepted (x.slips k).taken (h.slips k low).later ∙ ap length (h.heard k low)
      ∙ heard_many (t.heard k) (x.lanes k) (h.lanes k low).heard

  gave : (k b : ℕ) → k < s.lanes → b < s.boxes → those (gives_to b) (x.lanes k) ≡ those (is_of_lane k) (accepted_by Gave (y.copies b))
  gave k b low box =
      let c = h.copies b box in
      let taken = (t.courses b).taken in
      let m = x.copies b in
      same_deeds (those (gives_to b) (x.lanes k)) (those (is_of_lane k) (accepted_by Gave (y.copies b)))
      (sym (whats_those (gives_to b) (x.lanes k)) ∙ made_given b (whats (x.lanes k)) ∙ ap (λ l. map Gave (of_mailbox b l)) (h.lanes k low).gave
      ∙ sym (sym (whats_those (is_of_lane k) (accepted_by Gave (y.copies b)))
      ∙ ap (filter (is_of_lane k)) (accepted_whats Gave taken m.accepted m.taken (copies_many b box) c.later)
      ∙ part_whats Gave (λ note. note.txn.lane) (is_of_lane k) k (λ note. refl) taken ∙ ap (map Gave) (h.came_out.taken k b low box)))
      (sym (h.gave k b low box)
      ∙ sym (part_times Gave (λ note. note.txn.lane) (is_of_lane k) k (λ note. refl) taken m.accepted m.taken (copies_many b box) c.later))

  took : (b : ℕ) → b < s.boxes → those (takes_from b) (x.workers b) ≡ taken_of Took (y.copies b)
  took b box =
      let c = h.copies b box in
      let taken = (t.courses b).taken in
      let m = x.copies b in
      same_deeds (those (takes_from b) (x.workers b)) (taken_of Took (y.copies b))
      (sym (whats_those (takes_from b) (x.workers b)) ∙ made_taken b (whats (x.workers b))
      ∙ ap (λ l. map Took (of_mailbox b (flat_map taken_in l))) (h.workers b box).turned
      ∙ ap (λ l. map Took (of_mailbox b l)) (turns_take s b (t.courses b) (h.came_out.courses b box))
      ∙ ap (map Took) (all_pass (λ (n : Note). n.mailbox == b) taken
      (implied (λ note. note.mailbox ≡ b) (λ note. (note.mailbox == b) ≡ true) taken (λ note e. same_number note.mailbox b e) (taken_are b box)))
      ∙ sym (taken_whats Took taken m.accepted m.taken (copies_many b box) c.later))
      (ap times (same_pass (λ (d : TimedDeed). takes_from b d.what) (λ (d : TimedDeed). is_taken d.what) (x.workers b)
      (of_whats (λ d. takes_from b d ≡ is_taken d) (x.workers b)
      (implied (IsWorkerDeed s b) (λ d. takes_from b d ≡ is_taken d) (whats (x.workers b)) (λ d w. w.takes) (worker_all b box))))
      ∙ sym (h.took b box) ∙ sym (taken_times Took taken m.accepted m.taken (copies_many b box) c.later))

  told : (k b : ℕ) → k < s.lanes → b < s.boxes → those (tells_to k) (x.workers b) ≡ those (is_of_worker b) (accepted_by Told (y.slips k))
  told k b low box =
      let c = h.slips k low in
      let m = x.slips k in
      same_deeds (those (tells_to k) (x.workers b)) (those (is_of_worker b) (accepted_by Told (y.slips k)))
      (sym (whats_those (tells_to k) (x.workers b)) ∙ made_told k (whats (x.workers b))
      ∙ ap (λ l. map Told (slips_to k (flat_map told_in l))) (h.workers b box).turned
      ∙ ap (λ l. map Told (slips_to k l)) (told_in_turns b (t.courses b).taken (outcomes_in (t.courses b).turns))
      ∙ sym (sym (whats_those (is_of_worker b) (accepted_by Told (y.slips k)))
      ∙ ap (filter (is_of_worker b)) (accepted_whats Told (t.heard k) m.accepted m.taken (slips_many k low) c.later)
      ∙ part_whats Told (λ slip. slip.worker) (is_of_worker b) b (λ slip. refl) (t.heard k) ∙ ap (map Told) (h.came_out.heard k b low box)))
      (sym (h.told k b low box)
      ∙ sym (part_times Told (λ slip. slip.worker) (is_of_worker b) b (λ slip. refl) (t.heard k) m.accepted m.taken (slips_many k low) c.later))

  heard : (k : ℕ) → k < s.lanes → those (hears_from k) (x.lanes k) ≡ taken_of Heard (y.slips k)
  heard k low =
      let c = h.slips k low in
      let m = x.slips k in
      same_deeds (those (hears_from k) (x.lanes k)) (taken_of Heard (y.slips k))
      (sym (whats_those (hears_from k) (x.lanes k)) ∙ made_heard k (whats (x.lanes k)) ∙ ap (λ l. map Heard (slips_to k l)) (h.lanes k low).heard
      ∙ ap (map Heard) (all_pass (λ (slip : Slip). slip.txn.lane == k) (t.heard k)
      (implied (λ slip. slip.txn.lane ≡ k) (λ slip. (slip.txn.lane == k) ≡ true) (t.heard k) (λ slip e. same_number slip.txn.lane k e) (slips_are k low)))
      ∙ sym (taken_whats Heard (t.heard k) m.accepted m.taken (slips_many k low) c.later))
      (ap times (same_pass (λ (d : TimedDeed). hears_from k d.what) (λ (d : TimedDeed). is_heard d.what) (x.lanes k)
      (of_whats (λ d. hears_from k d ≡ is_heard d) (x.lanes k)
      (implied (IsLaneDeed s k) (λ d. hears_from k d ≡ is_heard d) (whats (x.lanes k)) (λ d w. w.hears) (lane_all k low))))
      ∙ sym (h.heard k low) ∙ sym (taken_times Heard (t.heard k) m.accepted m.taken (slips_many k low) c.later))

  pub known_are_timed : AreTimed s t (timed_of t x)
  known_are_timed =
      let l : AllRise s.lanes (λ k. times (x.lanes k)) = all_rise s.lanes (λ k. times (x.lanes k)) (λ k low. ((h.lanes k low).until, (h.lanes k low).rises)) in
      let w : AllRise s.boxes (λ b. times (x.workers b)) =
      all_rise s.boxes (λ b. times (x.workers b)) (λ b box. ((h.workers b box).until, (h.workers b box).rises)) in
      let c : AllRise s.boxes (λ b. (x.copies b).accepted) =
      all_rise s.boxes (λ b. (x.copies b).accepted) (λ b box. ((h.copies b box).until, (h.copies b box).rises)) in
      let p : AllRise s.lanes (λ k. (x.slips k).accepted) =
      all_rise s.lanes (λ k. (x.slips k).accepted) (λ k low. ((h.slips k low).until, (h.slips k low).rises)) in
      let top : ℕ = l.top + w.top + c.top + p.top in
      record {
        agree = record {
          until = top;
          lanes_rise = λ k low. rises_up 0 l.top top (times (x.lanes k)) (l.rise k low) (omega arith);
          workers_rise = λ b box. rises_up 0 w.top top (times (x.workers b)) (w.rise b box) (omega arith);
          copies_rise = λ b box. subst (λ ts. RisesTo 0 top ts)
              (sym (accepted_times Gave (t.courses b).taken (x.copies b).accepted (x.copies b).taken (copies_many b box) (h.copies b box).later))
              (rises_up 0 c.top top (x.copies b).accepted (c.rise b box) (omega arith));
          slips_rise = λ k low. subst (λ ts. RisesTo 0 top ts)
              (sym (accepted_times Told (t.heard k) (x.slips k).accepted (x.slips k).taken (slips_many k low) (h.slips k low).later))
              (rises_up 0 p.top top (x.slips k).accepted (p.rise k low) (omega arith));
          copies_later = λ b box. passed_later Gave (t.courses b).taken (x.copies b).accepted (x.copies b).taken (h.copies b box).later;
          slips_later = λ k low. passed_later Told (t.heard k) (x.slips k).accepted (x.slips k).taken (h.slips k low).later;
          gave = gave;
          took = took;
          told = told;
          heard = heard;
        };
        of_lanes = λ k low. all_pass (λ (d : TimedDeed). is_of_lane k d.what) (x.lanes k)
            (of_whats (λ d. is_of_lane k d ≡ true) (x.lanes k)
            (implied (IsLaneDeed s k) (λ d. is_of_lane k d ≡ true) (whats (x.lanes k)) (λ d w. w.own) (lane_all k low)));
        of_workers = λ b box. all_pass (λ (d : TimedDeed). is_of_worker b d.what) (x.workers b)
            (of_whats (λ d. is_of_worker b d ≡ true) (x.workers b)
            (implied (IsWorkerDeed s b) (λ d. is_of_worker b d ≡ true) (whats (x.workers b)) (λ d w. w.own) (worker_all b box)));
        lanes_within = λ k low. implied (IsLaneDeed s k) (IsWithin s) (whats (x.lanes k)) (λ d w. w.within) (lane_all k low);
        workers_within = λ b box. implied (IsWorkerDeed s b) (IsWithin s) (whats (x.workers b)) (λ d w. w.within) (worker_all b box);
        lanes = λ k low. (h.lanes k low).gave;
        rise = h.came_out.rise;
        heard = λ k low. (h.lanes k low).heard;
        workers = λ b box. (h.workers b box).turned;
        courses = h.came_out.courses;
      }
