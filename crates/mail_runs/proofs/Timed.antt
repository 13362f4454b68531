-- The deeds of all threads, merged by time, are a history.
use Rattle.std.proofs.Common.{◌≡◌, ◌≢◌, ◌⊎◌, ℕ, ◌+◌, ◌<◌, ◌≤◌, ◌==◌, List, [], ◌∷◌, ◌++◌, length, map, filter, Bool, true, false, refl, ap, sym, ◌∙◌, subst}
use Rattle.std.proofs.Common.{⊎_elim, inl, inr, append-nil, arith, length-append}
use Rattle.std.specs.Prelude.{flat_map}
use Rattle.std.specs.List.{AllByRecursion}
use Rattle.std.proofs.lemmas.Bool.{eqb-true}
use Rattle.std.proofs.lemmas.List.Elements.{filter-append}
use Rattle.mail_world.specs.declared.Note.{Note}
use Rattle.mail_world.specs.declared.Slip.{Slip}
use Rattle.mail_world.specs.declared.Outcome.{Outcome}
use Rattle.mail_runs.specs.Deeds.{Deed, Gave, Took, Told, Heard, given_in, taken_in, told_in, heard_in, given_by, given_to, taken_by, told_to, heard_by}
use Rattle.mail_runs.specs.Deeds.{is_of_worker, turns_of}
use Rattle.mail_runs.specs.Courses.{Server, outcomes_in}
use Rattle.mail_runs.specs.Histories.{Threads, IsWithin, TakesGiven, HearsTold, IsHistory}
use Rattle.mail_runs.specs.Timed.{TimedDeed, Passed, Timed, whats, those, is_of_lane, gives_to, takes_from, tells_to, hears_from, accepted_by, taken_of}
use Rattle.mail_runs.specs.Timed.{AreTimed}
use Rattle.mail_runs.proofs.Parts.{passes, fails, same_number, other_number}
use Rattle.mail_runs.proofs.ByTime.{upto, filter_apart, filter_within, all_filter, all_both, all_upto, filter_upto, upto_same, here, TimesRise, whole}
use Rattle.mail_runs.proofs.ByTime.{all_at_time}
use Rattle.mail_runs.proofs.ByTime.{none_at_time, only_at_time, BelongsToOne, parts_make, ats, ClimbsTo, climbs_lists, climbs_pair, climbs_until}
use Rattle.mail_runs.proofs.Parted.{at, TimedCut, cut_at, Parted, parted, no_more_taken}
use Rattle.mail_runs.proofs.OneLane.{many}

-- deeds that pass a test, and what they are
whats_at : (test : Deed → Bool) (d : TimedDeed) (ds : List TimedDeed) (b : Bool) → test d.what ≡ b → filter test (whats ds) ≡ whats (those test ds)
    → filter test (whats (d ∷ ds)) ≡ whats (those test (d ∷ ds))
whats_at test d ds true e more = passes test d.what (whats ds) e ∙ ap (λ l. d.what ∷ l) more ∙ sym (ap whats (passes (λ (x : TimedDeed). test x.what) d ds e))
whats_at test d ds false e more = fails test d.what (whats ds) e ∙ more ∙ sym (ap whats (fails (λ (x : TimedDeed). test x.what) d ds e))

pub whats_those : (test : Deed → Bool) (ds : List TimedDeed) → filter test (whats ds) ≡ whats (those test ds)
whats_those test [] = refl
whats_those test (d ∷ ds) = whats_at test d ds (test d.what) refl (whats_those test ds)

-- of a thread's own deeds none passes a test that excludes the thread
none_own : (p q : Deed → Bool) (ds : List TimedDeed) → those q ds ≡ ds → ((d : Deed) → q d ≡ true → p d ≡ false) → those p ds ≡ []
none_own p q ds own not = ap (those p) (sym own) ∙ filter_apart (λ (d : TimedDeed). p d.what) (λ (d : TimedDeed). q d.what) ds (λ d e. not d.what e)

of_other : (n j k : ℕ) → j ≢ k → (n == j) ≡ true → (n == k) ≡ false
of_other n j k differ e = other_number n k (λ is. differ (sym (eqb-true n j e) ∙ is))

other_lane : (j k : ℕ) → j ≢ k → (d : Deed) → is_of_lane j d ≡ true → is_of_lane k d ≡ false
other_lane j k differ (Gave note) e = of_other note.txn.lane j k differ e
other_lane j k differ (Took note) e = refl
other_lane j k differ (Told slip) e = refl
other_lane j k differ (Heard slip) e = of_other slip.txn.lane j k differ e

other_worker : (b c : ℕ) → b ≢ c → (d : Deed) → is_of_worker b d ≡ true → is_of_worker c d ≡ false
other_worker b c differ (Gave note) e = refl
other_worker b c differ (Took note) e = of_other note.mailbox b c differ e
other_worker b c differ (Told slip) e = of_other slip.worker b c differ e
other_worker b c differ (Heard slip) e = refl

no_lane : (b k : ℕ) (d : Deed) → is_of_worker b d ≡ true → is_of_lane k d ≡ false
no_lane b k (Gave note) e = cc
no_lane b k (Took note) e = refl
no_lane b k (Told slip) e = refl
no_lane b k (Heard slip) e = cc

no_worker : (k b : ℕ) (d : Deed) → is_of_lane k d ≡ true → is_of_worker b d ≡ false
no_worker k b (Gave note) e = refl
no_worker k b (Took note) e = cc
no_worker k b (Told slip) e = cc
no_worker k b (Heard slip) e = refl

no_giver : (c b : ℕ) (d : Deed) → is_of_worker c d ≡ true → gives_to b d ≡ false
no_giver c b (Gave note) e = cc
no_giver c b (Took note) e = refl
no_giver c b (Told slip) e = refl
no_giver c b (Heard slip) e = refl

no_teller : (j k : ℕ) (d : Deed) → is_of_lane j d ≡ true → tells_to k d ≡ false
no_teller j k (Gave note) e = refl
no_teller j k (Took note) e = refl
no_teller j k (Told slip) e = cc
no_teller j k (Heard slip) e = refl

only_taker : (b : ℕ) (d : Deed) → is_of_worker b d ≡ false → takes_from b d ≡ false
only_taker b (Gave note) e = refl
only_taker b (Took note) e = e
only_taker b (Told slip) e = refl
only_taker b (Heard slip) e = refl

only_hearer : (k : ℕ) (d : Deed) → is_of_lane k d ≡ false → hears_from k d ≡ false
only_hearer k (Gave note) e = refl
only_hearer k (Took note) e = refl
only_hearer k (Told slip) e = refl
only_hearer k (Heard slip) e = e

-- what is picked of deeds and passes a test is picked of those that pass a test of deeds
module _ {A : Type 0} (pick : Deed → List A) (p : A → Bool) (test : Deed → Bool) where
  abbrev Sifts : Deed → Type 0
  Sifts d = ((test d ≡ true) × (filter p (pick d) ≡ pick d)) ⊎ ((test d ≡ false) × (filter p (pick d) ≡ []))

  sifts_if : (d : Deed) (x : A) (b : Bool) → pick d ≡ x ∷ [] → test d ≡ p x → p x ≡ b → Sifts d
  sifts_if d x true is same e = inl (same ∙ e, ap (filter p) is ∙ passes p x [] e ∙ sym is)
  sifts_if d x false is same e = inr (same ∙ e, ap (filter p) is ∙ fails p x [] e)

  sifts_one : (d : Deed) (x : A) → pick d ≡ x ∷ [] → test d ≡ p x → Sifts d
  sifts_one d x is same = sifts_if d x (p x) is same refl

  none_if : (d : Deed) (b : Bool) → pick d ≡ [] → test d ≡ b → Sifts d
  none_if d true is e = inl (e, ap (filter p) is ∙ sym is)
  none_if d false is e = inr (e, ap (filter p) is)

  sifts_none : (d : Deed) → pick d ≡ [] → Sifts d
  sifts_none d is = none_if d (test d) is refl

  sifted : ((d : Deed) → Sifts d) → (ds : List TimedDeed) → filter p (flat_map pick (whats ds)) ≡ flat_map pick (whats (those test ds))
  sifted each [] = refl
  sifted each (d ∷ ds) =
      filter-append p (pick d.what) (flat_map pick (whats ds))
      ∙ ⊎_elim
      (λ (yes : (test d.what ≡ true) × (filter p (pick d.what) ≡ pick d.what)).
      (λ i. yes.1 i ++ sifted each ds i) ∙ sym (ap (λ l. flat_map pick (whats l)) (passes (λ (x : TimedDeed). test x.what) d ds yes.0)))
      (λ (no : (test d.what ≡ false) × (filter p (pick d.what) ≡ [])).
      (λ i. no.1 i ++ sifted each ds i) ∙ sym (ap (λ l. flat_map pick (whats l)) (fails (λ (x : TimedDeed). test x.what) d ds no.0)))
      (each d.what)

  count_at : (d : TimedDeed) (ds : List TimedDeed) (b : Bool) → test d.what ≡ b → (test d.what ≡ true → length (pick d.what) ≡ 1)
      → length (flat_map pick (whats (those test ds))) ≡ length (those test ds)
      → length (flat_map pick (whats (those test (d ∷ ds)))) ≡ length (those test (d ∷ ds))
  count_at d ds true e one more =
      subst (λ (l : List TimedDeed). length (flat_map pick (whats l)) ≡ length l) (sym (passes (λ (x : TimedDeed). test x.what) d ds e))
      (let single : length (pick d.what) ≡ 1 = one e in
      let sum : length (flat_map pick (whats (d ∷ those test ds))) ≡ length (pick d.what) + length (flat_map pick (whats (those test ds))) =
      length-append (pick d.what) (flat_map pick (whats (those test ds))) in omega arith)
  count_at d ds false e one more =
      subst (λ (l : List TimedDeed). length (flat_map pick (whats l)) ≡ length l) (sym (fails (λ (x : TimedDeed). test x.what) d ds e)) more

  counted : ((d : Deed) → test d ≡ true → length (pick d) ≡ 1) → (ds : List TimedDeed) → length (flat_map pick (whats (those test ds))) ≡ length (those test ds)
  counted one [] = refl
  counted one (d ∷ ds) = count_at d ds (test d.what) refl (one d.what) (counted one ds)

-- given by a lane, taken by a worker, heard by a lane
own_gifts : (k : ℕ) (ds : List TimedDeed) → given_by k (whats ds) ≡ flat_map given_in (whats (those (is_of_lane k) ds))
own_gifts k = sifted given_in (λ (n : Note). n.txn.lane == k) (is_of_lane k) each
  where
    each : (d : Deed) → Sifts given_in (λ (n : Note). n.txn.lane == k) (is_of_lane k) d
    each (Gave note) = sifts_one given_in (λ (n : Note). n.txn.lane == k) (is_of_lane k) (Gave note) note refl refl
    each (Took note) = sifts_none given_in (λ (n : Note). n.txn.lane == k) (is_of_lane k) (Took note) refl
    each (Told slip) = sifts_none given_in (λ (n : Note). n.txn.lane == k) (is_of_lane k) (Told slip) refl
    each (Heard slip) = sifts_none given_in (λ (n : Note). n.txn.lane == k) (is_of_lane k) (Heard slip) refl

own_takings : (b : ℕ) (ds : List TimedDeed) → taken_by b (whats ds) ≡ flat_map taken_in (whats (those (is_of_worker b) ds))
own_takings b = sifted taken_in (λ (n : Note). n.mailbox == b) (is_of_worker b) each
  where
    each : (d : Deed) → Sifts taken_in (λ (n : Note). n.mailbox == b) (is_of_worker b) d
    each (Gave note) = sifts_none taken_in (λ (n : Note). n.mailbox == b) (is_of_worker b) (Gave note) refl
    each (Took note) = sifts_one taken_in (λ (n : Note). n.mailbox == b) (is_of_worker b) (Took note) note refl refl
    each (Told slip) = sifts_none taken_in (λ (n : Note). n.mailbox == b) (is_of_worker b) (Told slip) refl
    each (Heard slip) = sifts_none taken_in (λ (n : Note). n.mailbox == b) (is_of_worker b) (Heard slip) refl

own_hearings : (k : ℕ) (ds : List TimedDeed) → heard_by k (whats ds) ≡ flat_map heard_in (whats (those (is_of_lane k) ds))
own_hearings k = sifted heard_in (λ (x : Slip). x.txn.lane == k) (is_of_lane k) each
  where
    each : (d : Deed) → Sifts heard_in (λ (x : Slip). x.txn.lane == k) (is_of_lane k) d
    each (Gave note) = sifts_none heard_in (λ (x : Slip). x.txn.lane == k) (is_of_lane k) (Gave note) refl
    each (Took note) = sifts_none heard_in (λ (x : Slip). x.txn.lane == k) (is_of_lane k) (Took note) refl
    each (Told slip) = sifts_none heard_in (λ (x : Slip). x.txn.lane == k) (is_of_lane k) (Told slip) refl
    each (Heard slip) = sifts_one heard_in (λ (x : Slip). x.txn.lane == k) (is_of_lane k) (Heard slip) slip refl refl

-- given to a mailbox, taken from it, told to a lane and heard from its channel, and how many
pub record Sifted {A : Type 0} (pick : Deed → List A) (p : A → Bool) (test : Deed → Bool) : Type 0 where
  pub are : (ds : List TimedDeed) → filter p (flat_map pick (whats ds)) ≡ flat_map pick (whats (those test ds))
  pub many_are : (ds : List TimedDeed) → length (filter p (flat_map pick (whats ds))) ≡ length (those test ds)

sift : {A : Type 0} (pick : Deed → List A) (p : A → Bool) (test : Deed → Bool) → ((d : Deed) → Sifts pick p test d)
    → ((d : Deed) → test d ≡ true → length (pick d) ≡ 1) → Sifted pick p test
sift pick p test each one = record {
  are = sifted pick p test each;
  many_are = λ ds. ap length (sifted pick p test each ds) ∙ counted pick p test one ds;
}

pub gifts : (b : ℕ) → Sifted given_in (λ (n : Note). n.mailbox == b) (gives_to b)
gifts b = sift given_in (λ (n : Note). n.mailbox == b) (gives_to b) each one
  where
    each : (d : Deed) → Sifts given_in (λ (n : Note). n.mailbox == b) (gives_to b) d
    each (Gave note) = sifts_one given_in (λ (n : Note). n.mailbox == b) (gives_to b) (Gave note) note refl refl
    each (Took note) = sifts_none given_in (λ (n : Note). n.mailbox == b) (gives_to b) (Took note) refl
    each (Told slip) = sifts_none given_in (λ (n : Note). n.mailbox == b) (gives_to b) (Told slip) refl
    each (Heard slip) = sifts_none given_in (λ (n : Note). n.mailbox == b) (gives_to b) (Heard slip) refl

    one : (d : Deed) → gives_to b d ≡ true → length (given_in d) ≡ 1
    one (Gave note) e = refl
    one (Took note) e = cc
    one (Told slip) e = cc
    one (Heard slip) e = cc

pub takings : (b : ℕ) → Sifted taken_in (λ (n : Note). n.mailbox == b) (takes_from b)
takings b = sift taken_in (λ (n : Note). n.mailbox == b) (takes_from b) each one
  where
    each : (d : Deed) → Sifts taken_in (λ (n : Note). n.mailbox == b) (takes_from b) d
    each (Gave note) = sifts_none taken_in (λ (n : Note). n.mailbox == b) (takes_from b) (Gave note) refl
    each (Took note) = sifts_one taken_in (λ (n : Note). n.mailbox == b) (takes_from b) (Took note) note refl refl
    each (Told slip) = sifts_none taken_in (λ (n : Note). n.mailbox == b) (takes_from b) (Told slip) refl
    each (Heard slip) = sifts_none taken_in (λ (n : Note). n.mailbox == b) (takes_from b) (Heard slip) refl

    one : (d : Deed) → takes_from b d ≡ true → length (taken_in d) ≡ 1
    one (Gave note) e = cc
    one (Took note) e = refl
    one (Told slip) e = cc
    one (Heard slip) e = cc

tellings : (k : ℕ) → Sifted told_in (λ (x : Slip). x.txn.lane == k) (tells_to k)
tellings k = sift told_in (λ (x : Slip). x.txn.lane == k) (tells_to k) each one
  where
    each : (d : Deed) → Sifts told_in (λ (x : Slip). x.txn.lane == k) (tells_to k) d
    each (Gave note) = sifts_none told_in (λ (x : Slip). x.txn.lane == k) (tells_to k) (Gave note) refl
    each (Took note) = sifts_none told_in (λ (x : Slip). x.txn.lane == k) (tells_to k) (Took note) refl
    each (Told slip) = sifts_one told_in (λ (x : Slip). x.txn.lane == k) (tells_to k) (Told slip) slip refl refl
    each (Heard slip) = sifts_none told_in (λ (x : Slip). x.txn.lane == k) (tells_to k) (Heard slip) refl

    one : (d : Deed) → tells_to k d ≡ true → length (told_in d) ≡ 1
    one (Gave note) e = cc
    one (Took note) e = cc
    one (Told slip) e = refl
    one (Heard slip) e = cc

hearings : (k : ℕ) → Sifted heard_in (λ (x : Slip). x.txn.lane == k) (hears_from k)
hearings k = sift heard_in (λ (x : Slip). x.txn.lane == k) (hears_from k) each one
  where
    each : (d : Deed) → Sifts heard_in (λ (x : Slip). x.txn.lane == k) (hears_from k) d
    each (Gave note) = sifts_none heard_in (λ (x : Slip). x.txn.lane == k) (hears_from k) (Gave note) refl
    each (Took note) = sifts_none heard_in (λ (x : Slip). x.txn.lane == k) (hears_from k) (Took note) refl
    each (Told slip) = sifts_none heard_in (λ (x : Slip). x.txn.lane == k) (hears_from k) (Told slip) refl
    each (Heard slip) = sifts_one heard_in (λ (x : Slip). x.txn.lane == k) (hears_from k) (Heard slip) slip refl refl

    one : (d : Deed) → hears_from k d ≡ true → length (heard_in d) ≡ 1
    one (Gave note) e = cc
    one (Took note) e = cc
    one (Told slip) e = cc
    one (Heard slip) e = refl

-- what holds of what deeds are, and of the deeds
all_whats : (P : Deed → Type 0) (ds : List TimedDeed) → AllByRecursion P (whats ds) → AllByRecursion (λ d. P d.what) ds
all_whats P [] all = tt
all_whats P (d ∷ ds) all = (all.0, all_whats P ds all.1)

whats_all : (P : Deed → Type 0) (ds : List TimedDeed) → AllByRecursion (λ d. P d.what) ds → AllByRecursion P (whats ds)
whats_all P [] all = tt
whats_all P (d ∷ ds) all = (all.0, whats_all P ds all.1)

-- what passed a channel, picked of its two lists of deeds
notes_given : (ps : List (Passed Note)) → flat_map given_in (whats (accepted_by Gave ps)) ≡ map (λ p. p.what) ps
notes_given [] = refl
notes_given (p ∷ ps) = ap (λ l. p.what ∷ l) (notes_given ps)

notes_taken : (ps : List (Passed Note)) → flat_map taken_in (whats (taken_of Took ps)) ≡ map (λ p. p.what) ps
notes_taken [] = refl
notes_taken (p ∷ ps) = ap (λ l. p.what ∷ l) (notes_taken ps)

slips_told : (ps : List (Passed Slip)) → flat_map told_in (whats (accepted_by Told ps)) ≡ map (λ p. p.what) ps
slips_told [] = refl
slips_told (p ∷ ps) = ap (λ l. p.what ∷ l) (slips_told ps)

slips_heard : (ps : List (Passed Slip)) → flat_map heard_in (whats (taken_of Heard ps)) ≡ map (λ p. p.what) ps
slips_heard [] = refl
slips_heard (p ∷ ps) = ap (λ l. p.what ∷ l) (slips_heard ps)

-- each is of one of the lanes, or of one of the workers, since who took it is within the server
lanes_own : (s : Server) (ps : List (Passed Note)) → AllByRecursion (λ (d : TimedDeed). IsWithin s d.what) (taken_of Took ps)
    → AllByRecursion (BelongsToOne at s.lanes (λ k d. is_of_lane k d.what)) (accepted_by Gave ps)
lanes_own s [] all = tt
lanes_own s (p ∷ ps) all = (
  record {
    owner = p.what.txn.lane;
    below = all.0.0;
    own = same_number p.what.txn.lane p.what.txn.lane refl;
    only = λ i ne. other_number p.what.txn.lane i (λ e. ne (sym e));
  },
  lanes_own s ps all.1,
)

workers_own : (s : Server) (ps : List (Passed Slip)) → AllByRecursion (λ (d : TimedDeed). IsWithin s d.what) (taken_of Heard ps)
    → AllByRecursion (BelongsToOne at s.boxes (λ b d. is_of_worker b d.what)) (accepted_by Told ps)
workers_own s [] all = tt
workers_own s (p ∷ ps) all = (
  record {
    owner = p.what.worker;
    below = all.0.1;
    own = same_number p.what.worker p.what.worker refl;
    only = λ i ne. other_number p.what.worker i (λ e. ne (sym e));
  },
  workers_own s ps all.1,
)

-- what a worker takes in its turns
pub taken_in_turns : (b : ℕ) (notes : List Note) (outcomes : List Outcome) → length outcomes ≡ length notes
    → flat_map taken_in (turns_of b notes outcomes) ≡ notes
taken_in_turns b [] outcomes e = refl
taken_in_turns b (note ∷ notes) [] e = absurd (omega arith)
taken_in_turns b (note ∷ notes) (outcome ∷ outcomes) e = ap (λ l. note ∷ l) (taken_in_turns b notes outcomes (omega arith))

module _ (s : Server) (t : Threads) (x : Timed) (h : AreTimed s t x) where
  abbrev pub at_time : ℕ → List TimedDeed
  at_time n = all_at_time at s.lanes x.lanes n ++ all_at_time at s.boxes x.workers n

  abbrev pub all : List TimedDeed
  all = upto (h.agree.until + 1) at_time

  abbrev passing : (Deed → Bool) → TimedDeed → Bool
  passing test d = test d.what

  made_of : (test : Deed → Bool) (got : List TimedDeed) → TimesRise at 0 h.agree.until got → ((n : ℕ) → those test (at_time n) ≡ here at n got)
      → those test all ≡ got
  made_of test got rises each =
      filter_upto (passing test) (h.agree.until + 1) at_time
      ∙ upto_same (h.agree.until + 1) (λ n. those test (at_time n)) (λ n. here at n got) (λ n below. each n)
      ∙ whole at 0 h.agree.until (h.agree.until + 1) got rises (omega arith)

  -- of what was done at a time, the lanes' part where no worker's passes, and the other way round
  of_lanes_alone : (test : Deed → Bool) (n : ℕ) → ((b : ℕ) → b < s.boxes → those test (x.workers b) ≡ [])
      → those test (at_time n) ≡ those test (all_at_time at s.lanes x.lanes n)
  of_lanes_alone test n none =
      filter-append (passing test) (all_at_time at s.lanes x.lanes n) (all_at_time at s.boxes x.workers n)
      ∙ ap (λ l. those test (all_at_time at s.lanes x.lanes n) ++ l) (none_at_time at (passing test) s.boxes x.workers n none)
      ∙ append-nil (those test (all_at_time at s.lanes x.lanes n))

  of_workers_alone : (test : Deed → Bool) (n : ℕ) → ((k : ℕ) → k < s.lanes → those test (x.lanes k) ≡ [])
      → those test (at_time n) ≡ those test (all_at_time at s.boxes x.workers n)
  of_workers_alone test n none =
      filter-append (passing test) (all_at_time at s.lanes x.lanes n) (all_at_time at s.boxes x.workers n)
      ∙ ap (λ l. l ++ those test (all_at_time at s.boxes x.workers n)) (none_at_time at (passing test) s.lanes x.lanes n none)

  pub of_lane : (k : ℕ) → k < s.lanes → those (is_of_lane k) all ≡ x.lanes k
  of_lane k low = made_of (is_of_lane k) (x.lanes k) (h.agree.lanes_rise k low) (λ n.
      of_lanes_alone (is_of_lane k) n (λ b below. none_own (is_of_lane k) (is_of_worker b) (x.workers b) (h.of_workers b below) (no_lane b k))
      ∙ only_at_time at (passing (is_of_lane k)) s.lanes x.lanes n k low (h.of_lanes k low)
      (λ j below ne. none_own (is_of_lane k) (is_of_lane j) (x.lanes j) (h.of_lanes j below) (other_lane j k ne)))

  of_worker : (b : ℕ) → b < s.boxes → those (is_of_worker b) all ≡ x.workers b
  of_worker b low = made_of (is_of_worker b) (x.workers b) (h.agree.workers_rise b low) (λ n.
      of_workers_alone (is_of_worker b) n (λ k below. none_own (is_of_worker b) (is_of_lane k) (x.lanes k) (h.of_lanes k below) (no_worker k b))
      ∙ only_at_time at (passing (is_of_worker b)) s.boxes x.workers n b low (h.of_workers b low)
      (λ c below ne. none_own (is_of_worker b) (is_of_worker c) (x.workers c) (h.of_workers c below) (other_worker c b ne)))

  copies_accepted : (b : ℕ) → b < s.boxes → those (gives_to b) all ≡ accepted_by Gave (x.copies b)
  copies_accepted b low =
      let owners : AllByRecursion (BelongsToOne at s.lanes (λ k d. is_of_lane k d.what)) (accepted_by Gave (x.copies b)) =
      lanes_own s (x.copies b) (subst (λ l. AllByRecursion (λ (d : TimedDeed). IsWithin s d.what) l) (h.agree.took b low)
      (all_filter (λ (d : TimedDeed). IsWithin s d.what) (passing (takes_from b)) (x.workers b)
      (all_whats (IsWithin s) (x.workers b) (h.workers_within b low)))) in
      made_of (gives_to b) (accepted_by Gave (x.copies b)) (h.agree.copies_rise b low) (λ n.
      of_lanes_alone (gives_to b) n (λ c below. none_own (gives_to b) (is_of_worker c) (x.workers c) (h.of_workers c below) (no_giver c b))
      ∙ parts_make at (passing (gives_to b)) s.lanes x.lanes (λ k d. is_of_lane k d.what) 0 h.agree.until n (accepted_by Gave (x.copies b))
      (h.agree.copies_rise b low) owners
      (λ k below. h.agree.gave k b below low))

  slips_accepted : (k : ℕ) → k < s.lanes → those (tells_to k) all ≡ accepted_by Told (x.slips k)
  slips_accepted k low =
      let owners : AllByRecursion (BelongsToOne at s.boxes (λ b d. is_of_worker b d.what)) (accepted_by Told (x.slips k)) =
      workers_own s (x.slips k) (subst (λ l. AllByRecursion (λ (d : TimedDeed). IsWithin s d.what) l) (h.agree.heard k low)
      (all_filter (λ (d : TimedDeed). IsWithin s d.what) (passing (hears_from k)) (x.lanes k) (all_whats (IsWithin s) (x.lanes k) (h.lanes_within k low)))) in
      made_of (tells_to k) (accepted_by Told (x.slips k)) (h.agree.slips_rise k low) (λ n.
      of_workers_alone (tells_to k) n (λ j below. none_own (tells_to k) (is_of_lane j) (x.lanes j) (h.of_lanes j below) (no_teller j k))
      ∙ parts_make at (passing (tells_to k)) s.boxes x.workers (λ b d. is_of_worker b d.what) 0 h.agree.until n (accepted_by Told (x.slips k))
      (h.agree.slips_rise k low) owners
      (λ b below. h.agree.told k b low below))

  copies_taken : (b : ℕ) → b < s.boxes → those (takes_from b) all ≡ taken_of Took (x.copies b)
  copies_taken b low =
      sym (filter_within (passing (takes_from b)) (passing (is_of_worker b)) all (λ d. only_taker b d.what))
      ∙ ap (those (takes_from b)) (of_worker b low) ∙ h.agree.took b low

  slips_taken : (k : ℕ) → k < s.lanes → those (hears_from k) all ≡ taken_of Heard (x.slips k)
  slips_taken k low =
      sym (filter_within (passing (hears_from k)) (passing (is_of_lane k)) all (λ d. only_hearer k d.what))
      ∙ ap (those (hears_from k)) (of_lane k low) ∙ h.agree.heard k low

  climbs : ClimbsTo 0 (h.agree.until + 1) (ats at all)
  climbs = climbs_until at at_time
      (λ n. climbs_pair at n n n (all_at_time at s.lanes x.lanes n) (all_at_time at s.boxes x.workers n) (climbs_lists at n s.lanes x.lanes)
      (climbs_lists at n s.boxes x.workers))
      (h.agree.until + 1)

  all_within : AllByRecursion (IsWithin s) (whats all)
  all_within = whats_all (IsWithin s) all (all_upto (λ (d : TimedDeed). IsWithin s d.what) (h.agree.until + 1) at_time (λ n _.
      all_both (λ (d : TimedDeed). IsWithin s d.what) (all_at_time at s.lanes x.lanes n) (all_at_time at s.boxes x.workers n)
      (all_upto (λ (d : TimedDeed). IsWithin s d.what) s.lanes (λ k. here at n (x.lanes k)) (λ k below.
      all_filter (λ (d : TimedDeed). IsWithin s d.what) (λ d. d.at == n) (x.lanes k) (all_whats (IsWithin s) (x.lanes k) (h.lanes_within k below))))
      (all_upto (λ (d : TimedDeed). IsWithin s d.what) s.boxes (λ b. here at n (x.workers b)) (λ b below.
      all_filter (λ (d : TimedDeed). IsWithin s d.what) (λ d. d.at == n) (x.workers b) (all_whats (IsWithin s) (x.workers b) (h.workers_within b below))))))

  -- what passed a channel is what was taken of it
  copies_are : (b : ℕ) → b < s.boxes → map (λ p. p.what) (x.copies b) ≡ (t.courses b).taken
  copies_are b low =
      sym (notes_taken (x.copies b)) ∙ ap (λ l. flat_map taken_in (whats l)) (sym (h.agree.took b low)) ∙ sym ((takings b).are (x.workers b))
      ∙ own_takings b (x.workers b) ∙ ap (λ l. flat_map taken_in (whats l)) (h.of_workers b low) ∙ ap (flat_map taken_in) (h.workers b low)
      ∙ taken_in_turns b (t.courses b).taken (outcomes_in (t.courses b).turns)
      (many s (t.courses b).quota (t.courses b).taken (t.courses b).turns (h.courses b low).0)

  slips_are : (k : ℕ) → k < s.lanes → map (λ p. p.what) (x.slips k) ≡ t.heard k
  slips_are k low =
      sym (slips_heard (x.slips k)) ∙ ap (λ l. flat_map heard_in (whats l)) (sym (h.agree.heard k low)) ∙ sym ((hearings k).are (x.lanes k))
      ∙ own_hearings k (x.lanes k) ∙ ap (λ l. flat_map heard_in (whats l)) (h.of_lanes k low) ∙ h.heard k low

  -- a mailbox's channel and a lane's, where the deeds are cut
  pub copies_parted : (b : ℕ) → b < s.boxes → (first last : List TimedDeed) → all ≡ first ++ last
      → Parted Gave Took (gives_to b) (takes_from b) (x.copies b) first last
  copies_parted b low = parted Gave Took (gives_to b) (takes_from b) all (h.agree.until + 1) (x.copies b) climbs (copies_accepted b low) (copies_taken b low)

  slips_parted : (k : ℕ) → k < s.lanes → (first last : List TimedDeed) → all ≡ first ++ last
      → Parted Told Heard (tells_to k) (hears_from k) (x.slips k) first last
  slips_parted k low = parted Told Heard (tells_to k) (hears_from k) all (h.agree.until + 1) (x.slips k) climbs (slips_accepted k low) (slips_taken k low)

  taken_given : (b : ℕ) → b < s.boxes → TakesGiven b 0 (whats all)
  taken_given b low before after whole =
      let c : TimedCut all before after = cut_at all before after whole in
      let few : length (those (takes_from b) c.first) ≤ length (those (gives_to b) c.first) =
      no_more_taken Gave Took (gives_to b) (takes_from b) (x.copies b) c.first c.last (copies_parted b low c.first c.last c.both)
      (h.agree.copies_later b low) in
      let took : length (taken_by b before) ≡ length (those (takes_from b) c.first) = sym (ap (λ l. length (taken_by b l)) c.first_are)
      ∙ (takings b).many_are c.first in
      let gave : length (given_to b before) ≡ length (those (gives_to b) c.first) = sym (ap (λ l. length (given_to b l)) c.first_are)
      ∙ (gifts b).many_are c.first in
      omega arith

  heard_told : (k : ℕ) → k < s.lanes → HearsTold k 0 (whats all)
  heard_told k low before after whole =
      let c : TimedCut all before after = cut_at all before after whole in
      let few : length (those (hears_from k) c.first) ≤ length (those (tells_to k) c.first) =
      no_more_taken Told Heard (tells_to k) (hears_from k) (x.slips k) c.first c.last (slips_parted k low c.first c.last c.both)
      (h.agree.slips_later k low) in
      let took : length (heard_by k before) ≡ length (those (hears_from k) c.first) = sym (ap (λ l. length (heard_by k l)) c.first_are)
      ∙ (hearings k).many_are c.first in
      let gave : length (told_to k before) ≡ length (those (tells_to k) c.first) = sym (ap (λ l. length (told_to k l)) c.first_are)
      ∙ (tellings k).many_are c.first in
      omega arith

  pub history : IsHistory s t (whats all)
  history = record {
    within = all_within;
    lanes = λ k low. own_gifts k all ∙ ap (λ l. flat_map given_in (whats l)) (of_lane k low) ∙ h.lanes k low;
    rise = h.rise;
    workers = λ b low. whats_those (is_of_worker b) all ∙ ap whats (of_worker b low) ∙ h.workers b low;
    courses = h.courses;
    accepted = λ b low. (gifts b).are all ∙ ap (λ l. flat_map given_in (whats l)) (copies_accepted b low) ∙ notes_given (x.copies b) ∙ copies_are b low;
    told = λ k low. (tellings k).are all ∙ ap (λ l. flat_map told_in (whats l)) (slips_accepted k low) ∙ slips_told (x.slips k) ∙ slips_are k low;
    heard = λ k low. own_hearings k all ∙ ap (λ l. flat_map heard_in (whats l)) (of_lane k low) ∙ h.heard k low;
    taken_later = taken_given;
    heard_later = heard_told;
  }

  pub by_times : (deeds : List Deed) × IsHistory s t deeds
  by_times = (whats all, history)
