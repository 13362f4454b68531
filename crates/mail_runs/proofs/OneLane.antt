-- With one lane all copies can be given first. Then, for each slip that was heard, its worker takes the next copy of its
-- mailbox and tells the slip, and the lane hears it.
use Rattle.std.proofs.Common.{◌≡◌, ◌≢◌, ℕ, ◌+◌, ◌<◌, ◌≤◌, ◌==◌, List, [], ◌∷◌, ◌++◌, length, map, Bool, true, false, cond, refl, ap, sym, ◌∙◌, subst, ⊎_elim, Option}
use Rattle.std.proofs.Common.{arith, length-append}
use Rattle.std.specs.Prelude.{flat_map}
use Rattle.std.specs.List.{AllByRecursion}
use Rattle.std.proofs.lemmas.Bool.{eqb-true}
use Rattle.std.proofs.lemmas.List.Elements.{filter-append}
use Rattle.mail_world.specs.declared.Note.{Note}
use Rattle.mail_world.specs.declared.Slip.{Slip}
use Rattle.mail_world.specs.declared.Outcome.{Outcome}
use Rattle.mail_world.specs.declared.Verdict.{Verdict}
use Rattle.mail_world.specs.declared.Verdict.TheVariants.{Whole}
use Rattle.mail_world.specs.Slips.{slip_of, slips_from, of_worker}
use Rattle.mail_world.specs.Lists.{Transaction, copies, copies_if, copies_from, of_lane}
use Rattle.mail_runs.specs.Deeds.{Deed, Gave, Took, Told, Heard, turns_of, given_in, taken_in, told_in, heard_in, given_by, given_to, taken_by, told_to}
use Rattle.mail_runs.specs.Deeds.{heard_by, is_of_worker, worked_by, of_mailbox, slips_to}
use Rattle.mail_world.specs.Turns.{HaveTurns}
use Rattle.mail_world.specs.Turns.{Told as HadTurn}
use Rattle.mail_runs.specs.Courses.{Server, outcomes_in}
use Rattle.mail_runs.specs.Histories.{Threads, RiseAbove, IsWithin, TakesGiven, HearsTold, IsHistory}
use Rattle.mail_runs.specs.OneLane.{IsOfOneLane}
use Rattle.mail_runs.proofs.ByTime.{same?, all_both}
use Rattle.mail_runs.proofs.Parts.{passes, fails, same_number, other_number}
use Rattle.mail_runs.proofs.Frames.{taken_by-append, told_to-append, heard_by-append, given_to-append}

-- what is left for each mailbox, without the next of mailbox w
module _ {A : Type 0} where
  abbrev rest : List A → List A
  rest [] = []
  rest (x ∷ xs) = xs

  abbrev less : ℕ → (ℕ → List A) → ℕ → List A
  less w left b = cond (b == w) (rest (left b)) (left b)

  less_same : (w : ℕ) (left : ℕ → List A) (x : A) (xs : List A) → left w ≡ x ∷ xs → less w left w ≡ xs
  less_same w left x xs is = ap (λ (t : Bool). cond t (rest (left w)) (left w)) (same_number w w refl) ∙ ap rest is

  less_other : (w : ℕ) (left : ℕ → List A) (b : ℕ) → b ≢ w → less w left b ≡ left b
  less_other w left b differ = ap (λ (t : Bool). cond t (rest (left b)) (left b)) (other_number b w differ)

-- the deeds after all copies were given
abbrev taking : List Note → List Deed
taking [] = []
taking (note ∷ notes) = Took note ∷ []

abbrev turns : (ℕ → List Note) → List Slip → List Deed
turns left [] = []
turns left (slip ∷ slips) = taking (left slip.worker) ++ Told slip ∷ Heard slip ∷ turns (less slip.worker left) slips

-- the copies and the outcomes that are left are those of the slips that are left
abbrev IsFor : ℕ → Note → Type 0
IsFor b note = (note.txn.lane ≡ 0) × (note.mailbox ≡ b)

record AreLeft (s : Server) (notes : ℕ → List Note) (outcomes : ℕ → List Outcome) (slips : List Slip) : Type 0 where
  told : (b : ℕ) → b < s.boxes → of_worker b slips ≡ slips_from b (outcomes b) (notes b)
  as_many : (b : ℕ) → b < s.boxes → length (outcomes b) ≡ length (notes b)
  fits : (b : ℕ) → b < s.boxes → AllByRecursion (IsFor b) (notes b)
  workers : AllByRecursion (λ slip. slip.worker < s.boxes) slips

record AreTurns (s : Server) (notes : ℕ → List Note) (outcomes : ℕ → List Outcome) (slips : List Slip) (deeds : List Deed) : Type 0 where
  within : AllByRecursion (IsWithin s) deeds
  none_given : flat_map given_in deeds ≡ []
  worked : (b : ℕ) → b < s.boxes → worked_by b deeds ≡ turns_of b (notes b) (outcomes b)
  taken : (b : ℕ) → b < s.boxes → taken_by b deeds ≡ notes b
  told : told_to 0 deeds ≡ slips
  heard : heard_by 0 deeds ≡ slips
  later : HearsTold 0 0 deeds

-- no slip is left, or one
none_left : (b : ℕ) (outcomes : List Outcome) (notes : List Note) → [] ≡ slips_from b outcomes notes → length outcomes ≡ length notes
    → (notes ≡ []) × (outcomes ≡ [])
none_left b [] [] e many = (refl, refl)
none_left b [] (note ∷ notes) e many = absurd (omega arith)
none_left b (outcome ∷ outcomes) [] e many = absurd (omega arith)
none_left b (outcome ∷ outcomes) (note ∷ notes) e many = cc

record OneLeft (b : ℕ) (slip : Slip) (slips : List Slip) (outcomes : List Outcome) (notes : List Note) : Type 0 where
  note : Note
  more : List Note
  outcome : Outcome
  others : List Outcome
  first : notes ≡ note ∷ more
  its : outcomes ≡ outcome ∷ others
  says : slip ≡ slip_of b note outcome
  later : slips ≡ slips_from b others more

one_left : (b : ℕ) (slip : Slip) (slips : List Slip) (outcomes : List Outcome) (notes : List Note) → slip ∷ slips ≡ slips_from b outcomes notes
    → OneLeft b slip slips outcomes notes
one_left b slip slips [] notes e = cc
one_left b slip slips (outcome ∷ outcomes) [] e = cc
one_left b slip slips (outcome ∷ outcomes) (note ∷ notes) e = record {
  note = note;
  more = notes;
  outcome = outcome;
  others = outcomes;
  first = refl;
  its = refl;
  says = cc;
  later = cc;
}

-- after one slip
after_one : (s : Server) (notes : ℕ → List Note) (outcomes : ℕ → List Outcome) (slip : Slip) (slips : List Slip) (l : AreLeft s notes outcomes (slip ∷ slips))
    → OneLeft slip.worker slip (of_worker slip.worker slips) (outcomes slip.worker) (notes slip.worker)
    → AreLeft s (less slip.worker notes) (less slip.worker outcomes) slips
after_one s notes outcomes slip slips l o = record {
  told = λ b below. ⊎_elim
      (λ (is : b ≡ slip.worker). subst (λ x. of_worker x slips ≡ slips_from x (less slip.worker outcomes x) (less slip.worker notes x)) (sym is)
      (o.later ∙ sym (λ i. slips_from slip.worker (less_same slip.worker outcomes o.outcome o.others o.its i)
      (less_same slip.worker notes o.note o.more o.first i))))
      (λ (differ : b ≢ slip.worker). sym (fails (λ (x : Slip). x.worker == b) slip slips (other_number slip.worker b (λ e. differ (sym e)))) ∙ l.told b below
      ∙ sym (λ i. slips_from b (less_other slip.worker outcomes b differ i) (less_other slip.worker notes b differ i)))
      (same? b slip.worker);
  as_many = λ b below. ⊎_elim
      (λ (is : b ≡ slip.worker). subst (λ x. length (less slip.worker outcomes x) ≡ length (less slip.worker notes x)) (sym is)
      (ap length (less_same slip.worker outcomes o.outcome o.others o.its)
      ∙ (let m : length (outcomes slip.worker) ≡ length (notes slip.worker) = l.as_many slip.worker (subst (λ x. x < s.boxes) is below) in
      let a = ap length o.its in let c = ap length o.first in omega arith)
      ∙ sym (ap length (less_same slip.worker notes o.note o.more o.first))))
      (λ (differ : b ≢ slip.worker). ap length (less_other slip.worker outcomes b differ) ∙ l.as_many b below
      ∙ sym (ap length (less_other slip.worker notes b differ)))
      (same? b slip.worker);
  fits = λ b below. ⊎_elim
      (λ (is : b ≡ slip.worker). subst (λ x. AllByRecursion (IsFor x) (less slip.worker notes x)) (sym is)
      (subst (λ x. AllByRecursion (IsFor slip.worker) x) (sym (less_same slip.worker notes o.note o.more o.first))
      (let all : AllByRecursion (IsFor slip.worker) (o.note ∷ o.more) = subst (λ x. AllByRecursion (IsFor slip.worker) x) o.first
      (l.fits slip.worker (subst (λ x. x < s.boxes) is below)) in all.1)))
      (λ (differ : b ≢ slip.worker). subst (λ x. AllByRecursion (IsFor b) x) (sym (less_other slip.worker notes b differ)) (l.fits b below))
      (same? b slip.worker);
  workers = l.workers.1;
}

-- a deed before others: what waits more or less after it
hears_on : (k w n : ℕ) (d : Deed) (deeds : List Deed) → n + length (heard_by k (d ∷ [])) ≡ w + length (told_to k (d ∷ [])) → HearsTold k n deeds
    → HearsTold k w (d ∷ deeds)
hears_on k w n d deeds e later [] after whole = omega arith
hears_on k w n d deeds e later (x ∷ before) after whole =
    let is : d ≡ x = cc in
    let f : length (heard_by k before) ≤ n + length (told_to k before) = later before after (cc) in
    subst (λ y. length (heard_by k (y ∷ before)) ≤ w + length (told_to k (y ∷ before))) is
    (let t : length (heard_by k (d ∷ before)) ≡ length (heard_by k (d ∷ [])) + length (heard_by k before) = ap length (heard_by-append k (d ∷ []) before)
    ∙ length-append (heard_by k (d ∷ [])) (heard_by k before) in
    let g : length (told_to k (d ∷ before)) ≡ length (told_to k (d ∷ [])) + length (told_to k before) = ap length (told_to-append k (d ∷ []) before)
    ∙ length-append (told_to k (d ∷ [])) (told_to k before) in
    omega arith)

takes_on : (b w n : ℕ) (d : Deed) (deeds : List Deed) → n + length (taken_by b (d ∷ [])) ≡ w + length (given_to b (d ∷ [])) → TakesGiven b n deeds
    → TakesGiven b w (d ∷ deeds)
takes_on b w n d deeds e later [] after whole = omega arith
takes_on b w n d deeds e later (x ∷ before) after whole =
    let is : d ≡ x = cc in
    let f : length (taken_by b before) ≤ n + length (given_to b before) = later before after (cc) in
    subst (λ y. length (taken_by b (y ∷ before)) ≤ w + length (given_to b (y ∷ before))) is
    (let t : length (taken_by b (d ∷ before)) ≡ length (taken_by b (d ∷ [])) + length (taken_by b before) = ap length (taken_by-append b (d ∷ []) before)
    ∙ length-append (taken_by b (d ∷ [])) (taken_by b before) in
    let g : length (given_to b (d ∷ before)) ≡ length (given_to b (d ∷ [])) + length (given_to b before) = ap length (given_to-append b (d ∷ []) before)
    ∙ length-append (given_to b (d ∷ [])) (given_to b before) in
    omega arith)

-- one more turn: a worker takes a copy and tells of it, and the lane hears it
one_turn : (s : Server) (notes : ℕ → List Note) (outcomes : ℕ → List Outcome) (slip : Slip) (slips : List Slip) (deeds : List Deed) → s.lanes ≡ 1
    → AreLeft s notes outcomes (slip ∷ slips) → (o : OneLeft slip.worker slip (of_worker slip.worker slips) (outcomes slip.worker) (notes slip.worker))
    → AreTurns s (less slip.worker notes) (less slip.worker outcomes) slips deeds
    → AreTurns s notes outcomes (slip ∷ slips) (Took o.note ∷ Told slip ∷ Heard slip ∷ deeds)
one_turn s notes outcomes slip slips deeds one l o t =
    let low : slip.worker < s.boxes = l.workers.0 in
    let all : AllByRecursion (IsFor slip.worker) (o.note ∷ o.more) = subst (λ x. AllByRecursion (IsFor slip.worker) x) o.first (l.fits slip.worker low) in
    let lane : o.note.txn.lane ≡ 0 = all.0.0 in
    let box : o.note.mailbox ≡ slip.worker = all.0.1 in
    let its : slip.txn.lane ≡ 0 = ap (λ (x : Slip). x.txn.lane) o.says ∙ lane in
    let ours : (slip.txn.lane == 0) ≡ true = same_number slip.txn.lane 0 its in
    let hears : heard_by 0 (Heard slip ∷ []) ≡ slip ∷ [] = passes (λ (x : Slip). x.txn.lane == 0) slip [] ours in
    let tells : told_to 0 (Told slip ∷ []) ≡ slip ∷ [] = passes (λ (x : Slip). x.txn.lane == 0) slip [] ours in
    let h1 : length (heard_by 0 (Heard slip ∷ [])) ≡ 1 = ap length hears in
    let t1 : length (told_to 0 (Told slip ∷ [])) ≡ 1 = ap length tells in
    record {
      within = (((omega arith), (omega arith)), (((omega arith), low), (((omega arith), low), t.within)));
      none_given = t.none_given;
      worked = λ b below. ⊎_elim
          (λ (is : b ≡ slip.worker). subst (λ x. worked_by x (Took o.note ∷ Told slip ∷ Heard slip ∷ deeds) ≡ turns_of x (notes x) (outcomes x)) (sym is)
          (passes (is_of_worker slip.worker) (Took o.note) (Told slip ∷ Heard slip ∷ deeds) (same_number o.note.mailbox slip.worker box)
          ∙ ap (λ ds. Took o.note ∷ ds) (passes (is_of_worker slip.worker) (Told slip) (Heard slip ∷ deeds) (same_number slip.worker slip.worker refl))
          ∙ (λ i. Took o.note ∷ Told (o.says i) ∷ t.worked slip.worker low i)
          ∙ (λ i. Took o.note ∷ Told (slip_of slip.worker o.note o.outcome) ∷ turns_of slip.worker (less_same slip.worker notes o.note o.more o.first i)
          (less_same slip.worker outcomes o.outcome o.others o.its i))
          ∙ sym (λ i. turns_of slip.worker (o.first i) (o.its i))))
          (λ (differ : b ≢ slip.worker).
          fails (is_of_worker b) (Took o.note) (Told slip ∷ Heard slip ∷ deeds) (other_number o.note.mailbox b (λ e. differ (sym e ∙ box)))
          ∙ fails (is_of_worker b) (Told slip) (Heard slip ∷ deeds) (other_number slip.worker b (λ e. differ (sym e)))
          ∙ t.worked b below
          ∙ (λ i. turns_of b (less_other slip.worker notes b differ i) (less_other slip.worker outcomes b differ i)))
          (same? b slip.worker);
      taken = λ b below. ⊎_elim
          (λ (is : b ≡ slip.worker). subst (λ x. taken_by x (Took o.note ∷ Told slip ∷ Heard slip ∷ deeds) ≡ notes x) (sym is)
          (passes (λ (n : Note). n.mailbox == slip.worker) o.note (flat_map taken_in deeds) (same_number o.note.mailbox slip.worker box)
          ∙ ap (λ ns. o.note ∷ ns) (t.taken slip.worker low ∙ less_same slip.worker notes o.note o.more o.first) ∙ sym o.first))
          (λ (differ : b ≢ slip.worker).
          fails (λ (n : Note). n.mailbox == b) o.note (flat_map taken_in deeds) (other_number o.note.mailbox b (λ e. differ (sym e ∙ box)))
          ∙ t.taken b below ∙ less_other slip.worker notes b differ)
          (same? b slip.worker);
      told = passes (λ (x : Slip). x.txn.lane == 0) slip (flat_map told_in deeds) ours ∙ ap (λ xs. slip ∷ xs) t.told;
      heard = passes (λ (x : Slip). x.txn.lane == 0) slip (flat_map heard_in deeds) ours ∙ ap (λ xs. slip ∷ xs) t.heard;
      later = hears_on 0 0 0 (Took o.note) (Told slip ∷ Heard slip ∷ deeds) refl
          (hears_on 0 0 1 (Told slip) (Heard slip ∷ deeds) (omega arith) (hears_on 0 1 0 (Heard slip) deeds (omega arith) t.later));
    }

no_turns : (s : Server) (notes : ℕ → List Note) (outcomes : ℕ → List Outcome) → AreLeft s notes outcomes [] → AreTurns s notes outcomes [] []
no_turns s notes outcomes l = record {
  within = tt;
  none_given = refl;
  worked = λ b below. let n = none_left b (outcomes b) (notes b) (l.told b below) (l.as_many b below) in sym (λ i. turns_of b (n.0 i) (n.1 i));
  taken = λ b below. let n = none_left b (outcomes b) (notes b) (l.told b below) (l.as_many b below) in sym n.0;
  told = refl;
  heard = refl;
  later = none_hears;
}
  where
    none_hears : HearsTold 0 0 []
    none_hears [] after whole = omega arith
    none_hears (x ∷ before) after whole = cc

all_turns : (s : Server) (notes : ℕ → List Note) (outcomes : ℕ → List Outcome) (slips : List Slip) → s.lanes ≡ 1 → AreLeft s notes outcomes slips
    → AreTurns s notes outcomes slips (turns notes slips)
all_turns s notes outcomes [] one l = no_turns s notes outcomes l
all_turns s notes outcomes (slip ∷ slips) one l =
    let o : OneLeft slip.worker slip (of_worker slip.worker slips) (outcomes slip.worker) (notes slip.worker) =
    one_left slip.worker slip (of_worker slip.worker slips) (outcomes slip.worker) (notes slip.worker)
    (sym (passes (λ (x : Slip). x.worker == slip.worker) slip slips (same_number slip.worker slip.worker refl)) ∙ l.told slip.worker l.workers.0) in
    subst (λ ds. AreTurns s notes outcomes (slip ∷ slips) (taking ds ++ Told slip ∷ Heard slip ∷ turns (less slip.worker notes) slips)) (sym o.first)
    (one_turn s notes outcomes slip slips (turns (less slip.worker notes) slips) one l o
    (all_turns s (less slip.worker notes) (less slip.worker outcomes) slips one (after_one s notes outcomes slip slips l o)))

-- the copies of a lane name it
abbrev pub NamesLane : ℕ → Note → Type 0
NamesLane k note = note.txn.lane ≡ k

from_lane : (k : ℕ) (t : Transaction) (place : ℕ) (boxes : List ℕ) → AllByRecursion (NamesLane k) (copies_from k t place boxes)
from_lane k t place [] = tt
from_lane k t place (box ∷ boxes) = (refl, from_lane k t (place + 1) boxes)

of_verdict : (k : ℕ) (t : Transaction) (v : Verdict) → AllByRecursion (NamesLane k) (copies_if k t v)
of_verdict k t Whole = from_lane k t 0 t.session.recipients
of_verdict k t _ = tt

pub of_transactions : (k : ℕ) (ts : List Transaction) → AllByRecursion (NamesLane k) (flat_map (copies k) ts)
of_transactions k [] = tt
of_transactions k (t ∷ ts) = all_both (NamesLane k) (copies k t) (flat_map (copies k) ts) (of_verdict k t t.disposition.verdict) (of_transactions k ts)

all_of_lane : (k : ℕ) (notes : List Note) → AllByRecursion (NamesLane k) notes → of_lane k notes ≡ notes
all_of_lane k [] all = refl
all_of_lane k (note ∷ notes) all = passes (λ (n : Note). n.txn.lane == k) note notes (same_number note.txn.lane k all.0)
    ∙ ap (λ ns. note ∷ ns) (all_of_lane k notes all.1)

fit_if : (b : ℕ) (note : Note) (notes : List Note) (t : Bool) → (note.mailbox == b) ≡ t → note.txn.lane ≡ 0 → AllByRecursion (IsFor b) (of_mailbox b notes)
    → AllByRecursion (IsFor b) (of_mailbox b (note ∷ notes))
fit_if b note notes true e lane more =
    subst (λ ns. AllByRecursion (IsFor b) ns) (sym (passes (λ (n : Note). n.mailbox == b) note notes e)) ((lane, eqb-true note.mailbox b e), more)
fit_if b note notes false e lane more = subst (λ ns. AllByRecursion (IsFor b) ns) (sym (fails (λ (n : Note). n.mailbox == b) note notes e)) more

all_fit : (b : ℕ) (notes : List Note) → AllByRecursion (NamesLane 0) notes → AllByRecursion (IsFor b) (of_mailbox b notes)
all_fit b [] all = tt
all_fit b (note ∷ notes) all = fit_if b note notes (note.mailbox == b) refl all.0 (all_fit b notes all.1)

-- as many outcomes as copies
pub many : (s : Server) (quota : Option ℕ) (notes : List Note) (turns : List HadTurn) → HaveTurns s.calendar s.site quota notes turns
    → length (outcomes_in turns) ≡ length notes
many s quota [] [] t = refl
many s quota [] (told ∷ turns) t = absurd t
many s quota (note ∷ notes) [] t = absurd t
many s quota (note ∷ notes) (told ∷ turns) t = let m = many s quota notes turns t.1 in omega arith

-- copies that are given before other deeds
abbrev giving : List Note → List Deed
giving notes = map Gave notes

given_of : (notes : List Note) (deeds : List Deed) → flat_map given_in deeds ≡ [] → flat_map given_in (giving notes ++ deeds) ≡ notes
given_of [] deeds none = none
given_of (note ∷ notes) deeds none = ap (λ ns. note ∷ ns) (given_of notes deeds none)

told_of : (notes : List Note) (deeds : List Deed) → flat_map told_in (giving notes ++ deeds) ≡ flat_map told_in deeds
told_of [] deeds = refl
told_of (note ∷ notes) deeds = told_of notes deeds

heard_of : (notes : List Note) (deeds : List Deed) → flat_map heard_in (giving notes ++ deeds) ≡ flat_map heard_in deeds
heard_of [] deeds = refl
heard_of (note ∷ notes) deeds = heard_of notes deeds

worked_of : (b : ℕ) (notes : List Note) (deeds : List Deed) → worked_by b (giving notes ++ deeds) ≡ worked_by b deeds
worked_of b [] deeds = refl
worked_of b (note ∷ notes) deeds = worked_of b notes deeds

within_of : (s : Server) (notes : List Note) (deeds : List Deed) → s.lanes ≡ 1 → AllByRecursion (NamesLane 0) notes
    → AllByRecursion (λ note. note.mailbox < s.boxes) notes → AllByRecursion (IsWithin s) deeds
    → AllByRecursion (IsWithin s) (giving notes ++ deeds)
within_of s [] deeds one lane box rest = rest
within_of s (note ∷ notes) deeds one lane box rest = let at : note.txn.lane ≡ 0 = lane.0 in
    (((omega arith), box.0), within_of s notes deeds one lane.1 box.1 rest)

later_of : (notes : List Note) (deeds : List Deed) → HearsTold 0 0 deeds → HearsTold 0 0 (giving notes ++ deeds)
later_of [] deeds later = later
later_of (note ∷ notes) deeds later = hears_on 0 0 0 (Gave note) (giving notes ++ deeds) refl (later_of notes deeds later)

-- a worker takes no more than are there
no_more : (b n : ℕ) (deeds : List Deed) → length (taken_by b deeds) ≤ n → TakesGiven b n deeds
no_more b n deeds few before after whole =
    let e : length (taken_by b deeds) ≡ length (taken_by b before) + length (taken_by b after) =
    ap (λ ds. length (taken_by b ds)) whole ∙ ap length (taken_by-append b before after) ∙ length-append (taken_by b before) (taken_by b after) in
    omega arith

given_first : (b n : ℕ) (notes : List Note) (deeds : List Deed) → length (taken_by b deeds) ≤ n + length (of_mailbox b notes)
    → TakesGiven b n (giving notes ++ deeds)
given_first b n [] deeds few = no_more b n deeds (omega arith)
given_first b n (note ∷ notes) deeds few =
    let e : length (of_mailbox b (note ∷ notes)) ≡ length (given_to b (Gave note ∷ [])) + length (of_mailbox b notes) =
    ap length (filter-append (λ (x : Note). x.mailbox == b) (note ∷ []) notes) ∙ length-append (of_mailbox b (note ∷ [])) (of_mailbox b notes) in
    takes_on b n (n + length (given_to b (Gave note ∷ []))) (Gave note) (giving notes ++ deeds) (omega arith)
    (given_first b (n + length (given_to b (Gave note ∷ []))) notes deeds (omega arith))

pub one_lane : (s : Server) (t : Threads) → IsOfOneLane s t → (deeds : List Deed) × IsHistory s t deeds
one_lane s t is =
    let notes : List Note = flat_map (copies 0) (t.transactions 0) in
    let ours : AllByRecursion (NamesLane 0) notes = of_transactions 0 (t.transactions 0) in
    let takes : ℕ → List Note = λ b. (t.courses b).taken in
    let outcomes : ℕ → List Outcome = λ b. outcomes_in (t.courses b).turns in
    let l : AreLeft s takes outcomes (t.heard 0) = record {
      told = is.told;
      as_many = λ b below. many s (t.courses b).quota (t.courses b).taken (t.courses b).turns (is.courses b below).0;
      fits = λ b below. subst (λ ns. AllByRecursion (IsFor b) ns) (sym (is.taken b below)) (all_fit b notes ours);
      workers = is.told_only;
    } in
    let later : List Deed = turns takes (t.heard 0) in
    let a : AreTurns s takes outcomes (t.heard 0) later = all_turns s takes outcomes (t.heard 0) is.lanes l in
    let zero_of = λ (k : ℕ) (below : k < s.lanes). (let o = is.lanes in let e : 0 ≡ k = omega arith in e) in (
      giving notes ++ later,
      record {
        within = within_of s notes later is.lanes ours is.for_boxes a.within;
        lanes = λ k below. subst (λ x. given_by x (giving notes ++ later) ≡ flat_map (copies x) (t.transactions x)) (zero_of k below)
            (ap (of_lane 0) (given_of notes later a.none_given) ∙ all_of_lane 0 notes ours);
        rise = λ k below. subst (λ x. RiseAbove 0 (t.transactions x)) (zero_of k below) is.rise;
        workers = λ b below. worked_of b notes later ∙ a.worked b below;
        courses = is.courses;
        accepted = λ b below. ap (of_mailbox b) (given_of notes later a.none_given) ∙ sym (is.taken b below);
        told = λ k below. subst (λ x. told_to x (giving notes ++ later) ≡ t.heard x) (zero_of k below) (ap (slips_to 0) (told_of notes later) ∙ a.told);
        heard = λ k below. subst (λ x. heard_by x (giving notes ++ later) ≡ t.heard x) (zero_of k below) (ap (slips_to 0) (heard_of notes later) ∙ a.heard);
        taken_later = λ b below. given_first b 0 notes later
            (let e : length (taken_by b later) ≡ length (of_mailbox b notes) = ap length (a.taken b below ∙ is.taken b below) in omega arith);
        heard_later = λ k below. subst (λ x. HearsTold x 0 (giving notes ++ later)) (zero_of k below) (later_of notes later a.later);
      },
    )
