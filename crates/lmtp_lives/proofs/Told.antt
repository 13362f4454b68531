-- What a lane's clients were told is what the turns of its copies came to.
use Rattle.std.proofs.Common.{◌≡◌, ℕ, ◌<◌, Bool, true, false, cond, ◌==◌, List, [], ◌∷◌, ◌++◌}
use Rattle.std.proofs.Common.{length, Option, Some, None, refl, sym, ap, ◌∙◌, subst, append-nil, arith}
use Rattle.std.specs.Prelude.{flat_map}
use Rattle.std.specs.List.{AllByRecursion}
use Rattle.std.proofs.lemmas.List.Elements.{filter-append}
use Rattle.std.proofs.lemmas.List.Quantifiers.{position-Some}
use Rattle.std.specs.Str.{bytes_eq}
use Rattle.mail_world.specs.declared.Note.{Note}
use Rattle.mail_world.specs.declared.Slip.{Slip}
use Rattle.mail_world.specs.declared.Outcome.{Outcome}
use Rattle.mail_world.specs.declared.Outcome.TheVariants.{Stored, Failed, OverQuota, NoRoom, TooLarge, Malformed}
use Rattle.mail_world.specs.Conversation.{Conversation}
use Rattle.mail_world.specs.Deliveries.{told_all, outcomes_told}
use Rattle.mail_world.specs.Lists.{Transaction, copies_owed, transactions, of_lane, due}
use Rattle.mail_world.specs.Lists.{OutcomesAreAnswers}
use Rattle.mail_world.specs.Quotas.{quota_at}
use Rattle.mail_world.specs.Site.{Site}
use Rattle.mail_world.specs.Slips.{of_worker, slip_of}
use Rattle.mail_world.specs.Turns.{HaveTurns}
use Rattle.mail_writing.specs.Calendar.{civil_at}
use Rattle.lmtp_house.specs.RunOfModel.{server_of}
use Rattle.mail_lives.specs.Lives.{if_stored, stored_of, told_in}
use Rattle.mail_runs.specs.Courses.{outcomes_in}
use Rattle.box_worker.specs.Told.{owed_to}
use Rattle.lmtp_lane.specs.Visits.{conversations_of}
use Rattle.lmtp_threads.specs.Works.{VisitsView, SpoolsView}
use Rattle.lmtp_threads.proofs.ChannelRows.{at}
use Rattle.mail_runs.proofs.ByTime.{all_filter}
use Rattle.mail_runs.proofs.OneLane.{many}
use Rattle.lmtp_house.proofs.Answers.{IsAnswer, each_answers, answer_of, AreAnswers, by_transactions}
use Rattle.lmtp_house.proofs.NamedOnce.{named_once}
use Rattle.lmtp_lives.specs.Runs.{ServerRun, number_of, of_box, life_at, lives_in, told_at, told_in_run}

module _ (k : ℕ) (heard : List Slip) where
  -- the copy where what was heard of it is Stored
  abbrev if_told : Note → Option Outcome → List Note
  if_told note None = []
  if_told note (Some outcome) = if_stored note outcome

  abbrev told_one : Note → List Note
  told_one note = if_told note (answer_of heard note)

  -- ---- by the turns of copies

  none_by : (t : Bool) → ◌≡◌ {A = List Note} [] (cond t [] [])
  none_by true = refl
  none_by false = refl

  one_of_lane : (note : Note) (outcome : Outcome)
      → of_lane k (if_stored note outcome) ≡ cond (note.txn.lane == k) (if_stored note outcome) []
  one_of_lane note Stored = refl
  one_of_lane note Failed = none_by (note.txn.lane == k)
  one_of_lane note OverQuota = none_by (note.txn.lane == k)
  one_of_lane note NoRoom = none_by (note.txn.lane == k)
  one_of_lane note TooLarge = none_by (note.txn.lane == k)
  one_of_lane note Malformed = none_by (note.txn.lane == k)

  turn_by : (b : ℕ) (note : Note) (outcome : Outcome) (slips : List Slip) (stored notes : List Note) (t : Bool)
      → AllByRecursion (IsAnswer heard) (cond t (slip_of b note outcome ∷ slips) slips)
      → (AllByRecursion (IsAnswer heard) slips → stored ≡ flat_map told_one notes)
      → cond t (if_stored note outcome) [] ++ stored ≡ flat_map told_one (cond t (note ∷ notes) notes)
  turn_by b note outcome slips stored notes true h more =
      ap (λ (l : List Note). if_stored note outcome ++ l) (more h.1)
      ∙ ap (λ (o : Option Outcome). if_told note o ++ flat_map told_one notes) (sym h.0)
  turn_by b note outcome slips stored notes false h more = more h

  by_turns : (b : ℕ) (notes : List Note) (outcomes : List Outcome) → length outcomes ≡ length notes
      → AllByRecursion (IsAnswer heard) (owed_to b outcomes k notes)
      → of_lane k (stored_of notes outcomes) ≡ flat_map told_one (of_lane k notes)
  by_turns b [] outcomes e h = refl
  by_turns b (note ∷ notes) [] e h = cc
  by_turns b (note ∷ notes) (outcome ∷ outcomes) e h =
      filter-append (λ (n : Note). n.txn.lane == k) (if_stored note outcome) (stored_of notes outcomes)
      ∙ ap (λ (l : List Note). l ++ of_lane k (stored_of notes outcomes)) (one_of_lane note outcome)
      ∙ turn_by b note outcome (owed_to b outcomes k notes) (of_lane k (stored_of notes outcomes)) (of_lane k notes)
      (note.txn.lane == k) h (by_turns b notes outcomes (omega (arith, e)))

  -- ---- by the lane's conversations

  stored_are : (notes : List Note) (outcomes : List Outcome) → AreAnswers heard outcomes notes
      → stored_of notes outcomes ≡ flat_map told_one notes
  stored_are [] outcomes e = refl
  stored_are (note ∷ notes) [] e = cc
  stored_are (note ∷ notes) (outcome ∷ outcomes) e =
      let first : Some outcome ≡ answer_of heard note = cc in
      let rest : AreAnswers heard outcomes notes = cc in
      ap (λ (o : Option Outcome). if_told note o ++ stored_of notes outcomes) first
      ∙ ap (λ (l : List Note). told_one note ++ l) (stored_are notes outcomes rest)

  by_conversations : (site : Site) (b : ℕ) (cs : List Conversation) → OutcomesAreAnswers site k heard cs
      → stored_of (due site k b cs) (outcomes_told site b cs) ≡ flat_map told_one (due site k b cs)
  unfolding due outcomes_told
  by_conversations site b cs h =
      let ts : List Transaction = transactions site 0 cs in
      stored_are (copies_owed k b ts) (told_all b ts) (by_transactions heard k b ts h)

-- ---- a run

-- what a number stands for is within the site
pub of_site : (name : List ℕ) (site : Site) (b : ℕ) → number_of name site ≡ Some b → b < length site.boxes
of_site name site b is = (position-Some (λ box. bytes_eq box name) site.boxes b [] is).0

module _ {V S C : Type 0} {May : C → ℕ → Type 0} {view : VisitsView V} {spools : SpoolsView S}
    (run : ServerRun May view spools) where
  pub within : (b : ℕ) → b < length run.site.boxes → b < length run.old.spools
  within b box = omega (arith, run.each_box, box)

  pub have_turns : (b : ℕ) → b < length run.site.boxes
      → HaveTurns civil_at run.site (quota_at run.old.quotas b) (run.ran.boxes b).taken (run.ran.boxes b).turns
  have_turns b box =
      let ran = run.ran in
      let low = within b box in
      let before = at run.old.spools b low in
      let after = at run.new.spools b (omega (arith, ran.as_many_boxes.0, low)) in
      let tally = at run.new.tallies b (omega (arith, ran.as_many_boxes.1, low)) in
      (ran.stored b before.value after.value tally.value before.is after.is tally.is).turned.are

  answered : (k : ℕ) → k < length run.old.visits
      → OutcomesAreAnswers run.site k (run.ran.lanes k).heard (conversations_of (run.ran.lanes k).visits)
  answered k lane =
      let ran = run.ran in
      let before = at run.old.visits k lane in
      let after = at run.new.visits k (omega (arith, ran.as_many_lanes.0, lane)) in
      let count = at run.new.conversations k (omega (arith, ran.as_many_lanes.1, lane)) in
      (ran.served k count.value before.value after.value before.is after.is count.is).answered

  pub told_stored : (b k : ℕ) → b < length run.site.boxes → k < length run.old.visits
      → of_lane k (told_in (life_at b run)) ≡ told_at b k run
  told_stored b k box lane =
      let ran = run.ran in
      let low = within b box in
      let cs = conversations_of (ran.lanes k).visits in
      let heard = (ran.lanes k).heard in
      let outcomes = outcomes_in (ran.boxes b).turns in
      let once = named_once run.site k (length run.old.spools) cs heard ran.boxes (ran.told_only k lane)
      (λ c low. record { rest = []; whole = sym (ran.told k c lane low) ∙ sym (append-nil (of_worker c heard)) })
      (λ c low. ran.owed k c lane low) in
      let slips : AllByRecursion (IsAnswer heard) (owed_to b outcomes k (ran.boxes b).taken) =
      subst (AllByRecursion (IsAnswer heard)) (ran.told k b lane low)
      (all_filter (IsAnswer heard) (λ slip. slip.worker == b) heard (each_answers heard once)) in
      by_turns k heard b (ran.boxes b).taken outcomes (many (server_of run.site run.old) _ _ _ (have_turns b box)) slips
      ∙ ap (flat_map (told_one k heard)) (ran.owed k b lane low)
      ∙ sym (by_conversations k heard run.site b cs (answered k lane))

  -- of the mailbox with the number that a name stands for
  told_by : (k : ℕ) (o : Option ℕ) → ((b : ℕ) → o ≡ Some b → b < length run.site.boxes) → k < length run.old.visits
      → of_lane k (flat_map told_in (of_box (λ b. life_at b run ∷ []) o)) ≡ of_box (λ b. told_at b k run) o
  told_by k None boxes lane = refl
  told_by k (Some b) boxes lane =
      ap (of_lane k) (append-nil (told_in (life_at b run))) ∙ told_stored b k (boxes b refl) lane

  pub named_stored : (name : List ℕ) (k : ℕ) → k < length run.old.visits
      → of_lane k (flat_map told_in (lives_in name run)) ≡ told_in_run name k run
  named_stored name k lane = told_by k (number_of name run.site) (of_site name run.site) lane
