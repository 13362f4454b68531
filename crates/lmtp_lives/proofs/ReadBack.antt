-- Runs as lives, and what is read back after them.
use Rattle.std.proofs.Common.{◌≡◌, ℕ, ◌<◌, Bool, true, false, cond, List, [], ◌∷◌, ◌++◌, length, map, refl, sym}
use Rattle.std.proofs.Common.{subst, eq-eqb, Option, Some, None}
use Rattle.std.proofs.lemmas.Grind.{flat_map-append}
use Rattle.std.proofs.lemmas.Bool.{cond-true}
use Rattle.std.specs.Prelude.{◌==◌}
use Rattle.std.specs.List.{AllByRecursion}
use Rattle.mail_world.specs.declared.Note.{Note}
use Rattle.mail_world.specs.Reading.{Letter, IsMailed}
use Rattle.mail_world.specs.Site.{Site}
use Rattle.mail_world.specs.Text.{IsOneLine}
use Rattle.mail_world.specs.Turns.{HaveTurns}
use Rattle.mail_runs.proofs.ByTime.{all_filter}
use Rattle.mail_lives.specs.ReadAs.{IsReadAs}
use Rattle.mail_lives.specs.Lives.{Life, HaveLived, LivesLeave, lives_steps, taken_through, told_in, told_through}
use Rattle.mail_lives.specs.Lives.{under}
use Rattle.mail_lives.specs.Steps.{SiteNote}
use Rattle.mail_lives.specs.ReadBack.{IsReadBack}
use Rattle.mail_lives.proofs.Lists.{all_front, all_back, all_both}
use Rattle.mail_lives.proofs.MailedDue.{due_mailed}
use Rattle.mail_lives.proofs.Lived.{lives_read, lives_do}
use Rattle.mail_lives.proofs.Stays.{stored_stay}
use Rattle.mail_writing.specs.Calendar.{civil_at}
use Rattle.lmtp_threads.specs.Works.{VisitsView, SpoolsView}
use Rattle.lmtp_lives.specs.Runs.{ServerRun, number_of, of_box, life_at, lives_in, lives_at, told_at, told_in_run}
use Rattle.lmtp_lives.specs.ReadBack.{AreReadBack}
use Rattle.lmtp_lives.proofs.Told.{of_site, within, have_turns, told_stored}
use Rattle.mail_world.specs.Lists.{of_lane}
use Rattle.lmtp_lane.specs.Visits.{conversations_of}

-- what holds of each lane's copies holds of all
rest_of : (P : Note → Type 0) (t : Bool) (note : Note) (notes : List Note)
    → AllByRecursion P (cond t (note ∷ notes) notes) → AllByRecursion P notes
rest_of P true note notes h = h.1
rest_of P false note notes h = h

lanes_all : (P : Note → Type 0) (lanes : ℕ) (notes : List Note) → AllByRecursion (λ note. note.txn.lane < lanes) notes
    → ((k : ℕ) → k < lanes → AllByRecursion P (of_lane k notes)) → AllByRecursion P notes
lanes_all P lanes [] only each = tt
lanes_all P lanes (note ∷ notes) only each =
    let k : ℕ = note.txn.lane in
    let own = subst (AllByRecursion P) (cond-true (k == k) (note ∷ of_lane k notes) (of_lane k notes) (eq-eqb k k refl))
    (each k only.0) in (
      own.0,
      lanes_all P lanes notes only.1 (λ j lane. rest_of P (note.txn.lane == j) note (of_lane j notes) (each j lane)),
    )

-- what holds of each element's image holds of all
all_each : {A B : Type 0} (P : B → Type 0) (f : A → B) (xs : List A) → AllByRecursion P (map f xs)
    → AllByRecursion (λ x. P (f x)) xs
all_each P f [] h = tt
all_each P f (x ∷ xs) h = (h.0, all_each P f xs h.1)

taken_by_each : (lives : List Life) → AllByRecursion (λ (life : Life). AllByRecursion IsMailed life.taken) lives
    → AllByRecursion IsMailed (taken_through lives)
taken_by_each [] h = tt
taken_by_each (life ∷ lives) h = all_both IsMailed life.taken (taken_through lives) h.0 (taken_by_each lives h.1)

abbrev HoldsAt : (SiteNote → Type 0) → Site → Note → Type 0
HoldsAt P site note = P (record { site = site; note = note })

module _ {V S C : Type 0} {May : C → ℕ → Type 0} {view : VisitsView V} {spools : SpoolsView S} where
  -- ---- what holds at each number of a run's site holds of the mailbox of a name

  by_number : {A : Type 0} (P : A → Type 0) (run : ServerRun May view spools) (at : ℕ → A) (o : Option ℕ)
      → ((b : ℕ) → o ≡ Some b → b < length run.site.boxes) → ((b : ℕ) → b < length run.site.boxes → P (at b))
      → AllByRecursion P (of_box (λ b. at b ∷ []) o)
  by_number P run at None boxes each = tt
  by_number P run at (Some b) boxes each = (each b (boxes b refl), tt)

  pub by_name : {A : Type 0} (P : A → Type 0) (run : ServerRun May view spools) (at : ℕ → A) (name : List ℕ)
      → ((b : ℕ) → b < length run.site.boxes → P (at b))
      → AllByRecursion P (of_box (λ b. at b ∷ []) (number_of name run.site))
  by_name P run at name each = by_number P run at (number_of name run.site) (of_site name run.site) each

  -- a worker took what transactions make
  pub box_mailed : (run : ServerRun May view spools) (b : ℕ) → b < length run.site.boxes
      → AllByRecursion IsMailed (run.ran.boxes b).taken
  box_mailed run b box =
      let ran = run.ran in
      let low = within run b box in
      lanes_all IsMailed (length run.old.visits) (ran.boxes b).taken (ran.owed_only b low)
      (λ k lane. subst (AllByRecursion IsMailed) (sym (ran.owed k b lane low))
      (due_mailed run.site k b (conversations_of (ran.lanes k).visits)))

  -- ---- runs as lives of the mailbox of a name

  module _ (name : List ℕ) where
    each_life : (P : Life → Type 0) (runs : List (ServerRun May view spools))
        → AllByRecursion (λ run. (b : ℕ) → b < length run.site.boxes → P (life_at b run)) runs
        → AllByRecursion P (lives_at name runs)
    each_life P [] h = tt
    each_life P (run ∷ runs) h =
        all_both P (lives_in name run) (lives_at name runs) (by_name P run (λ b. life_at b run) name h.0)
        (each_life P runs h.1)

    each_run : (P : ServerRun May view spools → Type 0) → ((run : ServerRun May view spools) → P run)
        → (runs : List (ServerRun May view spools)) → AllByRecursion P runs
    each_run P holds [] = tt
    each_run P holds (run ∷ runs) = (holds run, each_run P holds runs)

    hosts : (runs : List (ServerRun May view spools))
        → AllByRecursion (λ (run : ServerRun May view spools). IsOneLine run.site.host) runs
        → AllByRecursion (λ (run : ServerRun May view spools). (b : ℕ) → b < length run.site.boxes
        → IsOneLine run.site.host) runs
    hosts [] h = tt
    hosts (run ∷ runs) h = (λ b box. h.0, hosts runs h.1)

    pub lived : (runs : List (ServerRun May view spools)) (old new : List ℕ)
        → LivesLeave civil_at (lives_at name runs) old new → HaveLived civil_at (lives_at name runs) old new
    lived runs old new leave = record {
      are = each_life (λ (life : Life). HaveTurns civil_at life.site life.quota life.taken life.turns) runs
          (each_run _ have_turns runs);
      leave = leave;
    }

    pub taken_mailed : (runs : List (ServerRun May view spools))
        → AllByRecursion IsMailed (taken_through (lives_at name runs))
    taken_mailed runs =
        taken_by_each (lives_at name runs)
        (each_life (λ (life : Life). AllByRecursion IsMailed life.taken) runs (each_run _ box_mailed runs))

    -- what holds of each copy that was told Stored holds of each of which a client was told so
    module _ (P : SiteNote → Type 0) where
      told_by : (run : ServerRun May view spools) (o : Option ℕ)
          → ((b : ℕ) → o ≡ Some b → b < length run.site.boxes)
          → AllByRecursion P (told_through (of_box (λ b. life_at b run ∷ []) o))
          → (k : ℕ) → k < length run.old.visits
          → AllByRecursion (HoldsAt P run.site) (of_box (λ b. told_at b k run) o)
      told_by run None boxes h k lane = tt
      told_by run (Some b) boxes h k lane =
          let first : List Note = told_in (life_at b run) in
          let all = all_each P (λ note. record { site = run.site; note = note }) first
          (all_front P (under run.site first) [] h) in
          subst (AllByRecursion (HoldsAt P run.site)) (told_stored run b k (boxes b refl) lane)
          (all_filter (HoldsAt P run.site) (λ note. note.txn.lane == k) first all)

      each_told : (runs : List (ServerRun May view spools)) → AllByRecursion P (told_through (lives_at name runs))
          → AllByRecursion (λ (run : ServerRun May view spools). (k : ℕ) → k < length run.old.visits
          → AllByRecursion (HoldsAt P run.site) (told_in_run name k run)) runs
      each_told [] h = tt
      each_told (run ∷ runs) h =
          let first : List SiteNote = told_through (lives_in name run) in
          let more : List SiteNote = told_through (lives_at name runs) in
          let both : AllByRecursion P (first ++ more) = subst (AllByRecursion P)
          (flat_map-append (λ (life : Life). under life.site (told_in life)) (lives_in name run) (lives_at name runs))
          h in (
            told_by run (number_of name run.site) (of_site name run.site) (all_front P first more both),
            each_told runs (all_back P first more both),
          )

    pub read_back : (runs : List (ServerRun May view spools)) (old new : List ℕ) (letters : List Letter)
        → AllByRecursion (λ (run : ServerRun May view spools). IsOneLine run.site.host) runs → IsReadAs old letters
        → LivesLeave civil_at (lives_at name runs) old new
        → (after : List Letter) × IsReadAs new after × AreReadBack name runs letters after
    read_back runs old new letters one was leave =
        let lives : List Life = lives_at name runs in
        let have = lived runs old new leave in
        let named = each_life (λ (life : Life). IsOneLine life.site.host) runs (hosts runs one) in
        let read = lives_read civil_at lives old new letters named (taken_mailed runs) was have in
        let did = lives_do civil_at lives old new have in
        let Back : SiteNote → Type 0 =
        λ it. IsReadBack civil_at (lives_steps lives) letters read.0 it.site it.note in (
          read.0,
          read.1,
          record {
            come = read.2;
            stored = did.stores;
            torn = did.torn;
            told = each_told Back runs (subst (AllByRecursion Back) did.stores
                (stored_stay civil_at (lives_steps lives) letters read.0 read.2));
          },
        )
