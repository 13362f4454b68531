-- What a server's lanes and workers gave each other, and that each mailbox came to a course of the model.
use Rattle.std.proofs.Common.{◌≡◌, ℕ, ◌<◌, List, [], ◌∷◌, length, Some, ap, subst, arith}
use Rattle.std.specs.Prelude.{slice_get}
use Rattle.std.specs.List.{AllByRecursion}
use Rattle.std.proofs.lemmas.Option.{slice_get_within}
use Rattle.mail_world.specs.Site.{Site}
use Rattle.mail_world.specs.Slips.{of_worker}
use Rattle.mail_world.specs.Lists.{of_lane, due}
use Rattle.mail_world.specs.Turns.{Standing, Turn, NotHad, Had, Told, BeginsAt, AreAlone, left_after, left_by}
use Rattle.mail_runs.specs.Courses.{outcomes_in, IsCourse}
use Rattle.mbox_spool.specs.Spool.{standing}
use Rattle.box_worker.specs.Told.{owed_to}
use Rattle.box_worker.specs.Turned.{IsFound, AreFound}
use Rattle.lmtp_lane.specs.Visits.{conversations_of}
use Rattle.lmtp_threads.specs.Works.{SpoolsView, LaneWork, BoxWork, share_of, setting_of, IsBoxWork}
use Rattle.lmtp_threads.specs.declared.tally.Tally.{Tally}
use Rattle.lmtp_house.specs.Handed.{HandedIn, HandedBack}
use Rattle.lmtp_house.specs.RunOfModel.{server_of, courses_of, IsNobodyElses, IsLeftAlone}
use Rattle.lmtp_threads.proofs.ChannelRows.{at}

-- what stood last and was found at each lock
module _ (MayFind : Standing → Standing → Type 0) (same : (last now : Standing) → MayFind last now → now.bytes ≡ last.bytes) where
  begins_at : (last left : Standing) (turn : Turn) → IsFound MayFind last turn left → BeginsAt last.bytes turn × (left.bytes ≡ left_after last.bytes turn)
  begins_at last left NotHad found = (tt, same last left found)
  begins_at last left (Had lock unlock) found = (same last lock found.0, ap (λ (s : Standing). s.bytes) found.2)

  pub left_alone : (last : Standing) (turns : List Told) (now : Standing) → AreFound MayFind last turns now
      → IsLeftAlone turns last.bytes now.bytes
  left_alone last [] now h = record { between = tt; left = ap (λ (s : Standing). s.bytes) h }
  left_alone last (told ∷ turns) now h =
      let begins = begins_at last h.0 told.turn h.1 in
      let rest = left_alone h.0 turns now h.2 in
      record {
        between = (begins.0, subst (λ l. AreAlone l turns) begins.1 rest.between);
        left = subst (λ l. now.bytes ≡ left_by l turns) begins.1 rest.left;
      }

module _ {V S : Type 0} (site : Site) (spools : SpoolsView S) (lanes : ℕ → LaneWork) (boxes : ℕ → BoxWork)
    (old : HandedIn V S) (new : HandedBack V S) where
  -- what each worker did, and what lanes and workers gave each other
  pub record HaveExchanged : Type 0 where
    pub as_many : (length new.spools ≡ length old.spools) × (length new.tallies ≡ length old.spools)
    pub stored : (b : ℕ) (before after : S) (tally : Tally) → slice_get old.spools b ≡ Some before
        → slice_get new.spools b ≡ Some after → slice_get new.tallies b ≡ Some tally
        → IsBoxWork (setting_of (share_of site old.quotas) b) spools.manner (boxes b) (spools.state before) (spools.state after) tally
    pub owed : (k b : ℕ) → k < length old.visits → b < length old.spools
        → of_lane k (boxes b).taken ≡ due site k b (conversations_of (lanes k).visits)
    pub owed_only : (b : ℕ) → b < length old.spools
        → AllByRecursion (λ note. note.txn.lane < length old.visits) (boxes b).taken
    pub told : (k b : ℕ) → k < length old.visits → b < length old.spools
        → of_worker b (lanes k).heard ≡ owed_to b (outcomes_in (boxes b).turns) k (boxes b).taken
    pub told_only : (k : ℕ) → k < length old.visits
        → AllByRecursion (λ slip. slip.worker < length old.spools) (lanes k).heard

  pub is_course : HaveExchanged → (b : ℕ) → b < length old.spools → IsCourse (server_of site old) (courses_of spools.state boxes old b)
  is_course h b below =
      let as_many = h.as_many in
      let x = at old.spools b below in
      let y = at new.spools b (omega (arith, as_many.0, below)) in
      let z = at new.tallies b (omega (arith, as_many.1, below)) in
      let t = (h.stored b x.value y.value z.value x.is y.is z.is).turned in
      (t.are, t.keep)

  pub is_left_alone : HaveExchanged → (b : ℕ) (before after : S) → slice_get old.spools b ≡ Some before → slice_get new.spools b ≡ Some after
      → IsNobodyElses spools.manner (spools.state before)
      → IsLeftAlone (boxes b).turns (spools.state before).bytes (spools.state after).bytes
  is_left_alone h b before after e f own =
      let as_many = h.as_many in
      let z = at new.tallies b (omega (arith, as_many.1, slice_get_within old.spools b before e)) in
      let t = (h.stored b before after z.value e f z.is).turned in
      left_alone spools.manner.MayFind own.same (standing (spools.state before)) (boxes b).turns (standing (spools.state after)) (t.found own.free)
