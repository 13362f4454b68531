-- The times at which a lane gave copies, by their mailboxes and by the worker threads of these.
use Rattle.std.proofs.Common.{◌≡◌, ◌==◌, ℕ, List, [], ◌∷◌, Bool, true, false, cond, refl, ap, sym, ◌∙◌}
use Rattle.std.specs.Prelude.{flat_map}
use Rattle.std.proofs.lemmas.Bool.{cond-true, cond-false}
use Rattle.mail_world.specs.declared.Note.{Note}
use Rattle.mail_runs.specs.Deeds.{Deed, Gave, Took, Told, Heard, given_in}
use Rattle.mail_runs.specs.Known.{times_of}
use Rattle.mail_runs.specs.Timed.{TimedDeed, whats, times, those, gives_to}
use Rattle.mail_post.specs.Parcels.{of}
use Rattle.mail_post.specs.WorkerThreads.{worker_thread}
use Rattle.box_worker.specs.Shares.{for_box}
use Rattle.box_worker.specs.Passing.{to_thread, GivesToThread, GaveWithin}
use Rattle.box_worker.proofs.Within.{times_within}

abbrev is_gave : Deed → Bool
is_gave (Gave note) = true
is_gave (Took note) = false
is_gave (Told slip) = false
is_gave (Heard slip) = false

abbrev deed_at : Deed → ℕ → TimedDeed
deed_at what at = record { what = what; at = at }

abbrev gave_at : List TimedDeed → List ℕ
gave_at ds = times (those is_gave ds)

abbrev gave_in : List TimedDeed → List Note
gave_in ds = flat_map given_in (whats ds)

box_one : (b : ℕ) (what : Deed) (at : ℕ) (ds : List TimedDeed) → times (those (gives_to b) ds) ≡ times_of for_box b (gave_in ds) (gave_at ds)
    → times (those (gives_to b) (deed_at what at ∷ ds)) ≡ times_of for_box b (gave_in (deed_at what at ∷ ds)) (gave_at (deed_at what at ∷ ds))
box_one b (Gave note) at ds rest =
    elim (note.mailbox == b) as (λ t. times (cond t (deed_at (Gave note) at ∷ those (gives_to b) ds) (those (gives_to b) ds))
    ≡ cond t (at ∷ times_of for_box b (gave_in ds) (gave_at ds)) (times_of for_box b (gave_in ds) (gave_at ds))) [
      | true ↦ ap (λ l. at ∷ l) rest
      | false ↦ rest
    ]
box_one b (Took note) at ds rest = rest
box_one b (Told slip) at ds rest = rest
box_one b (Heard slip) at ds rest = rest

box_all : (b : ℕ) (ds : List TimedDeed) → times (those (gives_to b) ds) ≡ times_of for_box b (gave_in ds) (gave_at ds)
box_all b [] = refl
box_all b (d ∷ ds) = box_one b d.what d.at ds (box_all b ds)

-- by a test that says what goes to a thread
module _ (t : ℕ) (gives : Deed → Bool) (is : GivesToThread t gives) where
  abbrev Fits : List TimedDeed → Type 0
  Fits ds = times (those gives ds) ≡ times_of to_thread t (gave_in ds) (gave_at ds)

  with_one : (d : TimedDeed) (ds : List TimedDeed) (test : Bool) → gives d.what ≡ test
      → times (those gives (d ∷ ds)) ≡ cond test (d.at ∷ times (those gives ds)) (times (those gives ds))
  with_one d ds true e = ap times (cond-true (gives d.what) (d ∷ those gives ds) (those gives ds) e)
  with_one d ds false e = ap times (cond-false (gives d.what) (d ∷ those gives ds) (those gives ds) e)

  thread_one : (what : Deed) (at : ℕ) (ds : List TimedDeed) → Fits ds → Fits (deed_at what at ∷ ds)
  thread_one (Gave note) at ds rest =
      with_one (deed_at (Gave note) at) ds (worker_thread note.mailbox == t) (is.gave note)
      ∙ ap (λ (l : List ℕ). cond (worker_thread note.mailbox == t) (at ∷ l) l) rest
  thread_one (Took note) at ds rest = with_one (deed_at (Took note) at) ds false (is.took note) ∙ rest
  thread_one (Told slip) at ds rest = with_one (deed_at (Told slip) at) ds false (is.told slip) ∙ rest
  thread_one (Heard slip) at ds rest = with_one (deed_at (Heard slip) at) ds false (is.heard slip) ∙ rest

  thread_all : (ds : List TimedDeed) → Fits ds
  thread_all [] = refl
  thread_all (d ∷ ds) = thread_one d.what d.at ds (thread_all ds)

-- among the times of what was given to a mailbox's thread
pub gave_within : GaveWithin
gave_within b gives is ds =
    ap (times_of for_box b (of to_thread (worker_thread b) (gave_in ds))) (thread_all (worker_thread b) gives is ds)
    ∙ times_within for_box b (gave_in ds) (gave_at ds) ∙ sym (box_all b ds)
