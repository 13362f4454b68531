-- A run that has come to a house, and its next step.
use Rattle.std.proofs.Common.{◌≡◌, ℕ, List, [], ◌∷◌, ◌++◌, false, Some, refl, sym, subst}
use Rattle.mail_world.specs.declared.Outcome.{Outcome}
use Rattle.mail_world.specs.declared.Event.{Event}
use Rattle.mail_world.specs.declared.Event.TheVariants.{Release}
use Rattle.mail_world.specs.House.{House, Box, Copy, Done, IsStart}
use Rattle.mail_world.specs.Events.{Step, MayHappen, BoxIs}
use Rattle.mail_world.specs.Runs.{Happened, Run, last_house}
use Rattle.mail_world.proofs.MayHappen.{release_happens}
use Rattle.mail_progress.specs.Orderly.{IsInOrder, IsOrderly}
use Rattle.mail_progress.specs.OrderlyRuns.{SlipsFindRoom}
use Rattle.mail_progress.proofs.Within.{slips_find_room}
use Rattle.mail_runs.proofs.Manners.{Manner, Owed}

-- a run from a start to the house, over channels of the capacity, in order where that is owed
pub record Story (m : Manner) (h : House) : Type 0 where
  pub blocks : ℕ
  pub start : House
  pub run : List Happened
  pub starts : IsStart blocks start
  pub runs : Run start run
  pub last : last_house start run ≡ h
  pub capacity_is : start.capacity ≡ m.capacity
  pub orderly : Owed m → IsOrderly m.room start run

last_more : (start : House) (run : List Happened) (x : Happened) → last_house start (run ++ x ∷ []) ≡ x.house
last_more start [] x = refl
last_more start (y ∷ run) x = last_more y.house run x

run_more : (start : House) (run : List Happened) (x : Happened) → Run start run → Step (last_house start run) x.event x.house → Run start (run ++ x ∷ [])
run_more start [] x r step = (step, tt)
run_more start (y ∷ run) x r step = (r.0, run_more y.house run x r.1 step)

orderly_more : (room : ℕ) (start : House) (run : List Happened) (x : Happened) → IsOrderly room start run → IsInOrder room (last_house start run) x.event
    → IsOrderly room start (run ++ x ∷ [])
orderly_more room start [] x o order = (order, tt)
orderly_more room start (y ∷ run) x o order = (o.0, orderly_more room y.house run x o.1 order)

-- one more step
pub goes_on : {m : Manner} (h new : House) (event : Event) → Story m h → Step h event new → (Owed m → IsInOrder m.room h event) → Story m new
goes_on {m} h new event story step order =
    let x : Happened = record { event = event; house = new } in
    let there : Step (last_house story.start story.run) event new = subst (λ g. Step g event new) (sym story.last) step in
    record {
      blocks = story.blocks;
      start = story.start;
      run = story.run ++ x ∷ [];
      starts = story.starts;
      runs = run_more story.start story.run x story.runs there;
      last = last_more story.start story.run x;
      capacity_is = story.capacity_is;
      orderly = λ o. orderly_more m.room story.start story.run x (story.orderly o) (subst (λ g. IsInOrder m.room g event) (sym story.last) (order o));
    }

-- the slip of a copy that was let go finds room
pub finds_room : {m : Manner} (h : House) → Story m h → Owed m → SlipsFindRoom m.room h
finds_room {m} h story o =
    subst (SlipsFindRoom m.room) story.last (slips_find_room m.room story.blocks story.start story.run story.starts story.runs (story.orderly o))

-- what a worker may do in a house to which a run has come
pub may_release : {m : Manner} (h : House) → Story m h → (w : ℕ) (box : Box) (copy : Copy) (outcome : Outcome) → BoxIs h w box → box.hand ≡ Some copy
    → copy.progress ≡ Done outcome → copy.released ≡ false → MayHappen h (Release w)
may_release h story w box copy outcome =
    subst (λ g. BoxIs g w box → box.hand ≡ Some copy → copy.progress ≡ Done outcome → copy.released ≡ false → MayHappen g (Release w)) story.last
    (release_happens story.blocks story.start story.run story.starts story.runs w box copy outcome)
