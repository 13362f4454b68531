-- The house in which a history ends, once all channels are closed.
use Rattle.std.proofs.Common.{◌≡◌, ◌≢◌, ℕ, zero, suc, ◌+◌, ◌<◌, ◌≤◌, List, [], ◌∷◌, length, drop, true, Option, Some, None, inl, inr, refl, ap, sym, ◌∙◌, subst}
use Rattle.std.proofs.Common.{append-nil, arith, length-drop}
use Rattle.std.specs.Prelude.{◌⊎◌, slice_get}
use Rattle.std.proofs.lemmas.Option.{slice_get_within}
use Rattle.mail_world.specs.declared.Note.{Note}
use Rattle.mail_world.specs.declared.Slip.{Slip}
use Rattle.mail_world.specs.declared.Event.TheVariants.{Close}
use Rattle.mail_world.specs.Turns.{left_by}
use Rattle.mail_world.specs.Turns.{Told as HadTurn}
use Rattle.mail_world.specs.Lists.{of_lane}
use Rattle.mail_world.specs.House.{House, Lane, Box, Copy, Post, notes_of, with_box}
use Rattle.mail_world.specs.Events.{LaneIs, BoxIs, CloseStep}
use Rattle.mail_world.specs.Quotas.{quota_at}
use Rattle.mail_world.specs.Runs.{last_house}
use Rattle.mail_world.proofs.LastSeal.{length_set}
use Rattle.mail_world.proofs.OtherSteps.{there_is}
use Rattle.mail_world.proofs.Once.{every_run_in_order}
use Rattle.mail_progress.specs.Orderly.{IsOrderly}
use Rattle.mail_runs.specs.Deeds.{turns_of}
use Rattle.mail_runs.specs.Courses.{Server, Course, outcomes_in}
use Rattle.mail_runs.specs.Histories.{Threads}
use Rattle.mail_runs.specs.RunOf.{kept_by, EndsAs, HeardAs, IsRunOf}
use Rattle.mail_runs.proofs.Manners.{Manner, Owed}
use Rattle.mail_runs.proofs.Parts.{each_set}
use Rattle.mail_runs.proofs.Same.{Frame, frame_of, frame_run, quota_there}
use Rattle.mail_runs.proofs.Story.{Story, goes_on}
use Rattle.mail_runs.proofs.Stands.{BeginsCopy, TurnsLeft, BoxStands, LaneStands, IsIdle, IsGiving}
use Rattle.mail_runs.proofs.Next.{Next}

-- a worker with nothing left to do has no copy in hand, and its mailbox is as it will be
record IsWorkerDone (course : Course) (notes : List Note) (box : Box) : Type 0 where
  free_hand : box.hand ≡ None
  none : notes ≡ []
  turns : box.turns ≡ course.turns
  bytes : box.spool ≡ left_by course.old course.turns
  synced : box.kept ≡ kept_by 0 course.turns

-- without a turn
none_had : (s : Server) (b : ℕ) (course : Course) (notes : List Note) (turns : List HadTurn) (box : Box) → box.hand ≡ None
    → [] ≡ turns_of b notes (outcomes_in turns) → TurnsLeft s course notes turns box.spool box.kept box.turns → IsWorkerDone course notes box
none_had s b course [] [] box free e takes = record {
  free_hand = free;
  none = refl;
  turns = sym (append-nil box.turns) ∙ takes.all;
  bytes = takes.bytes;
  synced = takes.synced;
}
none_had s b course [] (told ∷ turns) box free e takes = absurd takes.have
none_had s b course (n ∷ notes) [] box free e takes = absurd takes.have
none_had s b course (n ∷ notes) (told ∷ turns) box free e takes = cc

done_by : (s : Server) (b : ℕ) (course : Course) (notes : List Note) (turns : List HadTurn) (box : Box) (hand : Option Copy) → box.hand ≡ hand
    → BeginsCopy b [] (turns_of b notes (outcomes_in turns)) hand
    → TurnsLeft s course notes turns box.spool box.kept box.turns → IsWorkerDone course notes box
done_by s b course notes turns box None is program takes = none_had s b course notes turns box is program takes
done_by s b course notes turns box (Some copy) is program takes = let wrong = program.1 in cc

box_done : (s : Server) (capacity b : ℕ) (course : Course) (box : Box) (stands : BoxStands s capacity b course [] box)
    → IsWorkerDone course stands.work.notes box
box_done s capacity b course box stands = done_by s b course stands.work.notes stands.work.turns box box.hand refl stands.work.program stands.work.takes

none_left : {A : Type 0} (n : ℕ) (xs : List A) → n ≤ length xs → drop n xs ≡ [] → n ≡ length xs
none_left n xs le none = let e : length (drop n xs) ≡ 0 = ap length none in omega (arith, length-drop n xs)

no_posts : (posts : List Post) → notes_of posts ≡ [] → posts ≡ []
no_posts [] e = refl
no_posts (p ∷ posts) e = cc

closed : (s : Server) (capacity b : ℕ) (course : Course) (box : Box) → BoxStands s capacity b course [] box → EndsAs course (record box { closed = true })
closed s capacity b course box stands =
    let d = box_done s capacity b course box stands in
    record {
      accepted = sym (append-nil (notes_of box.accepted)) ∙ stands.all;
      taken = none_left box.taken box.accepted stands.prefix
          (no_posts (drop box.taken box.accepted) (sym (append-nil (notes_of (drop box.taken box.accepted))) ∙ stands.work.queue ∙ d.none));
      closed = refl;
      free_hand = d.free_hand;
      quota = stands.quota;
      old = stands.old;
      turns = d.turns;
      spool = d.bytes;
      kept = d.synced;
    }

-- the first n channels are closed
record IsClosing (m : Manner) (s : Server) (t : Threads) (capacity n : ℕ) : Type 0 where
  house : House
  story : Story m house
  room : house.capacity ≡ capacity
  setting : (house.calendar ≡ s.calendar) × (house.site ≡ s.site)
  as_many : (length house.boxes ≡ s.boxes) × (length house.lanes ≡ s.lanes)
  shut : (b : ℕ) (box : Box) → BoxIs house b box → b < n → EndsAs (t.courses b) box
  open_yet : (b : ℕ) (box : Box) → BoxIs house b box → n ≤ b → BoxStands s capacity b (t.courses b) [] box
  lanes : (k : ℕ) (lane : Lane) → LaneIs house k lane → LaneStands m k (t.heard k) [] lane

close_next : {m : Manner} (s : Server) (t : Threads) (capacity n : ℕ) → n < s.boxes → IsClosing m s t capacity n → IsClosing m s t capacity (suc n)
close_next s t capacity n low c =
    let h = c.house in
    let b = there_is h.boxes n (subst (λ m. n < m) (sym c.as_many.0) low) in
    let stood = c.open_yet n b.0 b.1 (omega arith) in
    let now : Box = record b.0 { closed = true } in
    let new : House = with_box h n now in
    let step : CloseStep h n new = (b.0, b.1, stood.still_open, refl) in
    record {
      house = new;
      story = goes_on h new (Close n) c.story step (λ o. tt);
      room = c.room;
      setting = c.setting;
      as_many = (length_set h.boxes n now ∙ c.as_many.0, c.as_many.1);
      shut = λ i box is below. each_set (λ j x. j < suc n → EndsAs (t.courses j) x) h.boxes n now
          (λ j x differ was less. c.shut j x was (lower j n less differ)) (λ less. closed s capacity n (t.courses n) b.0 stood) i box is below;
      open_yet = λ i box is above. each_set (λ j x. suc n ≤ j → BoxStands s capacity j (t.courses j) [] x) h.boxes n now
          (λ j x differ was more. c.open_yet j x was (omega arith)) (λ more. absurd (omega arith)) i box is above;
      lanes = c.lanes;
    }
  where
    lower : (j n : ℕ) → j < suc n → j ≢ n → j < n
    lower j n less differ = omega (arith, differ)

closes : {m : Manner} (s : Server) (t : Threads) (capacity n left : ℕ) → n + left ≡ s.boxes → IsClosing m s t capacity n → IsClosing m s t capacity s.boxes
closes {m} s t capacity n zero e c = let same : n ≡ s.boxes = omega arith in subst (IsClosing m s t capacity) same c
closes s t capacity n (suc left) e c = closes s t capacity (suc n) left (omega arith) (close_next s t capacity n (omega arith) c)

nothing_to_give : {m : Manner} (k : ℕ) (lane : Lane) → IsIdle m k [] lane ⊎ IsGiving m k [] lane → lane.holds ≡ []
nothing_to_give k lane (inl idle) = idle.no_hold
nothing_to_give k lane (inr giving) = let wrong = giving.gives in cc

heard_as : {m : Manner} (k : ℕ) (all : List Slip) (lane : Lane) → LaneStands m k all [] lane → HeardAs all lane
heard_as k all lane stands = record {
  slips = sym (append-nil lane.slips) ∙ stands.all_told;
  heard = sym (append-nil lane.heard) ∙ stands.all_heard;
  collected = none_left lane.collected lane.slips stands.within (sym (append-nil (drop lane.collected lane.slips)) ∙ stands.queue);
  no_draft = stands.no_draft;
  no_hold = nothing_to_give k lane stands.gives;
}

-- the run to the last house is one of the server's, over channels of the capacity, in order where that is owed
pub record AllHaveEnded (m : Manner) (s : Server) (t : Threads) : Type 0 where
  pub is : IsRunOf s t
  pub capacity_is : is.start.capacity ≡ m.capacity
  pub orderly : Owed m → IsOrderly m.room is.start is.run

pub ends : {m : Manner} (s : Server) (t : Threads) → Next m s t [] → AllHaveEnded m s t
ends {m} s t next =
    let h = next.house in
    let capacity : ℕ = h.capacity in
    let before : IsClosing m s t capacity 0 = record {
      house = h;
      story = next.story;
      room = refl;
      setting = next.stands.setting;
      as_many = next.stands.as_many;
      shut = λ b box is low. absurd (omega arith);
      open_yet = λ b box is above. next.stands.boxes b box is;
      lanes = next.stands.lanes;
    } in
    let c = closes s t capacity 0 s.boxes (omega arith) before in
    let story = c.story in
    let last : last_house story.start story.run ≡ c.house = story.last in
    let frame : frame_of c.house ≡ frame_of story.start = sym (ap frame_of last) ∙ frame_run story.start story.run story.runs in
    let site = sym (ap (λ (f : Frame). f.site) frame) ∙ c.setting.1 in
    let accepts = every_run_in_order story.blocks story.start story.run story.starts story.runs in
    let box_is : (b : ℕ) (box : Box) → BoxIs c.house b box → BoxIs (last_house story.start story.run) b box =
    λ b box is. ap (λ (x : House). slice_get x.boxes b) last ∙ is in
    let below : (b : ℕ) (box : Box) → BoxIs c.house b box → b < s.boxes =
    λ b box is. subst (λ n. b < n) c.as_many.0 (slice_get_within c.house.boxes b box is) in
    record {
      is = record {
        blocks = story.blocks;
        start = story.start;
        run = story.run;
        starts = story.starts;
        runs = story.runs;
        setting = (sym (ap (λ (f : Frame). f.calendar) frame) ∙ c.setting.0, site);
        as_many = (sym (ap (λ (f : Frame). f.boxes) frame) ∙ c.as_many.0, sym (ap (λ (f : Frame). f.lanes) frame) ∙ c.as_many.1);
        quotas = λ b box is.
            let low : b < s.boxes = subst (λ n. b < n) (sym (ap (λ (f : Frame). f.boxes) frame) ∙ c.as_many.0) (slice_get_within story.start.boxes b box is) in
            let last = there_is c.house.boxes b (subst (λ n. b < n) (sym c.as_many.0) low) in
            sym (quota_there story.start.boxes b box is) ∙ sym (ap (λ (f : Frame). quota_at f.quotas b) frame)
            ∙ quota_there c.house.boxes b last.0 last.1 ∙ (c.shut b last.0 last.1 low).quota;
        offered = λ k b low.
            let box = there_is c.house.boxes b (subst (λ n. b < n) (sym c.as_many.0) low) in
            sym (accepts.order k b box.0 (box_is b box.0 box.1)) ∙ ap (of_lane k) (c.shut b box.0 box.1 low).accepted;
        mailboxes = λ b box is. let at : BoxIs c.house b box = ap (λ (x : House). slice_get x.boxes b) (sym last) ∙ is in c.shut b box at (below b box at);
        lanes = λ k lane is. heard_as k (t.heard k) lane (c.lanes k lane (ap (λ (x : House). slice_get x.lanes k) (sym last) ∙ is));
      };
      capacity_is = story.capacity_is;
      orderly = story.orderly;
    }
