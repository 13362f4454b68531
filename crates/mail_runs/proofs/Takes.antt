-- A worker takes a copy, has or misses its turn, and lets go of the message.
use Rattle.std.proofs.Common.{◌≡◌, ℕ, suc, ◌+◌, ◌-◌, ◌<◌, ◌≤◌, ◌==◌, List, [], ◌∷◌, ◌++◌, length, drop, Bool, true, false, Option, Some, None}
use Rattle.std.proofs.Common.{refl, ap, sym, ◌∙◌, subst, append-nil, append_assoc, arith, add-one}
use Rattle.std.specs.Prelude.{slice_get, slice_set, sum_by, if◌then◌else◌}
use Rattle.mail_world.specs.declared.Note.{Note}
use Rattle.mail_world.specs.declared.Outcome.{Outcome}
use Rattle.mail_world.specs.declared.Outcome.TheVariants.{Stored, Failed, OverQuota}
use Rattle.mail_world.specs.declared.Event.TheVariants.{Take, Lock, Miss, Write, Sync, Unlock, Release}
use Rattle.mail_world.specs.Slips.{slip_of}
use Rattle.mail_world.specs.Turns.{Standing, Turn, NotHad, Had, IsTurn, KeepsInTurn, addition, has_room, left_after}
use Rattle.mail_world.specs.Turns.{Told as HadTurn}
use Rattle.mail_world.specs.Depot.{Depot, Key, Sealed, Slot, Releases}
use Rattle.mail_world.specs.House.{House, Box, Post, Copy, Progress, Taken, Going, Full, Synced, Done, notes_of, with_box, with_depot}
use Rattle.mail_world.specs.Events.{BoxIs, ReleaseStep, end_of, KeptAtUnlock, CountsFailures, added, begun, outcome_of}
use Rattle.mail_world.proofs.Depots.{set_at, used}
use Rattle.mail_world.proofs.Holds.{drop_get, sum_set}
use Rattle.mail_world.proofs.OtherSteps.{there_is}
use Rattle.mail_runs.specs.Deeds.{Deed, Took, Told, given_to, taken_by, worked_by, turns_of, is_of_worker}
use Rattle.mail_runs.specs.Courses.{Server, Course, outcomes_in}
use Rattle.mail_runs.specs.RunOf.{kept_after}
use Rattle.mail_runs.specs.Histories.{Threads, TakesGiven}
use Rattle.mail_runs.proofs.Manners.{Manner}
use Rattle.mail_runs.proofs.Parts.{set_twice, passes, same_number}
use Rattle.mail_runs.proofs.Story.{Story, goes_on, may_release}
use Rattle.mail_runs.proofs.Stands.{BeginsCopy, TurnsLeft, BoxStands, DepotStands, Stands, free_slot}
use Rattle.mail_runs.proofs.Frames.{flows_on, depot_past}
use Rattle.mail_runs.proofs.Changes.{one_box, no_lane, as_many_set, box_there}
use Rattle.mail_runs.proofs.Next.{Next}

-- the next turn of a worker, where its mailbox holds these bytes, keeps so many and had these turns, and the turns that are left then
record NextTurn (s : Server) (b : ℕ) (course : Course) (note : Note) (left : List Deed) (waiting : List Note) (spool : List ℕ) (kept : ℕ) (had : List HadTurn) (hand : Option Copy)
    : Type 0 where
  free_hand : hand ≡ None
  told : HadTurn
  notes : List Note
  turns : List HadTurn
  program : left ≡ Told (slip_of b note told.outcome) ∷ turns_of b notes (outcomes_in turns)
  queue : waiting ≡ note ∷ notes
  is : IsTurn s.calendar s.site course.quota note told.outcome told.turn
  keeps : KeepsInTurn told.outcome told.turn
  takes : TurnsLeft s course notes turns (left_after spool told.turn) (kept_after kept told.turn) (had ++ told ∷ [])

turn_free : (s : Server) (b : ℕ) (course : Course) (note : Note) (left : List Deed) (waiting notes : List Note) (turns : List HadTurn)
    (spool : List ℕ) (kept : ℕ) (had : List HadTurn)
    → Took note ∷ left ≡ turns_of b notes (outcomes_in turns) → waiting ≡ notes → TurnsLeft s course notes turns spool kept had
    → NextTurn s b course note left waiting spool kept had None
turn_free s b course note left waiting [] turns spool kept had e queue takes = cc
turn_free s b course note left waiting (n ∷ notes) [] spool kept had e queue takes = cc
turn_free s b course note left waiting (n ∷ notes) (told ∷ turns) spool kept had e queue takes =
    let same : n ≡ note = cc in
    record {
      free_hand = refl;
      told = told;
      notes = notes;
      turns = turns;
      program =
          let l : left ≡ Told (slip_of b n told.outcome) ∷ turns_of b notes (outcomes_in turns) = cc in
          l ∙ ap (λ m. Told (slip_of b m told.outcome) ∷ turns_of b notes (outcomes_in turns)) same;
      queue = queue ∙ ap (λ m. m ∷ notes) same;
      is = subst (λ m. IsTurn s.calendar s.site course.quota m told.outcome told.turn) same takes.have.0;
      keeps = takes.keep.0;
      takes = record {
        have = takes.have.1;
        keep = takes.keep.1;
        all = append_assoc had (told ∷ []) turns ∙ takes.all;
        bytes = takes.bytes;
        synced = takes.synced;
      };
    }

turn_of : (s : Server) (b : ℕ) (course : Course) (note : Note) (left : List Deed) (waiting notes : List Note) (turns : List HadTurn)
    (spool : List ℕ) (kept : ℕ) (had : List HadTurn) (hand : Option Copy)
    → BeginsCopy b (Took note ∷ left) (turns_of b notes (outcomes_in turns)) hand → waiting ≡ notes → TurnsLeft s course notes turns spool kept had
    → NextTurn s b course note left waiting spool kept had hand
turn_of s b course note left waiting notes turns spool kept had None begins queue takes =
    turn_free s b course note left waiting notes turns spool kept had begins queue takes
turn_of s b course note left waiting notes turns spool kept had (Some copy) begins queue takes =
    let e : Took note ∷ left ≡ Told (slip_of b copy.post.note (outcome_of copy)) ∷ turns_of b notes (outcomes_in turns) = begins.1 in cc

-- of a mailbox
abbrev TurnOf : Server → Course → Note → List Deed → Box → Type 0
TurnOf s course note rest box =
    let waiting : List Note = notes_of (drop box.taken box.accepted) ++ given_to note.mailbox rest in
    NextTurn s note.mailbox course note (worked_by note.mailbox rest) waiting box.spool box.kept box.turns box.hand

turn_next : (s : Server) (capacity : ℕ) (course : Course) (note : Note) (rest : List Deed) (box : Box)
    → BoxStands s capacity note.mailbox course (Took note ∷ rest) box
    → TurnOf s course note rest box
turn_next s capacity course note rest box stands =
    let b : ℕ = note.mailbox in
    let w = stands.work in
    let its : worked_by b (Took note ∷ rest) ≡ Took note ∷ worked_by b rest = passes (is_of_worker b) (Took note) rest (same_number b b refl) in
    turn_of s b course note (worked_by b rest) (notes_of (drop box.taken box.accepted) ++ given_to b rest) w.notes w.turns box.spool box.kept box.turns box.hand
    (subst (λ l. BeginsCopy b l (turns_of b w.notes (outcomes_in w.turns)) box.hand) its w.program) w.queue w.takes

-- the copy that the worker takes, and those that wait after it
record IsOldest (note : Note) (given notes : List Note) (box : Box) : Type 0 where
  post : Post
  at : slice_get box.accepted box.taken ≡ Some post
  is : post.note ≡ note
  queue : notes_of (drop (box.taken + 1) box.accepted) ++ given ≡ notes

one_waits : (note : Note) (w : ℕ) (rest : List Deed) → TakesGiven note.mailbox w (Took note ∷ rest) → 1 ≤ w
one_waits note w rest fed =
    let b : ℕ = note.mailbox in
    let f : length (taken_by b (Took note ∷ [])) ≤ w + 0 = fed (Took note ∷ []) rest refl in
    let one : length (taken_by b (Took note ∷ [])) ≡ 1 = ap length (passes (λ (n : Note). n.mailbox == b) note [] (same_number b b refl)) in
    omega arith

oldest_of : (note : Note) (given notes : List Note) (box : Box) → box.taken < length box.accepted
    → notes_of (drop box.taken box.accepted) ++ given ≡ note ∷ notes → IsOldest note given notes box
oldest_of note given notes box low queue =
    let there = there_is box.accepted box.taken low in
    let e : there.0.note ∷ (notes_of (drop (suc box.taken) box.accepted) ++ given) ≡ note ∷ notes =
    sym (ap (λ ps. notes_of ps ++ given) (drop_get box.accepted box.taken there.0 there.1)) ∙ queue in
    let next : notes_of (drop (suc box.taken) box.accepted) ++ given ≡ notes = cc in
    record { post = there.0; at = there.1; is = cc; queue = ap (λ n. notes_of (drop n box.accepted) ++ given) (add-one box.taken) ∙ next }

-- a mailbox whose worker took a copy: what it holds and keeps, its turns, and the copy
abbrev handed : Box → List ℕ → ℕ → List HadTurn → Copy → Box
handed box spool kept turns copy = record {
  quota = box.quota;
  old = box.old;
  accepted = box.accepted;
  taken = box.taken + 1;
  closed = box.closed;
  spool = spool;
  kept = kept;
  turns = turns;
  hand = Some copy;
}

-- the copy in hand, its hold still there
abbrev at_hand : Post → Progress → Copy
at_hand post progress = record { post = post; progress = progress; released = false }

abbrev let_go_of : Post → Outcome → Copy
let_go_of post outcome = record { post = post; progress = Done outcome; released = true }

-- and after the turn, once the hold went
abbrev after_turn : Box → HadTurn → Post → Box
after_turn box told post =
    handed box (left_after box.spool told.turn) (kept_after box.kept told.turn) (box.turns ++ told ∷ []) (let_go_of post told.outcome)

box_after : (s : Server) (capacity : ℕ) (course : Course) (note : Note) (rest : List Deed) (box : Box)
    → BoxStands s capacity note.mailbox course (Took note ∷ rest) box
    → (turn : TurnOf s course note rest box)
    → (oldest : IsOldest note (given_to note.mailbox rest) turn.notes box)
    → BoxStands s capacity note.mailbox course rest (after_turn box turn.told oldest.post)
box_after s capacity course note rest box stands turn oldest =
    let b : ℕ = note.mailbox in
    let some : 1 ≤ length box.accepted - box.taken = one_waits note (length box.accepted - box.taken) rest stands.flows.taken_later in
    let one : length (taken_by b (Took note ∷ [])) ≡ 1 = ap length (passes (λ (n : Note). n.mailbox == b) note [] (same_number b b refl)) in
    record {
      quota = stands.quota;
      old = stands.old;
      still_open = stands.still_open;
      prefix = omega arith;
      all = stands.all;
      flows = flows_on capacity b (length box.accepted - box.taken) (length box.accepted - (box.taken + 1)) (Took note) rest (omega arith) stands.flows;
      work = record {
        notes = turn.notes;
        turns = turn.turns;
        program = (
          refl,
          turn.program ∙ ap (λ n. Told (slip_of b n turn.told.outcome) ∷ turns_of b turn.notes (outcomes_in turn.turns)) (sym oldest.is),
        );
        queue = oldest.queue;
        takes = turn.takes;
      };
    }

-- the depot is as free after the hold went
depot_after : (left : List Deed) (d : Depot) (key : Key) (new : Depot) → Releases d key new → DepotStands left d → DepotStands left new
depot_after left d key new r stands =
    let old : Slot = record { generation = key.generation; held = Sealed r.bytes r.blocks (r.weight + 1) } in
    let next : Slot = record { generation = key.generation; held = Sealed r.bytes r.blocks r.weight } in
    let was : slice_get d.slots key.slot ≡ Some old = used d key (Sealed r.bytes r.blocks (r.weight + 1)) r.message (λ e. cc) in
    let same : sum_by free_slot (slice_set d.slots key.slot next) + 0 ≡ sum_by free_slot d.slots + 0 = sum_set free_slot d.slots key.slot old next was in
    subst (DepotStands left) (sym r.after) (record { slots = let h = stands.slots in omega arith; blocks = stands.blocks })

-- the events, each from the house with the mailbox as the one before left it
again : (h : House) (b : ℕ) (x y : Box) → with_box h b y ≡ with_box (with_box h b x) b y
again h b x y = ap (λ (boxes : List Box). let g : House = record h { boxes = boxes } in g) (sym (set_twice h.boxes b x y))

-- a run that has come to the mailbox so
abbrev StoryAt : Manner → House → ℕ → Box → List ℕ → ℕ → List HadTurn → Copy → Type 0
StoryAt m h b box spool kept turns copy = Story m (with_box h b (handed box spool kept turns copy))

take_story : {m : Manner} (h : House) (b : ℕ) (box : Box) (post : Post) → BoxIs h b box → box.hand ≡ None → slice_get box.accepted box.taken ≡ Some post
    → Story m h → StoryAt m h b box box.spool box.kept box.turns (at_hand post Taken)
take_story h b box post is free_hand at story =
    goes_on h _ (Take b) story (record { box = box; post = post; is = is; free_hand = free_hand; oldest = at; after = refl }) (λ o. tt)

-- the turn is missed
miss_story : {m : Manner} (h : House) (b : ℕ) (box old : Box) (spool : List ℕ) (kept : ℕ) (turns : List HadTurn) (post : Post) → BoxIs h b old
    → StoryAt m h b box spool kept turns (at_hand post Taken)
    → StoryAt m h b box spool kept (turns ++ record { outcome = Failed; turn = NotHad } ∷ []) (at_hand post (Done Failed))
miss_story h b box old spool kept turns post is story =
    let mid : Box = handed box spool kept turns (at_hand post Taken) in
    goes_on (with_box h b mid) _ (Miss b) story (record {
      box = mid;
      copy = at_hand post Taken;
      is = set_at h.boxes b mid old is;
      in_hand = refl;
      first = refl;
      after = again h b mid (handed box spool kept (turns ++ record { outcome = Failed; turn = NotHad } ∷ []) (at_hand post (Done Failed)));
    }) (λ o. tt)

-- or begins
lock_story : {m : Manner} (h : House) (b : ℕ) (box old : Box) (spool : List ℕ) (kept : ℕ) (turns : List HadTurn) (post : Post) (lock : Standing)
    (progress : Progress) → BoxIs h b old → lock.synced ≤ length lock.bytes → begun h box.quota post.note lock ≡ progress
    → StoryAt m h b box spool kept turns (at_hand post Taken) → StoryAt m h b box lock.bytes lock.synced turns (at_hand post progress)
lock_story h b box old spool kept turns post lock progress is within begins story =
    let mid : Box = handed box spool kept turns (at_hand post Taken) in
    let new : Progress → Box = λ p. handed box lock.bytes lock.synced turns (at_hand post p) in
    goes_on (with_box h b mid) _ (Lock b lock.bytes) story (record {
      box = mid;
      copy = at_hand post Taken;
      kept = lock.synced;
      failures = lock.failures;
      is = set_at h.boxes b mid old is;
      in_hand = refl;
      first = refl;
      within = within;
      after = sym (ap (λ p. with_box h b (new p)) begins) ∙ again h b mid (new (begun h box.quota post.note lock));
    }) (λ o. tt)

-- a part of what the turn appends is written, where it isn't empty
write_story : {m : Manner} (h : House) (b : ℕ) (box old : Box) (spool : List ℕ) (kept : ℕ) (turns : List HadTurn) (post : Post) (lock : Standing)
    (bytes more : List ℕ) → BoxIs h b old → added h post.note lock.bytes ≡ bytes ++ more
    → StoryAt m h b box spool kept turns (at_hand post (Going lock 0))
    → StoryAt m h b box (spool ++ bytes) kept turns (at_hand post (Going lock (0 + length bytes)))
write_story {m} h b box old spool kept turns post lock [] more is next story =
    subst (λ x. StoryAt m h b box x kept turns (at_hand post (Going lock 0))) (sym (append-nil spool)) story
write_story h b box old spool kept turns post lock (x ∷ xs) more is next story =
    let bytes : List ℕ = x ∷ xs in
    let mid : Box = handed box spool kept turns (at_hand post (Going lock 0)) in
    goes_on (with_box h b mid) _ (Write b bytes) story (record {
      box = mid;
      copy = at_hand post (Going lock 0);
      lock = lock;
      written = 0;
      more = more;
      is = set_at h.boxes b mid old is;
      in_hand = refl;
      going = refl;
      next = next;
      after = again h b mid (handed box (spool ++ bytes) kept turns (at_hand post (Going lock (0 + length bytes))));
    }) (λ o. tt)

sync_story : {m : Manner} (h : House) (b : ℕ) (box old : Box) (spool : List ℕ) (kept : ℕ) (turns : List HadTurn) (post : Post) (lock : Standing)
    (written : ℕ) → BoxIs h b old → written ≡ length (added h post.note lock.bytes)
    → StoryAt m h b box spool kept turns (at_hand post (Going lock written))
    → StoryAt m h b box spool (length spool) turns (at_hand post (Synced lock))
sync_story h b box old spool kept turns post lock written is whole story =
    let mid : Box = handed box spool kept turns (at_hand post (Going lock written)) in
    goes_on (with_box h b mid) _ (Sync b) story (record {
      box = mid;
      copy = at_hand post (Going lock written);
      lock = lock;
      written = written;
      is = set_at h.boxes b mid old is;
      in_hand = refl;
      going = refl;
      whole = whole;
      after = again h b mid (handed box spool (length spool) turns (at_hand post (Synced lock)));
    }) (λ o. tt)

-- the turn is over
unlock_story : {m : Manner} (h : House) (b : ℕ) (box old : Box) (kept : ℕ) (turns : List HadTurn) (post : Post) (progress : Progress) (lock unlock : Standing)
    (outcome : Outcome) → BoxIs h b old → end_of progress ≡ Some (record { lock = lock; outcome = outcome })
    → KeptAtUnlock outcome (length unlock.bytes) kept unlock.synced → CountsFailures outcome lock.failures unlock.failures
    → StoryAt m h b box unlock.bytes kept turns (at_hand post progress)
    → StoryAt m h b box unlock.bytes unlock.synced (turns ++ record { outcome = outcome; turn = Had lock unlock } ∷ []) (at_hand post (Done outcome))
unlock_story h b box old kept turns post progress lock unlock outcome is in_turn keeps counts story =
    let mid : Box = handed box unlock.bytes kept turns (at_hand post progress) in
    goes_on (with_box h b mid) _ (Unlock b) story (record {
      box = mid;
      copy = at_hand post progress;
      end = record { lock = lock; outcome = outcome };
      kept = unlock.synced;
      failures = unlock.failures;
      is = set_at h.boxes b mid old is;
      in_hand = refl;
      in_turn = in_turn;
      keeps = keeps;
      counts = counts;
      after =
          again h b mid
          (handed box unlock.bytes unlock.synced (turns ++ record { outcome = outcome; turn = Had lock unlock } ∷ []) (at_hand post (Done outcome)));
    }) (λ o. tt)

-- the hold goes
record IsReleased (m : Manner) (h : House) (b : ℕ) (box : Box) (spool : List ℕ) (kept : ℕ) (turns : List HadTurn) (post : Post) (outcome : Outcome) : Type 0 where
  depot : Depot
  releases : Releases h.depot post.key depot
  story : Story m (with_box (with_depot h depot) b (handed box spool kept turns (let_go_of post outcome)))

same_copy : (b : ℕ) (h : House) (mid box : Box) (copy other : Copy) → BoxIs h b mid → mid.hand ≡ Some copy → BoxIs h b box → box.hand ≡ Some other
    → other ≡ copy
same_copy b h mid box copy other is in_hand there its =
    let same : box ≡ mid = cc in
    let hand : box.hand ≡ mid.hand = ap (λ (x : Box). x.hand) same in
    cc

release_story : {m : Manner} (h : House) (b : ℕ) (box old : Box) (spool : List ℕ) (kept : ℕ) (turns : List HadTurn) (post : Post) (outcome : Outcome)
    → BoxIs h b old → StoryAt m h b box spool kept turns (at_hand post (Done outcome))
    → IsReleased m h b box spool kept turns post outcome
release_story h b box old spool kept turns post outcome is story =
    let copy : Copy = at_hand post (Done outcome) in
    let mid : Box = handed box spool kept turns copy in
    let at : BoxIs (with_box h b mid) b mid = set_at h.boxes b mid old is in
    let may = may_release (with_box h b mid) story b mid copy outcome at refl refl refl in
    let st : ReleaseStep (with_box h b mid) b may.0 = may.1 in
    let same : st.copy ≡ copy = same_copy b (with_box h b mid) mid st.box copy st.copy at refl st.is st.in_hand in
    let releases : Releases h.depot post.key st.depot = subst (λ (c : Copy). Releases h.depot c.post.key st.depot) same st.releases in
    record {
      depot = st.depot;
      releases = releases;
      story = goes_on (with_box h b mid) _ (Release b) story (record {
        box = mid;
        copy = copy;
        outcome = outcome;
        depot = st.depot;
        is = at;
        in_hand = refl;
        done = refl;
        held = refl;
        releases = releases;
        after = again (with_depot h st.depot) b mid (handed box spool kept turns (let_go_of post outcome));
      }) (λ o. tt);
    }

abbrev IsSetting : Server → House → Type 0
IsSetting s h = (h.calendar ≡ s.calendar) × (h.site ≡ s.site)

added_is : (s : Server) (h : House) (post : Post) (note : Note) (bytes : List ℕ) → IsSetting s h → post.note ≡ note
    → added h post.note bytes ≡ addition s.calendar s.site note bytes
added_is s h post note bytes setting is = rw (setting.0, setting.1, is) refl

begins_so : (s : Server) (h : House) (quota : Option ℕ) (post : Post) (note : Note) (lock : Standing) (room : Bool) → IsSetting s h → post.note ≡ note
    → has_room s.calendar s.site quota note lock.bytes ≡ room → begun h quota post.note lock ≡ (if room then Going lock 0 else Full lock)
begins_so s h quota post note lock room setting is e =
    let here : has_room h.calendar h.site quota post.note lock.bytes ≡ room = rw (setting.0, setting.1, is) e in
    ap (λ r. if r then Going lock 0 else Full lock) here

-- a turn from its lock to its unlock
turn_had : {m : Manner} (s : Server) (h : House) (b : ℕ) (box old : Box) (note : Note) (post : Post) (spool : List ℕ) (kept : ℕ) (turns : List HadTurn)
    (outcome : Outcome) (lock unlock : Standing) → IsSetting s h → BoxIs h b old → post.note ≡ note
    → IsTurn s.calendar s.site box.quota note outcome (Had lock unlock) → KeepsInTurn outcome (Had lock unlock)
    → StoryAt m h b box spool kept turns (at_hand post Taken)
    → StoryAt m h b box unlock.bytes unlock.synced (turns ++ record { outcome = outcome; turn = Had lock unlock } ∷ []) (at_hand post (Done outcome))
turn_had {m} s h b box old note post spool kept turns Stored lock unlock setting is same turn keeps story =
    let add : List ℕ = addition s.calendar s.site note lock.bytes in
    let e : added h post.note lock.bytes ≡ add = added_is s h post note lock.bytes setting same in
    let size : length (added h post.note lock.bytes) ≡ length add = ap length e in
    let begins = begins_so s h box.quota post note lock true setting same turn.room in
    let locked = lock_story h b box old spool kept turns post lock (Going lock 0) is keeps.0 begins story in
    let wrote = write_story h b box old lock.bytes lock.synced turns post lock add [] is (e ∙ sym (append-nil add)) locked in
    let synced = sync_story h b box old (lock.bytes ++ add) lock.synced turns post lock (0 + length add) is (omega arith) wrote in
    let there = subst (λ x. StoryAt m h b box x (length x) turns (at_hand post (Synced lock))) (sym turn.whole) synced in
    unlock_story h b box old (length unlock.bytes) turns post (Synced lock) lock unlock Stored is refl turn.covered turn.sound there
turn_had {m} s h b box old note post spool kept turns OverQuota lock unlock setting is same turn keeps story =
    let begins = begins_so s h box.quota post note lock false setting same turn.room in
    let locked = lock_story h b box old spool kept turns post lock (Full lock) is keeps.0 begins story in
    let there = subst (λ x. StoryAt m h b box x lock.synced turns (at_hand post (Full lock))) (sym turn.same) locked in
    unlock_story h b box old lock.synced turns post (Full lock) lock unlock OverQuota is refl keeps.1 turn.sound there
turn_had {m} s h b box old note post spool kept turns Failed lock unlock setting is same turn keeps story =
    let e : added h post.note lock.bytes ≡ turn.prefix ++ turn.part.rest = added_is s h post note lock.bytes setting same ∙ turn.part.whole in
    let begins = begins_so s h box.quota post note lock true setting same turn.room in
    let locked = lock_story h b box old spool kept turns post lock (Going lock 0) is keeps.0 begins story in
    let wrote = write_story h b box old lock.bytes lock.synced turns post lock turn.prefix turn.part.rest is e locked in
    let there = subst (λ x. StoryAt m h b box x lock.synced turns (at_hand post (Going lock (0 + length turn.prefix)))) (sym turn.left) wrote in
    unlock_story h b box old lock.synced turns post (Going lock (0 + length turn.prefix)) lock unlock Failed is refl keeps.1 turn.failed there
turn_had s h b box old note post spool kept turns _ lock unlock setting is same turn keeps story = absurd turn

-- a turn of a copy that was taken, had or missed
turned : {m : Manner} (s : Server) (h : House) (b : ℕ) (box : Box) (note : Note) (post : Post) (outcome : Outcome) (turn : Turn) → IsSetting s h
    → BoxIs h b box → post.note ≡ note → IsTurn s.calendar s.site box.quota note outcome turn → KeepsInTurn outcome turn
    → StoryAt m h b box box.spool box.kept box.turns (at_hand post Taken)
    → StoryAt m h b box (left_after box.spool turn) (kept_after box.kept turn) (box.turns ++ record { outcome = outcome; turn = turn } ∷ [])
    (at_hand post (Done outcome))
turned s h b box note post Failed NotHad setting is same turn keeps story = miss_story h b box box box.spool box.kept box.turns post is story
turned s h b box note post Stored NotHad setting is same turn keeps story = absurd turn
turned s h b box note post OverQuota NotHad setting is same turn keeps story = absurd turn
turned s h b box note post _ NotHad setting is same turn keeps story = absurd turn
turned s h b box note post outcome (Had lock unlock) setting is same turn keeps story =
    turn_had s h b box box note post box.spool box.kept box.turns outcome lock unlock setting is same turn keeps story

-- the house after all of them
after_stands : {m : Manner} (s : Server) (t : Threads) (note : Note) (rest : List Deed) (h : House) (changed : Box) (depot : Depot) (key : Key)
    → Stands m s t (Took note ∷ rest) h → Releases h.depot key depot
    → BoxStands s h.capacity note.mailbox (t.courses note.mailbox) rest changed → Stands m s t rest (with_box (with_depot h depot) note.mailbox changed)
after_stands s t note rest h changed depot key stands releases its = record {
  setting = stands.setting;
  as_many = (as_many_set h.boxes note.mailbox s.boxes changed stands.as_many.0, stands.as_many.1);
  within = stands.within.1;
  boxes = one_box s t h.capacity (Took note) rest h.boxes note.mailbox changed (λ c other same. other (sym same)) its stands.boxes;
  lanes = no_lane t (Took note) rest h.lanes (λ k. tt) stands.lanes;
  depot = depot_after rest h.depot key depot releases (depot_past (Took note) rest h.depot stands.depot);
}

pub takes : {m : Manner} (s : Server) (t : Threads) (note : Note) (rest : List Deed) (h : House) → Stands m s t (Took note ∷ rest) h → Story m h
    → Next m s t rest
takes s t note rest h stands story =
    let b : ℕ = note.mailbox in
    let there = box_there h s.boxes b stands.as_many.0 stands.within.0.1 in
    let box : Box = there.0 in
    let here = stands.boxes b box there.1 in
    let turn = turn_next s h.capacity (t.courses b) note rest box here in
    let some : 1 ≤ length box.accepted - box.taken = one_waits note (length box.accepted - box.taken) rest here.flows.taken_later in
    let oldest = oldest_of note (given_to b rest) turn.notes box (omega arith) turn.queue in
    let its : IsTurn s.calendar s.site box.quota note turn.told.outcome turn.told.turn =
    subst (λ q. IsTurn s.calendar s.site q note turn.told.outcome turn.told.turn) (sym here.quota) turn.is in
    let took = take_story h b box oldest.post there.1 turn.free_hand oldest.at story in
    let told = turned s h b box note oldest.post turn.told.outcome turn.told.turn stands.setting there.1 oldest.is its turn.keeps took in
    let gone = release_story h b box box (left_after box.spool turn.told.turn) (kept_after box.kept turn.told.turn) (box.turns ++ turn.told ∷ []) oldest.post
    turn.told.outcome there.1 told in
    let changed : Box = after_turn box turn.told oldest.post in
    record {
      house = with_box (with_depot h gone.depot) b changed;
      story = gone.story;
      stands = after_stands s t note rest h changed gone.depot oldest.post.key stands gone.releases (box_after s h.capacity (t.courses b) note rest box here turn oldest);
    }
