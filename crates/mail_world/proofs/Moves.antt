-- Moves of a house's first lane and first mailbox, each with its step, and the runs that they make.
use Rattle.std.proofs.Common.{◌≡◌, ℕ, suc, ◌+◌, ◌≤◌, List, [], ◌∷◌, ◌++◌, length, drop, Bool, true, false, ◌==◌, Option}
use Rattle.std.proofs.Common.{Some, None, refl, sym, ◌∙◌, ap}
use Rattle.std.proofs.Common.{eqb-true, leb-true}
use Rattle.std.specs.Prelude.{codes, nat_le, slice_get, take as some_of}
use Rattle.std.proofs.lemmas.List.{take-append-drop}
use Rattle.mail_world.specs.declared.Note.{Note}
use Rattle.mail_world.specs.declared.Event.{Event}
use Rattle.mail_world.specs.declared.Event.TheVariants.{Begin, Put, Seal, Split, Offer, HandBack, Collect, Take, Lock}
use Rattle.mail_world.specs.declared.Event.TheVariants.{Miss, Write, Sync, Cut, Unlock}
use Rattle.mail_world.specs.declared.Event.TheVariants.{Release, GiveSlip, Reclaim, Close}
use Rattle.mail_world.specs.declared.Outcome.{Outcome}
use Rattle.mail_world.specs.Turns.{Standing}
use Rattle.mail_world.specs.Depot.{Key, Held, Free, Draft, Sealed, held_under, weight_under, bytes_of, blocks_of}
use Rattle.mail_world.specs.Depot.{blocks_for}
use Rattle.mail_world.specs.House.{Progress, Taken, Going, Done, Copy, Box, SealedMessage, Lane, House}
use Rattle.mail_world.specs.Events.{MayHappen, HasCopy, LaneIs, BoxIs, added, end_of, outcome_of}
use Rattle.mail_world.specs.Runs.{Happened, Run}
use Rattle.mail_world.proofs.Drafts.{DraftThere}
use Rattle.mail_world.proofs.Computed.{everything}
use Rattle.mail_world.proofs.OtherSteps as step

-- what may happen next, and a move to it, where there is one
abbrev pub Next : House → Type 0
Next h = (event : Event) × MayHappen h event

abbrev pub Move : Type 0
Move = (h : House) → Option (Next h)

-- the run of those moves that there are
abbrev pub moved : (h : House) → List Move → (run : List Happened) × Run h run
moved h [] = ([], tt)
moved h (move ∷ moves) = elim (move h) as (λ _. (run : List Happened) × Run h run) [
  | None ↦ moved h moves
  | Some (event, (new, step)) ↦ let rest = moved new moves in
      (record { event = event; house = new } ∷ rest.0, (step, rest.1))
]

-- a move that needs something there, nothing there, or that a test holds
module _ {A B : Type 0} where
  abbrev if_some : (o : Option A) → ((x : A) → o ≡ Some x → Option B) → Option B
  if_some None f = None
  if_some (Some x) f = f x refl

  abbrev if_none : (o : Option A) → (o ≡ None → Option B) → Option B
  if_none None f = f refl
  if_none (Some x) f = None

module _ {B : Type 0} where
  abbrev if_is : (t b : Bool) → (t ≡ b → Option B) → Option B
  if_is true true f = f refl
  if_is false false f = f refl
  if_is _ _ f = None

  abbrev pub if_at_most : (m n : ℕ) → (m ≤ n → Option B) → Option B
  if_at_most m n f = if_is (nat_le m n) true (λ e. f (leb-true m n e))

  abbrev if_same : (m n : ℕ) → (m ≡ n → Option B) → Option B
  if_same m n f = if_is (m == n) true (λ e. f (eqb-true m n e))

  -- what is held is free, a draft, a message
  abbrev if_free : (held : Held) → (held ≡ Free → Option B) → Option B
  if_free Free f = f refl
  if_free _ f = None

  abbrev if_draft : (held : Held) → ((bytes blocks : List ℕ) → held ≡ Draft bytes blocks → Option B) → Option B
  if_draft (Draft bytes blocks) f = f bytes blocks refl
  if_draft _ f = None

  abbrev if_sealed : (held : Held) → ((bytes blocks : List ℕ) (weight : ℕ)
      → held ≡ Sealed bytes blocks weight → Option B) → Option B
  if_sealed (Sealed bytes blocks weight) f = f bytes blocks weight refl
  if_sealed _ f = None

  -- a copy's turn has not begun, goes on, is over
  abbrev if_taken : (p : Progress) → (p ≡ Taken → Option B) → Option B
  if_taken Taken f = f refl
  if_taken _ f = None

  abbrev if_going : (p : Progress) → ((at : Standing) (written : ℕ) → p ≡ Going at written → Option B) → Option B
  if_going (Going at written) f = f at written refl
  if_going _ f = None

  abbrev if_done : (p : Progress) → ((outcome : Outcome) → p ≡ Done outcome → Option B) → Option B
  if_done (Done outcome) f = f outcome refl
  if_done _ f = None

module _ (h : House) where
  abbrev in_lane : ((lane : Lane) → LaneIs h 0 lane → Option (Next h)) → Option (Next h)
  in_lane f = if_some (slice_get h.lanes 0) f

  abbrev in_box : ((box : Box) → BoxIs h 0 box → Option (Next h)) → Option (Next h)
  in_box f = if_some (slice_get h.boxes 0) f

  abbrev in_hand : ((box : Box) → BoxIs h 0 box → (copy : Copy) → box.hand ≡ Some copy → Option (Next h))
      → Option (Next h)
  in_hand f = in_box (λ box is. if_some box.hand (f box is))

  abbrev in_turn : ((box : Box) → BoxIs h 0 box → (copy : Copy) → box.hand ≡ Some copy → (at : Standing) (written : ℕ)
      → copy.progress ≡ Going at written → Option (Next h)) → Option (Next h)
  in_turn f = in_hand (λ box is copy hand. if_going copy.progress (f box is copy hand))

  -- the lane's draft; a message that is held; the lane's first hold, of weight 1 for its first message
  abbrev in_draft : ((lane : Lane) → LaneIs h 0 lane → (key : Key) → lane.draft ≡ Some key → (bytes blocks : List ℕ)
      → held_under h.depot key ≡ Draft bytes blocks → Option (Next h)) → Option (Next h)
  in_draft f = in_lane (λ lane is. if_some lane.draft (λ key draft.
      if_draft (held_under h.depot key) (f lane is key draft)))

  abbrev in_message : (key : Key) → ((bytes blocks : List ℕ) (weight : ℕ)
      → held_under h.depot key ≡ Sealed bytes blocks weight → 1 ≤ weight_under h.depot key → Option (Next h))
      → Option (Next h)
  in_message key f = if_sealed (held_under h.depot key) (λ bytes blocks weight e.
      if_at_most 1 (weight_under h.depot key) (f bytes blocks weight e))

  abbrev with_copy : ((lane : Lane) → LaneIs h 0 lane → (sealed : SealedMessage) → HasCopy lane 0 0 sealed
      → Option (Next h)) → Option (Next h)
  with_copy f = in_lane (λ lane is. if_some (slice_get lane.holds 0) (λ hold at.
      if_some (slice_get lane.messages 0) (λ sealed there. if_same hold.weight 1 (λ one.
      if_same hold.key.slot sealed.key.slot (λ slot. if_same hold.key.generation sealed.key.generation (λ times.
      let key : hold.key ≡ sealed.key = λ i. record { slot = slot i; generation = times i } in
      f lane is sealed (step.copy_of lane 0 0 hold sealed at key one there)))))))

abbrev pub begins : Move
begins h = in_lane h (λ lane is. if_none lane.draft (λ none. if_some (slice_get h.depot.slots 0) (λ slot at.
    if_free slot.held (λ free. Some (Begin 0, step.begin h 0 0 lane slot is none at free)))))

abbrev pub puts : List ℕ → Move
puts bytes h = in_draft h (λ lane is key draft old blocks e. let held = held_under h.depot key in
    if_same (length blocks) (blocks_for (length old)) (λ fewest.
    if_at_most (blocks_for (length (bytes_of held ++ bytes))) (length (blocks_of held) + length h.depot.free) (λ room.
    let there : DraftThere h.depot key = record { bytes = old; blocks = blocks; is = e; fewest = fewest } in
    Some (Put 0 bytes, step.put h 0 bytes lane key is draft there room))))

abbrev pub seals : ℕ → Move
seals n h = in_draft h (λ lane is key draft bytes blocks e. if_at_most 1 n (λ some.
    Some (Seal 0 n, step.seal h 0 n lane key bytes blocks is draft e some)))

abbrev pub splits : Move
splits h = in_lane h (λ lane is. if_some (slice_get lane.holds 0) (λ hold at. if_at_most 2 hold.weight (λ more.
    Some (Split 0 0, step.split h 0 0 lane hold is at more))))

-- the next copy of the first message, for the first mailbox
abbrev pub note_of : SealedMessage → Note
note_of sealed = record {
  txn = record { lane = 0; number = sealed.number };
  place = sealed.offered;
  mailbox = 0;
  sender = [];
  client = codes "c";
  utf8 = false;
  moment = 0;
  message = sealed.message;
}

abbrev pub offers : Move
offers h = with_copy h (λ lane is sealed copy. in_box h (λ box there. if_is box.closed false (λ unclosed.
    if_at_most (suc (length box.accepted)) (box.taken + h.capacity) (λ room. let note = note_of sealed in
    Some (Offer 0 note, step.offer h 0 0 0 sealed.key note lane box is copy refl there unclosed room)))))

abbrev pub hands_back : Move
hands_back h = with_copy h (λ lane is sealed copy. in_message h sealed.key (λ bytes blocks weight e some.
    Some (HandBack 0 0 0, step.hand_back h 0 0 0 0 lane sealed bytes blocks weight is copy e some)))

abbrev pub collects : Move
collects h = in_lane h (λ lane is. if_at_most (suc lane.collected) (length lane.slips) (λ more.
    Some (Collect 0, step.collect h 0 lane is more)))

abbrev pub takes : Move
takes h = in_box h (λ box is. if_none box.hand (λ none. if_at_most (suc box.taken) (length box.accepted) (λ more.
    Some (Take 0, step.take h 0 box is none more))))

abbrev pub locks : List ℕ → Move
locks bytes h = in_hand h (λ box is copy hand. if_taken copy.progress (λ first.
    Some (Lock 0 bytes, step.lock h 0 bytes box copy is hand first)))

abbrev pub misses : Move
misses h = in_hand h (λ box is copy hand. if_taken copy.progress (λ first.
    Some (Miss 0, step.miss h 0 box copy is hand first)))

-- so many of the bytes that are still to be written
abbrev pub writes : ℕ → Move
writes n h = in_turn h (λ box is copy hand at written going.
    let rest = drop written (added h copy.post.note at.bytes) in
    let bytes = some_of n rest in let both = sym (take-append-drop n rest) in
    Some (Write 0 bytes, step.write h 0 bytes (drop n rest) box copy at written is hand going both))

abbrev pub syncs : Move
syncs h = in_turn h (λ box is copy hand at written going.
    if_same written (length (added h copy.post.note at.bytes)) (λ whole.
    Some (Sync 0, step.sync h 0 box copy at written is hand going whole)))

abbrev pub cuts : Move
cuts h = in_turn h (λ box is copy hand at written going.
    Some (Cut 0, step.cut h 0 box copy at written is hand going))

abbrev pub unlocks : Move
unlocks h = in_hand h (λ box is copy hand. if_some (end_of copy.progress) (λ end in_turn.
    if_at_most box.kept (length box.spool) (λ within.
    Some (Unlock 0, step.unlock h 0 box copy end is hand in_turn within))))

abbrev pub releases : Move
releases h = in_hand h (λ box is copy hand. if_done copy.progress (λ outcome done. if_is copy.released false (λ there.
    in_message h copy.post.key (λ bytes blocks weight e some.
    Some (Release 0, step.release h 0 box copy outcome bytes blocks weight is hand done there e some)))))

abbrev pub gives_slip : Move
gives_slip h = in_hand h (λ box is copy hand. if_is copy.released true (λ gone.
    if_some (slice_get h.lanes copy.post.note.txn.lane) (λ lane to.
    Some (GiveSlip 0 (outcome_of copy), step.give_slip h 0 box copy lane is hand gone to))))

-- the message in the first slot, of its first generation
abbrev pub reclaims : Move
reclaims h = let key : Key = record { slot = 0; generation = 0 } in
    if_sealed (held_under h.depot key) (λ bytes blocks weight e. if_same weight 0 (λ none.
    Some (Reclaim 0 0, step.reclaim h key bytes blocks (e ∙ ap (λ n. Sealed bytes blocks n) none))))

abbrev pub closes : Move
closes h = in_box h (λ box is. if_is box.closed false (λ unclosed.
    Some (Close 0, step.close h 0 box is unclosed)))

-- to unfold it is to unfold what the moves compute with
unfoldable pub computed : ℕ
unfolding everything step.there_is step.begin step.put_there step.put step.seal step.split step.offer step.hand_back
    step.release_there step.release step.collect step.take step.lock step.miss step.write step.sync step.cut
    step.unlock_by step.unlock step.give_slip step.reclaim step.close
computed = 0
