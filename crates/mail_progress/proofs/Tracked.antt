-- In an orderly run each place of a lane's last message has a copy to offer, a copy on its way, a slip to collect, or its answer.
use Rattle.std.proofs.Common.{◌≡◌, ◌≢◌, ℕ, suc, ◌+◌, ◌≤◌, List, [], ◌∷◌, ◌++◌, length, drop, Bool, cond, ◌&&◌, ◌==◌, Option, Some, None, inl, inr, refl, ap}
use Rattle.std.proofs.Common.{sym, ◌∙◌, subst, arith, add-one, length-append}
use Rattle.std.specs.Prelude.{slice_get, slice_set, flat_map, sum_by, count_by, remove}
use Rattle.std.specs.List.{AllByRecursion}
use Rattle.std.proofs.lemmas.Bool.{eq-eqb}
use Rattle.std.proofs.lemmas.List.{drop-append-le, length-replicate}
use Rattle.std.proofs.lemmas.List.Sums.{sum_by-append, sum_by-cons}
use Rattle.std.proofs.lemmas.Option.{slice_get_within}
use Rattle.mail_world.specs.declared.Outcome.{Outcome}
use Rattle.mail_world.specs.declared.Slip.{Slip}
use Rattle.mail_world.specs.declared.Event.{Event}
use Rattle.mail_world.specs.declared.Event.TheVariants.{Begin, Put, Cancel, Seal, Split, Offer, HandBack, Collect, Take}
use Rattle.mail_world.specs.declared.Event.TheVariants.{Release, GiveSlip, Reclaim, Close}
use Rattle.mail_world.specs.Slips.{Gather, names, times_named, txn_of, gathered, own_slip, slip_of}
use Rattle.mail_world.specs.Depot.{Key, Depot, Slot, Draft, Sealed, held_under}
use Rattle.mail_world.specs.House.{Hold, Post, Copy, Box, SealedMessage, Lane, House, IsFreshLane, IsStart}
use Rattle.mail_world.specs.Events.{Step, LaneIs, outcome_of}
use Rattle.mail_world.specs.Runs.{Happened, Run, last_house}
use Rattle.mail_world.proofs.Accepted.{get_set, each_at}
use Rattle.mail_world.proofs.Heard.{weaken, all_more, all_set}
use Rattle.mail_world.proofs.Once.{is_copy, get_more}
use Rattle.mail_world.proofs.OneLine.{other_byte}
use Rattle.mail_world.proofs.LastSeal.{length_set, keeps_gathered}
use Rattle.mail_world.proofs.Holds.{drop_get, sum_set, sum_remove, all_remove}
use Rattle.mail_world.proofs.GivenAway.{is_given, count-append, count-cons, count_given, count_sealed}
use Rattle.mail_world.proofs.WrongSteps.{same_some}
use Rattle.mail_world.proofs.Depots.{total_set, used, FitsSlot, KeepsBytes, begins_turn, puts_turn, seals_turn, releases_turn, drops_turn, seals_fits}
use Rattle.mail_progress.specs.Orderly.{IsOrderly, post_of, on_way}
use Rattle.mail_progress.proofs.Sums.{sum_last}
use Rattle.mail_progress.proofs.Within.{to_give, AllWithin, within_step, within_start}
use Rattle.mail_progress.proofs.Kept.{IsSome, KeptSoFar, IsBoxRight, kept_step, kept_start}

-- the copies of a transaction and a place on their way, and the slips that name them
abbrev pub copy_at : ℕ → ℕ → ℕ → Post → ℕ
copy_at k number p post = cond (is_copy (txn_of k number) p post.note) 1 0

abbrev pub way_at : ℕ → ℕ → ℕ → List Box → ℕ
way_at k number p boxes = sum_by (copy_at k number p) (flat_map on_way boxes)

abbrev pub told_at : ℕ → ℕ → ℕ → Lane → ℕ
told_at k number p lane = times_named (txn_of k number) p lane.heard + times_named (txn_of k number) p (drop lane.collected lane.slips)

-- the message is the lane's last: all holds are of it, no other has its key, and each place is given away or has its weight
pub record IsLast (ts : List SealedMessage) (holds : List Hold) (n i : ℕ) (t : SealedMessage) : Type 0 where
  pub own : AllByRecursion (λ (hold : Hold). hold.key ≡ t.key) holds
  pub alone : (j : ℕ) (u : SealedMessage) → slice_get ts j ≡ Some u → u.key ≡ t.key → j ≡ i
  pub all : n ≤ t.offered + to_give holds

abbrev pub AreLast : List SealedMessage → List Hold → ℕ → Type 0
AreLast ts holds n = (i : ℕ) (t : SealedMessage) → slice_get ts i ≡ Some t → length ts ≡ i + 1 → IsLast ts holds n i t

abbrev IsKeptIn : Depot → SealedMessage → Type 0
IsKeptIn d t = KeepsBytes d t.key t.message

pub record IsTracked (k : ℕ) (d : Depot) (lane : Lane) (boxes : List Box) : Type 0 where
  pub sealed : AllByRecursion (IsKeptIn d) lane.messages
  pub prefix : lane.collected ≤ length lane.slips
  pub last : AreLast lane.messages lane.holds (length lane.gather.places)
  pub none : length lane.messages ≡ 0 → length lane.gather.places ≡ 0
  pub given : (number p : ℕ) → count_by (is_given number p) lane.messages ≤ told_at k number p lane + way_at k number p boxes

abbrev pub AllTracked : House → Type 0
AllTracked h = (k : ℕ) (lane : Lane) → LaneIs h k lane → IsTracked k h.depot lane h.boxes

-- a depot that keeps what was sealed
abbrev Keeps : Depot → Depot → Type 0
Keeps d new = (key : Key) (bytes : List ℕ) → KeepsBytes d key bytes → KeepsBytes new key bytes

abbrev NoFewer : ℕ → List Box → List Box → Type 0
NoFewer k bs ms = (number p : ℕ) → way_at k number p bs ≤ way_at k number p ms

kept_sealed : (d new : Depot) → Keeps d new → (ts : List SealedMessage) → AllByRecursion (IsKeptIn d) ts → AllByRecursion (IsKeptIn new) ts
kept_sealed d new f ts all = weaken (IsKeptIn d) (IsKeptIn new) (λ t s. f t.key t.message s) ts all

-- the same lane
tracked_same : (k : ℕ) (d new : Depot) (lane : Lane) (bs ms : List Box) → Keeps d new → NoFewer k bs ms → IsTracked k d lane bs → IsTracked k new lane ms
tracked_same k d new lane bs ms f way s = record {
  sealed = kept_sealed d new f lane.messages s.sealed;
  prefix = s.prefix;
  last = s.last;
  none = s.none;
  given = λ number p. let a = s.given number p in let b = way number p in omega arith;
}

-- a lane with the same messages and holds, and as many places
tracked_as : (k : ℕ) (d new : Depot) (lane next : Lane) (bs ms : List Box) → Keeps d new → next.messages ≡ lane.messages → next.holds ≡ lane.holds
    → length next.gather.places ≡ length lane.gather.places
    → next.collected ≤ length next.slips → ((number p : ℕ) → told_at k number p lane + way_at k number p bs ≤ told_at k number p next + way_at k number p ms)
    → IsTracked k d lane bs → IsTracked k new next ms
tracked_as k d new lane next bs ms f messages holds places prefix told s = record {
  sealed = subst (AllByRecursion (IsKeptIn new)) (sym messages) (kept_sealed d new f lane.messages s.sealed);
  prefix = prefix;
  last = rw (messages, holds, places) s.last;
  none = rw (messages, places) s.none;
  given = λ number p. let a = s.given number p in let b = told number p in
      let e : count_by (is_given number p) next.messages ≡ count_by (is_given number p) lane.messages = ap (count_by (is_given number p)) messages in
      omega arith;
}

-- the lanes of a house
one_lane : (h new : House) (k : ℕ) (old changed : Lane) → new.lanes ≡ slice_set h.lanes k changed → LaneIs h k old → Keeps h.depot new.depot
    → (IsTracked k h.depot old h.boxes → IsTracked k new.depot changed new.boxes)
    → ((v : ℕ) → v ≢ k → NoFewer v h.boxes new.boxes) → AllTracked h → AllTracked new
one_lane h new k old changed lanes was f here way all v lane is = elim (get_set h.lanes k v changed lane (ap (λ ls. slice_get ls v) (sym lanes) ∙ is)) [
  | inl at ↦ let P : Lane → Type 0 = λ x. IsTracked v new.depot x new.boxes in
      let Q : ℕ → Type 0 = λ n. IsTracked n new.depot changed new.boxes in
      subst P at.1 (subst Q (sym at.0) (here (all k old was)))
  | inr other ↦ tracked_same v h.depot new.depot lane h.boxes new.boxes f (way v other.0) (all v lane other.1)
]

no_lane : (h new : House) → new.lanes ≡ h.lanes → Keeps h.depot new.depot → ((v : ℕ) → NoFewer v h.boxes new.boxes) → AllTracked h → AllTracked new
no_lane h new lanes f way all k lane is =
    tracked_same k h.depot new.depot lane h.boxes new.boxes f (way k) (all k lane (ap (λ ls. slice_get ls k) (sym lanes) ∙ is))

same_way : (bs ms : List Box) → ms ≡ bs → (v : ℕ) → NoFewer v bs ms
same_way bs ms e v number p = let same : way_at v number p ms ≡ way_at v number p bs = ap (way_at v number p) e in omega arith

way_set : (v number p : ℕ) (bs : List Box) (w : ℕ) (old new : Box) → slice_get bs w ≡ Some old
    → way_at v number p (slice_set bs w new) + sum_by (copy_at v number p) (on_way old) ≡ way_at v number p bs + sum_by (copy_at v number p) (on_way new)
way_set v number p bs w old new was = total_set (copy_at v number p) on_way bs w old new was

box_way : (bs ms : List Box) (w : ℕ) (old new : Box) → ms ≡ slice_set bs w new → slice_get bs w ≡ Some old → on_way new ≡ on_way old → (v : ℕ) → NoFewer v bs ms
box_way bs ms w old new e was same v number p =
    let a : way_at v number p ms ≡ way_at v number p (slice_set bs w new) = ap (way_at v number p) e in
    let b : sum_by (copy_at v number p) (on_way new) ≡ sum_by (copy_at v number p) (on_way old) = ap (sum_by (copy_at v number p)) same in
    omega (arith, way_set v number p bs w old new was)

-- an offer and a slip that is given
way_offered : (v number p : ℕ) (bs : List Box) (b : ℕ) (old : Box) (post : Post) → slice_get bs b ≡ Some old → old.taken ≤ length old.accepted
    → way_at v number p (slice_set bs b (record old { accepted = old.accepted ++ post ∷ [] })) ≡ way_at v number p bs + copy_at v number p post
way_offered v number p bs b old post was prefix =
    let e : sum_by (copy_at v number p) (drop old.taken (old.accepted ++ post ∷ [])) ≡ sum_by (copy_at v number p) (drop old.taken old.accepted)
    + copy_at v number p post =
    ap (sum_by (copy_at v number p)) (drop-append-le old.taken old.accepted (post ∷ []) prefix)
    ∙ sum_last (copy_at v number p) (drop old.taken old.accepted) post in
    omega (
      arith,
      way_set v number p bs b old (record old { accepted = old.accepted ++ post ∷ [] }) was,
      e,
      sum_by-append (copy_at v number p) (post_of old.hand) (drop old.taken (old.accepted ++ post ∷ [])),
      sum_by-append (copy_at v number p) (post_of old.hand) (drop old.taken old.accepted),
    )

way_gave : (v number p : ℕ) (bs : List Box) (w : ℕ) (box : Box) (copy : Copy) → slice_get bs w ≡ Some box → box.hand ≡ Some copy
    → way_at v number p (slice_set bs w (record box { hand = None })) + copy_at v number p copy.post ≡ way_at v number p bs
way_gave v number p bs w box copy was hand =
    let e : sum_by (copy_at v number p) (on_way box) ≡ copy_at v number p copy.post + sum_by (copy_at v number p) (drop box.taken box.accepted) =
    ap (λ x. sum_by (copy_at v number p) (post_of x ++ drop box.taken box.accepted)) hand
    ∙ sum_by-cons (copy_at v number p) copy.post (drop box.taken box.accepted) in
    omega (arith, way_set v number p bs w box (record box { hand = None }) was)

not_there : (v k number p : ℕ) (post : Post) → post.note.txn.lane ≡ k → v ≢ k → copy_at v number p post ≡ 0
not_there v k number p post e ne = rw (other_byte post.note.txn.lane v (λ same. ne (sym same ∙ e))) refl

-- a slip that a lane gave itself, or a copy for its place
own_match : (a k x y : ℕ) (t : Bool) → a ≡ k → ◌≡◌ {A = ℕ} (cond (((a == k) && (x == y)) && t) 1 0) (cond ((x == y) && t) 1 0)
own_match a k x y t e = rw (eq-eqb a k e) refl

pub last_there : {A : Type 0} (xs : List A) (i : ℕ) (x : A) → slice_get xs i ≡ Some x → (j : ℕ) × (y : A) × (slice_get xs j ≡ Some y) × (length xs ≡ j + 1)
last_there [] i x e = cc
last_there (y ∷ []) i x e = (0, y, refl, refl)
last_there (y ∷ z ∷ xs) i x e = let rest =
    last_there (z ∷ xs) 0 z refl in (suc rest.0, rest.1, rest.2, (let f : length (z ∷ xs) ≡ rest.0 + 1 = rest.3 in omega arith))

-- a hold of a message's key: the message is the last one
pub last_of_its_key : (ts : List SealedMessage) (holds : List Hold) (n i at : ℕ) (t : SealedMessage)
    → slice_get holds at ≡ Some (record { key = t.key; weight = 1 }) → slice_get ts i ≡ Some t → AreLast ts holds n → length ts ≡ i + 1
last_of_its_key ts holds n i at t hold is s =
    let z = last_there ts i t is in
    let l = s z.0 z.1 z.2 z.3 in
    let key : t.key ≡ z.1.key = each_at (λ (x : Hold). x.key ≡ z.1.key) holds at (record { key = t.key; weight = 1 }) l.own hold in
    z.3 ∙ ap (λ j. j + 1) (sym (l.alone i t is key))

-- a copy of a message goes
away_last : (ts : List SealedMessage) (holds : List Hold) (n m i at : ℕ) (t : SealedMessage) → slice_get holds at ≡ Some (record { key = t.key; weight = 1 })
    → slice_get ts i ≡ Some t → m ≡ n → AreLast ts holds n
    → AreLast (slice_set ts i (record t { offered = t.offered + 1 })) (remove holds at) m
away_last ts holds n m i at t hold is same s j u there top =
    let len : length ts ≡ j + 1 = sym (length_set ts i (record t { offered = t.offered + 1 })) ∙ top in
    let mine : length ts ≡ i + 1 = last_of_its_key ts holds n i at t hold is s in
    let same_place : i ≡ j = omega arith in
    let l = s i t is mine in
    elim (get_set ts i j (record t { offered = t.offered + 1 }) u there) [
      | inl now ↦
          let offered : t.offered + 1 ≡ u.offered = ap (λ (x : SealedMessage). x.offered) now.1 in
          let its : t.key ≡ u.key = ap (λ (x : SealedMessage). x.key) now.1 in
          let give = sum_remove (λ (x : Hold). x.weight) holds at (record { key = t.key; weight = 1 }) hold in
          let all : n ≤ t.offered + to_give holds = l.all in
          record {
            own = all_remove (λ (x : Hold). x.key ≡ u.key) holds at
                (weaken (λ (x : Hold). x.key ≡ t.key) (λ (x : Hold). x.key ≡ u.key) (λ x e. e ∙ its) holds l.own);
            alone = λ a v there' e. elim (get_set ts i a (record t { offered = t.offered + 1 }) v there') [
              | inl self ↦ self.0 ∙ same_place
              | inr past ↦ l.alone a v past.1 (e ∙ sym its) ∙ same_place
            ];
            all = omega arith;
          }
      | inr other ↦ absurd (other.0 (sym same_place))
    ]

length_gathered : (g : Gather) (slip : Slip) → length (gathered g slip).places ≡ length g.places
length_gathered g slip = (keeps_gathered g slip).places

-- holds without weight are none
pub no_hold : (holds : List Hold) → AllByRecursion IsSome holds → to_give holds ≤ 0 → holds ≡ []
no_hold [] all none = refl
no_hold (x ∷ holds) all none = let some : 1 ≤ x.weight = all.0 in absurd (omega (arith, sum_by-cons (λ (hold : Hold). hold.weight) x holds))

-- a key that has a draft is no message's
no_message : (d : Depot) (key : Key) (bytes blocks sealed : List ℕ) → held_under d key ≡ Draft bytes blocks → KeepsBytes d key sealed → ⊥
no_message d key bytes blocks sealed draft s =
    let there = used d key (Draft bytes blocks) draft (λ e. cc) in
    let same = same_some (slice_get d.slots key.slot) s.slot (record { generation = key.generation; held = Draft bytes blocks }) s.is there in
    let fits = subst (λ (x : Slot). FitsSlot key.generation sealed x) same s.fits in
    elim fits [ inl low ↦ absurd (omega (arith, low)) | inr held ↦ held.1 ]

-- the events of a lane
seal_tracked : (k n : ℕ) (d new : Depot) (lane next : Lane) (bs : List Box) (key : Key) (message bytes blocks : List ℕ) → Keeps d new
    → held_under d key ≡ Draft bytes blocks → KeepsBytes new key message
    → lane.holds ≡ [] → next.messages ≡ lane.messages ++ record { number = lane.number; key = key; message = message; offered = 0 } ∷ []
    → next.holds ≡ lane.holds ++ record { key = key; weight = n } ∷ [] → length next.gather.places ≡ n
    → next.slips ≡ lane.slips → next.collected ≡ lane.collected → next.heard ≡ lane.heard → IsTracked k d lane bs → IsTracked k new next bs
seal_tracked k n d new lane next bs key message bytes blocks f draft there idle messages holds places slips count heard s =
    let t : SealedMessage = record { number = lane.number; key = key; message = message; offered = 0 } in
    let hold : Hold = record { key = key; weight = n } in
    let only : next.holds ≡ hold ∷ [] = holds ∙ ap (λ hs. hs ++ hold ∷ []) idle in
    record {
      sealed = subst (AllByRecursion (IsKeptIn new)) (sym messages)
          (all_more (IsKeptIn new) lane.messages t (kept_sealed d new f lane.messages s.sealed) there);
      prefix = rw (slips, count) s.prefix;
      last = λ i u at top.
          let len : length next.messages ≡ length lane.messages + 1 = ap length messages ∙ length-append lane.messages (t ∷ []) in
          elim (get_more lane.messages t u i (ap (λ ts. slice_get ts i) (sym messages) ∙ at)) [
            | inl old ↦ let low = slice_get_within lane.messages i u old in absurd (omega arith)
            | inr here ↦
                let its : key ≡ u.key = ap (λ (x : SealedMessage). x.key) here.1 in
                record {
                  own = subst (AllByRecursion (λ (x : Hold). x.key ≡ u.key)) (sym only) (its, tt);
                  alone = λ j v at' e. elim (get_more lane.messages t v j (ap (λ ts. slice_get ts j) (sym messages) ∙ at')) [
                    | inl old ↦
                        let fits : KeepsBytes d v.key v.message = each_at (IsKeptIn d) lane.messages j v s.sealed old in
                        let P : Key → Type 0 = λ x. KeepsBytes d x v.message in
                        absurd (no_message d key bytes blocks v.message draft (subst P (e ∙ sym its) fits))
                    | inr now ↦ now.0 ∙ sym here.0
                  ];
                  all = let give : to_give next.holds ≡ n = ap to_give only ∙ (omega (arith, sum_by-cons (λ (x : Hold). x.weight) hold [])) in omega arith;
                }
          ];
      none = λ e. let len : length next.messages ≡ length lane.messages + 1 = ap length messages ∙ length-append lane.messages (t ∷ []) in absurd (omega arith);
      given = λ number p.
          let a = s.given number p in
          let e : count_by (is_given number p) next.messages ≡ count_by (is_given number p) lane.messages =
          ap (count_by (is_given number p)) messages ∙ count_sealed lane.messages key lane.number number p message in
          let told : told_at k number p next ≡ told_at k number p lane = rw (slips, count, heard) refl in omega arith;
    }

split_tracked : (k i w : ℕ) (d : Depot) (lane : Lane) (bs : List Box) (key : Key) → slice_get lane.holds i ≡ Some (record { key = key; weight = w + 1 })
    → IsTracked k d lane bs
    → IsTracked k d (record lane { holds = slice_set lane.holds i (record { key = key; weight = w }) ++ record { key = key; weight = 1 } ∷ [] }) bs
split_tracked k i w d lane bs key at s =
    let rest : Hold = record { key = key; weight = w } in
    let one : Hold = record { key = key; weight = 1 } in
    record {
      sealed = s.sealed;
      prefix = s.prefix;
      last = λ j t is top.
          let l = s.last j t is top in
          let P : Hold → Type 0 = λ hold. hold.key ≡ t.key in
          let its : key ≡ t.key = each_at P lane.holds i (record { key = key; weight = w + 1 }) l.own at in
          let all = l.all in
          record {
            own = all_more P (slice_set lane.holds i rest) one (all_set P lane.holds i rest l.own its) its;
            alone = l.alone;
            all = omega (
              arith,
              sum_set (λ (hold : Hold). hold.weight) lane.holds i (record { key = key; weight = w + 1 }) rest at,
              sum_last (λ (hold : Hold). hold.weight) (slice_set lane.holds i rest) one,
            );
          };
      none = s.none;
      given = s.given;
    }

away_tracked : (k i at : ℕ) (d new : Depot) (lane next : Lane) (bs ms : List Box) (t : SealedMessage) → Keeps d new
    → slice_get lane.holds at ≡ Some (record { key = t.key; weight = 1 }) → slice_get lane.messages i ≡ Some t
    → next.messages ≡ slice_set lane.messages i (record t { offered = t.offered + 1 }) → next.holds ≡ remove lane.holds at
    → length next.gather.places ≡ length lane.gather.places → next.collected ≤ length next.slips
    → ((number p : ℕ) → told_at k number p lane + way_at k number p bs + cond ((t.number == number) && (t.offered == p)) 1 0 ≤ told_at k number p next
    + way_at k number p ms) → IsTracked k d lane bs → IsTracked k new next ms
away_tracked k i at d new lane next bs ms t f hold is messages holds places prefix told s =
    let more : SealedMessage = record t { offered = t.offered + 1 } in
    let kept = kept_sealed d new f lane.messages s.sealed in
    let last : AreLast (slice_set lane.messages i more) (remove lane.holds at) (length next.gather.places) =
    away_last lane.messages lane.holds (length lane.gather.places) (length next.gather.places) i at t hold is places s.last in
    record {
      sealed = subst (AllByRecursion (IsKeptIn new)) (sym messages)
          (all_set (IsKeptIn new) lane.messages i more kept (each_at (IsKeptIn new) lane.messages i t kept is));
      prefix = prefix;
      last = rw (messages, holds) last;
      none = λ e. let len : length next.messages ≡ length lane.messages = ap length messages ∙ length_set lane.messages i more in let low =
          slice_get_within lane.messages i t is in absurd (omega arith);
      given = λ number p.
          let a = s.given number p in
          let b = told number p in
          let e : count_by (is_given number p) next.messages ≡ count_by (is_given number p) (slice_set lane.messages i more) =
          ap (count_by (is_given number p)) messages in
          omega (arith, e, count_given lane.messages i t.key t.number number p t.offered t.message is);
    }

same_depot : (d : Depot) → Keeps d d
same_depot d key bytes f = f

-- the house after it, written out
lane_after : (h : House) (d : Depot) (bs : List Box) (k : ℕ) (old changed : Lane) → LaneIs h k old → Keeps h.depot d
    → (IsTracked k h.depot old h.boxes → IsTracked k d changed bs) → ((v : ℕ) → v ≢ k → NoFewer v h.boxes bs) → AllTracked h
    → AllTracked (record h { depot = d; boxes = bs; lanes = slice_set h.lanes k changed })
lane_after h d bs k old changed was f here way all =
    one_lane h (record h { depot = d; boxes = bs; lanes = slice_set h.lanes k changed }) k old changed refl was f here way all

none_after : (h : House) (d : Depot) (bs : List Box) → Keeps h.depot d → ((v : ℕ) → NoFewer v h.boxes bs) → AllTracked h
    → AllTracked (record h { depot = d; boxes = bs })
none_after h d bs f way all = no_lane h (record h { depot = d; boxes = bs }) refl f way all

pub tracked_step : (room : ℕ) (h : House) (e : Event) (new : House) → AllWithin room h → KeptSoFar h → AllTracked h → Step h e new → AllTracked new
tracked_step room h (Begin k) new w kept s st =
    let f : Keeps h.depot new.depot = subst (λ (x : House). Keeps h.depot x.depot) (sym st.after) (begins_turn h.depot st.key st.depot st.begins).fits in
    let boxes = ap (λ (x : House). x.boxes) st.after in
    one_lane h new k st.lane _ (ap (λ (x : House). x.lanes) st.after) st.is f
    (λ t. tracked_as k h.depot new.depot st.lane (record st.lane { number = st.number; draft = Some st.key }) h.boxes new.boxes f refl refl refl t.prefix
    (λ number p. let a = same_way h.boxes new.boxes boxes k number p in omega arith) t)
    (λ v ne. same_way h.boxes new.boxes boxes v) s
tracked_step room h (Put k bytes) new w kept s st =
    let f : Keeps h.depot new.depot = subst (λ (x : House). Keeps h.depot x.depot) (sym st.after) (puts_turn h.depot st.key bytes st.depot st.puts).fits in
    no_lane h new (ap (λ (x : House). x.lanes) st.after) f (λ v. same_way h.boxes new.boxes (ap (λ (x : House). x.boxes) st.after) v) s
tracked_step room h (Cancel k) new w kept s st =
    let f : Keeps h.depot new.depot =
    subst (λ (x : House). Keeps h.depot x.depot) (sym st.after)
    (drops_turn h.depot st.key Draft st.depot (λ b blocks. refl) (λ b blocks. refl) (λ b blocks e. cc) st.cancels).fits in
    let boxes = ap (λ (x : House). x.boxes) st.after in
    one_lane h new k st.lane _ (ap (λ (x : House). x.lanes) st.after) st.is f
    (λ t. tracked_as k h.depot new.depot st.lane (record st.lane { draft = None }) h.boxes new.boxes f refl refl refl t.prefix
    (λ number p. let a = same_way h.boxes new.boxes boxes k number p in omega arith) t)
    (λ v ne. same_way h.boxes new.boxes boxes v) s
tracked_step room h (Seal k n) new w kept s st =
    let idle : st.lane.holds ≡ [] =
    no_hold st.lane.holds (each_at (λ (l : Lane). AllByRecursion IsSome l.holds) h.lanes k st.lane kept.lanes st.is)
    (let p = (w k st.lane st.is).drafting st.key st.draft in omega arith) in
    let f = (seals_turn h.depot st.key n st.depot st.seals).fits in
    subst AllTracked (sym st.after)
    (lane_after h st.depot h.boxes k st.lane _ st.is f
    (λ t. seal_tracked k n h.depot st.depot st.lane _ h.boxes st.key st.seals.bytes st.seals.bytes st.seals.blocks f st.seals.draft
    (seals_fits h.depot st.key n st.depot st.seals) idle refl refl (length-replicate {A = Option Outcome} n None) refl refl refl t)
    (λ v ne. same_way h.boxes h.boxes refl v) s)
tracked_step room h (Split k i) new w kept s st =
    subst AllTracked (sym st.after)
    (lane_after h h.depot h.boxes k st.lane _ st.is (same_depot h.depot) (λ t. split_tracked k i st.weight h.depot st.lane h.boxes st.key st.hold t)
    (λ v ne. same_way h.boxes h.boxes refl v) s)
tracked_step room h (Offer k note) new w kept s st =
    let post : Post = record { note = note; key = st.key } in
    let t : SealedMessage = record { number = note.txn.number; key = st.key; message = note.message; offered = note.place } in
    let prefix = (each_at (IsBoxRight h) h.boxes note.mailbox st.box kept.boxes st.channel).prefix in
    let ms = slice_set h.boxes note.mailbox (record st.box { accepted = st.box.accepted ++ post ∷ [] }) in
    let more : (v number p : ℕ) → way_at v number p ms ≡ way_at v number p h.boxes + copy_at v number p post =
    λ v number p. way_offered v number p h.boxes note.mailbox st.box post st.channel prefix in
    subst AllTracked (sym st.after)
    (lane_after h h.depot ms k st.lane _ st.is (same_depot h.depot)
    (λ x. away_tracked k st.t st.at h.depot h.depot st.lane _ h.boxes ms t (same_depot h.depot) st.copy.hold st.copy.is refl refl refl x.prefix
    (λ number p. let a = more k number p in let b = own_match note.txn.lane k note.txn.number number (note.place == p) st.own in omega arith) x)
    (λ v ne number p. let a = more v number p in omega arith) s)
tracked_step room h (HandBack k i m) new w kept s st =
    let f = (releases_turn h.depot st.sealed.key st.depot st.releases).fits in
    let slip = own_slip k st.sealed.number st.sealed.offered m in
    subst AllTracked (sym st.after)
    (lane_after h st.depot h.boxes k st.lane _ st.is f
    (λ x. away_tracked k st.t i h.depot st.depot st.lane _ h.boxes h.boxes st.sealed f st.copy.hold st.copy.is refl refl (length_gathered st.lane.gather slip)
    x.prefix
    (λ number p. let b = own_match k k st.sealed.number number (st.sealed.offered == p) refl in omega
    (arith, b, count-append (names (txn_of k number) p) st.lane.heard (slip ∷ []))) x)
    (λ v ne. same_way h.boxes h.boxes refl v) s)
tracked_step room h (Collect k) new w kept s st =
    let below = slice_get_within st.lane.slips st.lane.collected st.slip st.oldest in
    subst AllTracked (sym st.after)
    (lane_after h h.depot h.boxes k st.lane _ st.is (same_depot h.depot)
    (λ x. tracked_as k h.depot h.depot st.lane _ h.boxes h.boxes (same_depot h.depot) refl refl (length_gathered st.lane.gather st.slip) (omega arith)
    (λ number p.
    let was : times_named (txn_of k number) p (drop st.lane.collected st.lane.slips) ≡ cond (names (txn_of k number) p st.slip) 1 0
    + times_named (txn_of k number) p (drop (st.lane.collected + 1) st.lane.slips) =
    ap (times_named (txn_of k number) p)
    (drop_get st.lane.slips st.lane.collected st.slip st.oldest ∙ ap (λ n. st.slip ∷ drop n st.lane.slips) (sym (add-one st.lane.collected)))
    ∙ count-cons (names (txn_of k number) p) st.slip (drop (st.lane.collected + 1) st.lane.slips) in
    omega (arith, was, count-append (names (txn_of k number) p) st.lane.heard (st.slip ∷ []))) x)
    (λ v ne. same_way h.boxes h.boxes refl v) s)
tracked_step room h (Take x) new w kept s st =
    let posts : on_way st.box ≡ st.post ∷ drop (st.box.taken + 1) st.box.accepted =
    ap (λ hand. post_of hand ++ drop st.box.taken st.box.accepted) st.free_hand ∙ drop_get st.box.accepted st.box.taken st.post st.oldest
    ∙ ap (λ j. st.post ∷ drop j st.box.accepted) (sym (add-one st.box.taken)) in
    subst AllTracked (sym st.after) (none_after h h.depot _ (same_depot h.depot) (λ v. box_way h.boxes _ x st.box _ refl st.is (sym posts) v) s)
tracked_step room h (Release x) new w kept s st =
    subst AllTracked (sym st.after)
    (none_after h st.depot _ (releases_turn h.depot st.copy.post.key st.depot st.releases).fits
    (λ v. box_way h.boxes _ x st.box _ refl st.is (ap (λ hand. post_of hand ++ drop st.box.taken st.box.accepted) (sym st.in_hand)) v) s)
tracked_step room h (GiveSlip x o) new w kept s st =
    let k = st.copy.post.note.txn.lane in
    let slip = slip_of x st.copy.post.note (outcome_of st.copy) in
    let ms = slice_set h.boxes x (record st.box { hand = None }) in
    let less : (v number p : ℕ) → way_at v number p ms + copy_at v number p st.copy.post ≡ way_at v number p h.boxes =
    λ v number p. way_gave v number p h.boxes x st.box st.copy st.is st.in_hand in
    subst AllTracked (sym st.after)
    (lane_after h h.depot ms k st.lane _ st.to (same_depot h.depot)
    (λ t. let prefix = t.prefix in
    tracked_as k h.depot h.depot st.lane _ h.boxes ms (same_depot h.depot) refl refl refl (let l = length-append st.lane.slips (slip ∷ []) in omega arith)
    (λ number p.
    let a = less k number p in
    let more : times_named (txn_of k number) p (drop st.lane.collected (st.lane.slips ++ slip ∷ []))
    ≡ times_named (txn_of k number) p (drop st.lane.collected st.lane.slips) + cond (names (txn_of k number) p slip) 1 0 =
    ap (times_named (txn_of k number) p) (drop-append-le st.lane.collected st.lane.slips (slip ∷ []) prefix)
    ∙ sum_last (λ (z : Slip). cond (names (txn_of k number) p z) 1 0) (drop st.lane.collected st.lane.slips) slip in
    omega (arith, a, more)) t)
    (λ v ne number p. let a = less v number p in let b = not_there v k number p st.copy.post refl ne in omega arith) s)
tracked_step room h (Reclaim slot generation) new w kept s st =
    subst AllTracked (sym st.2)
    (none_after h st.0 h.boxes (drops_turn h.depot (record { slot = slot; generation = generation }) (λ b blocks. Sealed b blocks 0) st.0 (λ b blocks. refl)
    (λ b blocks. refl) (λ b blocks e. cc) st.1).fits (λ v. same_way h.boxes h.boxes refl v) s)
tracked_step room h (Close b) new w kept s st =
    subst AllTracked (sym st.3) (none_after h h.depot _ (same_depot h.depot) (λ v. box_way h.boxes _ b st.0 _ refl st.1 refl v) s)
tracked_step room h _ new w kept s st =
    subst AllTracked (sym st.after)
    (none_after h h.depot _ (same_depot h.depot)
    (λ v. box_way h.boxes _ _ st.box _ refl st.is (ap (λ hand. post_of hand ++ drop st.box.taken st.box.accepted) (sym st.in_hand)) v) s)

tracked_run : (room : ℕ) (h : House) (run : List Happened) → AllWithin room h → KeptSoFar h → AllTracked h → Run h run → IsOrderly room h run
    → AllTracked (last_house h run)
tracked_run room h [] w kept s r o = s
tracked_run room h (x ∷ xs) w kept s r o =
    tracked_run room x.house xs (within_step room h x.event x.house w r.0 o.0) (kept_step h x.event x.house kept r.0)
    (tracked_step room h x.event x.house w kept s r.0) r.1 o.1

pub tracked_start : (blocks : ℕ) (h : House) → IsStart blocks h → AllTracked h
tracked_start blocks h start k lane is =
    let f = each_at IsFreshLane h.lanes k lane start.lanes is in
    record {
      sealed = subst (AllByRecursion (IsKeptIn h.depot)) (sym f.messages) tt;
      prefix = let c = f.collected in omega arith;
      last = λ i t at. let bad : slice_get {X = SealedMessage} [] i ≡ Some t = ap (λ ts. slice_get ts i) (sym f.messages) ∙ at in cc;
      none = λ e. ap length f.places;
      given = λ number p. let none : count_by (is_given number p) lane.messages ≡ 0 = ap (count_by (is_given number p)) f.messages in omega arith;
    }

pub every_orderly_tracked : (room blocks : ℕ) (start : House) (run : List Happened) → IsStart blocks start → Run start run → IsOrderly room start run
    → AllTracked (last_house start run)
every_orderly_tracked room blocks start run is r o =
    tracked_run room start run (within_start room blocks start is) (kept_start blocks start is) (tracked_start blocks start is) r o
