-- The steps of workers, by rank: one of the rank goes on, or none does.
use Rattle.std.proofs.Common.{◌≡◌, ℕ, ◌<◌, ◌≤◌, List, [], ◌∷◌, length, drop, true, false, Option, Some, None, inl, inr, refl, ap, ◌∙◌, subst, arith, ◌++◌}
use Rattle.std.proofs.Common.{length-append}
use Rattle.std.specs.Prelude.{IfSome}
use Rattle.std.proofs.lemmas.List.{length-drop}
use Rattle.std.proofs.lemmas.Option.{slice_get_within}
use Rattle.std.proofs.Math.Bool.{Bool-discrete}
use Rattle.std.proofs.Math.Decide.{dec_le, dec_lt, ℕ_discrete}
use Rattle.std.proofs.Math.Logic.Dec
use Rattle.mail_world.specs.declared.Event.{Event}
use Rattle.mail_world.specs.declared.Event.TheVariants.{Take, Lock, Write, Sync, Unlock, Release, GiveSlip}
use Rattle.mail_world.specs.declared.Outcome.TheVariants.{Stored, Failed, OverQuota}
use Rattle.mail_world.specs.Turns.{Standing}
use Rattle.mail_world.specs.House.{Progress, Taken, Going, Full, Synced, CutBack, Done, is_taken, is_going, is_done, Copy, Box, House}
use Rattle.mail_world.specs.Events.{MayHappen, BoxIs, added, TurnEnd, end_of}
use Rattle.mail_world.proofs.WrongSteps.{same_some}
use Rattle.mail_progress.specs.GoingOn.{GoesOn, rest_at, rest_of, may_only_end}
use Rattle.mail_progress.specs.NothingStuck.{TheWorker}
use Rattle.mail_progress.specs.InTurn.{rank}
use Rattle.mail_progress.proofs.Search.{search_for}
use Rattle.mail_progress.proofs.Reached.{IsReached}
use Rattle.mail_progress.proofs.CopyMovers.{take_moves, lock_moves, write_moves, unlock_moves, release_moves, give_moves}
use Rattle.mail_progress.proofs.AllFinished.{goes_on}
use Rattle.mail_progress.proofs.Ranks.{HasRank, NoRank, IsDecided}

-- no mailbox is so
abbrev NoBox : House → (Box → Type 0) → Type 0
NoBox h P = (w : ℕ) (box : Box) → BoxIs h w box → P box → ⊥

-- mailboxes are searched
by_boxes : (room : ℕ) (next : ℕ → ℕ) (h : House) (r : ℕ) (P : Box → Type 0) → ((box : Box) → Dec (P box))
    → ((w : ℕ) (box : Box) → BoxIs h w box → P box → HasRank room next h r)
    → (NoBox h P → NoRank room next h r) → IsDecided room next h r
by_boxes room next h r P each has none = elim (search_for (λ w box. P box) h.boxes (λ w box at. each box)) [
  | inl there ↦ inl (has there.0 there.1 there.2 there.3)
  | inr no_box ↦ inr (none no_box)
]

-- a copy in hand that is so
abbrev InHand : (Copy → Type 0) → Box → Type 0
InHand P box = (copy : Copy) × (box.hand ≡ Some copy) × P copy

in_hand : (P : Copy → Type 0) → ((copy : Copy) → Dec (P copy)) → (box : Box) → Dec (InHand P box)
in_hand P each box = by box.hand refl
  where
    by : (hand : Option Copy) → box.hand ≡ hand → Dec (InHand P box)
    by None e = no (λ has. let is = has.1 in cc)
    by (Some copy) e = elim (each copy) [
      | yes here ↦ yes (copy, e, here)
      | no bad ↦ no (λ has. bad (subst P (same_some box.hand has.0 copy has.1 e) has.2))
    ]

-- a copy to take
abbrev HasPrefix : Box → Type 0
HasPrefix box = (box.taken < length box.accepted) × (box.hand ≡ None)

has_prefix : (box : Box) → Dec (HasPrefix box)
has_prefix box = Dec.and (dec_lt box.taken (length box.accepted)) (free box.hand)
  where
    free : (hand : Option Copy) → Dec (hand ≡ None)
    free None = yes refl
    free (Some copy) = no (λ e. cc)

no_prefix : (h : House) → NoBox h HasPrefix → (event : Event) → MayHappen h event → rank event ≡ 3 → ⊥
no_prefix h none (Take w) happens e =
    let st = happens.1 in
    none w st.box st.is (slice_get_within st.box.accepted st.box.taken st.post st.oldest, st.free_hand)
no_prefix h none event happens e = absurd (omega arith)

prefix_ranks : (room : ℕ) (next : ℕ → ℕ) (h : House) (w : ℕ) (box : Box) → BoxIs h w box → HasPrefix box → HasRank room next h 3
unfolding take_moves
prefix_ranks room next h w box at has = (goes_on (TheWorker w) room next h (take_moves room next h w box at has.0 has.1), refl)

pub takes_decided : (room : ℕ) (next : ℕ → ℕ) (h : House) → IsDecided room next h 3
takes_decided room next h = by_boxes room next h 3 HasPrefix has_prefix (prefix_ranks room next h) (λ none m e. no_prefix h none m.event m.happens e)

-- a copy whose turn begins
abbrev IsToLock : Box → Type 0
IsToLock box = InHand (λ copy. is_taken copy.progress ≡ true) box

no_lock : (h : House) → NoBox h IsToLock → (event : Event) → MayHappen h event → rank event ≡ 4 → ⊥
no_lock h none (Lock w bytes) happens e = let st = happens.1 in none w st.box st.is (st.copy, st.in_hand, ap is_taken st.first)
no_lock h none event happens e = absurd (omega arith)

taken_ranks : (room : ℕ) (next : ℕ → ℕ) (h : House) (w : ℕ) (box : Box) (copy : Copy) → BoxIs h w box → box.hand ≡ Some copy → is_taken copy.progress ≡ true
    → (progress : Progress) → copy.progress ≡ progress → HasRank room next h 4
unfolding lock_moves
taken_ranks room next h w box copy at hand is Taken p = (goes_on (TheWorker w) room next h (lock_moves room next h w box copy at hand p), refl)
taken_ranks room next h w box copy at hand is _ p = let bad = ap is_taken p in cc

pub locks_decided : (room blocks : ℕ) (next : ℕ → ℕ) (h : House) → IsReached room blocks h → IsDecided room next h 4
locks_decided room blocks next h f =
    by_boxes room next h 4 IsToLock (λ box. in_hand _ (λ copy. Bool-discrete (is_taken copy.progress) true) box)
    (λ w box at has. taken_ranks room next h w box has.0 at has.1 has.2 has.0.progress refl) (λ none m e. no_lock h none m.event m.happens e)

-- a copy of which more is to write, or none
abbrev HasMore : House → Box → Type 0
HasMore h box = InHand (λ copy. 1 ≤ length (rest_of h copy)) box

abbrev IsWhole : House → Box → Type 0
IsWhole h box = InHand (λ copy. (is_going copy.progress ≡ true) × (length (rest_of h copy) ≡ 0)) box

no_more : (next : ℕ → ℕ) (h : House) → NoBox h (HasMore h) → (event : Event) → GoesOn next h event → MayHappen h event → rank event ≡ 5 → ⊥
no_more next h none (Write w bytes) g happens e =
    let st = happens.1 in
    let some : 1 ≤ length bytes = g.0 in
    let rest : length (rest_of h st.copy) ≡ length (bytes ++ st.more) = ap length (ap (rest_at h st.copy.post.note) st.going ∙ st.next) in
    none w st.box st.is (st.copy, st.in_hand, omega (arith, length-append bytes st.more))
no_more next h none event g happens e = absurd (omega arith)

not_whole : (h : House) → NoBox h (IsWhole h) → (event : Event) → MayHappen h event → rank event ≡ 6 → ⊥
not_whole h none (Sync w) happens e =
    let st = happens.1 in
    let whole = st.whole in
    let all : List ℕ = added h st.copy.post.note st.lock.bytes in
    let rest : length (rest_of h st.copy) ≡ length (drop st.written all) = ap (λ p. length (rest_at h st.copy.post.note p)) st.going in
    let none_left : length (rest_of h st.copy) ≡ 0 = omega (arith, length-drop st.written all, rest, whole) in
    none w st.box st.is (st.copy, st.in_hand, (ap is_going st.going, none_left))
not_whole h none event happens e = absurd (omega arith)

-- nothing is to write where the turn doesn't go on
no_rest : (h : House) (copy : Copy) (progress : Progress) → copy.progress ≡ progress → rest_at h copy.post.note progress ≡ [] → 1 ≤ length (rest_of h copy) → ⊥
no_rest h copy progress p none some =
    let e : length (rest_of h copy) ≡ 0 = ap (λ x. length (rest_at h copy.post.note x)) p ∙ ap length none in omega (arith, e, some)

going_ranks : (room blocks : ℕ) (next : ℕ → ℕ) (h : House) → IsReached room blocks h → (w : ℕ) (box : Box) (copy : Copy) → BoxIs h w box
    → box.hand ≡ Some copy → 1 ≤ length (rest_of h copy) → (at_lock : Standing) (written : ℕ) → copy.progress ≡ Going at_lock written
    → (rest : List ℕ) → drop written (added h copy.post.note at_lock.bytes) ≡ rest → HasRank room next h 5
unfolding write_moves
going_ranks room blocks next h f w box copy at hand some at_lock written p [] e = absurd (no_rest h copy (Going at_lock written) p e some)
going_ranks room blocks next h f w box copy at hand some at_lock written p (x ∷ xs) e =
    (goes_on (TheWorker w) room next h (write_moves room blocks next h f w box copy at hand at_lock written p (x ∷ xs) e), refl)

more_ranks : (room blocks : ℕ) (next : ℕ → ℕ) (h : House) → IsReached room blocks h → (w : ℕ) (box : Box) (copy : Copy) → BoxIs h w box
    → box.hand ≡ Some copy → 1 ≤ length (rest_of h copy) → (progress : Progress) → copy.progress ≡ progress → HasRank room next h 5
more_ranks room blocks next h f w box copy at hand some (Going at_lock written) p =
    going_ranks room blocks next h f w box copy at hand some at_lock written p (drop written (added h copy.post.note at_lock.bytes)) refl
more_ranks room blocks next h f w box copy at hand some other p = absurd (no_rest h copy other p refl some)

all_ranks : (room blocks : ℕ) (next : ℕ → ℕ) (h : House) → IsReached room blocks h → (w : ℕ) (box : Box) (copy : Copy) → BoxIs h w box
    → box.hand ≡ Some copy → length (rest_of h copy) ≡ 0 → (at_lock : Standing) (written : ℕ) → copy.progress ≡ Going at_lock written
    → (rest : List ℕ) → drop written (added h copy.post.note at_lock.bytes) ≡ rest → HasRank room next h 6
unfolding write_moves
all_ranks room blocks next h f w box copy at hand none at_lock written p [] e =
    (goes_on (TheWorker w) room next h (write_moves room blocks next h f w box copy at hand at_lock written p [] e), refl)
all_ranks room blocks next h f w box copy at hand none at_lock written p (x ∷ xs) e =
    let some : length (rest_of h copy) ≡ length (x ∷ xs) = ap (λ q. length (rest_at h copy.post.note q)) p ∙ ap length e in absurd (omega (arith, some, none))

whole_ranks : (room blocks : ℕ) (next : ℕ → ℕ) (h : House) → IsReached room blocks h → (w : ℕ) (box : Box) (copy : Copy) → BoxIs h w box
    → box.hand ≡ Some copy → is_going copy.progress ≡ true → length (rest_of h copy) ≡ 0 → (progress : Progress) → copy.progress ≡ progress
    → HasRank room next h 6
whole_ranks room blocks next h f w box copy at hand is none (Going at_lock written) p =
    all_ranks room blocks next h f w box copy at hand none at_lock written p (drop written (added h copy.post.note at_lock.bytes)) refl
whole_ranks room blocks next h f w box copy at hand is none _ p = let bad = ap is_going p in cc

pub writes_decided : (room blocks : ℕ) (next : ℕ → ℕ) (h : House) → IsReached room blocks h → IsDecided room next h 5
writes_decided room blocks next h f =
    by_boxes room next h 5 (HasMore h) (λ box. in_hand _ (λ copy. dec_le 1 (length (rest_of h copy))) box)
    (λ w box at has. more_ranks room blocks next h f w box has.0 at has.1 has.2 has.0.progress refl)
    (λ none m e. no_more next h none m.event m.goes_on m.happens e)

pub syncs_decided : (room blocks : ℕ) (next : ℕ → ℕ) (h : House) → IsReached room blocks h → IsDecided room next h 6
syncs_decided room blocks next h f =
    by_boxes room next h 6 (IsWhole h)
    (λ box. in_hand _ (λ copy. Dec.and (Bool-discrete (is_going copy.progress) true) (ℕ_discrete (length (rest_of h copy)) 0)) box)
    (λ w box at has. whole_ranks room blocks next h f w box has.0 at has.1 has.2.0 has.2.1 has.0.progress refl)
    (λ none m e. not_whole h none m.event m.happens e)

-- a copy whose turn may only end
abbrev IsToEnd : Box → Type 0
IsToEnd box = InHand (λ copy. may_only_end copy.progress ≡ true) box

no_end : (next : ℕ → ℕ) (h : House) → NoBox h IsToEnd → (event : Event) → GoesOn next h event → MayHappen h event → rank event ≡ 7 → ⊥
no_end next h none (Unlock w) g happens e =
    let st = happens.1 in
    let P : Copy → Type 0 = λ copy. may_only_end copy.progress ≡ true in
    let hand : IfSome st.box.hand P = subst (λ b. IfSome b (λ (box : Box). IfSome box.hand P)) st.is g in
    none w st.box st.is (st.copy, st.in_hand, subst (λ c. IfSome c P) st.in_hand hand)
no_end next h none event g happens e = absurd (omega arith)

end_ranks : (room blocks : ℕ) (next : ℕ → ℕ) (h : House) → IsReached room blocks h → (w : ℕ) (box : Box) (copy : Copy) → BoxIs h w box
    → box.hand ≡ Some copy → may_only_end copy.progress ≡ true → (end : TurnEnd) → end_of copy.progress ≡ Some end → HasRank room next h 7
unfolding unlock_moves
end_ranks room blocks next h f w box copy at hand may end ends =
    (goes_on (TheWorker w) room next h (unlock_moves room blocks next h f w box copy at hand end ends may), refl)

turn_ranks : (room blocks : ℕ) (next : ℕ → ℕ) (h : House) → IsReached room blocks h → (w : ℕ) (box : Box) (copy : Copy) → BoxIs h w box
    → box.hand ≡ Some copy → may_only_end copy.progress ≡ true → (progress : Progress) → copy.progress ≡ progress → HasRank room next h 7
turn_ranks room blocks next h f w box copy at hand may (Full at_lock) p =
    end_ranks room blocks next h f w box copy at hand may (record { lock = at_lock; outcome = OverQuota }) (ap end_of p)
turn_ranks room blocks next h f w box copy at hand may (Synced at_lock) p =
    end_ranks room blocks next h f w box copy at hand may (record { lock = at_lock; outcome = Stored }) (ap end_of p)
turn_ranks room blocks next h f w box copy at hand may (CutBack at_lock) p =
    end_ranks room blocks next h f w box copy at hand may (record { lock = at_lock; outcome = Failed }) (ap end_of p)
turn_ranks room blocks next h f w box copy at hand may _ p = let bad = ap may_only_end p in cc

pub unlocks_decided : (room blocks : ℕ) (next : ℕ → ℕ) (h : House) → IsReached room blocks h → IsDecided room next h 7
unlocks_decided room blocks next h f =
    by_boxes room next h 7 IsToEnd (λ box. in_hand _ (λ copy. Bool-discrete (may_only_end copy.progress) true) box)
    (λ w box at has. turn_ranks room blocks next h f w box has.0 at has.1 has.2 has.0.progress refl)
    (λ none m e. no_end next h none m.event m.goes_on m.happens e)

-- a copy to let go of
abbrev IsToLetGo : Box → Type 0
IsToLetGo box = InHand (λ copy. (copy.released ≡ false) × (is_done copy.progress ≡ true)) box

no_release : (h : House) → NoBox h IsToLetGo → (event : Event) → MayHappen h event → rank event ≡ 8 → ⊥
no_release h none (Release w) happens e = let st = happens.1 in none w st.box st.is (st.copy, st.in_hand, (st.held, ap is_done st.done))
no_release h none event happens e = absurd (omega arith)

release_ranks : (room blocks : ℕ) (next : ℕ → ℕ) (h : House) → IsReached room blocks h → (w : ℕ) (box : Box) (copy : Copy) → BoxIs h w box
    → box.hand ≡ Some copy → copy.released ≡ false → is_done copy.progress ≡ true → (progress : Progress) → copy.progress ≡ progress → HasRank room next h 8
unfolding release_moves
release_ranks room blocks next h f w box copy at hand held is (Done outcome) p =
    (goes_on (TheWorker w) room next h (release_moves room blocks next h f w box copy at hand outcome p held), refl)
release_ranks room blocks next h f w box copy at hand held is _ p = let bad = ap is_done p in cc

pub releases_decided : (room blocks : ℕ) (next : ℕ → ℕ) (h : House) → IsReached room blocks h → IsDecided room next h 8
releases_decided room blocks next h f =
    by_boxes room next h 8 IsToLetGo
    (λ box. in_hand _ (λ copy. Dec.and (Bool-discrete copy.released false) (Bool-discrete (is_done copy.progress) true)) box)
    (λ w box at has. release_ranks room blocks next h f w box has.0 at has.1 has.2.0 has.2.1 has.0.progress refl)
    (λ none m e. no_release h none m.event m.happens e)

-- a copy whose slip is to give
abbrev HasLetGo : Box → Type 0
HasLetGo box = InHand (λ copy. copy.released ≡ true) box

no_give : (h : House) → NoBox h HasLetGo → (event : Event) → MayHappen h event → rank event ≡ 9 → ⊥
no_give h none (GiveSlip w outcome) happens e = let st = happens.1 in none w st.box st.is (st.copy, st.in_hand, st.let_go)
no_give h none event happens e = absurd (omega arith)

give_ranks : (room blocks : ℕ) (next : ℕ → ℕ) (h : House) → IsReached room blocks h → (w : ℕ) (box : Box) → BoxIs h w box → HasLetGo box → HasRank room next h 9
unfolding give_moves
give_ranks room blocks next h f w box at has = (goes_on (TheWorker w) room next h (give_moves room blocks next h f w box has.0 at has.1 has.2), refl)

pub gives_decided : (room blocks : ℕ) (next : ℕ → ℕ) (h : House) → IsReached room blocks h → IsDecided room next h 9
gives_decided room blocks next h f =
    by_boxes room next h 9 HasLetGo (λ box. in_hand _ (λ copy. Bool-discrete copy.released true) box) (give_ranks room blocks next h f)
    (λ none m e. no_give h none m.event m.happens e)
