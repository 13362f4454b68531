-- Steps of a worker or of the house that have no result.
use Rattle.std.proofs.Common.{◌≡◌, ◌≢◌, ℕ, ◌<◌, ◌≤◌, List, ◌++◌, length, drop, Bool, true, false, Some, None, ap, sym, ◌∙◌, subst, arith}
use Rattle.std.specs.Prelude.{slice_get}
use Rattle.std.proofs.lemmas.Option.{slice_get_within}
use Rattle.mail_world.specs.declared.Outcome.{Outcome}
use Rattle.mail_world.specs.Turns.{Standing}
use Rattle.mail_world.specs.Depot.{Key, Free, Draft, Sealed, Retired, held_under, weight_held}
use Rattle.mail_world.specs.House.{House, Box, Progress, Going, is_taken, is_going, is_done, Copy}
use Rattle.mail_world.specs.Events.{TakeStep, LockStep, MissStep, WriteStep, SyncStep, CutStep, UnlockStep, ReleaseStep, GiveSlipStep, ReclaimStep, CloseStep}
use Rattle.mail_world.specs.Events.{BoxIs, outcome_of, added, end_of}
use Rattle.mail_world.proofs.WrongSteps.{not_both, none_some, same_box, same_copy, no_copy}

pub take_with_copy : (h new : House) (w : ℕ) (box : Box) (copy : Copy) → BoxIs h w box → box.hand ≡ Some copy → TakeStep h w new → ⊥
take_with_copy h new w box copy is hand st =
    none_some st.box.hand copy st.free_hand (ap (λ (x : Box). x.hand) (same_box h w st.box box st.is is) ∙ hand)

pub take_of_none : (h new : House) (w : ℕ) (box : Box) → BoxIs h w box → length box.accepted ≤ box.taken → TakeStep h w new → ⊥
take_of_none h new w box is none st =
    let there = ap (λ (x : Box). slice_get x.accepted x.taken) (same_box h w box st.box is st.is) ∙ st.oldest in
    absurd (omega (arith, slice_get_within box.accepted box.taken st.post there))

-- the copy has come elsewhere than the event needs it
elsewhere : (h : House) (w : ℕ) (box other : Box) (copy in_step : Copy) (is_at : Progress → Bool) → BoxIs h w box → BoxIs h w other → box.hand ≡ Some copy
    → other.hand ≡ Some in_step → is_at copy.progress ≡ false → is_at in_step.progress ≡ true → ⊥
elsewhere h w box other copy in_step is_at is at hand in_hand no' yes' =
    not_both (is_at in_step.progress) yes'
    (ap (λ (x : Copy). is_at x.progress) (sym (same_copy h w box other copy in_step is at hand in_hand)) ∙ no')

pub lock_unless_taken : (h new : House) (w : ℕ) (bytes : List ℕ) (box : Box) (copy : Copy) → BoxIs h w box → box.hand ≡ Some copy
    → is_taken copy.progress ≡ false → LockStep h w bytes new → ⊥
lock_unless_taken h new w bytes box copy is hand no' st = elsewhere h w box st.box copy st.copy is_taken is st.is hand st.in_hand no' (ap is_taken st.first)

pub miss_unless_taken : (h new : House) (w : ℕ) (box : Box) (copy : Copy) → BoxIs h w box → box.hand ≡ Some copy → is_taken copy.progress ≡ false
    → MissStep h w new → ⊥
miss_unless_taken h new w box copy is hand no' st = elsewhere h w box st.box copy st.copy is_taken is st.is hand st.in_hand no' (ap is_taken st.first)

pub write_unless_going : (h new : House) (w : ℕ) (bytes : List ℕ) (box : Box) (copy : Copy) → BoxIs h w box → box.hand ≡ Some copy
    → is_going copy.progress ≡ false → WriteStep h w bytes new → ⊥
write_unless_going h new w bytes box copy is hand no' st = elsewhere h w box st.box copy st.copy is_going is st.is hand st.in_hand no' (ap is_going st.going)

pub sync_unless_going : (h new : House) (w : ℕ) (box : Box) (copy : Copy) → BoxIs h w box → box.hand ≡ Some copy → is_going copy.progress ≡ false
    → SyncStep h w new → ⊥
sync_unless_going h new w box copy is hand no' st = elsewhere h w box st.box copy st.copy is_going is st.is hand st.in_hand no' (ap is_going st.going)

pub cut_unless_going : (h new : House) (w : ℕ) (box : Box) (copy : Copy) → BoxIs h w box → box.hand ≡ Some copy → is_going copy.progress ≡ false
    → CutStep h w new → ⊥
cut_unless_going h new w box copy is hand no' st = elsewhere h w box st.box copy st.copy is_going is st.is hand st.in_hand no' (ap is_going st.going)

pub unlock_out_of_turn : (h new : House) (w : ℕ) (box : Box) (copy : Copy) → BoxIs h w box → box.hand ≡ Some copy → end_of copy.progress ≡ None
    → UnlockStep h w new → ⊥
unlock_out_of_turn h new w box copy is hand none st =
    let same = same_copy h w box st.box copy st.copy is st.is hand st.in_hand in
    none_some (end_of st.copy.progress) st.end (ap (λ (x : Copy). end_of x.progress) (sym same) ∙ none) st.in_turn

pub release_unless_done : (h new : House) (w : ℕ) (box : Box) (copy : Copy) → BoxIs h w box → box.hand ≡ Some copy → is_done copy.progress ≡ false
    → ReleaseStep h w new → ⊥
release_unless_done h new w box copy is hand no' st = elsewhere h w box st.box copy st.copy is_done is st.is hand st.in_hand no' (ap is_done st.done)

pub write_of_other_bytes : (h new : House) (w : ℕ) (bytes : List ℕ) (box : Box) (copy : Copy) (lock : Standing) (written : ℕ) → BoxIs h w box
    → box.hand ≡ Some copy → copy.progress ≡ Going lock written
    → ((more : List ℕ) → drop written (added h copy.post.note lock.bytes) ≢ bytes ++ more) → WriteStep h w bytes new → ⊥
write_of_other_bytes h new w bytes box copy lock written is hand going other st =
    let same = same_copy h w box st.box copy st.copy is st.is hand st.in_hand in
    let at : Going lock written ≡ Going st.lock st.written = sym going ∙ ap (λ (x : Copy). x.progress) same ∙ st.going in
    let here : lock ≡ st.lock = cc in
    let many : written ≡ st.written = cc in
    other st.more (
    ap (λ n. drop n (added h copy.post.note lock.bytes)) many
    ∙ ap (λ (l : Standing). drop st.written (added h copy.post.note l.bytes)) here
    ∙ ap (λ (x : Copy). drop st.written (added h x.post.note st.lock.bytes)) same ∙ st.next)

pub sync_of_part : (h new : House) (w : ℕ) (box : Box) (copy : Copy) (lock : Standing) (written : ℕ) → BoxIs h w box → box.hand ≡ Some copy
    → copy.progress ≡ Going lock written → written ≢ length (added h copy.post.note lock.bytes) → SyncStep h w new → ⊥
sync_of_part h new w box copy lock written is hand going part st =
    let same = same_copy h w box st.box copy st.copy is st.is hand st.in_hand in
    let at : Going lock written ≡ Going st.lock st.written = sym going ∙ ap (λ (x : Copy). x.progress) same ∙ st.going in
    let here : lock ≡ st.lock = cc in
    let many : written ≡ st.written = cc in
    part (many ∙ st.whole
    ∙ ap (λ (x : Copy). length (added h x.post.note st.lock.bytes)) (sym same)
    ∙ ap (λ (l : Standing). length (added h copy.post.note l.bytes)) (sym here))

pub release_without_copy : (h new : House) (w : ℕ) (box : Box) → BoxIs h w box → box.hand ≡ None → ReleaseStep h w new → ⊥
release_without_copy h new w box is none st = no_copy h w box st.box st.copy is st.is none st.in_hand

pub release_twice : (h new : House) (w : ℕ) (box : Box) (copy : Copy) → BoxIs h w box → box.hand ≡ Some copy → copy.released ≡ true → ReleaseStep h w new → ⊥
release_twice h new w box copy is hand gone st =
    let same = same_copy h w box st.box copy st.copy is st.is hand st.in_hand in
    not_both st.copy.released (ap (λ (x : Copy). x.released) (sym same) ∙ gone) st.held

pub slip_without_copy : (h new : House) (w : ℕ) (outcome : Outcome) (box : Box) → BoxIs h w box → box.hand ≡ None → GiveSlipStep h w outcome new → ⊥
slip_without_copy h new w outcome box is none st = no_copy h w box st.box st.copy is st.is none st.in_hand

pub slip_before_release : (h new : House) (w : ℕ) (outcome : Outcome) (box : Box) (copy : Copy) → BoxIs h w box → box.hand ≡ Some copy → copy.released ≡ false
    → GiveSlipStep h w outcome new → ⊥
slip_before_release h new w outcome box copy is hand there st =
    let same = same_copy h w box st.box copy st.copy is st.is hand st.in_hand in
    not_both st.copy.released st.let_go (ap (λ (x : Copy). x.released) (sym same) ∙ there)

pub slip_that_lies : (h new : House) (w : ℕ) (outcome : Outcome) (box : Box) (copy : Copy) → BoxIs h w box → box.hand ≡ Some copy
    → outcome ≢ outcome_of copy → GiveSlipStep h w outcome new → ⊥
slip_that_lies h new w outcome box copy is hand lies st =
    let same = same_copy h w box st.box copy st.copy is st.is hand st.in_hand in
    lies (subst (λ (x : Copy). outcome ≡ outcome_of x) (sym same) st.says)

pub reclaim_of_held : (h new : House) (key : Key) (bytes blocks : List ℕ) (weight : ℕ) → held_under h.depot key ≡ Sealed bytes blocks weight → 0 < weight
    → ReclaimStep h key new → ⊥
reclaim_of_held h new key bytes blocks weight held some st =
    let none : weight ≡ 0 = ap weight_held (sym held ∙ st.1.message) in
    absurd (omega arith)

pub reclaim_of_draft : (h new : House) (key : Key) (bytes blocks : List ℕ) → held_under h.depot key ≡ Draft bytes blocks → ReclaimStep h key new → ⊥
reclaim_of_draft h new key bytes blocks held st = let bad : Draft bytes blocks ≡ Sealed st.1.bytes st.1.blocks 0 = sym held ∙ st.1.message in cc

pub reclaim_of_nothing : (h new : House) (key : Key) → held_under h.depot key ≡ Free → ReclaimStep h key new → ⊥
reclaim_of_nothing h new key held st = let bad : Free ≡ Sealed st.1.bytes st.1.blocks 0 = sym held ∙ st.1.message in cc

pub reclaim_of_retired : (h new : House) (key : Key) → held_under h.depot key ≡ Retired → ReclaimStep h key new → ⊥
reclaim_of_retired h new key held st = let bad : Retired ≡ Sealed st.1.bytes st.1.blocks 0 = sym held ∙ st.1.message in cc

pub close_twice : (h new : House) (b : ℕ) (box : Box) → BoxIs h b box → box.closed ≡ true → CloseStep h b new → ⊥
close_twice h new b box is closed st =
    not_both st.0.closed (ap (λ (x : Box). x.closed) (same_box h b st.0 box st.1 is) ∙ closed) st.2
