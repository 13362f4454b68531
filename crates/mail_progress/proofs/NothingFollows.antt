-- Where all is finished, nothing goes on.
use Rattle.std.proofs.Common.{◌≡◌, ℕ, List, [], Option, Some, None, refl, ap, sym, ◌∙◌, arith}
use Rattle.std.specs.Prelude.{slice_get}
use Rattle.std.proofs.lemmas.Option.{slice_get_within}
use Rattle.mail_world.specs.declared.Event.{Event}
use Rattle.mail_world.specs.declared.Event.TheVariants.{Cancel, Seal, Split, Offer, HandBack, Collect, Take, Lock, Write, Sync}
use Rattle.mail_world.specs.declared.Event.TheVariants.{Unlock, Release, GiveSlip, Reclaim}
use Rattle.mail_world.specs.Depot.{Key, Sealed}
use Rattle.mail_world.specs.House.{Hold, Copy, Box, Lane, House}
use Rattle.mail_world.specs.Events.{Step, LaneIs, BoxIs}
use Rattle.mail_world.proofs.Depots.{used}
use Rattle.mail_progress.specs.GoingOn.{GoesOn}
use Rattle.mail_progress.specs.Finished.{IsFinished, FinishedIsStill}

no_draft_there : (blocks : ℕ) (events : List Event) (h : House) → IsFinished blocks events h → (k : ℕ) (lane : Lane) (key : Key) → LaneIs h k lane
    → lane.draft ≡ Some key → ⊥
no_draft_there blocks events h f k lane key at draft = let bad : ◌≡◌ {A = Option Key} None (Some key) = sym (f.no_draft k lane at) ∙ draft in cc

no_hold_there : (blocks : ℕ) (events : List Event) (h : House) → IsFinished blocks events h → (k i : ℕ) (lane : Lane) (hold : Hold) → LaneIs h k lane
    → slice_get lane.holds i ≡ Some hold → ⊥
no_hold_there blocks events h f k i lane hold at there = let bad : slice_get {X = Hold} [] i ≡ Some hold =
    ap (λ hs. slice_get hs i) (sym (f.none_to_offer k lane at)) ∙ there in cc

no_copy_there : (blocks : ℕ) (events : List Event) (h : House) → IsFinished blocks events h → (w : ℕ) (box : Box) (copy : Copy) → BoxIs h w box
    → box.hand ≡ Some copy → ⊥
no_copy_there blocks events h f w box copy at hand = let bad : ◌≡◌ {A = Option Copy} None (Some copy) = sym (f.free_hand w box at) ∙ hand in cc

none_goes_on : (blocks : ℕ) (next : ℕ → ℕ) (events : List Event) (h : House) → IsFinished blocks events h → (e : Event) (new : House) → GoesOn next h e
    → Step h e new → ⊥
none_goes_on blocks next events h f (Cancel k) new goes st = no_draft_there blocks events h f k st.lane st.key st.is st.draft
none_goes_on blocks next events h f (Seal k n) new goes st = no_draft_there blocks events h f k st.lane st.key st.is st.draft
none_goes_on blocks next events h f (Split k i) new goes st = no_hold_there blocks events h f k i st.lane _ st.is st.hold
none_goes_on blocks next events h f (Offer k note) new goes st = no_hold_there blocks events h f k st.at st.lane _ st.is st.copy.hold
none_goes_on blocks next events h f (HandBack k i b) new goes st = no_hold_there blocks events h f k i st.lane _ st.is st.copy.hold
none_goes_on blocks next events h f (Collect k) new goes st =
    let low = slice_get_within st.lane.slips st.lane.collected st.slip st.oldest in
    let all = f.collected k st.lane st.is in absurd (omega arith)
none_goes_on blocks next events h f (Take w) new goes st =
    let low = slice_get_within st.box.accepted st.box.taken st.post st.oldest in
    let all = f.drained w st.box st.is in absurd (omega arith)
none_goes_on blocks next events h f (Write w bytes) new goes st = no_copy_there blocks events h f w st.box st.copy st.is st.in_hand
none_goes_on blocks next events h f (Lock w bytes) new goes st = no_copy_there blocks events h f w st.box st.copy st.is st.in_hand
none_goes_on blocks next events h f (Unlock w) new goes st = no_copy_there blocks events h f w st.box st.copy st.is st.in_hand
none_goes_on blocks next events h f (Sync w) new goes st = no_copy_there blocks events h f w st.box st.copy st.is st.in_hand
none_goes_on blocks next events h f (Release w) new goes st = no_copy_there blocks events h f w st.box st.copy st.is st.in_hand
none_goes_on blocks next events h f (GiveSlip w outcome) new goes st = no_copy_there blocks events h f w st.box st.copy st.is st.in_hand
none_goes_on blocks next events h f (Reclaim slot generation) new goes st =
    let key : Key = record { slot = slot; generation = generation } in
    f.reclaimed slot _ st.1.bytes st.1.blocks 0 (used h.depot key (Sealed st.1.bytes st.1.blocks 0) st.1.message (λ e. cc)) refl
none_goes_on blocks next events h f _ new goes st = goes

pub finished_is_still : FinishedIsStill
finished_is_still room blocks next events h f m = none_goes_on blocks next events h f m.event m.happens.0 m.goes_on m.happens.1
