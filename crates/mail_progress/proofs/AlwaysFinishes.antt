-- Steps that go on come to an end, and there all is finished.
use Rattle.std.proofs.Common.{◌≡◌, ◌⊎◌, ℕ, zero, suc, ◌<◌, ◌≤◌, List, [], ◌∷◌, ◌++◌, inl, inr, refl, ap, sym, subst, arith, append_assoc, append-nil}
use Rattle.mail_world.specs.declared.Event.{Event}
use Rattle.mail_world.specs.House.{House, IsStart}
use Rattle.mail_world.specs.Events.{Step}
use Rattle.mail_world.specs.Runs.{Happened, Run, last_house, events_of}
use Rattle.mail_progress.specs.Orderly.{IsInOrder, IsOrderly}
use Rattle.mail_progress.specs.NothingStuck.{AreClosed}
use Rattle.mail_progress.specs.StepsLeft.{steps_left}
use Rattle.mail_progress.specs.Finished.{IsFinished}
use Rattle.mail_progress.specs.Finishes.{Finishes, WhateverFollows, AlwaysFinishes, AreFirst, AreAlwaysThere, FinishesInTurn}
use Rattle.mail_progress.specs.InTurn.{IsFirst}
use Rattle.mail_progress.proofs.Lowered.{sound_so_far}
use Rattle.mail_progress.proofs.Shut.{closed_stays}
use Rattle.mail_progress.proofs.CopiesLeft.{copies_left, goes_less}
use Rattle.mail_progress.proofs.InTurn.{tried_in_turn}

-- a run and one more event
record IsRunTo (room : ℕ) (start : House) (run : List Happened) (events : List Event) (h : House) : Type 0 where
  runs : Run start run
  orderly : IsOrderly room start run
  tells : events_of run ≡ events
  there : last_house start run ≡ h

one_more : (room : ℕ) (start : House) (run : List Happened) (event : Event) (new : House) → Run start run → IsOrderly room start run
    → Step (last_house start run) event new → IsInOrder room (last_house start run) event
    → IsRunTo room start (run ++ record { event = event; house = new } ∷ []) (events_of run ++ event ∷ []) new
one_more room start [] event new r o st order = record { runs = (st, tt); orderly = (order, tt); tells = refl; there = refl }
one_more room start (x ∷ xs) event new r o st order =
    let rest = one_more room x.house xs event new r.1 o.1 st order in
    record { runs = (r.0, rest.runs); orderly = (o.0, rest.orderly); tells = ap (λ es. x.event ∷ es) rest.tells; there = rest.there }

-- the channels have a capacity, or all are closed
abbrev CanOffer : House → House → Type 0
CanOffer start h = (1 ≤ start.capacity) ⊎ AreClosed h

still_can : (start h : House) (event : Event) (new : House) → Step h event new → CanOffer start h → CanOffer start new
still_can start h event new st (inl some) = inl some
still_can start h event new st (inr shut) = inr (closed_stays h (record { event = event; house = new } ∷ []) (st, tt) shut)

-- the houses of such runs in which P holds finish
abbrev FinishWhere : ℕ → ℕ → House → (House → Type 0) → Type 0
FinishWhere room blocks start P = (run : List Happened) → Run start run → IsOrderly room start run → let h =
    last_house start run in CanOffer start h → P h → Finishes room blocks (events_of run) h

finishes_at : (room blocks : ℕ) (start : House) (P : House → Type 0) → FinishWhere room blocks start P → (events : List Event) (h : House) (run : List Happened)
    → IsRunTo room start run events h → CanOffer start h → P h → Finishes room blocks events h
finishes_at room blocks start P finish events h run to can holds =
    subst (Finishes room blocks events) to.there
    (subst (λ es. Finishes room blocks es (last_house start run)) to.tells
    (finish run to.runs to.orderly (subst (CanOffer start) (sym to.there) can) (subst P (sym to.there) holds)))

abbrev FewerCopies : ℕ → ℕ → House → Type 0
FewerCopies room n h = copies_left room h < n

abbrev FewerSteps : ℕ → ℕ → ℕ → ℕ → House → Type 0
FewerSteps room blocks n m h = (copies_left room h ≤ n) × (steps_left blocks room 0 h < m)

by_steps : (room blocks : ℕ) (start : House) → IsStart blocks start → 1 ≤ room → (n : ℕ) → FinishWhere room blocks start (FewerCopies room n) → (m : ℕ)
    → FinishWhere room blocks start (FewerSteps room blocks n m)
by_steps room blocks start is some n fewer zero run r o can less = let low = less.1 in absurd (omega arith)
by_steps room blocks start is some n fewer (suc m) run r o can less =
    let h = last_house start run in
    WhateverFollows (events_of run) h (λ next all. tried_in_turn room blocks start run is r o some can next all) (λ next event new goes order st.
    let to = one_more room start run event new r o st order in
    let still = still_can start h event new st can in
    elim (goes_less room blocks next h event new (sound_so_far blocks start run is r) goes order st) [
      | inl copies ↦ finishes_at room blocks start (FewerCopies room n) fewer _ new _ to still (let low = less.0 in omega arith)
      | inr steps ↦ finishes_at room blocks start (FewerSteps room blocks n m) (by_steps room blocks start is some n fewer m) _ new _ to still
          (let low = less.0 in let a = steps.0 in omega arith, let low = less.1 in let a = steps.1 in omega arith)
    ])

by_copies : (room blocks : ℕ) (start : House) → IsStart blocks start → 1 ≤ room → (n : ℕ) → FinishWhere room blocks start (FewerCopies room n)
by_copies room blocks start is some zero run r o can less = absurd (omega arith)
by_copies room blocks start is some (suc n) run r o can less =
    let h = last_house start run in
    by_steps room blocks start is some n (by_copies room blocks start is some n) (suc (steps_left blocks room 0 h)) run r o can (omega arith, omega arith)

pub always_finishes : AlwaysFinishes
always_finishes room blocks start run is r o some can =
    by_copies room blocks start is some (suc (copies_left room (last_house start run))) run r o can (omega arith)

-- the first steps, one after the other
abbrev FirstsFrom : ℕ → ℕ → (House → ℕ → ℕ) → List Event → House → Type 0
FirstsFrom room blocks next events h =
    (rest : List Happened) × Run h rest × IsOrderly room h rest × AreFirst room next h rest × IsFinished blocks (events ++ events_of rest) (last_house h rest)

one_first : (room blocks : ℕ) (next : House → ℕ → ℕ) (events : List Event) (h : House) (event : Event) (new : House) → IsFirst room (next h) h event
    → Step h event new → FirstsFrom room blocks next (events ++ event ∷ []) new → FirstsFrom room blocks next events h
one_first room blocks next events h event new first st rest =
    let finished = subst (λ es. IsFinished blocks es (last_house new rest.0)) (append_assoc events (event ∷ []) (events_of rest.0)) rest.4 in
    (record { event = event; house = new } ∷ rest.0, (st, rest.1), (first.in_order, rest.2), (first, rest.3), finished)

firsts : (room blocks : ℕ) (next : House → ℕ → ℕ) (events : List Event) (h : House) → Finishes room blocks events h → AreAlwaysThere next h
    → FirstsFrom room blocks next events h
firsts room blocks next _ _ (WhateverFollows events h tried onward) all = elim (tried (next h) (all [] tt)) [
  | inl finished ↦ ([], tt, tt, tt, subst (λ es. IsFinished blocks es h) (sym (append-nil events)) finished)
  | inr first ↦
      let event = first.0 in
      let new = first.1.happens.0 in
      let st = first.1.happens.1 in
      one_first room blocks next events h event new first.1 st
      (firsts room blocks next (events ++ event ∷ []) new (onward (next h) event new first.1.goes_on first.1.in_order st)
      (λ run r. all (record { event = event; house = new } ∷ run) (st, r)))
]

pub finishes_in_turn : FinishesInTurn
finishes_in_turn room blocks start run is r o some can next all =
    let h = last_house start run in
    firsts room blocks next (events_of run) h (always_finishes room blocks start run is r o some can) all
