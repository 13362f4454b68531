-- What makes a house of one lane and one mailbox stand still.
use Rattle.std.proofs.Common.{◌≡◌, ◌⊎◌, ℕ, zero, suc, ◌+◌, ◌<◌, ◌≤◌, List, [], ◌∷◌, length, true, false, Some, None, inl, inr, ap, sym, ◌∙◌, subst, arith}
use Rattle.std.specs.Prelude.{slice_get, IfSome}
use Rattle.std.proofs.lemmas.Option.{slice_get_within}
use Rattle.mail_world.specs.declared.Event.{Event}
use Rattle.mail_world.specs.declared.Event.TheVariants.{Cancel, Seal, Split, Offer, HandBack, Collect, Take, Lock, Write, Sync}
use Rattle.mail_world.specs.declared.Event.TheVariants.{Unlock, Release, GiveSlip, Reclaim}
use Rattle.mail_world.specs.Depot.{Key, Slot, Sealed}
use Rattle.mail_world.specs.House.{Hold, Copy, Box, Lane, House}
use Rattle.mail_world.specs.Events.{Step}
use Rattle.mail_world.specs.Runs.{open_by}
use Rattle.mail_world.proofs.Spools.{open_ending}
use Rattle.mail_world.proofs.Depots.{used}
use Rattle.mail_progress.specs.Orderly.{uncollected, IsInOrder, OfLane}
use Rattle.mail_progress.specs.GoingOn.{GoesOn, StandsStill}

-- the only element
pub only : {A : Type 0} (x y : A) (i : ℕ) → slice_get (x ∷ []) i ≡ Some y → x ≡ y
only x y zero e = cc
only x y (suc i) e = cc

-- nothing is in hand and nothing to take, or the slip of the copy in hand, whose turn is over, finds no room
abbrev pub CanNeither : ℕ → Lane → Box → Type 0
CanNeither room lane box = ((box.hand ≡ None) × (box.taken ≡ length box.accepted))
    ⊎ ((copy : Copy) × (box.hand ≡ Some copy) × (copy.released ≡ true)
    × (open_by copy.progress ≡ 0) × (copy.post.note.txn.lane ≡ 0) × (room ≤ uncollected lane))

-- the only lane has a copy to offer, and the only channel is open and full
module _ (room : ℕ) (h : House) (its_lane : Lane) (its_box : Box) (key : Key) (generation : ℕ) (bytes blocks : List ℕ) (weight : ℕ)
    (lanes : h.lanes ≡ its_lane ∷ []) (boxes : h.boxes ≡ its_box ∷ [])
    (slots : h.depot.slots ≡ record { generation = generation; held = Sealed bytes blocks (suc weight) } ∷ []) (no_draft : its_lane.draft ≡ None)
    (one_hold : its_lane.holds ≡ record { key = key; weight = 1 } ∷ []) (opened : its_box.closed ≡ false)
    (full : length its_box.accepted ≡ its_box.taken + h.capacity) (neither : CanNeither room its_lane its_box) where
  same_lane : (k : ℕ) (lane : Lane) → slice_get h.lanes k ≡ Some lane → its_lane ≡ lane
  same_lane k lane is = only its_lane lane k (ap (λ ls. slice_get ls k) (sym lanes) ∙ is)

  same_box : (w : ℕ) (box : Box) → slice_get h.boxes w ≡ Some box → its_box ≡ box
  same_box w box is = only its_box box w (ap (λ bs. slice_get bs w) (sym boxes) ∙ is)

  no_draft_there : (k : ℕ) (lane : Lane) (key : Key) → slice_get h.lanes k ≡ Some lane → lane.draft ≡ Some key → ⊥
  no_draft_there k lane key is e =
      let bad : None ≡ Some key = sym no_draft ∙ ap (λ (x : Lane). x.draft) (same_lane k lane is) ∙ e in cc

  -- a copy in hand that isn't released
  none_held : (w : ℕ) (box : Box) (copy : Copy) → slice_get h.boxes w ≡ Some box → box.hand ≡ Some copy
      → copy.released ≡ false → ⊥
  none_held w box copy is e f =
      let hand : its_box.hand ≡ Some copy = ap (λ (x : Box). x.hand) (same_box w box is) ∙ e in
      elim neither [
        | inl free ↦ let bad : None ≡ Some copy = sym free.0 ∙ hand in absurd (let f : ⊥ = cc in f)
        | inr stuck ↦
            let same : stuck.0 ≡ copy = let both : Some stuck.0 ≡ Some copy = sym stuck.1 ∙ hand in cc in
            let bad : true ≡ false = sym stuck.2 ∙ ap (λ (x : Copy). x.released) same ∙ f in absurd (let f : ⊥ = cc in f)
      ]

  -- and one whose turn goes on
  none_open : (w : ℕ) (box : Box) (copy : Copy) → slice_get h.boxes w ≡ Some box → box.hand ≡ Some copy
      → open_by copy.progress ≡ 1 → ⊥
  none_open w box copy is e f =
      let hand : its_box.hand ≡ Some copy = ap (λ (x : Box). x.hand) (same_box w box is) ∙ e in
      elim neither [
        | inl free ↦ let bad : None ≡ Some copy = sym free.0 ∙ hand in absurd (let f : ⊥ = cc in f)
        | inr stuck ↦
            let same : stuck.0 ≡ copy = let both : Some stuck.0 ≡ Some copy = sym stuck.1 ∙ hand in cc in
            let done : open_by copy.progress ≡ 0 = ap (λ (x : Copy). open_by x.progress) (sym same) ∙ stuck.3 in
            absurd (omega arith)
      ]

  no_take : (w : ℕ) (new : House) → Step h (Take w) new → ⊥
  no_take w new st =
      let same = same_box w st.box st.is in
      let hand : its_box.hand ≡ None = ap (λ (x : Box). x.hand) same ∙ st.free_hand in
      elim neither [
        | inl free ↦
            let below = slice_get_within st.box.accepted st.box.taken st.post st.oldest in
            let taken : st.box.taken ≡ its_box.taken = ap (λ (x : Box). x.taken) (sym same) in
            let all : length st.box.accepted ≡ length its_box.accepted = ap (λ (x : Box). length x.accepted) (sym same) in
            let e : its_box.taken ≡ length its_box.accepted = free.1 in
            absurd (omega arith)
        | inr stuck ↦ let bad : None ≡ Some stuck.0 = sym hand ∙ stuck.1 in absurd (let f : ⊥ = cc in f)
      ]

  no_slip : (w : ℕ) (box : Box) (copy : Copy) → slice_get h.boxes w ≡ Some box → box.hand ≡ Some copy
      → IfSome (slice_get h.boxes w) (λ box. IfSome box.hand (λ copy. OfLane h copy.post.note.txn.lane (λ lane. uncollected lane < room))) → ⊥
  no_slip w box copy is e order =
      let hand : its_box.hand ≡ Some copy = ap (λ (x : Box). x.hand) (same_box w box is) ∙ e in
      let in_box = subst (λ o. IfSome o (λ (x : Box). IfSome x.hand (λ y. OfLane h y.post.note.txn.lane (λ lane. uncollected lane < room)))) is order in
      let in_hand = subst (λ o. IfSome o (λ (y : Copy). OfLane h y.post.note.txn.lane (λ lane. uncollected lane < room))) e in_box in
      elim neither [
        | inl free ↦ let bad : None ≡ Some copy = sym free.0 ∙ hand in absurd (let f : ⊥ = cc in f)
        | inr stuck ↦
            let same : stuck.0 ≡ copy = let both : Some stuck.0 ≡ Some copy = sym stuck.1 ∙ hand in cc in
            let zeroth : copy.post.note.txn.lane ≡ 0 = ap (λ (x : Copy). x.post.note.txn.lane) (sym same) ∙ stuck.4 in
            let there : slice_get h.lanes 0 ≡ Some its_lane = ap (λ ls. slice_get ls 0) lanes in
            let at : slice_get h.lanes copy.post.note.txn.lane ≡ Some its_lane = ap (slice_get h.lanes) zeroth ∙ there in
            let below : uncollected its_lane < room = subst (λ o. IfSome o (λ (lane : Lane). uncollected lane < room)) at in_hand in
            let above : room ≤ uncollected its_lane = stuck.5 in absurd (omega arith)
      ]

  no_reclaim : (slot generation : ℕ) (new : House) → Step h (Reclaim slot generation) new → ⊥
  no_reclaim slot generation new st =
      let its : Key = record { slot = slot; generation = generation } in
      let there = used h.depot its (Sealed st.1.bytes st.1.blocks 0) st.1.message (λ e. cc) in
      let same = ap (λ (x : Slot). x.held) (only _ _ slot (ap (λ ls. slice_get ls slot) (sym slots) ∙ there)) in cc

  no_event : (next : ℕ → ℕ) (e : Event) → GoesOn next h e → IsInOrder room h e → (new : House) → Step h e new → ⊥
  no_event next (Cancel k) g o new st = no_draft_there k st.lane st.key st.is st.draft
  no_event next (Seal k n) g o new st = no_draft_there k st.lane st.key st.is st.draft
  no_event next (Split k i) g o new st =
      let holds : st.lane.holds ≡ record { key = key; weight = 1 } ∷ [] = ap (λ (x : Lane). x.holds) (sym (same_lane k st.lane st.is)) ∙ one_hold in
      let same = only (record { key = key; weight = 1 }) (record { key = st.key; weight = st.weight + 1 }) i
      (ap (λ hs. slice_get hs i) (sym holds) ∙ st.hold) in
      let one : 1 ≡ st.weight + 1 = ap (λ (x : Hold). x.weight) same in
      let some : 1 ≤ st.weight = st.above in absurd (omega arith)
  no_event next (Offer k note) g o new st =
      let same = same_box note.mailbox st.box st.channel in
      let all : length st.box.accepted ≡ length its_box.accepted = ap (λ (x : Box). length x.accepted) (sym same) in
      let taken : st.box.taken ≡ its_box.taken = ap (λ (x : Box). x.taken) (sym same) in
      let below : length st.box.accepted < st.box.taken + h.capacity = st.room in absurd (omega arith)
  no_event next (HandBack k i b) g o new st =
      let same = same_box b g.1.0 g.1.1 in
      let bad : false ≡ true = sym opened ∙ ap (λ (x : Box). x.closed) same ∙ g.1.2 in cc
  no_event next (Collect k) g o new st =
      let none : st.lane.holds ≡ [] = subst (λ p. IfSome p (λ (lane : Lane). lane.holds ≡ [])) st.is o in
      let one : Hold = record { key = key; weight = 1 } in
      let bad : ◌≡◌ {A = List Hold} (one ∷ []) [] = sym one_hold ∙ ap (λ (x : Lane). x.holds) (same_lane k st.lane st.is) ∙ none in cc
  no_event next (Take w) g o new st = no_take w new st
  no_event next (Lock w bytes) g o new st = none_open w st.box st.copy st.is st.in_hand (ap open_by st.first)
  no_event next (Write w bytes) g o new st = none_open w st.box st.copy st.is st.in_hand (ap open_by st.going)
  no_event next (Sync w) g o new st = none_open w st.box st.copy st.is st.in_hand (ap open_by st.going)
  no_event next (Unlock w) g o new st =
      none_open w st.box st.copy st.is st.in_hand (open_ending st.copy.progress st.end st.in_turn)
  no_event next (Release w) g o new st = none_held w st.box st.copy st.is st.in_hand st.held
  no_event next (GiveSlip w outcome) g o new st = no_slip w st.box st.copy st.is st.in_hand o
  no_event next (Reclaim slot generation) g o new st = no_reclaim slot generation new st
  no_event next _ g o new st = g

  pub stands : StandsStill room h
  stands next m = no_event next m.event m.goes_on m.in_order m.happens.0 m.happens.1
