-- Which events take further what is under way.
use Rattle.std.specs.Prelude.{◌≡◌, ⊤, ℕ, ◌≤◌, Bool, true, false, List, [], length, drop, IfSome}
use Rattle.mail_world.specs.declared.Event.{Event}
use Rattle.mail_world.specs.declared.Event.TheVariants.{Begin, Put, Offer, HandBack, Miss, Write, Cut, Unlock, Close}
use Rattle.mail_world.specs.declared.Note.{Note}
use Rattle.mail_world.specs.House.{Progress, Going, Full, Synced, CutBack, Copy, Box, House}
use Rattle.mail_world.specs.Events.{BoxIs, MayHappen, added}
use Rattle.mail_progress.specs.Orderly.{OfBox, IsInOrder}

abbrev pub IsClosed : House → ℕ → Type 0
IsClosed h b = (box : Box) × BoxIs h b box × (box.closed ≡ true)

-- what is still to be written of what the copy's turn appends
abbrev pub rest_at : House → Note → Progress → List ℕ
rest_at h note (Going lock written) = drop written (added h note lock.bytes)
rest_at h note _ = []

abbrev pub rest_of : House → Copy → List ℕ
rest_of h copy = rest_at h copy.post.note copy.progress

-- the copy is over its quota or synced, or what was written was cut off again, so that its turn may only end
abbrev pub may_only_end : Progress → Bool
may_only_end (Full lock) = true
may_only_end (Synced lock) = true
may_only_end (CutBack lock) = true
may_only_end _ = false

-- The event does so, where each lane's next copy is for the mailbox in `next`. A lane hands back only what is for a
-- closed channel; a worker misses no turn, whatever bytes it finds, writes all that remains, cuts nothing off, and ends
-- a turn only where nothing else can follow: to give up is no way out.
abbrev pub GoesOn : (ℕ → ℕ) → House → Event → Type 0
GoesOn next h (Begin k) = ⊥
GoesOn next h (Put k bytes) = ⊥
GoesOn next h (Close b) = ⊥
GoesOn next h (Offer k note) = note.mailbox ≡ next k
GoesOn next h (HandBack k i b) = (b ≡ next k) × IsClosed h b
GoesOn next h (Miss w) = ⊥
GoesOn next h (Write w bytes) = (1 ≤ length bytes)
    × OfBox h w (λ box. IfSome box.hand (λ copy. rest_of h copy ≡ bytes))
GoesOn next h (Cut w) = ⊥
GoesOn next h (Unlock w) = OfBox h w (λ box. IfSome box.hand (λ copy. may_only_end copy.progress ≡ true))
GoesOn next h _ = ⊤

-- one of these events may happen, in its order
pub record MayGoOn (room : ℕ) (next : ℕ → ℕ) (h : House) : Type 0 where
  pub event : Event
  pub goes_on : GoesOn next h event
  pub in_order : IsInOrder room h event
  pub happens : MayHappen h event

-- none may, whatever mailboxes the next copies are for
abbrev pub StandsStill : ℕ → House → Type 0
StandsStill room h = (next : ℕ → ℕ) → MayGoOn room next h → ⊥
