-- Channels that are closed stay so.
use Rattle.std.proofs.Common.{◌≡◌, ℕ, [], ◌∷◌, true, inl, inr, refl, ap, sym, ◌∙◌}
use Rattle.std.specs.Prelude.{slice_get, slice_set}
use Rattle.mail_world.specs.declared.Event.{Event}
use Rattle.mail_world.specs.declared.Event.TheVariants.{Begin, Put, Cancel, Seal, Split, Offer, HandBack, Collect}
use Rattle.mail_world.specs.declared.Event.TheVariants.{Reclaim, Close}
use Rattle.mail_world.specs.House.{Box, House}
use Rattle.mail_world.specs.Events.{Step}
use Rattle.mail_world.proofs.Accepted.{get_set}
use Rattle.mail_progress.specs.NothingStuck.{AreClosed, ClosedStays}

no_box : (h new : House) → new.boxes ≡ h.boxes → AreClosed h → AreClosed new
no_box h new e all b box at = all b box (ap (λ bs. slice_get bs b) (sym e) ∙ at)

one_box : (h new : House) (w : ℕ) (changed : Box) → new.boxes ≡ slice_set h.boxes w changed → changed.closed ≡ true → AreClosed h → AreClosed new
one_box h new w changed e shut all b box at = elim (get_set h.boxes w b changed box (ap (λ bs. slice_get bs b) (sym e) ∙ at)) [
  | inl here ↦ ap (λ (x : Box). x.closed) (sym here.1) ∙ shut
  | inr other ↦ all b box other.1
]

closed_step : (h : House) (e : Event) (new : House) → AreClosed h → Step h e new → AreClosed new
closed_step h (Begin k) new s st = no_box h new (ap (λ (x : House). x.boxes) st.after) s
closed_step h (Put k bytes) new s st = no_box h new (ap (λ (x : House). x.boxes) st.after) s
closed_step h (Cancel k) new s st = no_box h new (ap (λ (x : House). x.boxes) st.after) s
closed_step h (Seal k n) new s st = no_box h new (ap (λ (x : House). x.boxes) st.after) s
closed_step h (Split k i) new s st = no_box h new (ap (λ (x : House). x.boxes) st.after) s
closed_step h (HandBack k i b) new s st = no_box h new (ap (λ (x : House). x.boxes) st.after) s
closed_step h (Collect k) new s st = no_box h new (ap (λ (x : House). x.boxes) st.after) s
closed_step h (Reclaim slot generation) new s st = no_box h new (ap (λ (x : House). x.boxes) st.2) s
closed_step h (Offer k note) new s st = one_box h new note.mailbox _ (ap (λ (x : House). x.boxes) st.after) (s note.mailbox st.box st.channel) s
closed_step h (Close b) new s st = one_box h new b _ (ap (λ (x : House). x.boxes) st.3) refl s
closed_step h _ new s st = one_box h new _ _ (ap (λ (x : House). x.boxes) st.after) (s _ st.box st.is) s

pub closed_stays : ClosedStays
closed_stays h [] r s = s
closed_stays h (x ∷ xs) r s = closed_stays x.house xs r.1 (closed_step h x.event x.house s r.0)
