-- The house keeps its lanes and mailboxes.
use Rattle.std.proofs.Common.{◌≡◌, List, [], ◌∷◌, length, refl, sym, ◌∙◌, subst, arith}
use Rattle.std.proofs.lemmas.Option.{slice_get_within}
use Rattle.mail_world.specs.declared.Event.{Event}
use Rattle.mail_world.specs.declared.Event.TheVariants.{Begin, Put, Cancel, Seal, Split, Offer, HandBack, Collect}
use Rattle.mail_world.specs.declared.Event.TheVariants.{GiveSlip, Reclaim, Close}
use Rattle.mail_world.specs.House.{House}
use Rattle.mail_world.specs.Events.{Step}
use Rattle.mail_world.specs.Runs.{Happened, Run, last_house}
use Rattle.mail_world.proofs.LastSeal.{length_set}
use Rattle.mail_progress.specs.Finishes.{ThereStays}
use Rattle.mail_world.proofs.OtherSteps.{there_is}

abbrev HasAsMany : House → House → Type 0
HasAsMany h new = (length new.lanes ≡ length h.lanes) × (length new.boxes ≡ length h.boxes)

as_many_step : (h : House) (e : Event) (new : House) → Step h e new → HasAsMany h new
as_many_step h (Begin k) new st = subst (HasAsMany h) (sym st.after) (length_set h.lanes k _, refl)
as_many_step h (Put k bytes) new st = subst (HasAsMany h) (sym st.after) (refl, refl)
as_many_step h (Cancel k) new st = subst (HasAsMany h) (sym st.after) (length_set h.lanes k _, refl)
as_many_step h (Seal k n) new st = subst (HasAsMany h) (sym st.after) (length_set h.lanes k _, refl)
as_many_step h (Split k i) new st = subst (HasAsMany h) (sym st.after) (length_set h.lanes k _, refl)
as_many_step h (Offer k note) new st = subst (HasAsMany h) (sym st.after) (length_set h.lanes k _, length_set h.boxes note.mailbox _)
as_many_step h (HandBack k i b) new st = subst (HasAsMany h) (sym st.after) (length_set h.lanes k _, refl)
as_many_step h (Collect k) new st = subst (HasAsMany h) (sym st.after) (length_set h.lanes k _, refl)
as_many_step h (GiveSlip w outcome) new st = subst (HasAsMany h) (sym st.after) (length_set h.lanes st.copy.post.note.txn.lane _, length_set h.boxes w _)
as_many_step h (Reclaim slot generation) new st = subst (HasAsMany h) (sym st.2) (refl, refl)
as_many_step h (Close b) new st = subst (HasAsMany h) (sym st.3) (refl, length_set h.boxes b _)
as_many_step h _ new st = subst (HasAsMany h) (sym st.after) (refl, length_set h.boxes _ _)

as_many : (h : House) (run : List Happened) → Run h run → HasAsMany h (last_house h run)
as_many h [] r = (refl, refl)
as_many h (x ∷ xs) r =
    let first = as_many_step h x.event x.house r.0 in
    let rest = as_many x.house xs r.1 in
    (rest.0 ∙ first.0, rest.1 ∙ first.1)

pub there_stays : ThereStays
there_stays next h all run r k lane at =
    let new = last_house h run in
    let same = as_many h run r in
    let low = slice_get_within new.lanes k lane at in
    let there = there_is h.lanes k (omega (arith, same.0)) in
    let box = all k there.0 there.1 in
    let high = slice_get_within h.boxes (next k) box.0 box.1 in
    there_is new.boxes (next k) (omega (arith, same.1))
