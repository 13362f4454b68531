-- What stays through a run: the setting, how many lanes and mailboxes there are, and each mailbox's quota.
use Rattle.std.proofs.Common.{◌≡◌, ℕ, zero, suc, List, [], ◌∷◌, length, Option, Some, None, refl, ap, sym, ◌∙◌}
use Rattle.mail_world.specs.declared.Event.{Event}
use Rattle.mail_world.specs.declared.Event.TheVariants.{Begin, Put, Cancel, Seal, Split, Offer, HandBack, Collect, Take, Lock, Miss}
use Rattle.mail_world.specs.declared.Event.TheVariants.{Write, Sync, Cut, Unlock, Release, GiveSlip}
use Rattle.mail_world.specs.declared.Event.TheVariants.{Reclaim, Close}
use Rattle.mail_world.specs.Records.{Calendar}
use Rattle.std.specs.Prelude.{map, slice_get, slice_set}
use Rattle.mail_world.specs.House.{House, Lane, Box}
use Rattle.mail_world.specs.Quotas.{quota_at}
use Rattle.mail_world.specs.Events.{Step, BoxIs}
use Rattle.mail_world.specs.Runs.{Happened, Run, last_house}
use Rattle.mail_world.proofs.LastSeal.{length_set}
use Rattle.mail_world.specs.Site.{Site}

pub record Frame : Type 0 where
  pub calendar : Calendar
  pub site : Site
  pub lanes : ℕ
  pub boxes : ℕ
  pub quotas : List (Option ℕ)

abbrev pub quotas_in : List Box → List (Option ℕ)
quotas_in boxes = map (λ (box : Box). box.quota) boxes

-- a house's frame, with these lanes and mailboxes
abbrev framed : House → List Lane → List Box → Frame
framed h lanes boxes = record {
  calendar = h.calendar;
  site = h.site;
  lanes = length lanes;
  boxes = length boxes;
  quotas = quotas_in boxes;
}

abbrev pub frame_of : House → Frame
frame_of h = framed h h.lanes h.boxes

-- a mailbox with the same quota in its place changes none
quotas_set : (boxes : List Box) (b : ℕ) (old new : Box) → slice_get boxes b ≡ Some old → new.quota ≡ old.quota
    → quotas_in (slice_set boxes b new) ≡ quotas_in boxes
quotas_set [] b old new is same = refl
quotas_set (x ∷ xs) zero old new is same =
    let was : x.quota ≡ old.quota = option_same x old is in
    ap (λ q. q ∷ quotas_in xs) (same ∙ sym was)
  where
    option_same : (x old : Box) → ◌≡◌ {A = Option Box} (Some x) (Some old) → x.quota ≡ old.quota
    option_same x old is = let one : x ≡ old = cc in ap (λ (y : Box). y.quota) one
quotas_set (x ∷ xs) (suc b) old new is same = ap (λ qs. x.quota ∷ qs) (quotas_set xs b old new is same)

-- what stands at a mailbox's place
pub quota_there : (boxes : List Box) (b : ℕ) (box : Box) → slice_get boxes b ≡ Some box → quota_at (quotas_in boxes) b ≡ box.quota
quota_there [] b box is = let bad : ◌≡◌ {A = Option Box} None (Some box) = is in absurd (cc)
quota_there (x ∷ xs) zero box is =
    let first : ◌≡◌ {A = Option Box} (Some x) (Some box) = is in
    let one : x ≡ box = cc in
    ap (λ (y : Box). y.quota) one
quota_there (x ∷ xs) (suc b) box is = quota_there xs b box is

lane_set : (h : House) (k : ℕ) (lane : Lane) → framed h (slice_set h.lanes k lane) h.boxes ≡ frame_of h
lane_set h k lane = ap (λ n. let f : Frame = record (frame_of h) { lanes = n } in f) (length_set h.lanes k lane)

box_set : (h : House) (lanes : List Lane) (b : ℕ) (old new : Box) → BoxIs h b old → new.quota ≡ old.quota
    → framed h lanes (slice_set h.boxes b new) ≡ framed h lanes h.boxes
box_set h lanes b old new is same =
    ap (λ n. let f : Frame = record (framed h lanes (slice_set h.boxes b new)) { boxes = n } in f) (length_set h.boxes b new)
    ∙ ap (λ qs. let f : Frame = record (framed h lanes h.boxes) { quotas = qs } in f) (quotas_set h.boxes b old new is same)

both_set : (h : House) (k : ℕ) (lane : Lane) (b : ℕ) (old new : Box) → BoxIs h b old → new.quota ≡ old.quota
    → framed h (slice_set h.lanes k lane) (slice_set h.boxes b new) ≡ frame_of h
both_set h k lane b old new is same = box_set h (slice_set h.lanes k lane) b old new is same ∙ lane_set h k lane

frame_step : (h : House) (e : Event) (new : House) → Step h e new → frame_of new ≡ frame_of h
frame_step h (Begin k) new st = ap frame_of st.after ∙ lane_set h k _
frame_step h (Put k bytes) new st = ap frame_of st.after
frame_step h (Cancel k) new st = ap frame_of st.after ∙ lane_set h k _
frame_step h (Seal k n) new st = ap frame_of st.after ∙ lane_set h k _
frame_step h (Split k i) new st = ap frame_of st.after ∙ lane_set h k _
frame_step h (Offer k note) new st = ap frame_of st.after ∙ both_set h k _ note.mailbox st.box _ st.channel refl
frame_step h (HandBack k i m) new st = ap frame_of st.after ∙ lane_set h k _
frame_step h (Collect k) new st = ap frame_of st.after ∙ lane_set h k _
frame_step h (Take w) new st = ap frame_of st.after ∙ box_set h h.lanes w st.box _ st.is refl
frame_step h (Lock w bytes) new st = ap frame_of st.after ∙ box_set h h.lanes w st.box _ st.is refl
frame_step h (Miss w) new st = ap frame_of st.after ∙ box_set h h.lanes w st.box _ st.is refl
frame_step h (Write w bytes) new st = ap frame_of st.after ∙ box_set h h.lanes w st.box _ st.is refl
frame_step h (Sync w) new st = ap frame_of st.after ∙ box_set h h.lanes w st.box _ st.is refl
frame_step h (Cut w) new st = ap frame_of st.after ∙ box_set h h.lanes w st.box _ st.is refl
frame_step h (Unlock w) new st = ap frame_of st.after ∙ box_set h h.lanes w st.box _ st.is refl
frame_step h (Release w) new st = ap frame_of st.after ∙ box_set h h.lanes w st.box _ st.is refl
frame_step h (GiveSlip w o) new st = ap frame_of st.after ∙ both_set h st.copy.post.note.txn.lane _ w st.box _ st.is refl
frame_step h (Reclaim slot generation) new st = ap frame_of st.2
frame_step h (Close b) new st = ap frame_of st.3 ∙ box_set h h.lanes b st.0 _ st.1 refl

pub frame_run : (h : House) (run : List Happened) → Run h run → frame_of (last_house h run) ≡ frame_of h
frame_run h [] r = refl
frame_run h (x ∷ xs) r = frame_run x.house xs r.1 ∙ frame_step h x.event x.house r.0
