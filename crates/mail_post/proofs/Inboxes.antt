-- A receiver after a parcel.
use Rattle.std.proofs.Common.{◌≡◌, ◌+◌, ◌≤◌, ◌<◌, ℕ, false, Option, Some, None, List, [], ◌∷◌, ◌++◌, refl, sym, ap, ◌∙◌, subst, append-nil}
use Rattle.crossbeam_channel.specs.Claims.{Pass}
use Rattle.mail_post.specs.declared.rule.Parcel.{Parcel}
use Rattle.mail_post.specs.declared.rule.Parcel.TheVariants.{Copy, Mark}
use Rattle.mail_post.specs.declared.rule.View.{View}
use Rattle.mail_post.specs.declared.channel.Gone.{Gone}
use Rattle.mail_post.specs.declared.channel.Gone.TheVariants.{Closed, Lost}
use Rattle.mail_post.specs.Parcels.{messages, has_mark}
use Rattle.mail_post.specs.Times.{HaveMoments}
use Rattle.mail_post.specs.Views.{taker, IsTook}
use Rattle.mail_post.specs.Rule.{IsFair}
use Rattle.mail_post.specs.Channel.{IsInbox, Inbox, IsTimed, channel_of}
use Rattle.mail_post.proofs.Parcels.{copies-append}
use Rattle.mail_post.proofs.Timing.{timed_none}
use Rattle.mail_post.proofs.Counts.{count_le, count_marks, last_fits, after_copy, after_mark, no_marks}

module _ {M : Type 0} (lane : M → ℕ) where
  -- two passes at one channel
  pub same_channel : (p q : Pass (Parcel M) (View M)) → q.table_id ≡ p.table_id → q.me.0.of ≡ p.me.0.of → channel_of q ≡ channel_of p
  same_channel p q a b = λ i. (a i, b i)

  -- what the outcome of a take says
  abbrev Takes : ℕ → View M → Parcel M → View M → Type 0
  Takes after v x w = IsTook after v x w × IsFair lane w.lanes w.got × HaveMoments w.got_at w.took_at

  -- what the receiver's pass knows after x
  got_is : (after : ℕ) (v w : View M) (x : Parcel M) → IsTook after v x w → w.got ≡ v.got ++ x ∷ []
  got_is after v w (Copy m) is = ap (λ (t : View M). t.got) is.4
  got_is after v w (Mark k) is = ap (λ (t : View M). t.got) is

  -- there is as much room as before
  pub room_copy : (after : ℕ) (v w : View M) (p : M) → Takes after v (Copy p) w → w.room ≡ v.room
  room_copy after v w p step = ap (λ (t : View M). t.room) step.0.4

  pub room_mark : (after : ℕ) (v w : View M) (k : ℕ) → Takes after v (Mark k) w → w.room ≡ v.room
  room_mark after v w k step = ap (λ (t : View M). t.room) step.0

  module _ (after lanes : ℕ) (v w : View M) (was : v ≡ taker v.room lanes v.got v.got_at v.took_at) where
    number_is : v.lanes ≡ lanes
    number_is = ap (λ (t : View M). t.lanes) was

    taker_is : (x : Parcel M) → IsTook after v x w → w ≡ taker w.room lanes w.got w.got_at w.took_at
    taker_is (Copy m) is = is.4 ∙ (λ i. taker (sym is.4 i).room (number_is i) (sym is.4 i).got (sym is.4 i).got_at (sym is.4 i).took_at)
    taker_is (Mark k) is = is ∙ (λ i. taker (sym is i).room (number_is i) (sym is i).got (sym is i).got_at (sym is i).took_at)

    lanes_are : (x : Parcel M) → IsTook after v x w → w.lanes ≡ lanes
    lanes_are x is = ap (λ (t : View M). t.lanes) (taker_is x is)

  pub inbox_copy : (after lanes marks : ℕ) (gone : Option Gone) (v w : View M) (p : M) → IsInbox lane lanes marks gone v → Takes after v (Copy p) w
      → IsInbox lane lanes marks gone w
  inbox_copy after lanes marks why v w p h step = record {
    knows = taker_is after lanes v w h.knows (Copy p) step.0;
    fair = subst (λ (n : ℕ). IsFair lane n w.got) (lanes_are after lanes v w h.knows (Copy p) step.0) step.1;
    counted = (λ i. count_marks lane (got_is after v w (Copy p) step.0 i) lanes) ∙ after_copy lane v.got (p) lanes ∙ h.counted;
    all = h.all;
    timed = step.2;
  }

  pub taken_copy : (after : ℕ) (v w : View M) (p : M) → Takes after v (Copy p) w → messages w.got ≡ messages v.got ++ p ∷ []
  taken_copy after v w p step = ap messages (got_is after v w (Copy p) step.0) ∙ copies-append lane v.got (Copy (p) ∷ [])

  -- when it was accepted and taken
  pub timed_copy : (after : ℕ) (v w : View M) (p : M) (old new : Inbox M) → Takes after v (Copy p) w → old.got_at ≡ v.got_at → old.took_at ≡ v.took_at
      → new.got_at ≡ w.got_at → new.took_at ≡ w.took_at → IsTimed after old new
  timed_copy after v w p old new step a b c d = record {
    accepted_at = step.0.0;
    taken_at = step.0.1;
    moment = step.0.2;
    later = step.0.3;
    got_more = c ∙ ap (λ (t : View M). t.got_at) step.0.4 ∙ ap (λ l. l ++ step.0.0 ∷ []) (sym a);
    took_more = d ∙ ap (λ (t : View M). t.took_at) step.0.4 ∙ ap (λ l. l ++ step.0.1 ∷ []) (sym b);
    timed = subst (λ (y : List ℕ × List ℕ). HaveMoments y.0 y.1) (λ i. (sym c i, sym d i)) step.2;
  }

  -- a message that is taken is one of the lanes'
  pub copy_fits : (after lanes : ℕ) (v w : View M) (p : M) → v ≡ taker v.room lanes v.got v.got_at v.took_at → Takes after v (Copy p) w → lane p < lanes
  copy_fits after lanes v w p was step =
      let n : w.lanes ≡ lanes = lanes_are after lanes v w was (Copy p) step.0 in
      let is : w.got ≡ v.got ++ Copy p ∷ [] = got_is after v w (Copy p) step.0 in
      last_fits lane v.got (Copy p) lanes (subst (λ (y : ℕ × List (Parcel M)). IsFair lane y.0 y.1) (λ i. (n i, is i)) step.1)

  pub inbox_mark : (after lanes marks : ℕ) (gone why' : Option Gone) (v w : View M) (k : ℕ) → IsInbox lane lanes marks gone v → Takes after v (Mark k) w
      → (why' ≡ Some Closed → marks + 1 ≡ lanes)
      → IsInbox lane lanes (marks + 1) why' w
  inbox_mark after lanes marks why why' v w k h step full =
      let fair : IsFair lane lanes w.got = subst (λ (n : ℕ). IsFair lane n w.got) (lanes_are after lanes v w h.knows (Mark k) step.0) step.1 in
      let is : w.got ≡ v.got ++ Mark k ∷ [] = got_is after v w (Mark k) step.0 in record {
        knows = taker_is after lanes v w h.knows (Mark k) step.0;
        fair = fair;
        counted = (λ i. count_marks lane (is i) lanes) ∙ after_mark lane v.got k lanes (subst (λ (g : List (Parcel M)). IsFair lane lanes g) is fair)
            ∙ ap (λ n. n + 1) h.counted;
        all = full;
        timed = step.2;
      }

  pub taken_mark : (after : ℕ) (v w : View M) (k : ℕ) → Takes after v (Mark k) w → messages w.got ≡ messages v.got
  taken_mark after v w k step = ap messages (got_is after v w (Mark k) step.0) ∙ copies-append lane v.got (Mark k ∷ []) ∙ append-nil (messages v.got)

  -- it has no time
  pub timeless_mark : (after : ℕ) (v w : View M) (k : ℕ) → Takes after v (Mark k) w → (w.got_at ≡ v.got_at) × (w.took_at ≡ v.took_at)
  timeless_mark after v w k step = (ap (λ (t : View M). t.got_at) step.0, ap (λ (t : View M). t.took_at) step.0)

  -- a mark is one of the lanes'
  pub marks_fit : (lanes marks : ℕ) (gone : Option Gone) (v : View M) → IsInbox lane lanes marks gone v → marks ≤ lanes
  marks_fit lanes marks why v h = subst (λ n. n ≤ lanes) h.counted (count_le (λ k. has_mark k v.got) lanes)

  pub more_marks_fit : (after lanes marks : ℕ) (gone : Option Gone) (v w : View M) (k : ℕ) → IsInbox lane lanes marks gone v → Takes after v (Mark k) w
      → marks + 1 ≤ lanes
  more_marks_fit after lanes marks why v w k h step = marks_fit lanes (marks + 1) None w (inbox_mark after lanes marks why None v w k h step (λ e. absurd (cc)))

  pub inbox_lost : (lanes marks : ℕ) (gone : Option Gone) (v w : View M) → IsInbox lane lanes marks gone v → w ≡ v → IsInbox lane lanes marks (Some Lost) w
  inbox_lost lanes marks why v w h is =
      subst (λ (t : View M). IsInbox lane lanes marks (Some Lost) t) (sym is)
      (record { knows = h.knows; fair = h.fair; counted = h.counted; all = λ e. absurd (cc); timed = h.timed })

  pub inbox_new : (lanes : ℕ) (v : View M) → v ≡ taker v.room lanes [] [] [] → IsInbox lane lanes 0 None v
  inbox_new lanes v is = subst (λ (t : View M). IsInbox lane lanes 0 None t) (sym is)
      (record { knows = refl; fair = λ k. (([], false, refl), (λ le. refl)); counted = no_marks lane lanes; all = λ e. absurd (cc); timed = timed_none })
