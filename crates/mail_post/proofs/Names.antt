-- What a mark names.
use Rattle.std.proofs.Common.{◌≡◌, ◌<◌, ◌==◌, ◌||◌, ℕ, Bool, true, false, cond, Option, Some, None, List, [], ◌∷◌, ◌++◌, refl, sym, ap, ◌∙◌, subst}
use Rattle.std.proofs.lemmas.Bool.{eq-eqb, eqb-true}
use Rattle.mail_post.specs.declared.rule.Parcel.{Parcel}
use Rattle.mail_post.specs.declared.rule.Parcel.TheVariants.{Copy, Mark}
use Rattle.mail_post.specs.declared.rule.View.{View}
use Rattle.mail_post.specs.declared.channel.Gone.{Gone}
use Rattle.mail_post.specs.declared.channel.Gone.TheVariants.{Closed}
use Rattle.mail_post.specs.Parcels.{of, part, messages, has_mark, all_of_lane}
use Rattle.mail_post.specs.Order.{KeepsOrder, IsNothingElse, NamesAll}
use Rattle.mail_post.specs.Channel.{IsInbox, with, before_mark}
use Rattle.mail_post.proofs.Parcels.{of-copies, copies-all_of_lane, has_mark-part}
use Rattle.mail_post.proofs.Counts.{count_all}

module _ {M : Type 0} (lane : M → ℕ) where
  has_mark-all_of_lane : (k : ℕ) (s : List M) (b : Bool) → has_mark k (all_of_lane k s b) ≡ b
  has_mark-all_of_lane k [] false = refl
  has_mark-all_of_lane k [] true = ap (λ t. t || false) (eq-eqb k k refl)
  has_mark-all_of_lane k (m ∷ s) b = has_mark-all_of_lane k s b

  named_copy : (k : ℕ) (m : M) (b : Bool) (xs : List (Parcel M)) → before_mark lane k (part lane k xs) ≡ before_mark lane k xs → (lane m == k) ≡ b
      → before_mark lane k (cond b (Copy m ∷ part lane k xs) (part lane k xs)) ≡ cond b (with m (before_mark lane k xs)) (before_mark lane k xs)
  named_copy k m true xs more e = (λ i. cond (e i) (with m (before_mark lane k (part lane k xs))) (before_mark lane k (part lane k xs))) ∙ ap (with m) more
  named_copy k m false xs more e = more

  named_mark : (k j : ℕ) (b : Bool) (xs : List (Parcel M)) → before_mark lane k (part lane k xs) ≡ before_mark lane k xs → (j == k) ≡ b
      → before_mark lane k (cond b (Mark j ∷ part lane k xs) (part lane k xs)) ≡ cond b (Some []) (before_mark lane k xs)
  named_mark k j true xs more e = λ i. cond (e i) (Some []) (before_mark lane k (part lane k xs))
  named_mark k j false xs more e = more

  before_mark-part : (k : ℕ) (xs : List (Parcel M)) → before_mark lane k (part lane k xs) ≡ before_mark lane k xs
  before_mark-part k [] = refl
  before_mark-part k (Copy m ∷ xs) = named_copy k m (lane m == k) xs (before_mark-part k xs) refl
  before_mark-part k (Mark j ∷ xs) = named_mark k j (j == k) xs (before_mark-part k xs) refl

  -- all of the steps are of lane k
  abbrev AreOf : ℕ → List M → Type 0
  AreOf k [] = Unit {0}
  AreOf k (m ∷ ms) = (lane m ≡ k) × AreOf k ms

  before_mark-all_of_lane : (k : ℕ) (s : List M) → AreOf k s → before_mark lane k (all_of_lane k s true) ≡ Some s
  before_mark-all_of_lane k [] h = λ i. cond (eq-eqb k k refl i) (Some []) None
  before_mark-all_of_lane k (m ∷ s) h =
      (λ i. cond (eq-eqb (lane m) k h.0 i) (with m (before_mark lane k (all_of_lane k s true))) (before_mark lane k (all_of_lane k s true)))
      ∙ ap (with m) (before_mark-all_of_lane k s h.1)

  are_of_copy : (k : ℕ) (m : M) (xs : List (Parcel M)) (b : Bool) → AreOf k (messages (part lane k xs)) → (lane m == k) ≡ b
      → AreOf k (messages (cond b (Copy m ∷ part lane k xs) (part lane k xs)))
  are_of_copy k m xs true h e = (eqb-true (lane m) k e, h)
  are_of_copy k m xs false h e = h

  are_of_mark : (k j : ℕ) (xs : List (Parcel M)) (b : Bool) → AreOf k (messages (part lane k xs))
      → AreOf k (messages (cond b (Mark j ∷ part lane k xs) (part lane k xs)))
  are_of_mark k j xs true h = h
  are_of_mark k j xs false h = h

  are_of_part : (k : ℕ) (xs : List (Parcel M)) → AreOf k (messages (part lane k xs))
  are_of_part k [] = tt
  are_of_part k (Copy m ∷ xs) = are_of_copy k m xs (lane m == k) (are_of_part k xs) refl
  are_of_part k (Mark j ∷ xs) = are_of_mark k j xs (j == k) (are_of_part k xs)

  -- a receiver that has taken every mark has taken what the marks name
  pub drained : (lanes marks : ℕ) (gone : Option Gone) (v : View M) → IsInbox lane lanes marks gone v → gone ≡ Some Closed → (k : ℕ) → k < lanes
      → before_mark lane k v.got ≡ Some (of lane k (messages v.got))
  drained lanes marks why v h is k low =
      let there : has_mark k v.got ≡ true = count_all (λ j. has_mark j v.got) lanes (h.counted ∙ h.all is) k low in
      let s : List M = (h.fair k).0.0 in
      let b : Bool = (h.fair k).0.1 in
      let is_whole : part lane k v.got ≡ all_of_lane k s b = (h.fair k).0.2 in
      let shut : b ≡ true = sym (has_mark-all_of_lane k s b) ∙ ap (has_mark k) (sym is_whole) ∙ has_mark-part lane k v.got ∙ there in
      let all : part lane k v.got ≡ all_of_lane k s true = is_whole ∙ ap (all_of_lane k s) shut in
      let mine : messages (part lane k v.got) ≡ s = ap messages all ∙ copies-all_of_lane lane k s true in
      sym (before_mark-part k v.got) ∙ ap (before_mark lane k) all ∙ before_mark-all_of_lane k s (subst (AreOf k) mine (are_of_part k v.got))
      ∙ ap Some (sym mine ∙ sym (of-copies lane k v.got))

  -- the rule in other words
  pub in_order : KeepsOrder lane
  in_order items views h k = of-copies lane k (h.traffic.got ++ items) ∙ ap messages (h.order k)
      ∙ copies-all_of_lane lane k (h.traffic.sent k) (h.traffic.closed k)

  pub nothing_else : IsNothingElse lane
  nothing_else items views h k le = in_order items views h k ∙ (h.others k le).1

  pub names_all : NamesAll lane
  names_all items views h k is =
      let xs : List (Parcel M) = h.traffic.got ++ items in
      let mine : messages (part lane k xs) ≡ h.traffic.sent k = ap messages (h.order k) ∙ copies-all_of_lane lane k (h.traffic.sent k) (h.traffic.closed k) in
      sym (before_mark-part k xs) ∙ ap (before_mark lane k) (h.order k ∙ ap (all_of_lane k (h.traffic.sent k)) is)
      ∙ before_mark-all_of_lane k (h.traffic.sent k) (subst (AreOf k) mine (are_of_part k xs))
