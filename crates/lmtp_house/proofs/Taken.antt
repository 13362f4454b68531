-- What is known of all that was taken of a channel that was closed and settled.
use Rattle.std.proofs.Common.{◌≡◌, ℕ, ◌<◌, ◌≤◌, ◌==◌, Bool, true, false, cond, List, [], ◌∷◌, ◌++◌, get_or, refl, sym, ap, ◌∙◌, arith, eq-eqb, Some}
use Rattle.std.proofs.Common.{inl, inr, append-nil}
use Rattle.std.specs.List.{AllByRecursion}
use Rattle.std.proofs.lemmas.Bool.{cases_lt}
use Rattle.std.proofs.lemmas.List.{get_or_past}
use Rattle.std.proofs.lemmas.List.Elements.{filter-append}
use Rattle.std.proofs.lemmas.Option.{get_or_from_slice_get}
use Rattle.mail_world.specs.Prefixes.{IsPrefix}
use Rattle.mail_post.specs.Channel.{taken}
use Rattle.mail_post.specs.declared.channel.Gone.TheVariants.{Closed}
use Rattle.mail_post.specs.Parcels.{of}
use Rattle.lmtp_house.proofs.Bridge.{IsSettledAs}

module _ {M : Type 0} (lane : M → ℕ) where
  -- where nothing is of a lane from n on, all is of lanes below n
  tail_none : (x : M) (xs : List M) (t : Bool) → cond t (x ∷ xs) xs ≡ [] → xs ≡ []
  tail_none x xs true e = absurd (cc)
  tail_none x xs false e = e

  head_other : (x : M) (xs : List M) (t : Bool) → t ≡ true → cond t (x ∷ xs) xs ≡ [] → ⊥
  head_other x xs true s e = cc
  head_other x xs false s e = absurd (cc)

  all_below : (n : ℕ) (ms : List M) → ((k : ℕ) → n ≤ k → of lane k ms ≡ []) → AllByRecursion (λ m. lane m < n) ms
  all_below n [] h = tt
  all_below n (m ∷ ms) h = (
    elim (cases_lt (lane m) n) [
      | inl low ↦ low
      | inr high ↦ absurd (head_other m (of lane (lane m) ms) (lane m == lane m) (eq-eqb (lane m) (lane m) refl) (h (lane m) high))
    ],
    all_below n ms (λ k high. tail_none m (of lane k ms) (lane m == k) (h k high)),
  )

  none_by : (xs rest : List M) → xs ++ rest ≡ [] → xs ≡ []
  none_by [] rest e = refl
  none_by (x ∷ xs) rest e = absurd (cc)

  module _ (n capacity : ℕ) (sent : ℕ → List M) (sent_at : ℕ → List ℕ) (got : List M) (took_at : List ℕ)
      (c : IsSettledAs lane n capacity sent sent_at got took_at) where
    -- what a lane sent was taken, and the rest of it waits
    parts : (k : ℕ) → get_or c.closed.sent k [] ≡ of lane k got ++ of lane k c.passed.waiting
    parts k =
        sym (c.passed.same k) ∙ ap (of lane k) c.passed.first ∙ filter-append (λ (m : M). lane m == k) (taken c.inbox) c.passed.waiting
        ∙ ap (λ (l : List M). of lane k l ++ of lane k c.passed.waiting) c.got_is

    sent_is : (k : ℕ) → k < n → get_or c.closed.sent k [] ≡ sent k
    sent_is k low = get_or_from_slice_get c.closed.sent k (sent k) [] (c.sent_is k low)

    sent_none : (k : ℕ) → n ≤ k → get_or c.closed.sent k [] ≡ []
    sent_none k high = get_or_past c.closed.sent k [] (omega (arith, c.count, high))

    -- a prefix of what was sent was taken, and nothing else
    pub prefix_each : (k : ℕ) → k < n → IsPrefix (of lane k got) (sent k)
    prefix_each k low = record { rest = of lane k c.passed.waiting; whole = sym (sent_is k low) ∙ parts k }

    pub taken_below : AllByRecursion (λ m. lane m < n) got
    taken_below = all_below n got (λ k high. none_by (of lane k got) (of lane k c.passed.waiting) (sym (parts k) ∙ sent_none k high))

    -- all that was sent was taken, once the receiver is closed
    pub took_each : c.inbox.gone ≡ Some Closed → (k : ℕ) → k < n → of lane k got ≡ sent k
    took_each closed k low =
        sym (append-nil (of lane k got)) ∙ ap (λ (l : List M). of lane k got ++ of lane k l) (sym (c.passed.all closed).0) ∙ sym (parts k) ∙ sent_is k low
