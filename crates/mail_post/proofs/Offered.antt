-- Once one more message is owed to one of several senders, and offered by it or not.
use Rattle.std.proofs.Common.{◌≡◌, ◌≢◌, ℕ, zero, suc, ◌+◌, arith, List, [], ◌∷◌, ◌++◌, length, Bool, true, false, ◌||◌, Some, inl, inr, refl, ap, sym, ◌∙◌}
use Rattle.std.proofs.Common.{subst, append_assoc, append-nil}
use Rattle.std.specs.Prelude.{slice_get, slice_set, Result, Ok, Err, OnOk, OnErr}
use Rattle.std.proofs.Common.{length-set}
use Rattle.std.proofs.lemmas.Bool.{or_parts}
use Rattle.mail_world.proofs.Accepted.{get_set}
use Rattle.mail_post.specs.Channel.{Sender, IsAccepted}
use Rattle.mail_post.specs.Offered.{IsPart, HaveNumber, any_gone, given, IsOffered, HasSent, HaveSent, HasAccepted, HaveAccepted}

or_gone : (a b : Bool) → b ≡ true → (a || b) ≡ true
or_gone true b is = refl
or_gone false b is = is

module _ {M : Type 0} where
  -- one more element of the whole, and of both
  pub part_more : (xs all : List M) (m : M) → IsPart xs all → IsPart xs (all ++ m ∷ [])
  part_more [] all m h = tt
  part_more (x ∷ xs) [] m h = absurd h
  part_more (x ∷ xs) (y ∷ all) m h = elim h [
    | inl both ↦ inl (both.0, part_more xs all m both.1)
    | inr rest ↦ inr (part_more (x ∷ xs) all m rest)
  ]

  pub part_both : (xs all : List M) (m : M) → IsPart xs all → IsPart (xs ++ m ∷ []) (all ++ m ∷ [])
  part_both [] [] m h = inl (refl, tt)
  part_both [] (y ∷ all) m h = inr (part_both [] all m h)
  part_both (x ∷ xs) [] m h = absurd h
  part_both (x ∷ xs) (y ∷ all) m h = elim h [
    | inl both ↦ inl (both.0, part_both xs all m both.1)
    | inr rest ↦ inr (part_both (x ∷ xs) all m rest)
  ]

  given_number : (sender : Sender M) (m : M) (t : ℕ) (accepted : Bool) → (given sender m t accepted).number ≡ sender.number
  given_number sender m t true = refl
  given_number sender m t false = refl

  -- the senders stay those of that number
  pub still_numbered : (number moment at : ℕ) (message : Sender M → M) (accepted : Bool) (old new : List (Sender M)) → HaveNumber number old
      → IsOffered moment at message accepted old new → HaveNumber number new
  still_numbered number moment at message accepted old new h o = λ k sender is.
      elim (get_set old at k (given o.sender (message o.sender) o.when accepted) sender (ap (λ l. slice_get l k) (sym o.after) ∙ is)) [
        | inl here ↦ ap (λ (s : Sender M). s.number) (sym here.1) ∙ given_number o.sender (message o.sender) o.when accepted ∙ h at o.sender o.is
        | inr other ↦ h k sender other.1
      ]

  -- where none was refused, the one at that place wasn't
  pub none_gone : (senders : List (Sender M)) (k : ℕ) (sender : Sender M) → any_gone senders ≡ false → slice_get senders k ≡ Some sender → sender.gone ≡ false
  none_gone [] k sender none is = absurd (cc)
  none_gone (x ∷ xs) zero sender none is =
      let same : x ≡ sender = cc in
      ap (λ (s : Sender M). s.gone) (sym same) ∙ (or_parts x.gone (any_gone xs) none).0
  none_gone (x ∷ xs) (suc k) sender none is = none_gone xs k sender (or_parts x.gone (any_gone xs) none).1 is

  any_set_gone : (senders : List (Sender M)) (at : ℕ) (old new : Sender M) → slice_get senders at ≡ Some old → new.gone ≡ true
      → any_gone (slice_set senders at new) ≡ true
  any_set_gone [] at old new is gone = absurd (cc)
  any_set_gone (x ∷ xs) zero old new is gone = ap (λ b. b || any_gone xs) gone
  any_set_gone (x ∷ xs) (suc at) old new is gone = or_gone x.gone (any_gone (slice_set xs at new)) (any_set_gone xs at old new is gone)

  any_set_same : (senders : List (Sender M)) (at : ℕ) (old new : Sender M) → slice_get senders at ≡ Some old → new.gone ≡ old.gone
      → any_gone (slice_set senders at new) ≡ any_gone senders
  any_set_same [] at old new is same = absurd (cc)
  any_set_same (x ∷ xs) zero old new is same =
      let e : x ≡ old = cc in
      ap (λ b. b || any_gone xs) (same ∙ ap (λ (s : Sender M). s.gone) (sym e))
  any_set_same (x ∷ xs) (suc at) old new is same = ap (λ b. x.gone || b) (any_set_same xs at old new is same)

  -- a message was handed back, so one is refused; one that was accepted changes nothing of that
  pub gone_now : (moment at : ℕ) (message : Sender M → M) (old new : List (Sender M)) → IsOffered moment at message false old new → any_gone new ≡ true
  gone_now moment at message old new o = ap any_gone o.after ∙ any_set_gone old at o.sender (given o.sender (message o.sender) o.when false) o.is refl

  pub gone_as_before : (moment at : ℕ) (message : Sender M → M) (old new : List (Sender M)) → IsOffered moment at message true old new
      → any_gone new ≡ any_gone old
  gone_as_before moment at message old new o = ap any_gone o.after ∙ any_set_same old at o.sender (given o.sender (message o.sender) o.when true) o.is refl

  sent_none : (sender : Sender M) → HasSent [] sender sender
  sent_none sender = record { channel = refl; number = refl; sent = sym (append-nil sender.sent); stays = λ e. e }

  -- one more was accepted
  sent_given : (accepted : List M) (m : M) (t : ℕ) (old now : Sender M) → HasSent accepted old now → HasSent (accepted ++ m ∷ []) old (given now m t true)
  sent_given accepted m t old now x = record {
    channel = x.channel;
    number = x.number;
    sent = ap (λ l. l ++ m ∷ []) x.sent ∙ append_assoc old.sent accepted (m ∷ []);
    stays = x.stays;
  }

  -- one was handed back
  sent_back : (accepted : List M) (m : M) (t : ℕ) (old now : Sender M) → HasSent accepted old now → HasSent accepted old (given now m t false)
  sent_back accepted m t old now x = record { channel = x.channel; number = x.number; sent = x.sent; stays = λ e. refl }

  -- nothing is owed
  accepted_none : (sender : Sender M) → HasAccepted [] sender sender
  accepted_none sender = record { accepted = []; sent = sent_none sender; all = λ e. refl; some = tt }

  -- one more is owed, and was offered
  accepted_by : (owed : List M) (m : M) (t : ℕ) (accepted : Bool) (old now : Sender M) → HasAccepted owed old now
      → HasAccepted (owed ++ m ∷ []) old (given now m t accepted)
  accepted_by owed m t true old now x = record {
    accepted = x.accepted ++ m ∷ [];
    sent = sent_given x.accepted m t old now x.sent;
    all = λ sound. ap (λ l. l ++ m ∷ []) (x.all sound);
    some = part_both x.accepted owed m x.some;
  }
  accepted_by owed m t false old now x = record {
    accepted = x.accepted;
    sent = sent_back x.accepted m t old now x.sent;
    all = λ sound. cc;
    some = part_more x.accepted owed m x.some;
  }

module _ {M : Type 0} (moment at : ℕ) (message : Sender M → M) (m : M) (old : List (Sender M)) (sender new : Sender M) (is : slice_get old at ≡ Some sender)
    (same : message sender ≡ m) where
  -- the sender at that place was offered the message, as its call says
  pub offer_accepted : IsAccepted moment m sender new → IsOffered moment at message true old (slice_set old at new)
  offer_accepted a = record {
    sender = sender;
    is = is;
    when = a.0;
    later = a.1;
    after = ap (slice_set old at) (a.2 ∙ ap (λ (x : M). given sender x a.0 true) (sym same));
  }

  pub offer_handed_back : new ≡ record sender { gone = true } → IsOffered moment at message false old (slice_set old at new)
  offer_handed_back back = record { sender = sender; is = is; when = moment + 1; later = omega arith; after = ap (slice_set old at) back }

  pub offer_answered : {U : Type 0} (r : Result U M) → OnOk r (IsAccepted moment m sender new) → OnErr r (new ≡ record sender { gone = true })
      → (accepted : Bool) × IsOffered moment at message accepted old (slice_set old at new)
  offer_answered (Ok u) a back = (true, offer_accepted a)
  offer_answered (Err e) a back = (false, offer_handed_back back)

-- the message is owed to the sender at that place, and nothing more to the others
pub record OwesOneMore {M : Type 0} (old new : ℕ → List M) (at : ℕ) (message : M) : Type 0 where
  pub here : new at ≡ old at ++ message ∷ []
  pub other : (k : ℕ) → k ≢ at → new k ≡ old k

module _ {M : Type 0} where
  -- nothing was offered
  pub sent_nothing : (accepted : ℕ → List M) (senders : List (Sender M)) → ((k : ℕ) → accepted k ≡ []) → HaveSent accepted senders senders
  sent_nothing accepted senders none = record {
    as_many = refl;
    each = λ k old new was is.
        let same : old ≡ new = cc in
        let P : List M → Type 0 = λ l. HasSent l old old in
        let Q : Sender M → Type 0 = λ s. HasSent (accepted k) old s in
        subst Q same (subst P (sym (none k)) (sent_none old));
  }

  pub accepted_nothing : (owed : ℕ → List M) (senders : List (Sender M)) → ((k : ℕ) → owed k ≡ []) → HaveAccepted owed senders senders
  accepted_nothing owed senders none = record {
    as_many = refl;
    each = λ k old new was is.
        let same : old ≡ new = cc in
        let P : List M → Type 0 = λ l. HasAccepted l old old in
        let Q : Sender M → Type 0 = λ s. HasAccepted (owed k) old s in
        subst Q same (subst P (sym (none k)) (accepted_none old));
  }

  module _ (moment at : ℕ) (message : Sender M → M) (old now next : List (Sender M)) where
    -- one more message was accepted
    pub sent_more : (accepted accepted' : ℕ → List M) (m : M) → HaveSent accepted old now → (o : IsOffered moment at message true now next)
        → message o.sender ≡ m
        → OwesOneMore accepted accepted' at m → HaveSent accepted' old next
    sent_more accepted accepted' m x o is more =
        let changed : Sender M = given o.sender m o.when true in
        let after : next ≡ slice_set now at changed = o.after ∙ ap (λ (w : M). slice_set now at (given o.sender w o.when true)) is in
        record {
          as_many = ap length after ∙ length-set now at changed ∙ x.as_many;
          each = λ k before sender was there. elim (get_set now at k changed sender (ap (λ l. slice_get l k) (sym after) ∙ there)) [
            | inl here ↦
                let same : accepted' k ≡ accepted k ++ m ∷ [] = ap accepted' here.0 ∙ more.here ∙ ap (λ (j : ℕ). accepted j ++ m ∷ []) (sym here.0) in
                let P : List M → Type 0 = λ l. HasSent l before changed in
                let Q : Sender M → Type 0 = λ s. HasSent (accepted' k) before s in
                subst Q here.1 (subst P (sym same)
                (sent_given (accepted k) m o.when before o.sender (x.each k before o.sender was (ap (slice_get now) here.0 ∙ o.is))))
            | inr other ↦
                let P : List M → Type 0 = λ l. HasSent l before sender in
                subst P (sym (more.other k other.0)) (x.each k before sender was other.1)
          ];
        }

    -- a message was handed back
    pub sent_no_more : (accepted : ℕ → List M) → HaveSent accepted old now → IsOffered moment at message false now next → HaveSent accepted old next
    sent_no_more accepted x o =
        let changed : Sender M = given o.sender (message o.sender) o.when false in
        record {
          as_many = ap length o.after ∙ length-set now at changed ∙ x.as_many;
          each = λ k before sender was there. elim (get_set now at k changed sender (ap (λ l. slice_get l k) (sym o.after) ∙ there)) [
            | inl here ↦
                let Q : Sender M → Type 0 = λ s. HasSent (accepted k) before s in
                subst Q here.1 (sent_back (accepted k) (message o.sender) o.when before o.sender
                (x.each k before o.sender was (ap (slice_get now) here.0 ∙ o.is)))
            | inr other ↦ x.each k before sender was other.1
          ];
        }

    -- one more message that is owed was offered
    pub offered_more : (owed owed' : ℕ → List M) (accepted : Bool) (m : M) → HaveAccepted owed old now → (o : IsOffered moment at message accepted now next)
        → message o.sender ≡ m
        → OwesOneMore owed owed' at m → HaveAccepted owed' old next
    offered_more owed owed' accepted m x o is owes =
        let changed : Sender M = given o.sender m o.when accepted in
        let after : next ≡ slice_set now at changed = o.after ∙ ap (λ (w : M). slice_set now at (given o.sender w o.when accepted)) is in
        record {
          as_many = ap length after ∙ length-set now at changed ∙ x.as_many;
          each = λ k before sender was there. elim (get_set now at k changed sender (ap (λ l. slice_get l k) (sym after) ∙ there)) [
            | inl here ↦
                let same : owed' k ≡ owed k ++ m ∷ [] = ap owed' here.0 ∙ owes.here ∙ ap (λ (j : ℕ). owed j ++ m ∷ []) (sym here.0) in
                let P : List M → Type 0 = λ l. HasAccepted l before changed in
                let Q : Sender M → Type 0 = λ s. HasAccepted (owed' k) before s in
                subst Q here.1 (subst P (sym same)
                (accepted_by (owed k) m o.when accepted before o.sender (x.each k before o.sender was (ap (slice_get now) here.0 ∙ o.is))))
            | inr other ↦
                let P : List M → Type 0 = λ l. HasAccepted l before sender in
                subst P (sym (owes.other k other.0)) (x.each k before sender was other.1)
          ];
        }
