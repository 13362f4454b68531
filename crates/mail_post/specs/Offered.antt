-- Messages that senders are offered, and what their channels accept of what is owed to them.
use Rattle.std.specs.Prelude.{◌≡◌, ◌⊎◌, ⊤, ℕ, Bool, true, false, List, [], ◌∷◌, ◌++◌, length, slice_get, slice_set}
use Rattle.std.specs.Prelude.{Some, ◌<◌}
use Rattle.std.specs.List.{list_any}
use Rattle.mail_post.specs.Channel.{Sender}

module _ {M : Type 0} where
  -- the first list's elements stand among the second's in this order
  abbrev pub IsPart : List M → List M → Type 0
  IsPart [] all = ⊤
  IsPart (x ∷ xs) [] = ⊥
  IsPart (x ∷ xs) (y ∷ all) = ((x ≡ y) × IsPart xs all) ⊎ IsPart (x ∷ xs) all

  -- each of these senders, one of each of several channels, has that number
  abbrev pub HaveNumber : ℕ → List (Sender M) → Type 0
  HaveNumber number senders = (at : ℕ) (sender : Sender M) → slice_get senders at ≡ Some sender → sender.number ≡ number

  -- whether one of these senders had a message handed back
  abbrev pub any_gone : List (Sender M) → Bool
  any_gone senders = list_any (λ sender. sender.gone) senders

  -- a sender after a message that its channel accepted at that time, or handed back
  abbrev pub given : Sender M → M → ℕ → Bool → Sender M
  given sender message t true =
      record sender { sent = sender.sent ++ message ∷ []; sent_at = sender.sent_at ++ t ∷ [] }
  given sender message t false = record sender { gone = true }

-- The sender at that place was offered the message, which its channel accepted at a time after that one, or handed
-- back. A message may name its sender's number.
pub record IsOffered {M : Type 0} (moment at : ℕ) (message : Sender M → M) (accepted : Bool)
    (old new : List (Sender M)) : Type 0 where
  pub sender : Sender M
  pub is : slice_get old at ≡ Some sender
  pub when : ℕ
  pub later : moment < when
  pub after : new ≡ slice_set old at (given sender (message sender) when accepted)

-- the sender's channel accepted just these messages since, in order
pub record HasSent {M : Type 0} (accepted : List M) (old new : Sender M) : Type 0 where
  pub channel : new.channel ≡ old.channel
  pub number : new.number ≡ old.number
  pub sent : new.sent ≡ old.sent ++ accepted
  pub stays : old.gone ≡ true → new.gone ≡ true

-- so it is for each of several senders, by the messages of the one at each place
pub record HaveSent {M : Type 0} (accepted : ℕ → List M) (old new : List (Sender M)) : Type 0 where
  pub as_many : length new ≡ length old
  pub each : (k : ℕ) (before after : Sender M) → slice_get old k ≡ Some before → slice_get new k ≡ Some after
      → HasSent (accepted k) before after

-- the sender's channel accepted what was owed to it, in order; where it handed a message back, some of it
pub record HasAccepted {M : Type 0} (owed : List M) (old new : Sender M) : Type 0 where
  pub accepted : List M
  pub sent : HasSent accepted old new
  pub all : new.gone ≡ false → accepted ≡ owed
  pub some : IsPart accepted owed

-- so it is for each of several senders, by what is owed to the one at each place
pub record HaveAccepted {M : Type 0} (owed : ℕ → List M) (old new : List (Sender M)) : Type 0 where
  pub as_many : length new ≡ length old
  pub each : (k : ℕ) (before after : Sender M) → slice_get old k ≡ Some before → slice_get new k ≡ Some after
      → HasAccepted (owed k) before after
