-- How long a turn is waited for: the pauses between its tries, and a turn that is missed.
use Rattle.std.proofs.Common.{◌≡◌, ◌⊎◌, ℕ, true, refl, sym, subst, inl, inr}
use Rattle.mbox_rd.specs.declared.patience.Patience.{Patience}
use Rattle.mbox_rd.specs.Patience.{IsGivenUp, IsUnpaused, pauses_ms}

-- so many pauses were made
pub record HasMade (old new : Patience) (made : ℕ) : Type 0 where
  pub same : new ≡ record old {
    pauses = new.pauses;
    paused_ms = new.paused_ms;
    lasted_ms = new.lasted_ms;
    paused_none = new.paused_none;
  }
  pub pauses : new.pauses ≡ made
  pub paused : new.paused_ms ≡ pauses_ms made

pub none_made : (s : Patience) → IsUnpaused s → HasMade s s 0
none_made s unpaused = record { same = refl; pauses = unpaused.pauses; paused = unpaused.paused_ms }

-- a turn that is missed changes nothing of how it was waited for
missed_given_up : (old s t : Patience) → t ≡ record s { was_missed = true; missed = t.missed }
    → IsGivenUp old s → IsGivenUp old t
missed_given_up old s t is h = subst (IsGivenUp old) (sym is) h

pub missed_or : {A B : Type 0} (old s t : Patience) → t ≡ record s { was_missed = true; missed = t.missed } → (A → B)
    → IsGivenUp old s ⊎ A → IsGivenUp old t ⊎ B
missed_or old s t is f (inl h) = inl (missed_given_up old s t is h)
missed_or old s t is f (inr a) = inr (f a)
