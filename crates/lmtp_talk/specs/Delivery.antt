-- What a delivery has come to.
use Rattle.std.specs.Prelude.{◌≡◌, ℕ, List, [], ◌∷◌, ◌++◌, length, take, Result, Ok, Err}
use Rattle.mail_world.specs.declared.Outcome.{Outcome}
use Rattle.mail_world.specs.declared.Verdict.{Verdict}
use Rattle.mail_world.specs.declared.Verdict.TheVariants.{Whole}
use Rattle.mail_world.specs.Session.{Session}
use Rattle.mail_world.specs.Conversation.{Disposition}
use Rattle.mail_world.specs.Lists.{Transaction}
use Rattle.lmtp_wire.specs.declared.dot.Dot.{Dot}
use Rattle.lmtp_wire.specs.declared.dot.Fed.{Fed}
use Rattle.lmtp_wire.specs.Dot.{HasMade, HasFed}

-- what became of the data: a whole message was delivered with these outcomes, or it was refused by a verdict
abbrev pub ended_so : Result (Unit {0}) Verdict → ℕ → List Outcome → Disposition
ended_so (Ok done) moment told = record { verdict = Whole; moment = moment; outcomes = told }
ended_so (Err verdict) moment told = record { verdict = verdict; moment = moment; outcomes = [] }

-- a dot was fed with a prefix of the bytes, whatever it had taken before, and what it made of them came to the draft
pub record Takes (Before After : ℕ → List Transaction → List ℕ → Type 0) (old new : Dot) (bytes : List ℕ) (fed : Fed)
    : Type 0 where
  pub text : List ℕ
  pub many : length text ≡ fed.made
  pub feeds : (taken made : List ℕ) → HasMade old taken made
      → HasFed new (taken ++ take fed.used bytes) (made ++ text) fed.ended
  pub drafts : (n : ℕ) (ts : List Transaction) (message : List ℕ) → Before n ts message → After n ts (message ++ text)

-- the draft is one more transaction: of this session, with this message, and this became of it
abbrev pub EndsDraft : (ℕ → List Transaction → Type 0) → ℕ → List Transaction → Session → List ℕ → Disposition → Type 0
EndsDraft HasCome n ts session message disposition =
    HasCome n (ts ++ record { number = n; session = session; message = message; disposition = disposition } ∷ [])
