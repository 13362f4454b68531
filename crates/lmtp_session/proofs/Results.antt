-- The replies to recipients, one more at a time.
use Rattle.std.proofs.Common.{◌≡◌, ℕ, zero, suc, ◌+◌, ◌<◌, List, [], ◌∷◌, ◌++◌, length, take, get_or, refl, ap, arith, add-one}
use Rattle.mail_world.specs.declared.Outcome.{Outcome}
use Rattle.mail_world.specs.declared.Reply.TheVariants as replies
use Rattle.mail_world.specs.Session.{results}

pub results_more : (os : List Outcome) (boxes : List ℕ) (i : ℕ) (o : Outcome) → i < length os → length os ≡ length boxes
    → results (take (i + 1) os) (take (i + 1) boxes) ≡ results (take i os) (take i boxes) ++ replies.Result (get_or os i o) (get_or boxes i 0) ∷ []
results_more [] boxes i o h e = absurd (omega arith)
results_more (x ∷ os) [] i o h e = absurd (omega arith)
results_more (x ∷ os) (b ∷ boxes) zero o h e = refl
results_more (x ∷ os) (b ∷ boxes) (suc i) o h e =
    let step = results_more os boxes i o (omega arith) (omega arith) in
    rw add-one (ap (λ rs. replies.Result x b ∷ rs) (rw add-one at step))
