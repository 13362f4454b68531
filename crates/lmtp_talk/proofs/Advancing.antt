-- What carries a conversation on, one stretch of bytes after another.
use Rattle.std.proofs.Common.{◌≡◌, ℕ, ◌+◌, ◌-◌, ◌≤◌, List, ◌++◌, length, take, drop, sym, ap, ◌∙◌, subst, arith, append_assoc, length-take-le, take-append-drop}
use Rattle.std.proofs.Common.{length-drop}
use Rattle.std.proofs.Math.Seq.{take-append-add}
use Rattle.std.proofs.lemmas.List.{take_all}
use Rattle.mail_world.specs.Lists.{Transaction}
use Rattle.lmtp_talk.specs.declared.dialogue.Dialogue.{Dialogue}
use Rattle.lmtp_talk.specs.Parties.{Parties}
use Rattle.lmtp_talk.specs.TalkState.{IsSoFar, talk_state, beginning}
use Rattle.lmtp_talk.specs.Steps.{Advances, talk}

module _ {D : Type 0} (HasCome : D → ℕ → List Transaction → Type 0) (IsDrafting : D → ℕ → List Transaction → List ℕ → Type 0) where
  pub advances_then : (a b c : Dialogue) (p q r : Parties) (d e f : D) (x y : List ℕ) → Advances HasCome IsDrafting (talk a p d) (talk b q e) x
      → Advances HasCome IsDrafting (talk b q e) (talk c r f) y
      → Advances HasCome IsDrafting (talk a p d) (talk c r f) (x ++ y)
  advances_then a b c p q r d e f x y one two site start first handled came h =
      subst (λ l. IsSoFar (beginning site start (HasCome first)) (talk_state c r (HasCome f) (IsDrafting f)) l came) (append_assoc handled x y)
      (two site start first (handled ++ x) came (one site start first handled came h))

pub rest_of : (at : ℕ) (s : List ℕ) → take (length s - at) (drop at s) ≡ drop at s
rest_of at s = take_all (length s - at) (drop at s) (omega (arith, length-drop at s))

pub take_more : (at used : ℕ) (s : List ℕ) → at ≤ length s → take at s ++ take used (drop at s) ≡ take (at + used) s
take_more at used s within =
    sym (take-append-add (take at s) (drop at s) used)
    ∙ ap (λ n. take (n + used) (take at s ++ drop at s)) (length-take-le at s within)
    ∙ ap (λ l. take (at + used) l) (take-append-drop at s)
