-- What became of the messages of a rehearsal.
use Rattle.std.specs.Prelude.{◌≡◌, ◌⊎◌, ⊤, ℕ, List, [], ◌∷◌, Option, Some, None}
use Rattle.mail_world.specs.declared.Outcome.{Outcome}
use Rattle.mail_world.specs.declared.Outcome.TheVariants.{Stored, OverQuota}
use Rattle.mail_world.specs.declared.Verdict.{Verdict}
use Rattle.mail_world.specs.declared.Verdict.TheVariants.{Whole}
use Rattle.mail_world.specs.Lists.{Transaction}
use Rattle.mail_world.specs.Quotas.{quota_at}

-- what is told of a copy that is settled: Stored, and under a quota it may be OverQuota
abbrev pub IsSettledOutcome : Option ℕ → Outcome → Type 0
IsSettledOutcome None outcome = outcome ≡ Stored
IsSettledOutcome (Some quota) outcome = (outcome ≡ Stored) ⊎ (outcome ≡ OverQuota)

-- an outcome for each of these recipients: that of a copy which is settled, under the quota of its mailbox
abbrev pub AreSettled : List (Option ℕ) → List ℕ → List Outcome → Type 0
AreSettled quotas [] [] = ⊤
AreSettled quotas (box ∷ boxes) (outcome ∷ outcomes) =
    IsSettledOutcome (quota_at quotas box) outcome × AreSettled quotas boxes outcomes
AreSettled quotas _ _ = ⊥

-- so it is for each recipient of a whole message
abbrev pub IsSettledIf : List (Option ℕ) → Transaction → Verdict → Type 0
IsSettledIf quotas t Whole = AreSettled quotas t.session.recipients t.disposition.outcomes
IsSettledIf quotas t _ = ⊤

abbrev pub IsAllSettled : List (Option ℕ) → Transaction → Type 0
IsAllSettled quotas t = IsSettledIf quotas t t.disposition.verdict
