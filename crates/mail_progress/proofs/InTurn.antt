-- Tried in order, the steps that go on give a first one, or all is finished.
use Rattle.std.proofs.Common.{◌⊎◌, ℕ, inl, inr, arith}
use Rattle.mail_world.specs.House.{House}
use Rattle.mail_world.specs.Runs.{last_house}
use Rattle.mail_progress.specs.GoingOn.{MayGoOn}
use Rattle.mail_progress.specs.NothingStuck.{AreThere}
use Rattle.mail_progress.specs.InTurn.{TriedInTurn}
use Rattle.mail_progress.proofs.Reached.{IsReached, reached}
use Rattle.mail_progress.proofs.AllFinished.{ends_finished}
use Rattle.mail_progress.proofs.Ranks.{NoneBelow, HasFirst, next_rank, within_twelve}
use Rattle.mail_progress.proofs.LaneRanks.{drafts_decided, splits_decided, offers_decided, collects_decided, reclaims_decided}
use Rattle.mail_progress.proofs.WorkerRanks.{takes_decided, locks_decided, writes_decided, syncs_decided, unlocks_decided, releases_decided, gives_decided}

tried : (room blocks : ℕ) (next : ℕ → ℕ) (h : House) → IsReached room blocks h → AreThere next h → HasFirst room next h ⊎ (MayGoOn room next h → ⊥)
tried room blocks next h f all =
    let Tried : ℕ → Type 0 = λ r. HasFirst room next h ⊎ NoneBelow room next h r in
    let t₀ : Tried 0 = inr (λ m. omega arith) in
    let t₁ : Tried 1 = next_rank room next h 0 t₀ (λ below. drafts_decided room blocks next h f) in
    let t₂ : Tried 2 = next_rank room next h 1 t₁ (λ below. splits_decided room next h) in
    let t₃ : Tried 3 = next_rank room next h 2 t₂ (offers_decided room blocks next h f all) in
    let t₄ : Tried 4 = next_rank room next h 3 t₃ (λ below. takes_decided room next h) in
    let t₅ : Tried 5 = next_rank room next h 4 t₄ (λ below. locks_decided room blocks next h f) in
    let t₆ : Tried 6 = next_rank room next h 5 t₅ (λ below. writes_decided room blocks next h f) in
    let t₇ : Tried 7 = next_rank room next h 6 t₆ (λ below. syncs_decided room blocks next h f) in
    let t₈ : Tried 8 = next_rank room next h 7 t₇ (λ below. unlocks_decided room blocks next h f) in
    let t₉ : Tried 9 = next_rank room next h 8 t₈ (λ below. releases_decided room blocks next h f) in
    let t₁₀ : Tried 10 = next_rank room next h 9 t₉ (λ below. gives_decided room blocks next h f) in
    let t₁₁ : Tried 11 = next_rank room next h 10 t₁₀ (λ below. collects_decided room next h) in
    elim (next_rank room next h 11 t₁₁ (λ below. reclaims_decided room next h)) [
      | inl first ↦ inl first
      | inr below ↦ inr (λ m. let high = below m in let low = within_twelve next h m.event m.goes_on in absurd (omega arith))
    ]

pub tried_in_turn : TriedInTurn
tried_in_turn room blocks start run is r o some capable next all =
    let h = last_house start run in
    elim (tried room blocks next h (reached room blocks start run is r o some) all) [
      | inl first ↦ inr first
      | inr still ↦ inl (ends_finished room blocks start run is r o some capable next all still)
    ]
