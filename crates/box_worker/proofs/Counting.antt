-- What a worker's count under a quota tells of the next record.
use Rattle.std.proofs.Common.{◌≡◌, ℕ, ◌+◌, ◌≤◌, ◌<◌, ◌^◌, true, false, List, length, Option, Some, None, refl, ap}
use Rattle.std.proofs.Common.{◌∙◌, subst, arith, length-append}
use Rattle.std.specs.Prelude.{nat_le}
use Rattle.std.proofs.lemmas.Bool.Decides.{nat_tests}
use Rattle.mail_world.specs.Counts.{counted}
use Rattle.mail_world.specs.Quotas.{fits}
use Rattle.mail_world.specs.Endings.{ending, mends, mended}
use Rattle.mbox_spool.specs.Spool.{SpoolState}
use Rattle.mbox_spool.specs.Tail.{ending_of}
use Rattle.mbox_spool.specs.declared.tail.Tail.{Tail}
use Rattle.box_worker.specs.declared.limit.Limit.{Limit}
use Rattle.box_worker.specs.Limits.{CountsTo, start_of, missing, IsLetIn, IsKeptOut}

-- a count that stays at its largest value is exact wherever something fits after it
exact : (quota n size : ℕ) → quota < 2 ^ 64 → 1 ≤ size → counted n + size ≤ quota → counted n ≡ n
exact quota n size below some h = omega (arith, below, some, h)

fitting : (quota n size : ℕ) → quota < 2 ^ 64 → 1 ≤ size → counted n + size ≤ quota → nat_le (n + size) quota ≡ true
fitting quota n size below some h = let same = exact quota n size below some h in grind (arith, nat_tests, same, h)

unfitting : (quota n size : ℕ) → quota < counted n + size → nat_le (n + size) quota ≡ false
unfitting quota n size h = let most : counted n ≤ n = omega arith in grind (arith, nat_tests, most, h)

pub let_in : (quota : Option ℕ) (n size : ℕ) (old new : Option Limit) → 1 ≤ size → CountsTo quota n old → IsLetIn old size new
    → (fits quota n size ≡ true) × CountsTo quota (n + size) new
let_in None n size old new some counts h = let P : Option Limit → Type 0 = λ l. IsLetIn l size new in (refl, subst P counts h)
let_in (Some quota) n size old new some counts h =
    let P : Option Limit → Type 0 = λ l. IsLetIn l size new in
    let in' = subst P counts.1 h in
    let same = exact quota n size counts.0 some in'.0 in
    let after : counted n + size ≡ counted (n + size) = let below = counts.0 in let most = in'.0 in omega (arith, same, below, most) in
    (fitting quota n size counts.0 some in'.0, (counts.0, in'.1 ∙ ap (λ (held : ℕ). let l : Limit = record { quota = quota; held = held } in Some l) after))

pub kept_out : (quota : Option ℕ) (n size : ℕ) (old : Option Limit) → CountsTo quota n old → IsKeptOut old size → fits quota n size ≡ false
kept_out None n size old counts h = let P : Option Limit → Type 0 = λ l. IsKeptOut l size in absurd (subst P counts h)
kept_out (Some quota) n size old counts h = let P : Option Limit → Type 0 = λ l. IsKeptOut l size in unfitting quota n size (subst P counts.1 h)

pub mending_size : (held : List ℕ) (tail : Tail) → ending_of tail ≡ ending held → missing tail ≡ length (mended held)
mending_size held tail ends = ap (λ e. length (mends e)) ends

-- what stands before the first record, by what a spool says
pub starts_at : (spool : SpoolState) (tail : Tail) (held : ℕ) → ending_of tail ≡ ending spool.bytes → held ≡ counted (length spool.bytes)
    → counted (held + missing tail) ≡ counted (start_of spool)
starts_at spool tail held ends known =
    let same : missing tail ≡ length (mended spool.bytes) = mending_size spool.bytes tail ends in
    let long = length-append spool.bytes (mended spool.bytes) in
    omega (arith, same, long, known)
