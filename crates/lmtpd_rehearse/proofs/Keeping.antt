-- A mailbox that was empty and hasn't failed: all of its copies are settled.
use Rattle.std.proofs.Common.{◌≡◌, ℕ, ◌+◌, ◌≤◌, List, [], ◌∷◌, ◌++◌, length, take, drop, Bool, true, false, Option, Some, None, inl, inr, refl}
use Rattle.std.proofs.Common.{ap, ◌∙◌, append-nil, arith}
use Rattle.std.specs.Prelude.{nat_lt, if◌then◌else◌}
use Rattle.std.specs.List.{AllByRecursion}
use Rattle.std.proofs.lemmas.Bool.Decides.{nat_tests}
use Rattle.std.proofs.lemmas.List.{take_all, drop_all}
use Rattle.mail_world.specs.declared.Note.{Note}
use Rattle.mail_world.specs.declared.Outcome.{Outcome}
use Rattle.mail_world.specs.declared.Outcome.TheVariants.{Stored, OverQuota}
use Rattle.mail_world.specs.Site.{Site}
use Rattle.mail_world.specs.Records.{Calendar, record_of, mailbox}
use Rattle.mail_world.specs.Quotas.{fits, are_kept_after, are_kept, kept, marked, outcomes_settled}
use Rattle.mail_world.specs.Deliveries.{IsTorn}
use Rattle.lmtpd_rehearse.specs.Account.{IsSettledOutcome}
use Rattle.lmtpd_rehearse.specs.Copies.{HoldsCopies, kept_later}

pub record HoldsAll (calendar : Calendar) (site : Site) (quota : Option ℕ) (notes : List Note) (outcomes : List Outcome) (bytes : List ℕ) : Type 0 where
  pub told : outcomes ≡ outcomes_settled (length notes) (are_kept calendar site quota [] notes)
  pub held : bytes ≡ mailbox calendar site [] (kept calendar site quota [] notes)

marked_none : {A : Type 0} (marks : List Bool) → marked {A = A} marks [] ≡ []
marked_none [] = refl
marked_none (true ∷ marks) = refl
marked_none (false ∷ marks) = refl

all_if_sound : (settled size : ℕ) → settled ≤ size → false ≡ nat_lt settled size → settled ≡ size
all_if_sound settled size within fails = let high : size ≤ settled = grind (arith, nat_tests, fails) in omega (arith, within, high)

none_torn : (calendar : Calendar) (site : Site) (notes : List Note) (torn : List ℕ) → notes ≡ [] → IsTorn calendar site notes torn → torn ≡ []
none_torn calendar site [] torn e h = h
none_torn calendar site (x ∷ notes) torn e h = cc

pub holds_all : (calendar : Calendar) (site : Site) (quota : Option ℕ) (notes : List Note) (outcomes : List Outcome) (bytes : List ℕ)
    → HoldsCopies calendar site quota notes outcomes bytes false → HoldsAll calendar site quota notes outcomes bytes
holds_all calendar site quota notes outcomes bytes h =
    let all : h.settled ≡ length notes = all_if_sound h.settled (length notes) h.within h.fails in
    let taken : take h.settled notes ≡ notes = take_all h.settled notes (omega (arith, all)) in
    let marks : List Bool = drop h.settled (are_kept calendar site quota [] notes) in
    let none : kept_later calendar site quota h.settled notes ≡ [] = ap (marked marks) (drop_all h.settled notes (omega (arith, all))) ∙ marked_none marks in
    let whole : h.torn ≡ [] = none_torn calendar site (kept_later calendar site quota h.settled notes) h.torn none h.tears in
    let held : List Note → List ℕ = λ l. mailbox calendar site [] (kept calendar site quota [] l) in
    record {
      told = h.told ∙ ap (λ n. outcomes_settled n (are_kept calendar site quota [] notes)) all;
      held = h.held ∙ ap (λ l. held (take h.settled notes) ++ l) whole ∙ append-nil (held (take h.settled notes)) ∙ ap held taken;
    }

-- and what was told of each says so
module _ (calendar : Calendar) (site : Site) where
  kept_or_over : (quota : ℕ) (t : Bool) → IsSettledOutcome (Some quota) (if t then Stored else OverQuota)
  kept_or_over quota true = inl refl
  kept_or_over quota false = inr refl

  settled_after : (quota : Option ℕ) (len : ℕ) (notes : List Note)
      → AllByRecursion (IsSettledOutcome quota) (outcomes_settled (length notes) (are_kept_after calendar site quota len notes))
  settled_after quota len [] = tt
  settled_after None len (x ∷ notes) = (refl, settled_after None (len + length (record_of calendar site x)) notes)
  settled_after (Some quota) len (x ∷ notes) =
      let size = length (record_of calendar site x) in
      let t = fits (Some quota) len size in
      (kept_or_over quota t, settled_after (Some quota) (if t then len + size else len) notes)

  pub all_settled : (quota : Option ℕ) (notes : List Note)
      → AllByRecursion (IsSettledOutcome quota) (outcomes_settled (length notes) (are_kept calendar site quota [] notes))
  unfolding are_kept
  all_settled quota notes = settled_after quota 0 notes
