-- What became of the copies for one mailbox that was empty: which it holds, and what was told of each.
use Rattle.std.specs.Prelude.{◌≡◌, ◌≤◌, ℕ, nat_lt, Bool, true, List, [], ◌++◌, length, take, drop, slice_get, Option}
use Rattle.std.specs.Prelude.{Some}
use Rattle.mail_world.specs.declared.Note.{Note}
use Rattle.mail_world.specs.declared.Outcome.{Outcome}
use Rattle.mail_world.specs.Records.{Calendar, mailbox}
use Rattle.mail_world.specs.Quotas.{are_kept, kept, marked, outcomes_settled}
use Rattle.mail_world.specs.Deliveries.{IsTorn}
use Rattle.mail_world.specs.Site.{Site}

-- of the copies after the first n those that are kept
abbrev pub kept_later : Calendar → Site → Option ℕ → ℕ → List Note → List Note
kept_later calendar site quota n notes = marked (drop n (are_kept calendar site quota [] notes)) (drop n notes)

-- A mailbox that was empty took these copies under a quota, and told these outcomes: the first ones were settled,
-- each that is kept Stored and any other OverQuota, and after them all were told Failed. It holds the records of the
-- kept among those that were settled, and after them at most a prefix of that of the next one that is kept; it failed
-- where not all were settled.
pub record HoldsCopies (calendar : Calendar) (site : Site) (quota : Option ℕ) (notes : List Note)
    (outcomes : List Outcome) (bytes : List ℕ) (failed : Bool) : Type 0 where
  pub settled : ℕ
  pub torn : List ℕ
  pub within : settled ≤ length notes
  pub told : outcomes ≡ outcomes_settled settled (are_kept calendar site quota [] notes)
  pub held : bytes ≡ mailbox calendar site [] (kept calendar site quota [] (take settled notes)) ++ torn
  pub tears : IsTorn calendar site (kept_later calendar site quota settled notes) torn
  pub fails : failed ≡ nat_lt settled (length notes)
  -- its spool failed at a copy that is kept
  pub next : failed ≡ true → slice_get (are_kept calendar site quota [] notes) settled ≡ Some true
