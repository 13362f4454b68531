-- A limit of bytes for each mailbox: which copies are kept, and what is told of them.
use Rattle.std.specs.Prelude.{ℕ, zero, suc, ◌+◌, nat_le, Bool, true, false, List, [], ◌∷◌, ◌++◌, length, if◌then◌else◌}
use Rattle.std.specs.Prelude.{Option, Some, None, get_or}
use Rattle.mail_world.specs.declared.Note.{Note}
use Rattle.mail_world.specs.declared.Outcome.{Outcome}
use Rattle.mail_world.specs.declared.Outcome.TheVariants.{Stored, Failed, OverQuota}
use Rattle.mail_world.specs.Records.{Calendar, record_of}
use Rattle.mail_world.specs.Endings.{mended}
use Rattle.mail_world.specs.Site.{Site}

-- the quota of the mailbox with that number, where these are those of the mailboxes in their order; none where there is
-- no such mailbox
abbrev pub quota_at : List (Option ℕ) → ℕ → Option ℕ
quota_at quotas b = get_or quotas b None

-- a record of that size may stand after that many bytes
abbrev pub fits : Option ℕ → ℕ → ℕ → Bool
fits None len size = true
fits (Some quota) len size = nat_le (len + size) quota

-- for each note whether it is kept after that many bytes, which grow by the record of a note that is
abbrev pub are_kept_after : Calendar → Site → Option ℕ → ℕ → List Note → List Bool
are_kept_after calendar site quota len [] = []
are_kept_after calendar site quota len (note ∷ notes) =
    let size = length (record_of calendar site note) in
    let is_kept = fits quota len size in
    is_kept ∷ are_kept_after calendar site quota (if is_kept then len + size else len) notes

-- the first stand after the old bytes and what mends them, which no quota refuses
unfoldable pub are_kept : Calendar → Site → Option ℕ → List ℕ → List Note → List Bool
are_kept calendar site quota old notes = are_kept_after calendar site quota (length (old ++ mended old)) notes

-- the elements that are marked
abbrev pub marked : {A : Type 0} → List Bool → List A → List A
marked (true ∷ marks) (x ∷ xs) = x ∷ marked marks xs
marked (false ∷ marks) (x ∷ xs) = marked marks xs
marked _ _ = []

-- the notes that a mailbox keeps which held these bytes
abbrev pub kept : Calendar → Site → Option ℕ → List ℕ → List Note → List Note
kept calendar site quota old notes = marked (are_kept calendar site quota old notes) notes

-- what is told of notes, by whether each is kept: that many, the first ones, were settled, so that a kept one is
-- Stored and any other OverQuota; those after them are Failed
abbrev pub outcomes_settled : ℕ → List Bool → List Outcome
outcomes_settled settled [] = []
outcomes_settled zero (is_kept ∷ marks) = Failed ∷ outcomes_settled zero marks
outcomes_settled (suc settled) (is_kept ∷ marks) =
    (if is_kept then Stored else OverQuota) ∷ outcomes_settled settled marks
