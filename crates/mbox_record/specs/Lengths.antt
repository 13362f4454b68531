-- How long the text of a message is in its record.
use Rattle.std.specs.Prelude.{◌≡◌, ℕ, Bool, List, [], ◌∷◌, ◌++◌, length, if◌then◌else◌}
use Rattle.mail_world.specs.Counts.{counted}
use Rattle.mail_world.specs.Marks.{marked}
use Rattle.mail_world.specs.Records.{quoted_text}
use Rattle.mail_world.specs.Text.{lf, unix}
use Rattle.mbox_spool.specs.Quoted.{quoted_owed}
use Rattle.mbox_spool.specs.Writing.{Counts}
use Rattle.mbox_record.specs.Writing.{bytes_owed}
use Rattle.mbox_record.specs.declared.lengths.Lengths.{Lengths}
use Rattle.mbox_record.specs.declared.lengths.LengthCounter.{LengthCounter}

-- what stands in a record after its head: the text, with its marks as they are or renamed, and an empty line
abbrev pub text_after_head : Bool → List ℕ → List ℕ
text_after_head renames_marks message =
    quoted_text (if renames_marks then marked (unix message) else unix message) ++ lf ∷ []

-- how long that is where marks stay, and where they are renamed; a count stays at 2^64 - 1
abbrev pub lengths_of : List ℕ → Lengths
lengths_of message = record {
  plain = counted (length (quoted_text (unix message) ++ lf ∷ []));
  marked = counted (length (quoted_text (marked (unix message)) ++ lf ∷ []));
}

-- both lengths are counted as far as this beginning of a message tells
pub record HasCounted (counter : LengthCounter) (begun : List ℕ) : Type 0 where
  pub plain : Counts counter.lengths.plain (λ rest. quoted_text (unix (begun ++ rest))) (quoted_owed counter.plain)
  pub marked : Counts counter.lengths.marked (λ rest. quoted_text (marked (unix (begun ++ rest))))
      (bytes_owed counter.marked)
