-- A record that is written while the message comes: what the writer still owes.
use Rattle.std.specs.Prelude.{ℕ, List, ◌++◌}
use Rattle.mbox_spool.specs.Spool.{SpoolState}
use Rattle.mbox_spool.specs.Quoted.{Pending, quoted_owed}
use Rattle.mbox_spool.specs.Writing.{Writes, Fails}
use Rattle.mbox_marks.specs.Marking.{Place, marks_owed}
use Rattle.mbox_marks.specs.Marked.{MayBeHeld}

-- what a writer has under way: how far the text is quoted, where in the message it stands, what it holds back of that
pub record Writer : Type 0 where
  pub quoted : Pending
  pub place : Place
  pub held : List ℕ

-- what a writer still writes if this text is the rest of the message
abbrev pub bytes_owed : Writer → List ℕ → List ℕ
bytes_owed writer text = quoted_owed writer.quoted (marks_owed writer.place (writer.held ++ text))

abbrev pub IsWriter : Writer → Type 0
IsWriter writer = MayBeHeld writer.place writer.held

-- the spool took what is sure, and the writer goes on from there
abbrev pub WritesPiece : SpoolState → SpoolState → Writer → Writer → List ℕ → Type 0
WritesPiece old new before after piece = Writes old new (λ rest. bytes_owed before (piece ++ rest)) (bytes_owed after)

-- the spool failed within what is sure
abbrev pub FailsPiece : SpoolState → SpoolState → Writer → List ℕ → Type 0
FailsPiece old new before piece = Fails old new (λ rest. bytes_owed before (piece ++ rest))
