-- A text whose From lines are quoted while it comes: what is still owed of it.
use Rattle.std.specs.Prelude.{ℕ, ◌≤◌, ◌==◌, List, [], ◌∷◌, ◌++◌, take, if◌then◌else◌, codes, ⊤}
use Rattle.mail_world.specs.Text.{cr, lf, unix}
use Rattle.mail_world.specs.Records.{quoted_text}
use Rattle.mbox_spool.specs.declared.pending.Pending.{Pending as Declared}
use Rattle.mbox_spool.specs.declared.pending.Pending.TheVariants.{Start, QuoteMarks, Word, Inside, Cr}

-- where in a line of the text a writer stands, and what it holds back of it
abbrev pub Pending : Type 0
Pending = Declared

-- of `From ` fewer bytes than all are held back, and one at least
abbrev pub IsPending : Pending → Type 0
IsPending (Word n) = (1 ≤ n) × (n ≤ 4)
IsPending _ = ⊤

-- the rest of a line that isn't a From line, with LF at its end, and the lines after it
abbrev pub line_rest : List ℕ → List ℕ
line_rest [] = lf ∷ []
line_rest (b ∷ text) = if b == lf then lf ∷ quoted_text text else b ∷ line_rest text

-- the rest of a line that began with `>`, and the lines after it
abbrev pub after_quote_mark : List ℕ → List ℕ
after_quote_mark [] = lf ∷ []
after_quote_mark (b ∷ text) = quoted_text (b ∷ text)

-- what is still written if this is the rest of the text
abbrev pub quoted_owed : Pending → List ℕ → List ℕ
quoted_owed Start text = quoted_text (unix text)
quoted_owed QuoteMarks text = after_quote_mark (unix text)
quoted_owed (Word n) text = quoted_text (unix (take n (codes "From ") ++ text))
quoted_owed Inside text = line_rest (unix text)
quoted_owed Cr text = line_rest (unix (cr ∷ text))
