-- A text that is written while it comes: what is still owed of it.
use Rattle.std.specs.Prelude.{◌≡◌, ℕ, List, ◌++◌, length}
use Rattle.mail_world.specs.Counts.{counted}
use Rattle.mail_world.specs.Prefixes.{IsPrefix}
use Rattle.mbox_spool.specs.Spool.{SpoolState, SpoolTook, SpoolFailed}

-- The spool took a text, and what was owed before, whatever the rest is, is that text and what is owed after it.
pub record Writes (old new : SpoolState) (before after : List ℕ → List ℕ) : Type 0 where
  pub text : List ℕ
  pub taken : SpoolTook old new text
  pub goes : (rest : List ℕ) → text ++ after rest ≡ before rest

-- The spool failed within a text that was owed, whatever the rest is.
pub record Fails (old new : SpoolState) (before : List ℕ → List ℕ) : Type 0 where
  pub text : List ℕ
  pub failed : SpoolFailed old new text
  pub sure : (rest : List ℕ) → IsPrefix text (before rest)

-- The count is the length of a text, and what was owed before, whatever the rest is, is that text and what is owed
-- after it.
pub record Counts (count : ℕ) (before after : List ℕ → List ℕ) : Type 0 where
  pub text : List ℕ
  pub is : count ≡ counted (length text)
  pub goes : (rest : List ℕ) → text ++ after rest ≡ before rest
