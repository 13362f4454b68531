-- A mailbox whose torn tail is mended, so that a record may follow.
use Rattle.std.specs.Prelude.{◌≡◌, ℕ, true, List}
use Rattle.mail_world.specs.Endings.{mended}
use Rattle.mbox_spool.specs.TurnState.{knows_end}
use Rattle.mbox_spool.specs.Spool.{SpoolState, SpoolTook, SpoolFailed}

-- the spool took what the bytes that it held need
pub record HasMended (old new : SpoolState) : Type 0 where
  pub text : List ℕ
  pub is : knows_end old.turn ≡ true → text ≡ mended old.bytes
  pub taken : SpoolTook old new text

-- the spool failed before it had all of it
pub record HasNotMended (old new : SpoolState) : Type 0 where
  pub text : List ℕ
  pub is : knows_end old.turn ≡ true → text ≡ mended old.bytes
  pub failed : SpoolFailed old new text
