-- A file that is made for a copy, where it tells.
use Rattle.std.specs.Prelude.{◌≡◌, ◌⊎◌, ℕ, Bool, true, false, List, [], Option, Some, None}
use Rattle.mail_world.specs.Failures.{Rises}

pub record TargetState : Type 0 where
  -- the path that it is made at
  pub path : List ℕ
  -- what it holds, where that is known
  pub bytes : Option (List ℕ)
  -- what of it a crash leaves, by its name
  pub kept : Option (List ℕ)
  -- it was made and not removed
  pub is_made : Bool
  -- how often it couldn't be removed
  pub unremoved : ℕ

-- it was made anew, and is empty
abbrev pub HasMade : TargetState → TargetState → Type 0
HasMade old new = new ≡ record old { bytes = Some []; is_made = true }

-- it wasn't: what is there by its name stays
abbrev pub HasNotMade : TargetState → TargetState → Type 0
HasNotMade old new = new ≡ old

-- only bytes were written
abbrev pub HasWritten : TargetState → TargetState → Type 0
HasWritten old new = new ≡ record old { bytes = new.bytes }

-- a call failed, and nobody knows what it holds
abbrev pub HasFailed : TargetState → TargetState → Type 0
HasFailed old new = new ≡ record old { bytes = new.bytes; kept = new.kept }

-- nothing of it is left, but where it couldn't be removed
pub record HasRemoved (old new : TargetState) : Type 0 where
  pub removed : (new.is_made ≡ false) ⊎ Rises old.unremoved new.unremoved

-- of a file of which only the path and the bytes are known
abbrev pub untold : List ℕ → Option (List ℕ) → TargetState
untold path bytes = record { path = path; bytes = bytes; kept = None; is_made = false; unremoved = 0 }

-- it is made at the same path
abbrev pub HasSamePath : TargetState → TargetState → Type 0
HasSamePath old new = new.path ≡ old.path

-- what the file holds that is open, if there is one
abbrev pub bytes_of : {F : Type 0} → (F → Option (List ℕ)) → Option F → Option (List ℕ)
bytes_of contents None = None
bytes_of contents (Some file) = contents file
