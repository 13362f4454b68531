-- What the file in the file system has, where its bytes are known: those of a runtime in memory, say.
use Rattle.std.specs.Prelude.{◌≡◌, ℕ, List, Option, Some, None, true, Box}
use Rattle.std.specs.declared.alloc.Global.{Global}
use Rattle.mbox_file.specs.declared.entry.Entry.{Entry}
use Rattle.mbox_file.specs.declared.plain.Identity.{Identity}
use Rattle.mbox_file.specs.declared.plain.OpenNode.{OpenNode}
use Rattle.mbox_file.specs.declared.workspace.Workspace.{Workspace}

-- the open file of a mailbox that has this at hand; a mailbox without a workspace has none open
abbrev pub open_of : {R F D : Type 0} → Option (Box (Workspace R F D) Global) → Option (OpenNode F)
open_of None = None
open_of (Some workspace) = workspace.value.open

-- what is known of the open file, if there is one
abbrev pub known_of : {F : Type 0} → (F → Option (List ℕ)) → Option (OpenNode F) → Option (List ℕ)
known_of known None = None
known_of known (Some opened) = known opened.file

-- which file is open, if there is one
abbrev pub identity_of_open : {F : Type 0} → Option (OpenNode F) → Option Identity
identity_of_open None = None
identity_of_open (Some opened) = Some opened.identity

-- the folder was synced for the open file
pub record IsKeptFor {F : Type 0} (entry : Entry) (file : Option (OpenNode F)) : Type 0 where
  pub is_kept : entry.is_kept ≡ true
  pub for_it : entry.kept_for ≡ identity_of_open file
