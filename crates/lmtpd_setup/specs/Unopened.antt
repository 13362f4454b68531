-- Why the mailboxes of a server aren't all open.
use Rattle.std.specs.Prelude.{◌≡◌, ℕ, true, false, List, Contains}
use Rattle.std.specs.Borrow.{Bor}
use Rattle.lmtpd_setup.specs.declared.fault.Fault.TheVariants as fault
use Rattle.lmtpd_setup.specs.declared.access.Access.{Access}
use Rattle.lmtpd_setup.specs.declared.stop.Stop.{Stop}
use Rattle.lmtpd_setup.specs.declared.stop.Stop.TheVariants as stop

-- Memory is lacking, or the file of one of these names and the suffix can't be opened. A server that is to start anyway
-- isn't kept from it by a mailbox, only by a folder that can't be read.
abbrev pub AreNotOpen : Access → List (Bor (List ℕ)) → Stop → Type 0
AreNotOpen access names (stop.Unopened name suffix) =
    (access.anyway ≡ false) × Contains names name × (suffix ≡ access.suffix)
AreNotOpen access names (stop.NoFolder name suffix) =
    (access.anyway ≡ true) × Contains names name × (suffix ≡ access.suffix)
AreNotOpen access names (stop.Fault cause) = cause ≡ fault.Memory
AreNotOpen access names (stop.Name cause line) = ⊥
AreNotOpen access names (stop.Words refused) = ⊥
AreNotOpen access names (stop.Unread path) = ⊥

-- the same of one name
abbrev pub IsNotOpen : Access → Bor (List ℕ) → Stop → Type 0
IsNotOpen access mailbox (stop.Unopened name suffix) =
    (access.anyway ≡ false) × (name ≡ mailbox) × (suffix ≡ access.suffix)
IsNotOpen access mailbox (stop.NoFolder name suffix) =
    (access.anyway ≡ true) × (name ≡ mailbox) × (suffix ≡ access.suffix)
IsNotOpen access mailbox (stop.Fault cause) = cause ≡ fault.Memory
IsNotOpen access mailbox (stop.Name cause line) = ⊥
IsNotOpen access mailbox (stop.Words refused) = ⊥
IsNotOpen access mailbox (stop.Unread path) = ⊥
