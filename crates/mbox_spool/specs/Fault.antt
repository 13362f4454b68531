-- Why a spool took no more.
use Rattle.std.specs.Prelude.{ℤ, Option, Some, None}
use Rattle.std.specs.declared.io.ErrorKind.{ErrorKind}
use Rattle.mbox_spool.specs.declared.spool.SpoolFault.{SpoolFault}
use Rattle.mbox_spool.specs.declared.spool.SpoolFault.TheVariants.{System, Other}

-- of a call that failed: the system's number, where it gave one, or else the kind
abbrev pub fault_by : Option ℤ → ErrorKind → SpoolFault
fault_by (Some code) kind = System code
fault_by None kind = Other kind
