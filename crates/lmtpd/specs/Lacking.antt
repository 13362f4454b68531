-- What the program's work lacked, once it is done.
use Rattle.std.specs.Prelude.{ℕ, Bool, true, false, not, ◌||◌, ◌&&◌, List, if◌then◌else◌, Option, Some, None}
use Rattle.std.specs.List.{list_all}
use Rattle.lmtp_talk.specs.declared.ending.EndCause.{EndCause}
use Rattle.lmtp_talk.specs.declared.ending.EndCause.TheVariants.{ReadFault, WriteFault}
use Rattle.lmtp_house.specs.declared.house.fault.HouseFault.{HouseFault}
use Rattle.lmtp_house.specs.declared.house.fault.HouseFault.TheVariants as house
use Rattle.lmtpd_check.specs.Checked.{is_letters}
use Rattle.lmtpd_check.specs.declared.checked.Finding.{Finding}
use Rattle.lmtpd_rehearse.specs.declared.ending.Ending.{Ending}
use Rattle.lmtpd_serve.specs.declared.served.ServerEnding.{ServerEnding}
use Rattle.lmtpd_setup.specs.declared.fault.Fault.{Fault}
use Rattle.lmtpd_setup.specs.declared.fault.Fault.TheVariants as fault

-- the fault for a server that didn't run
abbrev pub house_refusal : HouseFault → Fault
house_refusal house.Memory = fault.Memory
house_refusal house.Size = fault.Size
house_refusal house.ChannelGone = fault.ChannelGone
house_refusal house.NoThread = fault.NoThread

-- a read or a write failed
abbrev pub is_read_or_write_fault : EndCause → Bool
is_read_or_write_fault ReadFault = true
is_read_or_write_fault WriteFault = true
is_read_or_write_fault _ = false

-- a rehearsal in which a device failed
abbrev pub is_device_fault : Ending → Bool
is_device_fault ending = ending.faulty || ending.cut || is_read_or_write_fault ending.end

-- what a rehearsal that was held lacks
abbrev pub rehearsal_fault : Ending → Option Fault
rehearsal_fault ending = if is_device_fault ending then Some fault.Device else None

-- what a server that ran lacks: a device's fault comes before a listener's
abbrev pub server_fault : ServerEnding → Option Fault
server_fault ending =
    if ending.faulty || ending.cut then Some fault.Device else if ending.failed then Some fault.Listen else None

-- what a check of files lacks
abbrev pub check_fault : Bool → Option Fault
check_fault cut = if cut then Some fault.Device else None

-- the exit status of a check: 0 only where all was said, and of each file how many letters it has
abbrev pub check_status : List Finding → Bool → ℕ
check_status findings cut = if not cut && list_all is_letters findings then 0 else 1
