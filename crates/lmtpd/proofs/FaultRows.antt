-- What the definitions of faults give, by computing: a row for each case that no run of the program reaches as easily.
use Rattle.std.proofs.Common.{◌≡◌, refl, Bool, true, false, Some, None}
use Rattle.lmtp_talk.specs.declared.ending.EndCause.{EndCause}
use Rattle.lmtp_talk.specs.declared.ending.EndCause.TheVariants.{EndOfInput, Quit, ReadFault, WriteFault}
use Rattle.lmtpd_rehearse.specs.declared.ending.Ending.{Ending}
use Rattle.lmtpd_serve.specs.declared.served.ServerEnding.{ServerEnding}
use Rattle.lmtpd_setup.specs.declared.fault.Fault.TheVariants as fault
use Rattle.lmtpd.specs.Lacking.{rehearsal_fault, server_fault}

abbrev pub ended : EndCause → Bool → Bool → Ending
ended end faulty cut = record { end = end; faulty = faulty; cut = cut }

pub quit : rehearsal_fault (ended Quit false false) ≡ None
quit = refl

pub end_of_input : rehearsal_fault (ended EndOfInput false false) ≡ None
end_of_input = refl

pub read_fault : rehearsal_fault (ended ReadFault false false) ≡ Some fault.Device
read_fault = refl

pub write_fault : rehearsal_fault (ended WriteFault false false) ≡ Some fault.Device
write_fault = refl

pub faulty_spool : rehearsal_fault (ended Quit true false) ≡ Some fault.Device
faulty_spool = refl

pub cut_listing : rehearsal_fault (ended Quit false true) ≡ Some fault.Device
cut_listing = refl

abbrev pub served : Bool → Bool → Bool → ServerEnding
served faulty failed cut = record { faulty = faulty; failed = failed; cut = cut; stopped = false }

pub served_well : server_fault (served false false false) ≡ None
served_well = refl

pub listener_failed : server_fault (served false true false) ≡ Some fault.Listen
listener_failed = refl

pub spool_failed : server_fault (served true false false) ≡ Some fault.Device
spool_failed = refl

pub write_failed : server_fault (served false false true) ≡ Some fault.Device
write_failed = refl

-- a device's fault comes before a listener's
pub spool_and_listener_failed : server_fault (served true true false) ≡ Some fault.Device
spool_and_listener_failed = refl

pub write_and_listener_failed : server_fault (served false true true) ≡ Some fault.Device
write_and_listener_failed = refl
