use Rattle.lmtp_wire.specs.declared.dot.DataState.TheVariants.{LineStart}
use Rattle.std.proofs.Common.{[]}
use Rattle.lmtp_wire.proofs.StateSteps.{stands_none, stands_first, shown_first}
use Rattle.lmtp_wire.proofs.dot.Dot.new.Goals as goal

pub returns : goal.returns
returns c = record { goes_on = stands_none LineStart [] stands_first; shows = shown_first; stands = stands_first }
