use Rattle.std.proofs.Common.{arith}
use Rattle.lmtp_text.proofs.FirstPlaces.{firsts-next}
use Rattle.lmtp_text.proofs.first_addresses.FirstAddresses.of.Goals as goal

pub loop-place-preserved : goal.loop-place-preserved
loop-place-preserved c =
    firsts-next c.args.names.now c.loop-place.place c.at.result.now c.loop-place.firsts c.add_name.new.self (omega arith) c.at.ensures.value c.in_ok-add_name.ensures
    c.loop-place.invariant
