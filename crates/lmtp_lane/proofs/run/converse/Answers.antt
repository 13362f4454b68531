use Rattle.lmtp_lane.proofs.Visiting.{conversed}
use Rattle.lmtp_lane.proofs.run.converse.Goals as goal

pub returns-clause-converses : goal.returns-clause-converses
returns-clause-converses g c =
    conversed _ _ _ _ _ _ _ _ _ c.serve-end.ensures.serves c.serve-end.ensures.reads c.done.ensures.finishes c.done.ensures.counts c.ended.ensures
