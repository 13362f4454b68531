use Rattle.box_worker.proofs.Patience.{next_taken}
use Rattle.box_worker.proofs.patient.next_copy.Goals as goal

pub returns-else-others_wait-clause-next : goal.returns-else-others_wait-clause-next
returns-else-others_wait-clause-next g c =
    let t = c.take.ensures in next_taken g.K.Moment.after _ _ c.take.result t.post t.lane t.timed t.open_still t.nothing t.no_time t.gone t.closed
