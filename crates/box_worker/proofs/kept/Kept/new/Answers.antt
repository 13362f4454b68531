use Rattle.box_worker.specs.Limits.{setting_by}
use Rattle.box_worker.specs.Turned.{manner_of}
use Rattle.box_worker.proofs.Working.{working_none}
use Rattle.box_worker.proofs.kept.Kept.new.Goals as goal

pub returns-clause-new : goal.returns-clause-new
returns-clause-new g c site slips inbox numbered =
    working_none (setting_by site c.args.quota c.args.number) (manner_of g.S.Spool.MayFind g.S.Spool.MayRefuse) slips inbox (g.S.Spool.state c.args.spool) c.on.result
    (g.O.TurnObserver.told c.args.observer) numbered c.on.ensures.mailbox c.on.ensures.in_use c.on.ensures.counts
