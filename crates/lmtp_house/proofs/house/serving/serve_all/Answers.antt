use Rattle.std.proofs.Common.{ap, sym, ◌∙◌}
use Rattle.lmtp_threads.specs.Reports.{LaneColumns}
use Rattle.lmtp_house.proofs.house.serving.serve_all.Goals as goal

pub returns-clause-served : goal.returns-clause-served
returns-clause-served g c = c.in-Ok-run.ensures (sym (ap (λ (e : LaneColumns _). e.gone) c.lanes.view_is) ∙ c.if-lanes.false)
