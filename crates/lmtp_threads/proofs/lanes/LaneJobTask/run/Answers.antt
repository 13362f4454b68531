use Rattle.std.proofs.Common.{subst, sym}
use Rattle.lmtp_threads.specs.Tasks.{LaneTask}
use Rattle.mail_post.specs.Offered.{HaveNumber}
use Rattle.lmtp_threads.proofs.lanes.LaneJobTask.run.Goals as goal

pub lane_run-requires-clause-lane : goal.lane_run-requires-clause-lane
lane_run-requires-clause-lane g c = subst (λ (j : LaneTask _ _). HaveNumber j.lane j.senders) (sym c.self.view_is) c.requires.lane
