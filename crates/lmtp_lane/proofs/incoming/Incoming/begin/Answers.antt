use Rattle.lmtp_lane.proofs.Coming.{none_came}
use Rattle.lmtp_lane.proofs.incoming.Incoming.begin.Goals as goal

pub returns : goal.returns
returns g c = none_came c.args.refuses c.begin.result _ c.form_at_start-self.result c.begin.ensures c.form_at_start-self.ensures
