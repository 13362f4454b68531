use Rattle.lmtp_wire.proofs.AddedDots.{run_ended, cuts_run}
use Rattle.lmtp_wire.proofs.stuffing.cut_run.Goals as goal

pub returns-in_err-n : goal.returns-in_err-n
returns-in_err-n c = rw c.from_residual.ensures (run_ended c.args.text.now c.find.result c.in_err-n.was c.find.ensures)

pub returns : goal.returns
returns c = cuts_run c.args.text.now c.find.result c.in_ok-n.n c.in_ok-n.was c.in_ok-n.ensures.1.fits c.find.ensures
