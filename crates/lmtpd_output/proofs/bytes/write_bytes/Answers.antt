use Rattle.lmtpd_output.proofs.Written.{writes_more}
use Rattle.lmtpd_output.proofs.bytes.write_bytes.Goals as goal

pub loop-rest-preserved : goal.loop-rest-preserved
loop-rest-preserved g c = writes_more _ _ _ _ c.loop-rest.rest.now c.in-Ok.size c.loop-rest.invariant c.in-Ok.ensures.bytes
