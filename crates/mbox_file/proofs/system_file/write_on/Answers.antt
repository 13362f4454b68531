use Rattle.mbox_file.proofs.Written.{took, took_none}
use Rattle.mbox_file.proofs.system_file.write_on.Goals as goal
use Rattle.mbox_file.proofs.system_file.write_on.Goals.{in-Ok, in-Err}

pub loop-preserved : goal.loop-preserved
loop-preserved g c = elim c.match-write.branch [
  | in-Ok w ↦ rw w.count-is (took _ _ _ _ _ c.loop.invariant.0 c.loop.invariant.1 _ w.in-Ok.ensures.bound w.in-Ok.ensures.bytes)
  | in-Err w ↦ rw w.count-is (took_none _ _ _ _ _ c.loop.invariant.0 c.loop.invariant.1 w.in-Err.ensures.bytes)
]
