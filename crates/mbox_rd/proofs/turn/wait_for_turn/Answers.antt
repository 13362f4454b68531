use Rattle.mbox_rd.proofs.Trying.{between-start}
use Rattle.mbox_rd.proofs.Pausing.{none_made}
use Rattle.mbox_rd.proofs.turn.wait_for_turn.Goals as goal

pub loop-made-init : goal.loop-made-init
loop-made-init g c = (between-start _, none_made _ c.requires.unpaused)
