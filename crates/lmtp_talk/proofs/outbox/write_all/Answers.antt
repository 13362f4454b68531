use Rattle.std.proofs.Common.{◌∙◌}
use Rattle.lmtp_talk.proofs.Written.{given_more}
use Rattle.lmtp_talk.proofs.outbox.write_all.Goals as goal

pub loop-rest-preserved : goal.loop-rest-preserved
loop-rest-preserved g c = record {
  given = given_more _ _ _ _ c.loop-rest.rest.now c.in_ok-n.n c.loop-rest.invariant.given c.in_ok-n.ensures.ok.2;
  reads = c.write.ensures.reads ∙ c.loop-rest.invariant.reads;
}
