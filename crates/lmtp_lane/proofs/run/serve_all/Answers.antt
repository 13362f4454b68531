use Rattle.std.proofs.Common.{◌∙◌, sym, subst, rules}
use Rattle.mail_world.specs.declared.limits.TheConstants.{RECIPIENT_LIMIT}
use Rattle.mail_world.specs.Lists.{transactions}
use Rattle.mail_runs.specs.Ordered.{AreExchanges}
use Rattle.lmtp_lane.specs.Visits.{conversations_of}
use Rattle.lmtp_lane.proofs.Visiting.{called_none, called_more}
use Rattle.lmtp_lane.proofs.run.serve_all.Goals as goal

pub loop-init : goal.loop-init
loop-init g c = record {
  here = c.requires.here;
  none_out = c.requires.none_out;
  others = λ peer may. may;
  called = called_none _ _ _ _ _ (c.requires.begun, c.requires.clock);
}

pub loop-preserved : goal.loop-preserved
loop-preserved g c =
    let before = c.loop.invariant in
    record {
      here = c.converse.ensures.site ∙ before.here;
      none_out = c.converse.ensures.back;
      others = λ peer may. before.others peer (c.next-in-loop.ensures.others peer (c.converse.ensures.others peer may));
      called = called_more c.args.reads _ _ _ _ _ _ _ _ _ _ _ _ _ _ _ before.here c.next-in-loop.ensures.same c.saturating_add-conversations.ensures
          (before.others _ c.in-Some-next.ensures.client) before.called c.converse.ensures.converses;
    }

pub returns-in_default : goal.returns-in_default
returns-in_default g c =
    let S = g.S.LaneStart in
    let called = c.loop.invariant.called in
    let x = called.come.0 in
    record {
      visits = called.visits;
      visited = search rules;
      logged = called.logged;
      ended = search rules;
      counts = called.counts;
      came = x.came;
      own = x.own;
      heard = x.heard;
      exchanged = x.exchanged;
      in_turn = λ sound.
          subst (AreExchanges RECIPIENT_LIMIT S.ends.lane (transactions S.site 0 (conversations_of called.visits))) (sym (x.in_order sound)) x.exchanges;
      turns = x.turns;
      answered = x.answered;
      verdicts = x.verdicts;
      moments = x.moments;
    }
