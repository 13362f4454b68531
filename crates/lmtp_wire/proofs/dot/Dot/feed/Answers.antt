use Rattle.std.proofs.Common.{◌∙◌, arith}
use Rattle.lmtp_wire.proofs.Takes.{drop-later, on_from}
use Rattle.lmtp_wire.proofs.dot.Dot.feed.Goals as goal

pub loop-fed-preserved : goal.loop-fed-preserved
loop-fed-preserved c = record {
  used = c.turn-fed.ensures.used;
  first = λ none. absurd (omega (arith, none, c.turn-fed.ensures.more));
  made = c.turn-fed.ensures.made;
  rest = c.turn-fed.ensures.rest
      ∙ drop-later c.loop-fed.fed.made c.turn-fed.result.made c.loop-fed.out c.args.out.now c.turn-fed.ensures.kept c.loop-fed.invariant.rest;
  owes = c.turn-fed.ensures.owes;
  comes = λ taken prefix h. c.turn-fed.ensures.comes taken prefix (on_from _ _ _ _ c.loop-fed-test.true (c.loop-fed.invariant.comes taken prefix h));
}
