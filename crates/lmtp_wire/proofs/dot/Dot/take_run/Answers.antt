use Rattle.std.proofs.Common.{◌+◌, arith, rules, ℕ}
use Rattle.std.proofs.lemmas.List.{take-take, length-take}
use Rattle.std.proofs.lemmas.Slice.{take-put_mid, drop-put_mid}
use Rattle.lmtp_wire.proofs.Takes.{takes_run}
use Rattle.lmtp_wire.proofs.dot.Dot.take_run.Goals as goal

pub returns : goal.returns
returns c = record {
  used = omega arith;
  more = omega arith;
  made = search rules;
  kept = omega arith;
  rest = drop-put_mid c.args.fed.made _ c.args.out.now _ _ (omega arith) (omega arith)
      (rw c.copy_from_slice.ensures.after (omega (arith, c.content_len-run.ensures.within, length-take {A = ℕ})));
  owes = λ _. c.requires.may.paid;
  comes = takes_run c.args.self.now _ c.args.piece.now c.args.out.now _ c.args.fed.used c.content_len-run.result c.args.fed.made
      (c.args.fed.made + c.content_len-run.result) _
      c.requires.may.paid c.requires.may.paid c.requires.state c.state_after-self.ensures
      (take-take _ _ _ (omega (arith, c.content_len-run.ensures.within, length-take {A = ℕ}))) c.content_len-run.ensures.content
      (rw c.copy_from_slice.ensures.after
      (take-put_mid c.args.fed.made _ c.args.out.now _ _ (omega (arith, c.content_len-run.ensures.within, length-take {A = ℕ})) (omega arith)));
}
