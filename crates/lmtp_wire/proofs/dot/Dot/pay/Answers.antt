use Rattle.std.proofs.Common.{refl, arith, rules, ◌∙◌, append-nil}
use Rattle.std.proofs.lemmas.List.{drop-set-lt}
use Rattle.lmtp_wire.proofs.Takes.{pays}
use Rattle.lmtp_wire.proofs.dot.Dot.pay.Goals as goal

pub returns-in-Some-clause-puts : goal.returns-in-Some-clause-puts
returns-in-Some-clause-puts c = record {
  within = search rules;
  kept = omega arith;
  rest = drop-set-lt 1 c.args.out.now 0 c.in-Some.byte (omega arith);
  owes = λ _. refl;
  same = refl;
  put = append-nil _ ∙ pays c.args.out.now c.in-Some.byte c.args.self.now.owed c.requires c.in-Some.is;
}
