use Rattle.std.proofs.Common.{[], ◌++◌, ◌+◌, take, ap, refl, arith, rules}
use Rattle.std.proofs.lemmas.List.{drop-set-lt}
use Rattle.lmtp_wire.specs.Dot.{owed_bytes}
use Rattle.lmtp_wire.specs.declared.dot.Effect.TheVariants.{Nothing, Byte, HeldCr, End}
use Rattle.lmtp_wire.proofs.StateSteps.{brings_as}
use Rattle.lmtp_wire.proofs.Takes.{takes_byte, takes_last, puts_byte}
use Rattle.lmtp_wire.proofs.dot.Dot.take_byte.Goals as goal

pub returns-in-Nothing : goal.returns-in-Nothing
returns-in-Nothing c = record {
  used = omega arith;
  more = omega arith;
  made = omega arith;
  kept = omega arith;
  rest = refl;
  owes = λ _. c.requires.paid;
  comes = takes_byte c.args.self.now _ c.args.piece.now c.args.out.now c.args.out.now c.args.fed.used c.args.fed.made c.args.fed.made []
      c.requires.paid c.requires.left (brings_as c.args.self.now.state _ (Nothing c.in-Nothing.state) c.in-Nothing.ensures)
      (ap (λ o. take c.args.fed.made c.args.out.now ++ owed_bytes o) c.requires.paid);
}

pub returns-in-Byte : goal.returns-in-Byte
returns-in-Byte c = record {
  used = omega arith;
  more = omega arith;
  made = search rules;
  kept = omega arith;
  rest = drop-set-lt _ c.args.out.now c.args.fed.made _ (omega arith);
  owes = λ _. c.requires.paid;
  comes = takes_byte c.args.self.now _ c.args.piece.now c.args.out.now _ c.args.fed.used c.args.fed.made (c.args.fed.made + 1) _
      c.requires.paid c.requires.left (brings_as c.args.self.now.state _ (Byte c.in-Byte.state) c.in-Byte.ensures)
      (puts_byte c.args.out.now c.args.fed.made _ c.args.self.now.owed c.requires.paid c.requires.room);
}

pub returns-in-HeldCr : goal.returns-in-HeldCr
returns-in-HeldCr c =
    let put = c.release-made in
    record {
      used = omega arith;
      more = omega arith;
      made = put.ensures.within;
      kept = put.ensures.kept;
      rest = put.ensures.rest;
      owes = put.ensures.owes;
      comes = takes_byte c.args.self.now put.new.self c.args.piece.now c.args.out.now put.new.out c.args.fed.used c.args.fed.made put.result _
          c.requires.paid c.requires.left
          (λ taken s. rw put.ensures.same (brings_as c.args.self.now.state _ (HeldCr c.in-HeldCr.state) c.in-HeldCr.ensures taken s))
          put.ensures.put;
    }

pub returns-in-End : goal.returns-in-End
returns-in-End c = record {
  used = omega arith;
  more = omega arith;
  made = omega arith;
  kept = omega arith;
  rest = refl;
  owes = λ _. c.requires.paid;
  comes = takes_last c.args.self.now c.args.piece.now c.args.out.now c.args.fed.used c.args.fed.made c.requires.paid c.requires.left
      (brings_as c.args.self.now.state _ End c.in-End.ensures);
}
