use Rattle.std.proofs.Common.{arith}
use Rattle.std.proofs.lemmas.Grind.{common_steps}
use Rattle.std.proofs.lemmas.Int.Digits.{digits_value_more}
use Rattle.lmtpd_words.proofs.quotas.value_of_digits.Goals as goal

pub loop-digit-preserved : goal.loop-digit-preserved
loop-digit-preserved c = record {
  digits = grind (arith, common_steps);
  number = let e = digits_value_more 10 c.args.digits.now c.loop-digit.digit-index (omega arith) in grind (arith, common_steps);
}
