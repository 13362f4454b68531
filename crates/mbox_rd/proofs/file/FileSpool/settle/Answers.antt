use Rattle.std.proofs.Common.{arith, rules}
use Rattle.mbox_rd.proofs.Leaving.{keeps, rests, prefix_itself}
use Rattle.mbox_rd.proofs.file.FileSpool.settle.Goals as goal

pub returns-then-not-self-clause-moments : goal.returns-then-not-self-clause-moments
returns-then-not-self-clause-moments g c = rests 0 _ _ (omega arith) (omega arith) (prefix_itself _)

pub returns-in-Ok-clause-moments : goal.returns-in-Ok-clause-moments
returns-in-Ok-clause-moments g c =
    keeps 0 _ _ (omega arith) (omega arith) (prefix_itself _) c.keep.result _ (search rules) (search rules)

pub returns-in-Err-clause-moments : goal.returns-in-Err-clause-moments
returns-in-Err-clause-moments g c =
    keeps 0 _ _ (omega arith) (omega arith) (prefix_itself _) c.keep.result _ (search rules) (search rules)
