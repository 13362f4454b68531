use Rattle.std.proofs.Common.{rules}
use Rattle.mbox_rd.proofs.Leaving.{after_write, after_failed_write}
use Rattle.mbox_rd.proofs.file.FileSpool.write_waiting.Goals as goal

pub returns-in-Ok-clause-moments : goal.returns-in-Ok-clause-moments
returns-in-Ok-clause-moments g c = λ lock at. after_write lock _ _ at c.args.self.now.waiting _ (search rules)

pub returns-in-Err-clause-moments : goal.returns-in-Err-clause-moments
returns-in-Err-clause-moments g c = λ lock at. after_failed_write lock _ _ at c.args.self.now.waiting _ (search rules)
