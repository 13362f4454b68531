use Rattle.mbox_rd.proofs.Leaving.{after_failed_write, after_keep}
use Rattle.mbox_rd.proofs.Losing.{unkept}
use Rattle.mbox_rd.proofs.file.waiting.write_and_keep.Goals as goal

pub returns-in_err-write-clause-moments : goal.returns-in_err-write-clause-moments
returns-in_err-write-clause-moments g c = λ began lock at.
    after_failed_write lock began _ at c.args.bytes.now _ c.in_err-write.ensures.err

pub returns-clause-lost : goal.returns-clause-lost
returns-clause-lost g c = unkept c.keep.result _ _ _ _ c.in_ok-write.ensures.ok c.keep.ensures.err

pub returns-clause-moments : goal.returns-clause-moments
returns-clause-moments g c = λ began lock at.
    after_keep lock began _ at c.args.bytes.now c.keep.result _ _ c.in_ok-write.ensures.ok c.keep.ensures.ok
    c.keep.ensures.err
