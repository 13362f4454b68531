use Rattle.std.proofs.Common.{refl}
use Rattle.mbox_spool.proofs.Taken.{OnErr-any, OnErr-rest, SpoolFailed-first, TakesUpTo-first}
use Rattle.mbox_spool.proofs.quoted.write_step.Goals as goal

pub returns-in_err-append_all-clause-err : goal.returns-in_err-append_all-clause-err
returns-in_err-append_all-clause-err g c = OnErr-any c.from_residual.result (SpoolFailed-first _ _ _ _ c.in_err-append_all.ensures.err)

pub returns-clause-err : goal.returns-clause-err
returns-clause-err g c = OnErr-rest c.append_all-2.result _ _ _ _ _ (TakesUpTo-first _ _ _ _ _ refl c.in_ok-append_all.ensures.ok) c.append_all-2.ensures.err
