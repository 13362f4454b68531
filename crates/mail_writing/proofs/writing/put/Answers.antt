use Rattle.std.proofs.Common.{arith}
use Rattle.std.proofs.lemmas.Slice.{drop-put_mid}
use Rattle.mail_writing.proofs.writing.put.Goals as goal

pub returns-clause-rest : goal.returns-clause-rest
returns-clause-rest c =
    drop-put_mid c.args.at _ c.args.out.now _ _ (omega arith) (omega arith) (rw c.copy_from_slice.ensures.after (omega arith))
