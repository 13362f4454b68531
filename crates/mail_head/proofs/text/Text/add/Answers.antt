use Rattle.std.proofs.Common.{arith}
use Rattle.mail_head.proofs.Filled.{filled}
use Rattle.mail_head.proofs.text.Text.add.Goals as goal

pub returns : goal.returns
returns g c =
    filled g.row.N c.args.self.now.size c.min-count.result _ c.args.self.now.bytes c.args.text.now
    c.copy_from_slice.new.self (omega arith) (omega arith) (omega arith) c.copy_from_slice.ensures.after
