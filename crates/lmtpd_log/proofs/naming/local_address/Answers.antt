use Rattle.std.proofs.Common.{codes}
use Rattle.mail_world.specs.declared.limits.TheConstants.{PATH_LIMIT}
use Rattle.mail_head.specs.Texts.{text_of}
use Rattle.mail_head.proofs.Filled.{with_two}
use Rattle.lmtpd_log.proofs.naming.local_address.Goals as goal

pub returns-then-quoted : goal.returns-then-quoted
returns-then-quoted c =
    let quote = codes "\"" in
    rw c.if-quoted.true
    (with_two PATH_LIMIT quote c.args.local.now quote (text_of c.of-address.result) (text_of c.add.new.self)
    (text_of c.add-then-quoted.new.self) c.of-address.ensures c.add.ensures c.add-then-quoted.ensures)
