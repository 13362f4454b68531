use Rattle.std.proofs.Common.{codes}
use Rattle.mail_world.specs.Grammar.{local_text}
use Rattle.mail_world.specs.declared.limits.TheConstants.{PATH_LIMIT}
use Rattle.mail_head.specs.Texts.{text_of}
use Rattle.mail_head.proofs.Filled.{with_two}
use Rattle.lmtpd_log.proofs.naming.recipient_address.Goals as goal

pub returns-in-Some : goal.returns-in-Some
returns-in-Some c =
    rw c.in-Some.is
    (with_two PATH_LIMIT (local_text c.args.target.quoted c.args.target.local.now) (codes "@") c.in-Some.domain.now
    (text_of c.local_address-address.result) (text_of c.add.new.self) (text_of c.add-in-Some.new.self)
    c.local_address-address.ensures c.add.ensures c.add-in-Some.ensures)
