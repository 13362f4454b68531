use Rattle.std.proofs.Common.{◌∙◌, arith}
use Rattle.mail_writing.proofs.ReplyTexts.{drop-later}
use Rattle.mail_writing.proofs.reply.write_reply.Goals as goal

pub returns-clause-rest : goal.returns-clause-rest
returns-clause-rest c =
    c.put.ensures.rest
    ∙ drop-later c.put-after.result c.put.result c.put-after.new.out c.put-named.new.out (omega arith) c.put-after.ensures.rest
    ∙ drop-later c.put-named.result c.put.result c.put-named.new.out c.args.out.now (omega arith) c.put-named.ensures.rest
