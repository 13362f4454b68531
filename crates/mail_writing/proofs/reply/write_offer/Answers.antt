use Rattle.std.proofs.Common.{ap, ◌∙◌, arith}
use Rattle.std.specs.Prelude.{decimal}
use Rattle.mail_writing.specs.Offer.{offers}
use Rattle.mail_writing.proofs.ReplyTexts.{offer-put, drop-later}
use Rattle.mail_writing.proofs.reply.write_offer.Goals as goal

pub returns-clause-text : goal.returns-clause-text
returns-clause-text c = offer-put c.args.site.now c.host.result.now c.as_bytes-limit.result.now c.offers.result.now _ _ _ _ _
    c.put-prefix.ensures.prefix c.put-named.ensures.prefix c.put-offered.ensures.prefix c.put-sized.ensures.prefix c.put.ensures.prefix
    c.host.ensures.value (c.as_bytes-limit.ensures.value ∙ c.format.ensures.text ∙ ap decimal c.message_limit.ensures.value)
    (c.offers.ensures.text ∙ ap offers c.utf8-2.ensures)

pub returns-clause-rest : goal.returns-clause-rest
returns-clause-rest c =
    c.put.ensures.rest
    ∙ drop-later c.put-sized.result c.put.result c.put-sized.new.out c.put-offered.new.out (omega arith) c.put-sized.ensures.rest
    ∙ drop-later c.put-offered.result c.put.result c.put-offered.new.out c.put-named.new.out (omega arith) c.put-offered.ensures.rest
    ∙ drop-later c.put-named.result c.put.result c.put-named.new.out c.put-prefix.new.out (omega arith) c.put-named.ensures.rest
    ∙ drop-later c.put-prefix.result c.put.result c.put-prefix.new.out c.args.out.now (omega arith) c.put-prefix.ensures.rest
