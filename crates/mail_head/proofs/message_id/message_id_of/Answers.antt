use Rattle.std.proofs.Common.{◌∙◌, ap}
use Rattle.mail_head.specs.MessageIds.{message_id_of, id_in}
use Rattle.mail_head.proofs.Values.{cut_to}
use Rattle.mail_head.proofs.message_id.message_id_of.Goals as goal

pub returns : goal.returns
unfolding message_id_of
returns c = c.first_value.ensures ∙ ap id_in (cut_to c.min.result 4096 c.args.head.now c.min.ensures)
