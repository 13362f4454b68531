use Rattle.mail_world.specs.Commands.{parameters}
use Rattle.lmtp_text.proofs.ParameterTallies.{taken}
use Rattle.lmtp_text.proofs.parameters.read_mail_parameters.Goals as goal

pub returns-else-tally-3 : goal.returns-else-tally-3
returns-else-tally-3 c =
    λ sender. taken c.args.offered c.tally_of-tally.result (parameters c.args.text.now) sender c.tally_of-tally.ensures c.if-tally.false c.if-tally-2.false
    c.if-tally-3.false
