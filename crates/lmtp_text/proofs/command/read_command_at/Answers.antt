use Rattle.mail_world.specs.Commands.{command_at}
use Rattle.lmtp_text.proofs.command.read_command_at.Goals as goal

pub returns : goal.returns
unfolding command_at
returns c =
    rw (c.split_at_byte.ensures.before, c.without_spaces_before.ensures, c.split_at_byte.ensures.after, c.without_blanks_after.ensures) at c.by_verb.ensures
