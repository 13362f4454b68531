use Rattle.lmtp_text.proofs.Users.{user_content}
use Rattle.lmtp_text.proofs.names.user_of.Goals as goal

pub returns-clause-user : goal.returns-clause-user
returns-clause-user c =
    user_content c.args.target.now.quoted c.args.delimiter c.args.target.now.local.now c.split_at_byte.result.0.now c.requires c.split_at_byte.ensures.before
