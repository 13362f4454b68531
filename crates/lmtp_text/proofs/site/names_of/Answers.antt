use Rattle.lmtp_text.specs.Sites.{texts}
use Rattle.lmtp_text.proofs.ListedNames.{all_given_listed}
use Rattle.lmtp_text.proofs.site.names_of.Goals as goal

pub of-requires : goal.of-requires
of-requires c = all_given_listed (texts c.args.boxes.now) c.requires
