-- Each by computation.
use Rattle.std.proofs.Common.{refl}
use Rattle.mail_lives.proofs.rows.spoilt_mailboxes.Goals as goal

pub returns : goal.returns
returns c = record { whole = refl; zeros = refl; begun = refl; first = refl; within = refl }
