use Rattle.mail_progress.proofs.Lowered.{each_lowers, it_ends}
use Rattle.mail_progress.proofs.ends.each_event_lowers_what_is_left.Goals as goal

pub returns : goal.returns
returns c = record { each = each_lowers; ends = it_ends }
