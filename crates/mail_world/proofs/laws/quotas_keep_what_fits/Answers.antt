use Rattle.mail_world.proofs.Quotas.{kept_next, kept_within, all_kept}
use Rattle.mail_world.proofs.laws.quotas_keep_what_fits.Goals as goal

pub returns : goal.returns
returns c = record { next = kept_next; within = kept_within; all = all_kept }
