use Rattle.std.proofs.Common.{sym}
use Rattle.mail_post.proofs.Names.{in_order, nothing_else, names_all}
use Rattle.mail_post.proofs.laws.each_lane_in_order.Goals as goal

pub returns-clause-order : goal.returns-clause-order
returns-clause-order g c = in_order g.M.FromSender.sender

pub returns-clause-others : goal.returns-clause-others
returns-clause-others g c = nothing_else g.M.FromSender.sender

pub returns-clause-marks : goal.returns-clause-marks
returns-clause-marks g c = names_all g.M.FromSender.sender

pub returns-clause-told : goal.returns-clause-told
returns-clause-told g c = λ items views h pass v at. let f = h.fits pass v at in (λ s. (f.0 s).1, λ t. sym (f.1 t).2)
