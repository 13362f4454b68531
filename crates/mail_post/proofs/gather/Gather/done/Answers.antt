use Rattle.std.proofs.Common.{◌↔◌, IsTrue, nat_eq, subst}
use Rattle.mail_post.specs.Gathering.{Gathering, IsDone}
use Rattle.mail_post.proofs.Gathers.{is_done}
use Rattle.mail_post.proofs.gather.Gather.done.Goals as goal

pub returns : goal.returns
returns c = subst (λ (v : Gathering). IsTrue (nat_eq c.self.inside.missing 0) ↔ IsDone v.gather) c.self.view_is (is_done c.self.inside c.self.invariant)
