use Rattle.std.proofs.Common.{subst, sym, ◌∙◌}
use Rattle.mail_post.specs.Gathering.{Gathering, IsStranger, IsOwn}
use Rattle.mail_post.proofs.Gathers.{strangers, owns}
use Rattle.mail_post.proofs.gather.Gather.is_stranger.Goals as goal

pub returns-else-ne-clause-stranger : goal.returns-else-ne-clause-stranger
returns-else-ne-clause-stranger c =
    λ past. subst (λ (v : Gathering). IsStranger v.gather c.args.slip) c.self.view_is (strangers c.self.inside c.args.slip c.self.invariant past)

pub returns-else-ne-clause-own : goal.returns-else-ne-clause-own
returns-else-ne-clause-own c = λ low.
    subst (λ (v : Gathering). IsOwn v.gather c.args.slip) c.self.view_is
    (owns c.self.inside c.args.slip c.self.invariant (sym c.if-ne.false ∙ c.ne.ensures) low)
