use Rattle.std.proofs.Common.{◌∙◌, List, map, take, Some, ap, sym, subst}
use Rattle.mail_world.specs.declared.Outcome.{Outcome}
use Rattle.mail_post.specs.Gathering.{Gathering, IsDone}
use Rattle.mail_post.proofs.Gathers.{answers-places}
use Rattle.mail_post.proofs.gather.Gather.answers.Goals as goal

pub returns-clause-places : goal.returns-clause-places
returns-clause-places c =
    ap (λ (os : List Outcome). map (λ o. Some o) (take c.self.inside.places os)) c.deref.ensures.value
    ∙ answers-places c.self.inside c.self.invariant (subst (λ (v : Gathering). IsDone v.gather) (sym c.self.view_is) c.requires)
    ∙ ap (λ (v : Gathering). v.gather.places) c.self.view_is

pub returns-clause-heard : goal.returns-clause-heard
returns-clause-heard c = λ txn n heard h. returns-clause-places c ∙ h.places
