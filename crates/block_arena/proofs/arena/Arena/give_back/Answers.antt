use Rattle.std.proofs.Common.{refl, sym, subst}
use Rattle.mail_world.specs.Depot as d
use Rattle.block_arena.specs.declared.fault.ArenaFault.TheVariants as fault
use Rattle.block_arena.specs.Calls.{IsInUse, RefusesMessage}
use Rattle.block_arena.proofs.Seen.{sees, under, stale}
use Rattle.block_arena.proofs.Labels.{lighter_arena}
use Rattle.block_arena.proofs.GivenBack.{gives_some, gives_last}
use Rattle.block_arena.specs.ArenaParts.{fields_of}
use Rattle.block_arena.proofs.arena.Arena.give_back.Goals as goal

pub invariant_of-self : goal.invariant_of-self
invariant_of-self c = lighter_arena c.args.key c.args.self.now (fields_of c.self.inside) _ _ _
    (sees c.args.key c.args.self.now (fields_of c.self.inside) c.deref.result.now c.content_under.result _ c.self.invariant c.self.view_is c.deref.ensures.value
    c.content_under.ensures c.in-Sealed.is)

pub returns-in-Free-clause-fault : goal.returns-in-Free-clause-fault
returns-in-Free-clause-fault c =
    (stale ⊥ c.args.key c.args.self.now (fields_of c.self.inside) c.deref.result.now c.content_under.result c.self.invariant c.self.view_is
    c.deref.ensures.value c.content_under.ensures c.in-Free.is).1

pub returns-in-Draft-clause-fault : goal.returns-in-Draft-clause-fault
returns-in-Draft-clause-fault c =
    subst (λ (h : d.Held). RefusesMessage h fault.Draft)
    (sym (under c.args.key c.args.self.now (fields_of c.self.inside) _
    (sees c.args.key c.args.self.now (fields_of c.self.inside) c.deref.result.now c.content_under.result _ c.self.invariant c.self.view_is c.deref.ensures.value
    c.content_under.ensures c.in-Draft.is))) refl

pub release-requires : goal.release-requires
release-requires c = subst (λ (h : d.Held). IsInUse h)
    (sym (under c.args.key c.args.self.now (fields_of c.self.inside) _
    (sees c.args.key c.args.self.now (fields_of c.self.inside) c.deref.result.now c.content_under.result _ c.self.invariant c.self.view_is c.deref.ensures.value
    c.content_under.ensures c.in-Sealed.is))) tt

pub returns-then-k-holds-clause-done : goal.returns-then-k-holds-clause-done
returns-then-k-holds-clause-done c =
    gives_some c.args.key c.args.self.now (fields_of c.self.inside) _ _ c.args.k
    (sees c.args.key c.args.self.now (fields_of c.self.inside) c.deref.result.now c.content_under.result _ c.self.invariant c.self.view_is c.deref.ensures.value
    c.content_under.ensures c.in-Sealed.is) c.if-k-holds.true

pub returns-else-k-holds-clause-done : goal.returns-else-k-holds-clause-done
returns-else-k-holds-clause-done c =
    gives_last c.args.key c.args.self.now (fields_of c.self.inside) _ _ c.args.k _
    (sees c.args.key c.args.self.now (fields_of c.self.inside) c.deref.result.now c.content_under.result _ c.self.invariant c.self.view_is c.deref.ensures.value
    c.content_under.ensures c.in-Sealed.is) c.if-k-holds.false c.requires.holds c.release.ensures
