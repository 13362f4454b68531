use Rattle.std.proofs.Common.{refl, sym, subst}
use Rattle.mail_world.specs.Depot as d
use Rattle.block_arena.specs.declared.fault.ArenaFault.TheVariants as fault
use Rattle.block_arena.specs.Calls.{RefusesDraft}
use Rattle.block_arena.proofs.Seen.{sees, under, stale}
use Rattle.block_arena.proofs.Labels.{sealed_arena, seals}
use Rattle.block_arena.specs.ArenaParts.{fields_of}
use Rattle.block_arena.proofs.arena.Arena.seal.Goals as goal

pub invariant_of-self : goal.invariant_of-self
invariant_of-self c = sealed_arena c.args.key c.args.self.now (fields_of c.self.inside) _ c.args.n
    (sees c.args.key c.args.self.now (fields_of c.self.inside) c.deref.result.now c.content_under.result _ c.self.invariant c.self.view_is c.deref.ensures.value
    c.content_under.ensures c.in-Draft.is)

pub returns-in-Free-clause-fault : goal.returns-in-Free-clause-fault
returns-in-Free-clause-fault c =
    (stale ⊥ c.args.key c.args.self.now (fields_of c.self.inside) c.deref.result.now c.content_under.result c.self.invariant c.self.view_is
    c.deref.ensures.value c.content_under.ensures c.in-Free.is).0

pub returns-in-Sealed-clause-fault : goal.returns-in-Sealed-clause-fault
returns-in-Sealed-clause-fault c =
    subst (λ (h : d.Held). RefusesDraft ⊥ h fault.Sealed)
    (sym (under c.args.key c.args.self.now (fields_of c.self.inside) _
    (sees c.args.key c.args.self.now (fields_of c.self.inside) c.deref.result.now c.content_under.result _ c.self.invariant c.self.view_is c.deref.ensures.value
    c.content_under.ensures c.in-Sealed.is))) refl

pub returns-in-Draft-clause-done : goal.returns-in-Draft-clause-done
returns-in-Draft-clause-done c =
    seals c.args.key c.args.self.now (fields_of c.self.inside) _ c.args.n
    (sees c.args.key c.args.self.now (fields_of c.self.inside) c.deref.result.now c.content_under.result _ c.self.invariant c.self.view_is c.deref.ensures.value
    c.content_under.ensures c.in-Draft.is)
