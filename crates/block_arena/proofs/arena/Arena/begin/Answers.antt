use Rattle.block_arena.proofs.Begun.{none_free, free_there, begun_arena, begins}
use Rattle.block_arena.specs.ArenaParts.{fields_of}
use Rattle.block_arena.proofs.arena.Arena.begin.Goals as goal

pub returns-in-None-clause-none : goal.returns-in-None-clause-none
returns-in-None-clause-none c =
    none_free c.args.self.now (fields_of c.self.inside) c.deref.result.now c.free_slot.result c.self.view_is c.deref.ensures.value c.free_slot.ensures
    c.in-None.is

pub invariant_of-self : goal.invariant_of-self
invariant_of-self c = begun_arena (fields_of c.self.inside) c.in-Some.slot c.index.result.now.generation c.self.invariant
    (free_there c.self.inside.slots.items c.deref.result.now c.free_slot.result c.in-Some.slot c.index.result.now _ c.deref.ensures.value c.free_slot.ensures
    c.in-Some.is c.index.ensures)

pub returns-in-Some-clause-some : goal.returns-in-Some-clause-some
returns-in-Some-clause-some c =
    begins c.args.self.now (fields_of c.self.inside) c.in-Some.slot c.index.result.now.generation c.self.view_is
    (free_there c.self.inside.slots.items c.deref.result.now c.free_slot.result c.in-Some.slot c.index.result.now _ c.deref.ensures.value c.free_slot.ensures
    c.in-Some.is c.index.ensures)
