use Rattle.block_arena.proofs.Seen.{sees, draft_length, sealed_length}
use Rattle.block_arena.specs.ArenaParts.{fields_of}
use Rattle.block_arena.proofs.arena.Arena.length.Goals as goal

pub returns-in-Draft : goal.returns-in-Draft
returns-in-Draft c = draft_length c.args.key c.args.self.now (fields_of c.self.inside) _
    (sees c.args.key c.args.self.now (fields_of c.self.inside) c.deref.result.now c.content_under.result _ c.self.invariant c.self.view_is c.deref.ensures.value
    c.content_under.ensures c.in-Draft.is)

pub returns-in-Sealed : goal.returns-in-Sealed
returns-in-Sealed c = sealed_length c.args.key c.args.self.now (fields_of c.self.inside) _ _
    (sees c.args.key c.args.self.now (fields_of c.self.inside) c.deref.result.now c.content_under.result _ c.self.invariant c.self.view_is c.deref.ensures.value
    c.content_under.ensures c.in-Sealed.is)
