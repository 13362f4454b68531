use Rattle.std.proofs.Common.{◌+◌, ◌<◌, ◌≤◌, refl, sym, subst, arith, rules}
use Rattle.block_arena.specs.declared.slot.Run.{Run}
use Rattle.block_arena.proofs.Seen.{sees}
use Rattle.block_arena.proofs.Freed.{Owns, in_use, last_in, slot_within, generation_within, sum_within, empty_arena, empty_frees, freed_arena, freed_frees}
use Rattle.mail_world.specs.declared.limits.TheConstants.{BLOCK_LIMIT}
use Rattle.block_arena.specs.ArenaParts.{fields_of}
use Rattle.block_arena.proofs.arena.Arena.release.Goals as goal

pub released_slot-slot-requires : goal.released_slot-slot-requires
released_slot-slot-requires c =
    generation_within c.args.key c.args.self.now (fields_of c.self.inside) c.content_under.result _
    (sees c.args.key c.args.self.now (fields_of c.self.inside) c.deref.result.now c.content_under.result c.content_under.result c.self.invariant c.self.view_is
    c.deref.ensures.value c.content_under.ensures refl)
    (in_use c.args.key c.args.self.now (fields_of c.self.inside) c.content_under.result
    (sees c.args.key c.args.self.now (fields_of c.self.inside) c.deref.result.now c.content_under.result c.content_under.result c.self.invariant c.self.view_is
    c.deref.ensures.value c.content_under.ensures refl) c.requires)

pub index_mut-requires : goal.index_mut-requires
index_mut-requires c = let h : c.args.key.slot < _ =
    slot_within c.args.key c.args.self.now (fields_of c.self.inside) c.content_under.result _
    (sees c.args.key c.args.self.now (fields_of c.self.inside) c.deref.result.now c.content_under.result c.content_under.result c.self.invariant c.self.view_is
    c.deref.ensures.value c.content_under.ensures refl)
    (in_use c.args.key c.args.self.now (fields_of c.self.inside) c.content_under.result
    (sees c.args.key c.args.self.now (fields_of c.self.inside) c.deref.result.now c.content_under.result c.content_under.result c.self.invariant c.self.view_is
    c.deref.ensures.value c.content_under.ensures refl) c.requires) in search (rules, h)

pub invariant_of-self : goal.invariant_of-self
invariant_of-self c = empty_arena c.args.key c.args.self.now (fields_of c.self.inside) c.content_under.result _ c.released_slot-slot.result
    (sees c.args.key c.args.self.now (fields_of c.self.inside) c.deref.result.now c.content_under.result c.content_under.result c.self.invariant c.self.view_is
    c.deref.ensures.value c.content_under.ensures refl)
    (subst (λ (r : Run). Owns c.self.inside.data c.self.inside.next.items c.content_under.result r) (sym c.run_in-run.ensures)
    (in_use c.args.key c.args.self.now (fields_of c.self.inside) c.content_under.result
    (sees c.args.key c.args.self.now (fields_of c.self.inside) c.deref.result.now c.content_under.result c.content_under.result c.self.invariant c.self.view_is
    c.deref.ensures.value c.content_under.ensures refl) c.requires)) c.if-run-eq0.true c.released_slot-slot.ensures

pub returns-then-run-eq0 : goal.returns-then-run-eq0
returns-then-run-eq0 c = empty_frees c.args.key c.args.self.now (fields_of c.self.inside) c.content_under.result _ c.released_slot-slot.result
    (sees c.args.key c.args.self.now (fields_of c.self.inside) c.deref.result.now c.content_under.result c.content_under.result c.self.invariant c.self.view_is
    c.deref.ensures.value c.content_under.ensures refl)
    (subst (λ (r : Run). Owns c.self.inside.data c.self.inside.next.items c.content_under.result r) (sym c.run_in-run.ensures)
    (in_use c.args.key c.args.self.now (fields_of c.self.inside) c.content_under.result
    (sees c.args.key c.args.self.now (fields_of c.self.inside) c.deref.result.now c.content_under.result c.content_under.result c.self.invariant c.self.view_is
    c.deref.ensures.value c.content_under.ensures refl) c.requires)) c.if-run-eq0.true c.released_slot-slot.ensures

pub index_mut-requires-2 : goal.index_mut-requires-2
index_mut-requires-2 c = let l =
    last_in c.args.key c.args.self.now (fields_of c.self.inside) c.content_under.result _
    (sees c.args.key c.args.self.now (fields_of c.self.inside) c.deref.result.now c.content_under.result c.content_under.result c.self.invariant c.self.view_is
    c.deref.ensures.value c.content_under.ensures refl)
    (subst (λ (r : Run). Owns c.self.inside.data c.self.inside.next.items c.content_under.result r) (sym c.run_in-run.ensures)
    (in_use c.args.key c.args.self.now (fields_of c.self.inside) c.content_under.result
    (sees c.args.key c.args.self.now (fields_of c.self.inside) c.deref.result.now c.content_under.result c.content_under.result c.self.invariant c.self.view_is
    c.deref.ensures.value c.content_under.ensures refl) c.requires)) (omega (arith, c.if-run-eq0.false)) in search (rules, l.low)

pub overflow_add-self : goal.overflow_add-self
overflow_add-self c = let h : c.self.inside.free_count + c.run_in-run.result.blocks ≤ BLOCK_LIMIT =
    sum_within c.args.key c.args.self.now (fields_of c.self.inside) c.content_under.result _
    (sees c.args.key c.args.self.now (fields_of c.self.inside) c.deref.result.now c.content_under.result c.content_under.result c.self.invariant c.self.view_is
    c.deref.ensures.value c.content_under.ensures refl)
    (subst (λ (r : Run). Owns c.self.inside.data c.self.inside.next.items c.content_under.result r) (sym c.run_in-run.ensures)
    (in_use c.args.key c.args.self.now (fields_of c.self.inside) c.content_under.result
    (sees c.args.key c.args.self.now (fields_of c.self.inside) c.deref.result.now c.content_under.result c.content_under.result c.self.invariant c.self.view_is
    c.deref.ensures.value c.content_under.ensures refl) c.requires)) in omega (arith, h)

pub index_mut-requires-3 : goal.index_mut-requires-3
index_mut-requires-3 c = let h : c.args.key.slot < _ =
    slot_within c.args.key c.args.self.now (fields_of c.self.inside) c.content_under.result _
    (sees c.args.key c.args.self.now (fields_of c.self.inside) c.deref.result.now c.content_under.result c.content_under.result c.self.invariant c.self.view_is
    c.deref.ensures.value c.content_under.ensures refl)
    (in_use c.args.key c.args.self.now (fields_of c.self.inside) c.content_under.result
    (sees c.args.key c.args.self.now (fields_of c.self.inside) c.deref.result.now c.content_under.result c.content_under.result c.self.invariant c.self.view_is
    c.deref.ensures.value c.content_under.ensures refl) c.requires) in search (rules, h)

pub invariant_of-self-2 : goal.invariant_of-self-2
invariant_of-self-2 c = freed_arena c.args.key c.args.self.now (fields_of c.self.inside) c.content_under.result _ c.released_slot-slot.result
    (sees c.args.key c.args.self.now (fields_of c.self.inside) c.deref.result.now c.content_under.result c.content_under.result c.self.invariant c.self.view_is
    c.deref.ensures.value c.content_under.ensures refl)
    (subst (λ (r : Run). Owns c.self.inside.data c.self.inside.next.items c.content_under.result r) (sym c.run_in-run.ensures)
    (in_use c.args.key c.args.self.now (fields_of c.self.inside) c.content_under.result
    (sees c.args.key c.args.self.now (fields_of c.self.inside) c.deref.result.now c.content_under.result c.content_under.result c.self.invariant c.self.view_is
    c.deref.ensures.value c.content_under.ensures refl) c.requires)) (omega (arith, c.if-run-eq0.false)) c.released_slot-slot.ensures

pub returns : goal.returns
returns c = freed_frees c.args.key c.args.self.now (fields_of c.self.inside) c.content_under.result _ c.released_slot-slot.result
    (sees c.args.key c.args.self.now (fields_of c.self.inside) c.deref.result.now c.content_under.result c.content_under.result c.self.invariant c.self.view_is
    c.deref.ensures.value c.content_under.ensures refl)
    (subst (λ (r : Run). Owns c.self.inside.data c.self.inside.next.items c.content_under.result r) (sym c.run_in-run.ensures)
    (in_use c.args.key c.args.self.now (fields_of c.self.inside) c.content_under.result
    (sees c.args.key c.args.self.now (fields_of c.self.inside) c.deref.result.now c.content_under.result c.content_under.result c.self.invariant c.self.view_is
    c.deref.ensures.value c.content_under.ensures refl) c.requires)) (omega (arith, c.if-run-eq0.false)) c.released_slot-slot.ensures
