use Rattle.std.proofs.Common.{◌≡◌, ap, arith, rules}
use Rattle.atomic_table.specs.Seated.{TableId}
use Rattle.mail_world.specs.Depot.{Key}
use Rattle.block_arena.specs.Calls.{depot_key}
use Rattle.msg_depot.specs.Moves.{generation_at}
use Rattle.msg_depot.proofs.Sections.{generation_there, slot_there, draft_kept}
use Rattle.msg_depot.proofs.keeper.Keeper.draft.Goals as goal

pub invariant_of-self-2 : goal.invariant_of-self-2
invariant_of-self-2 g c =
    let s = c.begin-2.ensures in
    let h = c.hand_out.ensures.seat in
    draft_kept _ _ _ c.self.inside.arena c.self.invariant (depot_key c.in-Some.key) c.begin.new.self c.in-Some.ensures.some _ _ _ _ s.0 s.1 h.0 h.1

pub returns-clause-begun : goal.returns-clause-begun
returns-clause-begun g c =
    let key : Key = depot_key c.in-Some.key in
    let generation : generation_at c.self.inside.seat.me.0.book key.slot ≡ key.generation =
    generation_there _ _ _ c.self.inside.arena c.self.invariant key c.begin.new.self c.in-Some.ensures.some in
    search rules

pub begin-requires-2-clause-free : goal.begin-requires-2-clause-free
begin-requires-2-clause-free g c = let there =
    slot_there _ _ _ c.self.inside.arena c.self.invariant (depot_key c.in-Some.key) c.begin.new.self c.in-Some.ensures.some in (there.1, there.2)

pub hand_out-requires-clause-slot : goal.hand_out-requires-clause-slot
hand_out-requires-clause-slot g c =
    let there = (slot_there _ _ _ c.self.inside.arena c.self.invariant (depot_key c.in-Some.key) c.begin.new.self c.in-Some.ensures.some).0 in
    omega (arith, there, ap (λ (t : TableId). t.words) c.requires.board)

pub invariant_of-result : goal.invariant_of-result
invariant_of-result g c =
    let there = (slot_there _ _ _ c.self.inside.arena c.self.invariant (depot_key c.in-Some.key) c.begin.new.self c.in-Some.ensures.some).0 in
    let key : Key = depot_key c.in-Some.key in
    let generation : generation_at c.self.inside.seat.me.0.book key.slot ≡ key.generation =
    generation_there _ _ _ c.self.inside.arena c.self.invariant key c.begin.new.self c.in-Some.ensures.some in
    search rules
