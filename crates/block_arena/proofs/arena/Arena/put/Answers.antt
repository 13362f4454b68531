use Rattle.std.proofs.Common.{◌+◌, ◌-◌, ◌*◌, ◌≤◌, length, refl, sym, subst, arith}
use Rattle.mail_world.specs.Depot as d
use Rattle.block_arena.specs.declared.fault.ArenaFault.TheVariants as fault
use Rattle.block_arena.specs.declared.slot.Content.TheVariants.{Draft}
use Rattle.block_arena.specs.Calls.{depot_key, RefusesDraft}
use Rattle.block_arena.proofs.Seen.{Sees, sees, under, stale}
use Rattle.block_arena.proofs.Pieced.{run_few, room_is}
use Rattle.block_arena.proofs.Puts.{puts_none}
use Rattle.mail_world.specs.declared.limits.TheConstants.{BLOCK_SIZE}
use Rattle.block_arena.specs.ArenaParts.{fields_of}
use Rattle.block_arena.proofs.arena.Arena.put.Goals as goal

pub room-requires-clause-few : goal.room-requires-clause-few
room-requires-clause-few c =
    let s : Sees c.args.key c.args.self.now (fields_of c.self.inside) (Draft c.in-Draft.run') =
    sees c.args.key c.args.self.now (fields_of c.self.inside) c.deref.result.now c.content_under.result _ c.self.invariant c.self.view_is
    c.deref.ensures.value c.content_under.ensures c.in-Draft.is in
    omega (arith, run_few c.args.key c.args.self.now (fields_of c.self.inside) c.in-Draft.run' s)

pub room-requires-clause-enough : goal.room-requires-clause-enough
room-requires-clause-enough c =
    let s : Sees c.args.key c.args.self.now (fields_of c.self.inside) (Draft c.in-Draft.run') =
    sees c.args.key c.args.self.now (fields_of c.self.inside) c.deref.result.now c.content_under.result _ c.self.invariant c.self.view_is
    c.deref.ensures.value c.content_under.ensures c.in-Draft.is in
    (run_few c.args.key c.args.self.now (fields_of c.self.inside) c.in-Draft.run' s).1

pub returns-then-room-bytes-clause-fault : goal.returns-then-room-bytes-clause-fault
returns-then-room-bytes-clause-fault c =
    let s : Sees c.args.key c.args.self.now (fields_of c.self.inside) (Draft c.in-Draft.run') =
    sees c.args.key c.args.self.now (fields_of c.self.inside) c.deref.result.now c.content_under.result _ c.self.invariant c.self.view_is
    c.deref.ensures.value c.content_under.ensures c.in-Draft.is in
    let no_room : d.HasRoom c.args.self.now (depot_key c.args.key) c.args.bytes.now → ⊥ =
    λ h. let fits : length c.args.bytes.now ≤ BLOCK_SIZE * (c.in-Draft.run'.blocks + c.self.inside.free_count) - c.in-Draft.run'.length =
    (room_is c.args.key c.args.self.now (fields_of c.self.inside) c.in-Draft.run' c.args.bytes.now s).0 h in
    omega (arith, fits, c.room.ensures, c.if-room-bytes.true) in
    subst (λ (h : d.Held). RefusesDraft (¬ d.HasRoom c.args.self.now (depot_key c.args.key) c.args.bytes.now) h fault.Full)
    (sym (under c.args.key c.args.self.now (fields_of c.self.inside) _ s)) (refl, no_room)

pub put_all-requires-clause-none : goal.put_all-requires-clause-none
put_all-requires-clause-none c =
    let s : Sees c.args.key c.args.self.now (fields_of c.self.inside) (Draft c.in-Draft.run') =
    sees c.args.key c.args.self.now (fields_of c.self.inside) c.deref.result.now c.content_under.result _ c.self.invariant c.self.view_is
    c.deref.ensures.value c.content_under.ensures c.in-Draft.is in
    puts_none c.args.key c.args.self.now (fields_of c.self.inside) c.in-Draft.run' s

pub put_all-requires-clause-room : goal.put_all-requires-clause-room
put_all-requires-clause-room c =
    let s : Sees c.args.key c.args.self.now (fields_of c.self.inside) (Draft c.in-Draft.run') =
    sees c.args.key c.args.self.now (fields_of c.self.inside) c.deref.result.now c.content_under.result _ c.self.invariant c.self.view_is
    c.deref.ensures.value c.content_under.ensures c.in-Draft.is in
    (room_is c.args.key c.args.self.now (fields_of c.self.inside) c.in-Draft.run' c.args.bytes.now s).1 (omega (arith, c.room.ensures, c.if-room-bytes.false))

pub returns-in-Free-clause-fault : goal.returns-in-Free-clause-fault
returns-in-Free-clause-fault c =
    (stale (¬ d.HasRoom c.args.self.now (depot_key c.args.key) c.args.bytes.now) c.args.key c.args.self.now (fields_of c.self.inside) c.deref.result.now
    c.content_under.result c.self.invariant c.self.view_is c.deref.ensures.value c.content_under.ensures c.in-Free.is).0

pub returns-in-Sealed-clause-fault : goal.returns-in-Sealed-clause-fault
returns-in-Sealed-clause-fault c =
    subst (λ (h : d.Held). RefusesDraft (¬ d.HasRoom c.args.self.now (depot_key c.args.key) c.args.bytes.now) h fault.Sealed)
    (sym (under c.args.key c.args.self.now (fields_of c.self.inside) _
    (sees c.args.key c.args.self.now (fields_of c.self.inside) c.deref.result.now c.content_under.result _ c.self.invariant c.self.view_is c.deref.ensures.value
    c.content_under.ensures c.in-Sealed.is))) refl
