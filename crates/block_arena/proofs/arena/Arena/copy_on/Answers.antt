use Rattle.std.proofs.Common.{◌<◌, ◌-◌, ◌++◌, length, min, take, drop, ap, sym, ◌∙◌, subst, refl}
use Rattle.std.specs.List.{AllByRecursion}
use Rattle.mail_world.specs.Depot as d
use Rattle.block_arena.specs.declared.fault.ArenaFault.TheVariants as fault
use Rattle.block_arena.specs.declared.slot.Content.TheVariants.{Sealed}
use Rattle.block_arena.specs.Calls.{RefusesMessage, IsMessage}
use Rattle.block_arena.specs.Fields.{blocks_in, IsPlace}
use Rattle.block_arena.proofs.Seen.{Sees, sees, under, stale, readable, readable_as, bytes_seen, sealed_length}
use Rattle.block_arena.proofs.Places.{start_is, block_at_byte, message_few}
use Rattle.block_arena.specs.ArenaParts.{fields_of}
use Rattle.block_arena.proofs.arena.Arena.copy_on.Goals as goal

pub place_at-from-requires-clause-low : goal.place_at-from-requires-clause-low
place_at-from-requires-clause-low c =
    let s : Sees c.args.key c.args.self.now (fields_of c.self.inside) (Sealed c.in-Sealed.run' c.in-Sealed.field-1) =
    sees c.args.key c.args.self.now (fields_of c.self.inside) c.deref.result.now c.content_under.result _ c.self.invariant c.self.view_is
    c.deref.ensures.value c.content_under.ensures c.in-Sealed.is in
    subst (λ ns. AllByRecursion (λ b. b < length ns) (blocks_in ns c.in-Sealed.run')) (sym c.deref-in-Sealed-2.ensures.value)
    ((readable c.args.key c.args.self.now (fields_of c.self.inside) c.in-Sealed.run' c.in-Sealed.field-1 s).low)

pub place_at-from-requires-clause-few : goal.place_at-from-requires-clause-few
place_at-from-requires-clause-few c =
    let s : Sees c.args.key c.args.self.now (fields_of c.self.inside) (Sealed c.in-Sealed.run' c.in-Sealed.field-1) =
    sees c.args.key c.args.self.now (fields_of c.self.inside) c.deref.result.now c.content_under.result _ c.self.invariant c.self.view_is
    c.deref.ensures.value c.content_under.ensures c.in-Sealed.is in
    message_few c.args.key c.args.self.now (fields_of c.self.inside) c.in-Sealed.run' c.in-Sealed.field-1 s

pub place_at-from-requires-clause-from : goal.place_at-from-requires-clause-from
place_at-from-requires-clause-from c =
    let s : Sees c.args.key c.args.self.now (fields_of c.self.inside) (Sealed c.in-Sealed.run' c.in-Sealed.field-1) =
    sees c.args.key c.args.self.now (fields_of c.self.inside) c.deref.result.now c.content_under.result _ c.self.invariant c.self.view_is
    c.deref.ensures.value c.content_under.ensures c.in-Sealed.is in
    subst (λ ns. IsPlace ns c.in-Sealed.run' c.start-known.result) (sym c.deref-in-Sealed-2.ensures.value)
    (start_is c.args.key c.args.self.now (fields_of c.self.inside) c.in-Sealed.run' c.in-Sealed.field-1 c.deref-in-Sealed.result.now c.args.mark.now
    c.start-known.result s c.deref-in-Sealed.ensures.value c.start-known.ensures)

pub copy_run-count-requires-clause-run : goal.copy_run-count-requires-clause-run
copy_run-count-requires-clause-run c =
    let s : Sees c.args.key c.args.self.now (fields_of c.self.inside) (Sealed c.in-Sealed.run' c.in-Sealed.field-1) =
    sees c.args.key c.args.self.now (fields_of c.self.inside) c.deref.result.now c.content_under.result _ c.self.invariant c.self.view_is
    c.deref.ensures.value c.content_under.ensures c.in-Sealed.is in
    readable_as _ _ _ _ c.in-Sealed.run' refl c.deref-in-Sealed-3.ensures.value
    (readable c.args.key c.args.self.now (fields_of c.self.inside) c.in-Sealed.run' c.in-Sealed.field-1 s)

pub copy_run-count-requires-clause-there : goal.copy_run-count-requires-clause-there
copy_run-count-requires-clause-there c =
    let s : Sees c.args.key c.args.self.now (fields_of c.self.inside) (Sealed c.in-Sealed.run' c.in-Sealed.field-1) =
    sees c.args.key c.args.self.now (fields_of c.self.inside) c.deref.result.now c.content_under.result _ c.self.invariant c.self.view_is
    c.deref.ensures.value c.content_under.ensures c.in-Sealed.is in
    λ inside. c.place_at-from.ensures.there
    (block_at_byte c.in-Sealed.run' c.args.at
    ((readable c.args.key c.args.self.now (fields_of c.self.inside) c.in-Sealed.run' c.in-Sealed.field-1 s).enough) inside)

pub place_at-requires-clause-low : goal.place_at-requires-clause-low
place_at-requires-clause-low c =
    let s : Sees c.args.key c.args.self.now (fields_of c.self.inside) (Sealed c.in-Sealed.run' c.in-Sealed.field-1) =
    sees c.args.key c.args.self.now (fields_of c.self.inside) c.deref.result.now c.content_under.result _ c.self.invariant c.self.view_is
    c.deref.ensures.value c.content_under.ensures c.in-Sealed.is in
    subst (λ ns. AllByRecursion (λ b. b < length ns) (blocks_in ns c.in-Sealed.run')) (sym c.deref-in-Sealed-4.ensures.value)
    ((readable c.args.key c.args.self.now (fields_of c.self.inside) c.in-Sealed.run' c.in-Sealed.field-1 s).low)

pub place_at-requires-clause-few : goal.place_at-requires-clause-few
place_at-requires-clause-few c =
    let s : Sees c.args.key c.args.self.now (fields_of c.self.inside) (Sealed c.in-Sealed.run' c.in-Sealed.field-1) =
    sees c.args.key c.args.self.now (fields_of c.self.inside) c.deref.result.now c.content_under.result _ c.self.invariant c.self.view_is
    c.deref.ensures.value c.content_under.ensures c.in-Sealed.is in
    message_few c.args.key c.args.self.now (fields_of c.self.inside) c.in-Sealed.run' c.in-Sealed.field-1 s

pub returns-in-Free-clause-fault : goal.returns-in-Free-clause-fault
returns-in-Free-clause-fault c =
    (stale ⊥ c.args.key c.args.self.now (fields_of c.self.inside) c.deref.result.now c.content_under.result c.self.invariant c.self.view_is
    c.deref.ensures.value c.content_under.ensures c.in-Free.is).1

pub returns-in-Draft-clause-fault : goal.returns-in-Draft-clause-fault
returns-in-Draft-clause-fault c =
    subst (λ (h : d.Held). RefusesMessage h fault.Draft)
    (sym (under c.args.key c.args.self.now (fields_of c.self.inside) _
    (sees c.args.key c.args.self.now (fields_of c.self.inside) c.deref.result.now c.content_under.result _ c.self.invariant c.self.view_is c.deref.ensures.value
    c.content_under.ensures c.in-Draft.is))) refl

pub returns-in-Sealed-clause-message : goal.returns-in-Sealed-clause-message
returns-in-Sealed-clause-message c =
    let s : Sees c.args.key c.args.self.now (fields_of c.self.inside) (Sealed c.in-Sealed.run' c.in-Sealed.field-1) =
    sees c.args.key c.args.self.now (fields_of c.self.inside) c.deref.result.now c.content_under.result _ c.self.invariant c.self.view_is
    c.deref.ensures.value c.content_under.ensures c.in-Sealed.is in
    subst (λ (h : d.Held). IsMessage h) (sym (under c.args.key c.args.self.now (fields_of c.self.inside) (Sealed c.in-Sealed.run' c.in-Sealed.field-1) s)) tt

pub returns-in-Sealed-clause-count : goal.returns-in-Sealed-clause-count
returns-in-Sealed-clause-count c =
    let s : Sees c.args.key c.args.self.now (fields_of c.self.inside) (Sealed c.in-Sealed.run' c.in-Sealed.field-1) =
    sees c.args.key c.args.self.now (fields_of c.self.inside) c.deref.result.now c.content_under.result _ c.self.invariant c.self.view_is
    c.deref.ensures.value c.content_under.ensures c.in-Sealed.is in
    c.copy_run-count.ensures.count
    ∙ ap (λ n. min (length c.args.out.now) (n - c.args.at))
    (sealed_length c.args.key c.args.self.now (fields_of c.self.inside) c.in-Sealed.run' c.in-Sealed.field-1 s)

pub returns-in-Sealed-clause-bytes : goal.returns-in-Sealed-clause-bytes
returns-in-Sealed-clause-bytes c =
    let s : Sees c.args.key c.args.self.now (fields_of c.self.inside) (Sealed c.in-Sealed.run' c.in-Sealed.field-1) =
    sees c.args.key c.args.self.now (fields_of c.self.inside) c.deref.result.now c.content_under.result _ c.self.invariant c.self.view_is
    c.deref.ensures.value c.content_under.ensures c.in-Sealed.is in
    c.copy_run-count.ensures.bytes ∙ ap (λ bytes. take c.copy_run-count.result (drop c.args.at bytes) ++ drop c.copy_run-count.result c.args.out.now)
    (bytes_seen _ _ _ _ c.in-Sealed.run' _ _ refl c.deref-in-Sealed-3.ensures.value
    (under c.args.key c.args.self.now (fields_of c.self.inside) (Sealed c.in-Sealed.run' c.in-Sealed.field-1) s))
