use Rattle.std.proofs.Common.{◌≡◌, ◌-◌, ◌/◌, length, min, arith}
use Rattle.block_arena.proofs.Places.{block_there}
use Rattle.block_arena.proofs.Reading.{reads_in, reads_step, reads_all}
use Rattle.mail_world.specs.declared.limits.TheConstants.{BLOCK_SIZE}
use Rattle.block_arena.proofs.arena.messages.copy_run.Goals as goal

pub loop-done-init : goal.loop-done-init
loop-done-init c =
    let short : c.min-total.result ≡ min (length c.args.out.now) (c.args.run.length - c.args.at) = c.min-total.ensures in
    reads_in c.args.store.now c.args.next.now c.args.run c.min-total.result c.args.at c.args.out.now c.args.from.block c.requires.run c.if-run-at.false
    (omega (arith, short)) (omega (arith, short))
    (block_there c.args.next.now c.args.run c.args.from (c.args.at / BLOCK_SIZE) c.requires.from (c.requires.there c.if-run-at.false))

pub loop-done-preserved : goal.loop-done-preserved
loop-done-preserved c = reads_step c.args.store.now c.args.next.now _ _ c.min-n.result _ c.copy_piece.new.out
    c.requires.run.sizes c.requires.run.count c.loop-done.invariant c.loop-done-test.true c.min-n.ensures c.row.ensures c.copy_piece.ensures

pub returns-clause-bytes : goal.returns-clause-bytes
returns-clause-bytes c =
    let short : c.min-total.result ≡ min (length c.args.out.now) (c.args.run.length - c.args.at) = c.min-total.ensures in
    reads_all c.args.store.now c.args.next.now c.args.run c.min-total.result c.args.at c.args.out.now _ c.loop-done.invariant c.loop-done-test.false
    (omega (arith, short))
