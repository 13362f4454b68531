use Rattle.std.proofs.lemmas.List.{take_rest}
use Rattle.block_arena.specs.Calls.{depot_key}
use Rattle.block_arena.proofs.Puts.{put_more}
use Rattle.block_arena.proofs.arena.Arena.put_all.Goals as goal

pub loop-done-preserved : goal.loop-done-preserved
loop-done-preserved c =
    put_more c.args.self.now c.loop-done.self c.put_piece-done.new.self (depot_key c.args.key) c.args.bytes.now c.loop-done.done c.put_piece-done.result
    c.loop-done.invariant
    (rw take_rest at c.put_piece-done.ensures.within) (rw take_rest at c.put_piece-done.ensures.put) (rw take_rest at c.put_piece-done.ensures.room)
