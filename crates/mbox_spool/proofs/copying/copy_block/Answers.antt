use Rattle.std.proofs.Common.{arith}
use Rattle.mbox_spool.proofs.Copies.{block_copied}
use Rattle.mbox_spool.proofs.copying.copy_block.Goals as goal

pub returns-clause-copies : goal.returns-clause-copies
returns-clause-copies c =
    block_copied c.args.piece.now c.args.room.now c.copy_from_slice.new.self c.args.copied.made c.args.copied.taken _ _ _ _
    c.requires.room c.requires.more (omega arith) c.copy_from_slice.ensures.after
    (omega (arith, c.next_lines-next.ensures.shorter, c.next_lines-next.ensures.block)) c.requires.copies
    c.next_lines-next.ensures.written
