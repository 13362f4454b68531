use Rattle.std.proofs.Common.{ap, length, min, sym, ◌∙◌}
use Rattle.mbox_file.proofs.Pieces.{piece_whole, piece_last}
use Rattle.mbox_file.proofs.memory_file.MemoryFileMailboxSource.read.Goals as goal

pub returns-clause-bytes : goal.returns-clause-bytes
returns-clause-bytes c =
    λ held. (
      piece_whole c.args.self.now.bytes.items c.deref.result.now c.args.buffer.now c.copy_from_slice.new.self c.args.self.now.read_to c.min-from.result
          c.min-size.result c.deref.ensures.value (c.min-from.ensures ∙ ap (λ n. min c.args.self.now.read_to n) (c.len.ensures ∙ sym c.deref.ensures.len ∙ ap length c.deref.ensures.value)) c.min-size.ensures c.copy_from_slice.ensures.after,
      piece_last c.args.self.now.bytes.items c.deref.result.now c.args.buffer.now c.copy_from_slice.new.self c.args.self.now.read_to c.min-from.result
          c.min-size.result c.deref.ensures.value (c.min-from.ensures ∙ ap (λ n. min c.args.self.now.read_to n) (c.len.ensures ∙ sym c.deref.ensures.len ∙ ap length c.deref.ensures.value)) c.min-size.ensures c.copy_from_slice.ensures.after,
    )
