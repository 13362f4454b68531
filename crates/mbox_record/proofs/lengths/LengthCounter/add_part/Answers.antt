use Rattle.std.proofs.Common.{List, ℕ}
use Rattle.mail_world.specs.Marks.{marked}
use Rattle.mail_world.specs.Records.{quoted_text}
use Rattle.mail_world.specs.Text.{unix}
use Rattle.mbox_spool.specs.Quoted.{quoted_owed}
use Rattle.mbox_record.specs.Writing.{bytes_owed}
use Rattle.mbox_record.proofs.Lengthened.{counts_piece}
use Rattle.mbox_record.proofs.lengths.LengthCounter.add_part.Goals as goal

pub returns : goal.returns
returns c begun h =
    let self = c.args.self in
    let piece = c.args.piece.now in
    let plain = c.count-more.result in
    let named = c.count_beside-more_marked.result in
    record {
      plain = counts_piece (λ (text : List ℕ). quoted_text (unix text)) begun self.lengths.plain (quoted_owed self.plain) h.plain piece plain.0
          c.saturating_add.result (quoted_owed plain.1) c.count-more.ensures c.saturating_add.ensures;
      marked = counts_piece (λ (text : List ℕ). quoted_text (marked (unix text))) begun self.lengths.marked (bytes_owed self.marked) h.marked piece named.0
          c.saturating_add-2.result (bytes_owed named.1) c.count_beside-more_marked.ensures c.saturating_add-2.ensures;
    }
