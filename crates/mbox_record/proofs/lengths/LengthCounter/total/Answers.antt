use Rattle.std.proofs.Common.{List, ℕ, ap₂}
use Rattle.mail_world.specs.Marks.{marked}
use Rattle.mail_world.specs.Records.{quoted_text}
use Rattle.mail_world.specs.Text.{unix}
use Rattle.mbox_spool.specs.Quoted.{quoted_owed}
use Rattle.mbox_record.specs.Writing.{bytes_owed}
use Rattle.mbox_record.specs.declared.lengths.Lengths.{Lengths}
use Rattle.mbox_record.proofs.Lengthened.{counts_end}
use Rattle.mbox_record.proofs.lengths.LengthCounter.total.Goals as goal

pub returns : goal.returns
returns c message h =
    let self = c.args.self.now in
    let Made : ℕ → ℕ → Lengths = λ a b. record { plain = a; marked = b } in
    ap₂ Made
    (counts_end (λ (text : List ℕ). quoted_text (unix text)) message self.lengths.plain (quoted_owed self.plain) h.plain c.count_end.result
    c.saturating_add.result c.count_end.ensures c.saturating_add.ensures)
    (counts_end (λ (text : List ℕ). quoted_text (marked (unix text))) message self.lengths.marked (bytes_owed self.marked) h.marked c.count_end-2.result
    c.saturating_add-2.result c.count_end-2.ensures c.saturating_add-2.ensures)
