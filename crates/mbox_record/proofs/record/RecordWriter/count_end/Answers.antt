use Rattle.mbox_record.specs.Writing.{Writer}
use Rattle.mbox_record.proofs.Counted.{end_counts}
use Rattle.mbox_record.proofs.record.RecordWriter.count_end.Goals as goal

pub returns : goal.returns
returns c =
    let writer : Writer = record { quoted = c.self.inside.quoted; place = c.self.inside.place; held = c.self.inside.held } in
    let counts = rw c.as_slice.ensures at c.count-count.ensures in
    end_counts writer c.args.self.now c.self.view_is c.self.invariant c.count-count.result.1 c.count-count.result.0 c.count_end.result c.saturating_add.result counts
    c.count_end.ensures c.saturating_add.ensures
