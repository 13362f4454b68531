use Rattle.std.proofs.Common.{rules, ◌≡◌, ◌<◌, length}
use Rattle.mbox_record.specs.Writing.{Writer}
use Rattle.mbox_record.proofs.Counted.{writer_begins, held_more, none_more}
use Rattle.mbox_record.proofs.record.RecordWriter.count.Goals as goal

pub loop-rest-init : goal.loop-rest-init
loop-rest-init c = writer_begins c.args.self c.args.piece.now

pub loop-rest-preserved : goal.loop-rest-preserved
loop-rest-preserved c =
    let writer : Writer = record { quoted = c.writer.inside.quoted; place = c.writer.inside.place; held = c.writer.inside.held } in
    let rest = c.loop-rest.rest.now in
    let some : 0 < length rest = search rules in
    let counts = rw c.as_slice.ensures at c.count_bytes-more-in-loop-rest.ensures in
    held_more _ writer c.loop-rest.writer rest c.loop-rest.count c.writer.view_is c.loop-rest.invariant some c.with-held.result c.with-held.ensures
    c.count_bytes-more-in-loop-rest.result.1 c.count_bytes-more-in-loop-rest.result.0 counts c.saturating_add-count.result c.saturating_add-count.ensures

pub returns-then-is_empty : goal.returns-then-is_empty
returns-then-is_empty c =
    let writer : Writer = record { quoted = c.writer.inside.quoted; place = c.writer.inside.place; held = c.writer.inside.held } in
    let none : length writer.held ≡ 0 = search rules in
    none_more _ writer c.loop-rest.writer c.loop-rest.rest.now c.loop-rest.count c.writer.view_is c.loop-rest.invariant none
    c.count_bytes-more.result.1 c.count_bytes-more.result.0 c.count_bytes-more.ensures c.saturating_add.result c.saturating_add.ensures
