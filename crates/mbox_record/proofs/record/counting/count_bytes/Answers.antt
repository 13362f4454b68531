use Rattle.std.proofs.Common.{◌≡◌, drop, ◌∙◌, refl}
use Rattle.std.proofs.lemmas.List.{take_rest}
use Rattle.mbox_record.proofs.Counted.{bytes_begin, bytes_more, bytes_end}
use Rattle.mbox_record.proofs.record.counting.count_bytes.Goals as goal

pub loop-found-init : goal.loop-found-init
loop-found-init c = bytes_begin c.args.quoted c.args.place c.args.bytes.now c.find_mark-found.result c.find_mark-found.ensures

pub loop-found-preserved : goal.loop-found-preserved
loop-found-preserved c =
    let found = c.loop-found.found in
    let rest = c.loop-found.rest.now in
    let before = c.count-before.result in
    let was = c.count-was.result in
    bytes_more c.args.quoted c.args.place c.args.bytes.now c.loop-found.quoted rest found c.loop-found.count c.loop-found.invariant
    c.loop-found-test.true before.1 was.1 before.0 was.0 c.count-before.ensures c.count-was.ensures
    c.saturating_add.result c.saturating_add-count.result c.saturating_add.ensures c.saturating_add-count.ensures
    c.find_mark-found-in-loop-found.result c.find_mark-found-in-loop-found.ensures

pub returns : goal.returns
returns c =
    let found = c.loop-found.found in
    let rest = c.loop-found.rest.now in
    let more = c.count-more.result in
    let held : c.of.result ≡ drop found.at rest = c.of.ensures ∙ take_rest rest found.at in
    bytes_end c.args.quoted c.args.place c.args.bytes.now c.loop-found.quoted rest found c.loop-found.count c.loop-found.invariant
    c.loop-found-test.false more.1 more.0 c.count-more.ensures c.saturating_add-2.result c.saturating_add-2.ensures
    (record { quoted = more.1; place = found.place; held = c.of.result }) refl refl held
