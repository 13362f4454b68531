use Rattle.std.proofs.Common.{rules, vec_items}
use Rattle.std.proofs.lemmas.List.{nil_from_length}
use Rattle.std.specs.Vec.Iter.{into_iter_items}
use Rattle.lmtp_threads.specs.Reports.{thread_parts}
use Rattle.lmtp_threads.proofs.Filling.{filling_none, filling_fits, filling_more, filling_all}
use Rattle.lmtp_threads.proofs.brought_back.take_threads.Goals as goal

pub loop-report-init : goal.loop-report-init
loop-report-init g c =
    filling_none thread_parts (into_iter_items c.into_iter-report-iterator.result) (vec_items c.args.reports) c.args.columns
    (search rules) (search rules)

pub take_thread-requires : goal.take_thread-requires
take_thread-requires g c =
    filling_fits _ c.loop-report.invariant c.in-Some.report (into_iter_items c.next.new.self)
    c.in-Some.ensures.steps.0

pub loop-report-preserved : goal.loop-report-preserved
loop-report-preserved g c =
    filling_more _ c.loop-report.invariant c.in-Some.report (into_iter_items c.next.new.self)
    c.take_thread.new.columns c.in-Some.ensures.steps.0 c.take_thread.ensures

pub returns : goal.returns
returns g c =
    filling_all _ c.loop-report.invariant
    (nil_from_length (into_iter_items c.loop-report.report-iterator) (search rules))
